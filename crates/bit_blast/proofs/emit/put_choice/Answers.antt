use Rattle.std.proofs.Common.{◌≡◌, length, map, ℕ, arith, ap, sym, ◌∙◌, subst}
use Rattle.prop.specs.Logic.{negated}
use Rattle.bit_words.specs.Elements.{decoded, AllLong}
use Rattle.bit_blast.specs.Emission.{cell_at}
use Rattle.bit_blast.proofs.Lengths.{folded-outs, decoded-length, copies-length}
use Rattle.bit_blast.proofs.emit.put_choice.Goals as goal

pub put_picked-requires-clause-places : goal.put_picked-requires-clause-places
put_picked-requires-clause-places c =
    let d1 : length c.deref-2.result.now ≡ length c.in_ok-places.places.items = ap length c.deref-2.ensures.value in
    let d2 : length c.in_ok-places.places.items ≡ length c.deref.result.now = ap length c.in_ok-places.ensures.grew.1 ∙ folded-outs c.args.one c.args.net.now.next (record { defs = c.put_decoded.new.net.defs.items; outs = c.deref.result.now }) in
    let d3 : length c.deref.result.now ≡ length (decoded c.new-made.result.next c.args.one c.args.index.now (length c.args.cells.now)).outs
    = ap length (c.deref.ensures.value ∙ c.in_ok-raw.ensures.grew.1) in
    omega (arith, d1, d2, d3, decoded-length c.new-made.result.next c.args.one c.args.index.now (length c.args.cells.now) c.requires.some)

pub put_picked-requires-clause-widths : goal.put_picked-requires-clause-widths
put_picked-requires-clause-widths c =
    let cs = map (λ c. c.items) c.args.cells.now in
    let e : length c.deref-3.result.now ≡ length (cell_at cs 0)
    = ap length (c.deref-3.ensures.value ∙ c.in_ok-none.ensures) ∙ copies-length (negated c.args.one) (length (cell_at cs 0)) in
    subst (λ (t : ℕ). AllLong t cs) (sym e) c.requires.widths
