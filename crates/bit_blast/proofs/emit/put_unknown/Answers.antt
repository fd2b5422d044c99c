use Rattle.std.proofs.Common.{◌≡◌, length, map, List, arith, ap, sym, ◌∙◌, subst}
use Rattle.std.specs.Prelude.{None}
use Rattle.prop.specs.declared.Lit.{Lit}
use Rattle.bit_gates.specs.Cut.{Grew}
use Rattle.bit_words.specs.Elements.{AllLong}
use Rattle.bit_words.proofs.WordPuts.{map-length}
use Rattle.bit_blast.specs.Emission.{cell_at, element_of}
use Rattle.bit_blast.proofs.Flat.{range-many}
use Rattle.bit_blast.proofs.emit.put_unknown.Goals as goal

pub put_choice-requires-clause-some : goal.put_choice-requires-clause-some
put_choice-requires-clause-some c =
    let e = ap (map (λ c. c.items)) c.deref.ensures.value ∙ c.in_ok-some.ensures in
    let m : length (map (λ c. c.items) c.deref.result.now) ≡ c.args.m = ap length e ∙ range-many c.args.first c.args.m c.args.cells.now c.requires.there in
    omega (arith, m, map-length (λ c. c.items) c.deref.result.now, c.requires.some)

pub put_choice-requires-clause-widths : goal.put_choice-requires-clause-widths
put_choice-requires-clause-widths c =
    let e = ap (map (λ c. c.items)) c.deref.ensures.value ∙ c.in_ok-some.ensures in
    subst (λ (t : List (List Lit)). AllLong (length (cell_at t 0)) t) (sym e) c.requires.widths

pub returns-clause-grew : goal.returns-clause-grew
returns-clause-grew c =
    let e = ap (map (λ c. c.items)) c.deref.ensures.value ∙ c.in_ok-some.ensures in
    let P : List (List Lit) → Type 0 = λ t. let m = element_of c.args.one c.args.net.now.next t c.args.index.now None in
    Grew c.args.net.now.next c.args.net.now.defs.items c.put_choice.new.net.next c.put_choice.new.net.defs.items m.defs × (c.in_ok-out.out.items ≡ m.outs) in
    subst P e c.in_ok-out.ensures.grew
