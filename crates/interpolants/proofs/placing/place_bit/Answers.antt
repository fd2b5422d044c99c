use Rattle.std.proofs.Common.{◌≡◌, List, length, slice_get, ap, ◌∙◌, sym, arith}
use Rattle.std.proofs.lemmas.Option.{slice_get-get_or}
use Rattle.prop.specs.declared.Lit.{Lit}
use Rattle.interpolants.proofs.Rows.{added-there, bit-past}
use Rattle.interpolants.proofs.placing.place_bit.Goals as goal

pub returns-then-at-lits-clause-added : goal.returns-then-at-lits-clause-added
returns-then-at-lits-clause-added c =
    let e : length c.as_slice-lits.result.now ≡ length c.args.bundle.now.bits = ap length c.as_slice-lits.ensures in
    bit-past c.args.bundle.now c.args.bit _ (omega (arith, e, c.if-at-lits.true))

pub returns-clause-added : goal.returns-clause-added
returns-clause-added c =
    added-there c.add.result c.args.bundle.now c.args.bit _ c.args.bits.now.bits.items c.add.new.self.bits.items c.add.ensures.added
    (ap (λ (ls : List Lit). slice_get ls c.args.bit) (sym c.as_slice-lits.ensures)
    ∙ slice_get-get_or c.as_slice-lits.result.now c.args.bit _ c.if-at-lits.false)
