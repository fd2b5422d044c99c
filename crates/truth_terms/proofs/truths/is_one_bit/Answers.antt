use Rattle.std.proofs.Common.{rules, ◌≡◌, Some, slice_get}
use Rattle.bv_term.specs.declared.term.Term.TheVariants.{Constant}
use Rattle.truth_terms.proofs.Bits.{one-bit}
use Rattle.truth_terms.proofs.truths.is_one_bit.Goals as goal

pub returns-in-Some-Constant-default-eq1-clause-means : goal.returns-in-Some-Constant-default-eq1-clause-means
returns-in-Some-Constant-default-eq1-clause-means c = λ h.
    let get : slice_get c.args.terms.now.terms c.args.term.0 ≡ Some (Constant c.in-Some-Constant-default-eq1.field-0-0 1) = search rules in
    one-bit c.args.terms.now c.args.term c.in-Some-Constant-default-eq1.field-0-0 c.in-Some-Constant-default-eq1.ensures.table get
