use Rattle.std.proofs.Common.{rules, ◌≡◌, Some, subst, slice_get}
use Rattle.std.proofs.lemmas.Bool.{eqb-true}
use Rattle.bv_term.specs.declared.term.Term.TheVariants.{Constant}
use Rattle.truth_terms.specs.Truths.{Means}
use Rattle.truth_terms.proofs.Bits.{constant-means}
use Rattle.truth_terms.proofs.truths.is_number.Goals as goal

pub returns-in-Some-Constant-clause-means : goal.returns-in-Some-Constant-clause-means
returns-in-Some-Constant-clause-means c = λ h.
    let get : slice_get c.args.terms.now.terms c.args.term.0 ≡ Some (Constant c.in-Some-Constant.field-0-0 c.in-Some-Constant.found) = search rules in
    subst (λ n. Means c.args.terms.now c.args.term (λ s. n)) (eqb-true c.in-Some-Constant.found c.args.number h)
    (constant-means c.args.terms.now c.args.term c.in-Some-Constant.field-0-0 c.in-Some-Constant.found c.in-Some-Constant.ensures.table get)
