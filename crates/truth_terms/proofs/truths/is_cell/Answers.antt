use Rattle.std.proofs.Common.{rules, ◌≡◌, Some, subst, slice_get, slice_index}
use Rattle.std.proofs.lemmas.Bool.{eqb-true}
use Rattle.bv_term.specs.declared.term.Term.TheVariants.{Cell}
use Rattle.truth_terms.specs.Truths.{Means}
use Rattle.truth_terms.proofs.Bits.{cell-means}
use Rattle.truth_terms.proofs.truths.is_cell.Goals as goal

pub returns-in-Some-Cell-clause-means : goal.returns-in-Some-Cell-clause-means
returns-in-Some-Cell-clause-means c = λ h.
    let get : slice_get c.args.terms.now.terms c.args.term.0 ≡ Some (Cell c.in-Some-Cell.found) = search rules in
    subst (λ n. Means c.args.terms.now c.args.term (λ s. slice_index s n)) (eqb-true c.in-Some-Cell.found c.args.cell h)
    (cell-means c.args.terms.now c.args.term c.in-Some-Cell.found c.in-Some-Cell.ensures.table get)
