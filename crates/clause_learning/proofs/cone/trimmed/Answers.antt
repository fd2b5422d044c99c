use Rattle.std.proofs.Common.{◌≡◌, ℕ, ◌+◌, true, List, ◌∙◌, sym, subst, length}
use Rattle.resolution_log.specs.declared.Chain.{Chain}
use Rattle.clause_learning.specs.Cuts.{Ranged, Closes, need_in}
use Rattle.clause_learning.proofs.ConeLaws.{lean_ranged, cone_answer}
use Rattle.clause_learning.proofs.cone.trimmed.Goals as goal

pub last_cone-requires-clause-ranged : goal.last_cone-requires-clause-ranged
last_cone-requires-clause-ranged c = subst (Ranged c.len-base.result) (sym (c.as_slice.ensures.value ∙ c.into_chains-chains.ensures.value)) (lean_ranged c.args.clauses.now c.args.log c.len-base.result c.len-base.ensures.value c.requires)

pub cut-requires-clause-ranged : goal.cut-requires-clause-ranged
cut-requires-clause-ranged c = subst (Ranged c.len-base.result) (sym c.into_chains-chains.ensures.value) (lean_ranged c.args.clauses.now c.args.log c.len-base.result c.len-base.ensures.value c.requires)

pub returns : goal.returns
returns c =
    let same = c.as_slice.ensures.value in
    let closed : Closes (need_in c.in_ok-cone.cone.marks.items) c.len-base.result c.into_chains-chains.result.items = subst (Closes (need_in c.in_ok-cone.cone.marks.items) c.len-base.result) same c.in_ok-cone.ensures.closed in
    let last : (k : ℕ) → k + 1 ≡ c.len-base.result + length c.into_chains-chains.result.items → need_in c.in_ok-cone.cone.marks.items k ≡ true = subst (λ (w : List Chain). (k : ℕ) → k + 1 ≡ c.len-base.result + length w → need_in c.in_ok-cone.cone.marks.items k ≡ true) same c.in_ok-cone.ensures.last in
    cone_answer c.in_ok-cone.cone.marks.items c.args.clauses.now c.args.log c.into_chains-chains.result.items c.len-base.result c.cut.result c.into_chains-chains.ensures.value c.len-base.ensures.value c.requires c.in_ok-cone.ensures.given closed last c.cut.ensures
