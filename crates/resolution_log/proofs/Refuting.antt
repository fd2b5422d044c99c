-- A lean refutation is a refutation.
use Rattle.std.proofs.Common.{◌≡◌, List, [], ◌∷◌, ◌++◌, Some, refl, sym, subst, append_assoc, append-nil}
use Rattle.prop.specs.declared.Lit.{Lit}
use Rattle.resolution_log.specs.declared.Chain.{Chain}
use Rattle.resolution_log.specs.Chains.{then_with, chain_result, results_of, IsRefutation}
use Rattle.resolution_log.specs.Logs.{New, New.none, New.more, Lean}
use Rattle.resolution_log.specs.Laws.{LeanRefutes}

-- the results of a new log, and the empty one of the chain after it
ended : {known rs : List (List Lit)} {log : List Chain} (last : Chain) → New known log rs → chain_result (known ++ rs) last ≡ Some [] → results_of known (log ++ (last ∷ [])) ≡ Some (rs ++ ([] ∷ []))
ended {known} last none h = let g : chain_result known last ≡ Some [] = subst (λ x. chain_result x last ≡ Some []) (append-nil known) h in rw g refl
ended {known} last (more {rs = rs} {ch = ch} {r = r} g d x v) h =
    let ih = ended last v (subst (λ x. chain_result x last ≡ Some []) (sym (append_assoc known (r ∷ []) rs)) h) in
    rw (g, ih) refl

pub lean_refutes : LeanRefutes
lean_refutes clauses log l = (l.results, subst (λ x. results_of clauses x ≡ Some (l.results ++ ([] ∷ []))) (sym l.parts) (ended l.last l.new l.empty))
