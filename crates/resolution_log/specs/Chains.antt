-- Chains of resolution steps, and logs of them.
use Rattle.std.specs.Prelude.{◌≡◌, ℕ, Bool, true, not, ◌&&◌, List, [], ◌∷◌, ◌++◌, Option, Some, None, slice_get, nat_eq}
use Rattle.prop.specs.declared.Lit.{Lit}
use Rattle.prop.specs.Steps.{resolve}
use Rattle.resolution_log.specs.declared.Chain.{Chain}

abbrev pub then_with : {A B : Type 0} → Option A → (A → Option B) → Option B
then_with None f = None
then_with (Some x) f = f x

-- the clause so far is resolved with each named clause in turn; a pair is a pivot and a clause's number
abbrev pub chain_from : List (List Lit) → List Lit → List (ℕ × ℕ) → Option (List Lit)
chain_from known c [] = Some c
chain_from known c (p ∷ ps) = then_with (slice_get known p.1) (λ d. then_with (resolve p.0 c d) (λ e. chain_from known e ps))

-- the result of a chain over the clauses that are known before it, where the chain is valid
abbrev pub chain_result : List (List Lit) → Chain → Option (List Lit)
chain_result known ch = then_with (slice_get known ch.first) (λ c. chain_from known c ch.pairs)

-- the results of a valid log over clauses, in order; each result is known to the chains after it
abbrev pub results_of : List (List Lit) → List Chain → Option (List (List Lit))
results_of known [] = Some []
results_of known (ch ∷ chs) = then_with (chain_result known ch) (λ r. then_with (results_of (known ++ (r ∷ [])) chs) (λ rs. Some (r ∷ rs)))

-- all chains are valid, and the last result is empty
abbrev pub IsRefutation : List (List Lit) → List Chain → Type 0
IsRefutation clauses log = (front : List (List Lit)) × (results_of clauses log ≡ Some (front ++ ([] ∷ [])))

-- no pair has this pivot
abbrev pub absent : ℕ → List (ℕ × ℕ) → Bool
absent v [] = true
absent v (p ∷ ps) = not (nat_eq p.0 v) && absent v ps

abbrev pub pivots_differ : List (ℕ × ℕ) → Bool
pivots_differ [] = true
pivots_differ (p ∷ ps) = absent p.0 ps && pivots_differ ps
