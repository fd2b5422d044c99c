-- The laws of logs and of propagation that the crates above rely on, each named by a public contract. A set of literals
-- is given as a test.
use Rattle.std.specs.Prelude.{◌≡◌, ℕ, Bool, true, List, [], ◌∷◌, ◌++◌, Option, Some, slice_get, ◌<◌, length}
use Rattle.prop.specs.declared.Lit.{Lit}
use Rattle.prop.specs.Logic.{negated, all_hold}
use Rattle.prop.specs.Steps.{Has, In}
use Rattle.resolution_log.specs.declared.Chain.{Chain}
use Rattle.resolution_log.specs.Chains.{chain_result, results_of, pivots_differ, IsRefutation}
use Rattle.resolution_log.specs.Propagation.{Derived, Quiet, Closed, Empowering, IsNew}
use Rattle.resolution_log.specs.Logs.{New, Lean, Same, AllSame}
use Rattle.resolution_log.specs.Cones.{rank, Anew, Kept}

abbrev pub Within : (Lit → Bool) → Lit → Type 0
Within s l = s l ≡ true

-- every result of a valid log is implied by the clauses
abbrev pub ResultsAreImplied : Type 0
ResultsAreImplied = (clauses : List (List Lit)) (log : List Chain) (rs : List (List Lit)) (v : ℕ → Bool) → results_of clauses log ≡ Some rs → all_hold v clauses ≡ true → all_hold v rs ≡ true

-- propagation from given literals stays inside each closed set that has them
abbrev pub PropagationStays : Type 0
PropagationStays = (clauses : List (List Lit)) (given s : Lit → Bool) → Closed clauses (Within s) → ((l : Lit) → given l ≡ true → s l ≡ true) → (l : Lit) → Derived clauses (Within given) l → s l ≡ true

-- A clause is new where a closed set without conflict has the complements of its literals but one, and lacks that one;
-- none of the clauses may be empty.
abbrev pub NewByClosedSet : Type 0
NewByClosedSet = (clauses : List (List Lit)) (s : Lit → Bool) (r : List Lit) (t : Lit) → Closed clauses (Within s) → Quiet (Within s) → Has r t → ((l : Lit) → Has r l → (l ≡ t → ⊥) → s (negated l) ≡ true) → (s t ≡ true → ⊥) → ((c : List Lit) → In clauses c → c ≡ [] → ⊥) → IsNew clauses r

-- over clauses of which one is empty, no clause is new
abbrev pub NoneIsNewOverEmpty : Type 0
NoneIsNewOverEmpty = (clauses : List (List Lit)) (r : List Lit) → In clauses [] → IsNew clauses r → ⊥

-- chains and newness see clauses as sets alone
abbrev pub SetsAreEnough : Type 0
SetsAreEnough = (cs ds : List (List Lit)) → AllSame cs ds
    → ((ch : Chain) (r : List Lit) → chain_result cs ch ≡ Some r → (q : List Lit) × (chain_result ds ch ≡ Some q) × Same r q)
    × ((r q : List Lit) → Same r q → IsNew cs r → IsNew ds q)

-- a new log with one more new result at its end is new
abbrev pub NewLogsGrow : Type 0
NewLogsGrow = (clauses rs : List (List Lit)) (log : List Chain) (ch : Chain) (r : List Lit) → New clauses log rs → chain_result (clauses ++ rs) ch ≡ Some r → pivots_differ ch.pairs ≡ true → IsNew (clauses ++ rs) r → New clauses (log ++ (ch ∷ [])) (rs ++ (r ∷ []))

-- a new log is valid
abbrev pub NewLogsAreValid : Type 0
NewLogsAreValid = (clauses rs : List (List Lit)) (log : List Chain) → New clauses log rs → results_of clauses log ≡ Some rs

-- A lean refutation that is cut to the clauses that are needed, its clauses numbered anew, stays lean: all given clauses
-- count as needed, each kept chain names needed clauses alone, and so does the last.
abbrev pub CutsStayLean : Type 0
CutsStayLean = (need : ℕ → Bool) (clauses rs : List (List Lit)) (front kept : List Chain) (last last2 : Chain) → ((j : ℕ) → j < length clauses → need j ≡ true) → New clauses front rs → chain_result (clauses ++ rs) last ≡ Some [] → pivots_differ last.pairs ≡ true → Kept need (length clauses) front kept → Anew need last last2 → Lean clauses (kept ++ (last2 ∷ []))

-- a lean refutation is a refutation
abbrev pub LeanRefutes : Type 0
LeanRefutes = (clauses : List (List Lit)) (log : List Chain) → Lean clauses log → IsRefutation clauses log
