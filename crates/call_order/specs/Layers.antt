-- The functions from which calls lead to a function, in layers: those of at most so many calls.
use Rattle.std.specs.Prelude.{◌≡◌, ℕ, zero, suc, nat_eq, nat_lt, ◌<◌, ◌+◌, Bool, true, false, ◌||◌, not, List, [], ◌∷◌, ◌++◌, length, map, slice_index_or}
use Rattle.std.specs.List.{list_any, list_all}
use Rattle.lv_base.specs.declared.fault.SourceFault.TheVariants as fault
use Rattle.c_run.specs.Breaking.{Broken, line}
use Rattle.c_typed.specs.Rules.{Call, leads, recursion}

abbrev pub any_marked : List Bool → List ℕ → Bool
any_marked marks fs = list_any (λ f. slice_index_or marks f false) fs

-- the functions below this number
abbrev pub first_layer : (count goal : ℕ) → List Bool
first_layer zero goal = []
first_layer (suc n) goal = first_layer n goal ++ nat_eq n goal ∷ []

-- the first of these functions has this number
abbrev pub layer_from : ℕ → List (List ℕ) → ℕ → List Bool → List Bool
layer_from number [] goal before = []
layer_from number (fs ∷ rest) goal before = (nat_eq number goal || any_marked before fs) ∷ layer_from (number + 1) rest goal before

abbrev pub next_layer : List (List ℕ) → ℕ → List Bool → List Bool
next_layer graph goal before = layer_from 0 graph goal before

abbrev pub layers : List (List ℕ) → ℕ → ℕ → List Bool
layers graph goal zero = first_layer (length graph) goal
layers graph goal (suc n) = next_layer graph goal (layers graph goal n)

abbrev pub lines_in : List Bool → List Call → List Broken
lines_in marks [] = []
lines_in marks (c ∷ cs) = line (slice_index_or marks c.to false) fault.Recursion c.at ++ lines_in marks cs

-- the calls on a cycle of these functions, the first of which has this number
abbrev pub all_lines : List (List ℕ) → ℕ → List (List Call) → List Broken
all_lines graph caller [] = []
all_lines graph caller (cs ∷ rest) = lines_in (layers graph caller (length graph)) cs ++ all_lines graph (caller + 1) rest

-- each function that is called is there
abbrev pub IsBounded : List (List ℕ) → Type 0
IsBounded graph = list_all (λ fs. list_all (λ f. nat_lt f (length graph)) fs) graph ≡ true

-- the layers lead to the goal
abbrev pub LayersLead : Type 0
LayersLead = (graph : List (List ℕ)) (goal count number : ℕ) → IsBounded graph → number < length graph →
    slice_index_or (layers graph goal count) number false ≡ leads graph count number goal

-- no function that is called leads back to a function that calls it
abbrev pub HasNoCycle : List (List ℕ) → Type 0
HasNoCycle graph = (f : ℕ) → f < length graph → list_all (λ c. not (leads graph (length graph) c f)) (slice_index_or graph f []) ≡ true

-- the lines are those of the rule
abbrev pub CyclesFound : Type 0
CyclesFound = (calls : List (List Call)) → IsBounded (map (λ cs. map (λ c. c.to) cs) calls) →
    all_lines (map (λ cs. map (λ c. c.to) cs) calls) 0 calls ≡ recursion (map (λ cs. map (λ c. c.to) cs) calls) 0 calls

-- where there is no cycle no line is broken
abbrev pub CyclesNone : Type 0
CyclesNone = (calls : List (List Call)) → HasNoCycle (map (λ cs. map (λ c. c.to) cs) calls) → recursion (map (λ cs. map (λ c. c.to) cs) calls) 0 calls ≡ []

-- where no line is broken there is no cycle
abbrev pub CyclesBroken : Type 0
CyclesBroken = (calls : List (List Call)) → recursion (map (λ cs. map (λ c. c.to) cs) calls) 0 calls ≡ [] → HasNoCycle (map (λ cs. map (λ c. c.to) cs) calls)
