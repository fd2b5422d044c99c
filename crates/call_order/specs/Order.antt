-- An order of functions in which each stands behind those that it calls.
use Rattle.std.specs.Prelude.{◌≡◌, ℕ, nat_eq, nat_lt, ◌<◌, ◌+◌, Bool, true, false, ◌&&◌, List, [], ◌∷◌, ◌++◌, length, map, slice_index_or}
use Rattle.std.specs.List.{list_all}
use Rattle.c_typed.specs.Tree.{Program}
use Rattle.c_typed.specs.Rules.{has, calls_of_functions}

-- the functions that each function calls
abbrev pub callees : Program → List (List ℕ)
callees program = map (λ cs. map (λ c. c.to) cs) (calls_of_functions program.functions)

abbrev pub bit : Bool → ℕ
bit true = 1
bit false = 0

-- how often a function stands among these
abbrev pub times : ℕ → List ℕ → ℕ
times f [] = 0
times f (g ∷ gs) = bit (nat_eq f g) + times f gs

-- each of these functions calls only functions before it
abbrev pub callees_first : List (List ℕ) → List ℕ → List ℕ → Bool
callees_first graph before [] = true
callees_first graph before (f ∷ fs) = list_all (has before) (slice_index_or graph f []) && callees_first graph (before ++ f ∷ []) fs

-- each function stands in the order once, and no other number, each behind those that it calls; `graph` has the functions that
-- each calls
pub record IsOrder (graph : List (List ℕ)) (order : List ℕ) : Type 0 where
  pub below : list_all (λ f. nat_lt f (length graph)) order ≡ true
  pub once : (f : ℕ) → f < length graph → times f order ≡ 1
  pub behind : callees_first graph [] order ≡ true
