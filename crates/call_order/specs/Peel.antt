-- Functions taken in some order and then round by round, each behind those that it calls.
use Rattle.std.specs.Prelude.{◌≡◌, ℕ, zero, suc, nat_lt, ◌+◌, Bool, true, false, ◌&&◌, not, if◌then◌else◌, List, [], ◌∷◌, ◌++◌, length, replicate, slice_index_or, slice_set}
use Rattle.std.specs.List.{list_all}
use Rattle.call_order.specs.Layers.{IsBounded, HasNoCycle}
use Rattle.call_order.specs.Order.{IsOrder}

-- which functions are taken, and these in the order in which they were
pub record Taking : Type 0 where
  pub taken : List Bool
  pub order : List ℕ

abbrev pub start : ℕ → Taking
start count = record { taken = replicate count false; order = [] }

abbrev pub is_ready : List Bool → List ℕ → Bool
is_ready taken fs = list_all (λ f. slice_index_or taken f false) fs

abbrev pub marked : List Bool → ℕ → List Bool
marked taken f = slice_set taken f true

abbrev pub take_if : Bool → ℕ → Taking → Taking
take_if true f st = record { taken = marked st.taken f; order = st.order ++ f ∷ [] }
take_if false f st = st

-- a function, with those that it calls
abbrev pub visit : ℕ → List ℕ → Taking → Taking
visit f fs st = take_if (not (slice_index_or st.taken f false) && is_ready st.taken fs) f st

-- the first of these functions has this number
abbrev pub round : ℕ → List (List ℕ) → Taking → Taking
round number [] st = st
round number (fs ∷ rest) st = round (number + 1) rest (visit number fs st)

abbrev pub is_whole : List Bool → Bool
is_whole taken = list_all (λ t. t) taken

abbrev pub unless_whole : Bool → List (List ℕ) → Taking → Taking
unless_whole true graph st = st
unless_whole false graph st = round 0 graph st

-- nothing is left to do where each function is taken
abbrev pub next_round : List (List ℕ) → Taking → Taking
next_round graph st = unless_whole (is_whole st.taken) graph st

abbrev pub rounds : List (List ℕ) → ℕ → Taking → Taking
rounds graph zero st = st
rounds graph (suc n) st = next_round graph (rounds graph n st)

abbrev pub all_rounds : List (List ℕ) → Taking → Taking
all_rounds graph st = rounds graph (length graph) st

abbrev pub finish_if : Bool → List (List ℕ) → Taking → Taking
finish_if true graph st = st
finish_if false graph st = all_rounds graph st

-- round by round where functions are left
abbrev pub finished : List (List ℕ) → Taking → Taking
finished graph st = finish_if (is_whole st.taken) graph st

-- a number past the functions takes none
abbrev pub visit_at : List (List ℕ) → ℕ → Taking → Taking
visit_at graph f st = if nat_lt f (length graph) then visit f (slice_index_or graph f []) st else st

-- functions in some order
abbrev pub visits : List (List ℕ) → List ℕ → Taking → Taking
visits graph [] st = st
visits graph (f ∷ fs) st = visits graph fs (visit_at graph f st)

abbrev pub guided : List (List ℕ) → List ℕ → Taking
guided graph guess = visits graph guess (start (length graph))

abbrev pub order_of : List (List ℕ) → List ℕ → List ℕ
order_of graph guess = (finished graph (guided graph guess)).order

-- where each function is taken no call lies on a cycle
abbrev pub WholeAcyclic : Type 0
WholeAcyclic = (graph : List (List ℕ)) (guess : List ℕ) → IsBounded graph → is_whole (guided graph guess).taken ≡ true → HasNoCycle graph

-- without a cycle each function is taken, in whatever order they are tried first
abbrev pub OrdersFound : Type 0
OrdersFound = (graph : List (List ℕ)) (guess : List ℕ) → IsBounded graph → HasNoCycle graph → IsOrder graph (order_of graph guess)
