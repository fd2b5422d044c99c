-- Functions in numbered parts, of which no call goes to a higher one, and functions to which calls lead.
use Rattle.std.specs.Prelude.{◌≡◌, ℕ, nat_eq, nat_lt, nat_le, ◌+◌, Bool, true, false, ◌&&◌, ◌||◌, if◌then◌else◌, List, [], ◌∷◌, replicate, slice_index_or}
use Rattle.std.specs.List.{list_all, list_any}
use Rattle.c_typed.specs.Rules.{Call, leads}
use Rattle.call_order.specs.Peel.{marked}

abbrev pub part_of : List ℕ → ℕ → ℕ
part_of parts f = slice_index_or parts f 0

-- a call of a function in this part goes to a lower part, or stays in it and does not stand before this offset
abbrev pub is_apart : List ℕ → ℕ → ℕ → Call → Bool
is_apart parts at own c = nat_lt (part_of parts c.to) own || (nat_eq (part_of parts c.to) own && nat_le at c.at)

abbrev pub own_apart : List ℕ → ℕ → ℕ → List Call → Bool
own_apart parts at own cs = list_all (is_apart parts at own) cs

-- the first of these functions has this number
abbrev pub all_apart : List ℕ → ℕ → ℕ → List (List Call) → Bool
all_apart parts at number [] = true
all_apart parts at number (cs ∷ rest) = own_apart parts at (part_of parts number) cs && all_apart parts at (number + 1) rest

-- a call with this offset and of this function
abbrev pub is_call : ℕ → ℕ → Call → Bool
is_call at to c = nat_eq c.at at && nat_eq c.to to

-- the function makes this call
abbrev pub is_made : (at to caller : ℕ) → List (List Call) → Bool
is_made at to caller calls = list_any (is_call at to) (slice_index_or calls caller [])

-- calls lead from one function to another
abbrev pub Reaches : List (List ℕ) → (start goal : ℕ) → Type 0
Reaches graph start goal = (n : ℕ) × (leads graph n start goal ≡ true)

-- calls lead to each function that is marked
abbrev pub AreReached : List (List ℕ) → ℕ → List Bool → Type 0
AreReached graph start marks = (f : ℕ) → slice_index_or marks f false ≡ true → Reaches graph start f

abbrev pub only : (count start : ℕ) → List Bool
only count start = marked (replicate count false) start

abbrev pub marked_all : List Bool → List ℕ → List Bool
marked_all marks [] = marks
marked_all marks (f ∷ fs) = marked_all (marked marks f) fs

-- what a function calls is marked if it is marked itself
abbrev pub expanded : List (List ℕ) → ℕ → List Bool → List Bool
expanded graph f marks = if slice_index_or marks f false then marked_all marks (slice_index_or graph f []) else marks
