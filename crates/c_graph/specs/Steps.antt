-- What operations and edges do to a store, with the values that they draw.
use Rattle.std.specs.Prelude.{ℕ, ℤ, pos, negsuc, ◌+◌, ◌-◌, ◌%◌, ◌^◌, ◌≡◌, ◌==◌, Bool, true, false, List, [], ◌∷◌, length, slice_index, slice_set, nat_lt, Option, None, Some, if◌then◌else◌}
use Rattle.bv_term.specs.WellFormed.{Table}
use Rattle.bv_term.specs.Values.{value, IsStore}
use Rattle.c_graph.specs.declared.graph.Operation.{Operation}
use Rattle.c_graph.specs.declared.graph.Operation.TheVariants.{Assume, Set, SetAt, Draw}
use Rattle.c_graph.specs.declared.graph.Edge.{Edge}

-- a store of these widths with a value for each cell
pub record IsWhole (widths store : List ℕ) : Type 0 where
  pub length : length store ≡ length widths
  pub fits : IsStore widths store

-- whether a value is one of w bits: of the signed range where the draw is signed, else of the unsigned range
abbrev pub in_range_of : ℕ → Bool → ℤ → Bool
in_range_of w true (pos n) = nat_lt n (2 ^ (w - 1))
in_range_of w true (negsuc n) = nat_lt n (2 ^ (w - 1))
in_range_of w false (pos n) = nat_lt n (2 ^ w)
in_range_of w false (negsuc n) = false

-- a value of w bits, modulo two to the power of w; negsuc n is minus n minus one
abbrev pub modulo : ℕ → ℤ → ℕ
modulo w (pos n) = n % 2 ^ w
modulo w (negsuc n) = (2 ^ w - 1) - n % 2 ^ w

-- a store, and the values that are still to be drawn
pub record Moment : Type 0 where
  pub store : List ℕ
  pub inputs : List ℤ

abbrev pub moment : List ℕ → List ℤ → Moment
moment store inputs = record { store = store; inputs = inputs }

-- the next value goes into the cell, where there is one and it is in the cell's range
abbrev pub drawn : Table → ℕ → Bool → List ℕ → List ℤ → Option Moment
drawn table c signed store [] = None
drawn table c signed store (z ∷ zs) =
    if in_range_of (slice_index table.cells c) signed z
    then Some (moment (slice_set store c (modulo (slice_index table.cells c) z)) zs)
    else None

-- an element is stored, and nothing where the index is out of range
abbrev pub stored_at : List ℕ → ℕ → ℕ → ℕ → ℕ → List ℕ
stored_at store first n i v = if nat_lt i n then slice_set store (first + i) v else store

-- what an operation makes of a moment, nothing where it does not go on
abbrev pub operated : Table → Operation → Moment → Option Moment
operated table (Assume t) m = if value table m.store t == 1 then Some m else None
operated table (Set c t) m = Some (moment (slice_set m.store c (value table m.store t)) m.inputs)
operated table (SetAt first n i t) m =
    Some (moment (stored_at m.store first n (value table m.store i) (value table m.store t)) m.inputs)
operated table (Draw c signed) m = drawn table c signed m.store m.inputs

-- operations in order
abbrev pub operated_all : Table → List Operation → Option Moment → Option Moment
operated_all table ops None = None
operated_all table [] (Some m) = Some m
operated_all table (op ∷ ops) (Some m) = operated_all table ops (operated table op m)

-- the edge leads from one store to another, drawing these values and no others
abbrev pub Leads : Table → Edge → List ℕ → List ℤ → List ℕ → Type 0
Leads table e store draws after = operated_all table e.ops (Some (moment store draws)) ≡ Some (moment after [])
