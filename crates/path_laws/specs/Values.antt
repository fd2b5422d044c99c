-- The values that the literals of draws read.
use Rattle.std.specs.Prelude.{ℕ, ℤ, pos, negsuc, ◌-◌, ◌^◌, Bool, true, false, List, [], ◌∷◌, ◌++◌, slice_index, nat_lt, if◌then◌else◌}
use Rattle.bit_gates.specs.Net.{number}
use Rattle.c_graph.specs.declared.graph.EdgeId.{EdgeId}
use Rattle.c_graph.specs.declared.graph.Operation.{Operation}
use Rattle.c_graph.specs.declared.graph.Operation.TheVariants.{Assume, Set, SetAt, Draw}
use Rattle.c_graph.specs.Shape.{Flow}
use Rattle.path_query.specs.declared.query.Bundle.{Bundle}
use Rattle.path_formula.specs.Needs.{operations_at}

-- a number of w bits as a value, in two's complement where it is signed; negsuc n is minus n minus one
abbrev pub read_as : Bool → ℕ → ℕ → ℤ
read_as true w x = if nat_lt x (2 ^ (w - 1)) then pos x else negsuc ((2 ^ w - 1) - x)
read_as false w x = pos x

-- for each draw of operations, and of the edges of a path, whether it is signed
abbrev pub signs_of : List Operation → List Bool
signs_of [] = []
signs_of (Assume t ∷ os) = signs_of os
signs_of (Set c t ∷ os) = signs_of os
signs_of (SetAt first n i t ∷ os) = signs_of os
signs_of (Draw c signed ∷ os) = signed ∷ signs_of os

abbrev pub signs_along : Flow → List EdgeId → List Bool
signs_along g [] = []
signs_along g (e ∷ es) = signs_of (operations_at g.edges e.0) ++ signs_along g es

-- what the literals of draws read, over cells of these widths
abbrev pub values_read : List ℕ → (ℕ → Bool) → List Bundle → List Bool → List ℤ
values_read widths v [] ss = []
values_read widths v (b ∷ bs) [] = []
values_read widths v (b ∷ bs) (s ∷ ss) = read_as s (slice_index widths b.cell) (number v b.bits) ∷ values_read widths v bs ss
