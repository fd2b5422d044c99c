-- How many leaves are open.
use Rattle.std.specs.Prelude.{ℕ, zero, suc, if◌then◌else◌}
use Rattle.c_graph.specs.Shape.{Flow}
use Rattle.cover_engine.specs.Unwindings.{Unwound, is_open_leaf}

-- how many of the vertices below this number are open leaves
abbrev pub open_below : Flow → Unwound → ℕ → ℕ
open_below g u zero = 0
open_below g u (suc n) = if is_open_leaf g u (record { 0 = n }) then suc (open_below g u n) else open_below g u n
