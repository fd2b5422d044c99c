-- The values that a run of a graph to an error draws.
use Rattle.std.specs.Prelude.{ℕ, ℤ, ◌*◌, ◌≤◌, ◌<◌, ◌^◌, ◌≡◌, List, [], ◌∷◌, length, unsigned_abs}
use Rattle.lv_base.specs.declared.fault.ErrorKind.{ErrorKind}
use Rattle.c_run.specs.Run.{Error}
use Rattle.c_typed.specs.Tree.{Program}
use Rattle.c_typed.specs.Run.{run}
use Rattle.c_graph.specs.declared.graph.NodeId.{NodeId}
use Rattle.c_graph.specs.declared.graph.EdgeId.{EdgeId}
use Rattle.c_graph.specs.Shape.{Flow, IsFlow}
use Rattle.c_graph.specs.Runs.{RunsAlong}
use Rattle.program_graphs.specs.Returning.{FailsAlong, ErrorsReturn}

-- each has at most 64 bits, and a sign
abbrev pub AreWords : List ℤ → Type 0
AreWords [] = Unit {0}
AreWords (z ∷ zs) = (unsigned_abs z < 2 ^ 64) × AreWords zs

-- A run along a path draws such values alone.
abbrev pub DrawnAreWords : Type 0
DrawnAreWords = (g : Flow) (path : List EdgeId) (v w : NodeId) (store after : List ℕ) (draws : List ℤ) → IsFlow g → RunsAlong g path v store draws w after → AreWords draws

-- Where a graph's errors return to a program, the values that a run draws on its way to an error lead the program to it, and it draws them all.
abbrev pub ErrorsMeet : Type 0
ErrorsMeet =
    (p : Program) (g : Flow) (path : List EdgeId) (values : List ℤ) (turns : ℕ) (kind : ErrorKind) (at : ℕ) → ErrorsReturn p g → FailsAlong g path values kind at
    → length path * 2147483647 ≤ turns → run turns p values ≡ Error kind at (length values)
