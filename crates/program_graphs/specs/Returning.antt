-- Runs of a graph to errors along paths, and when they are runs of a program, or of another graph.
use Rattle.std.specs.Prelude.{ℕ, ℤ, ◌*◌, ◌≤◌, ◌≡◌, List, ◌++◌, length, take, Some, slice_get}
use Rattle.lv_base.specs.declared.fault.ErrorKind.{ErrorKind}
use Rattle.c_run.specs.Run.{Error}
use Rattle.c_typed.specs.Tree.{Program}
use Rattle.c_typed.specs.Run.{run}
use Rattle.c_graph.specs.declared.graph.NodeId.{NodeId}
use Rattle.c_graph.specs.declared.graph.EdgeId.{EdgeId}
use Rattle.c_graph.specs.declared.graph.Node.TheVariants.{Error as AnError}
use Rattle.c_graph.specs.Shape.{Flow, widths_of}
use Rattle.c_graph.specs.Steps.{IsWhole}
use Rattle.c_graph.specs.Runs.{RunsAlong}

-- a run along a path from the entry, in any store, that ends at an error node
pub record FailsAlong (g : Flow) (path : List EdgeId) (draws : List ℤ) (kind : ErrorKind) (at : ℕ) : Type 0 where
  pub store : List ℕ
  pub last : NodeId
  pub after : List ℕ
  pub whole : IsWhole (widths_of g.cells) store
  pub runs : RunsAlong g path g.entry store draws last after
  pub error : slice_get g.nodes last.0 ≡ Some (AnError kind at)

-- Each run of the graph to an error is a run of the program to it: with as many turns as the path has edges, or more, and with each list
-- of inputs that begins with the values drawn, the program ends in this error and draws these values.
abbrev pub ErrorsComeBack : Program → Flow → Type 0
ErrorsComeBack p g =
    (path : List EdgeId) (inputs draws more : List ℤ) (turns : ℕ) (kind : ErrorKind) (at : ℕ) → FailsAlong g path draws kind at → length path ≤ turns → inputs ≡ draws ++ more
    → (taken : ℕ) × (run turns p inputs ≡ Error kind at taken) × (take taken inputs ≡ draws)

-- Each run of the second graph to an error is one of the first to it, with the same values. For each edge of its path the other has no
-- more edges than the first graph has nodes.
abbrev pub ComesBack : Flow → Flow → Type 0
ComesBack g h =
    (path : List EdgeId) (draws : List ℤ) (kind : ErrorKind) (at : ℕ) → FailsAlong h path draws kind at
    → (more : List EdgeId) × (FailsAlong g more draws kind at × (length more ≤ length path * length g.nodes))

-- The same of a graph an edge of which may be many of another graph: as many for each as a graph may have nodes are enough.
abbrev pub ErrorsReturn : Program → Flow → Type 0
ErrorsReturn p g =
    (path : List EdgeId) (inputs draws more : List ℤ) (turns : ℕ) (kind : ErrorKind) (at : ℕ) → FailsAlong g path draws kind at → length path * 2147483647 ≤ turns → inputs ≡ draws ++ more
    → (taken : ℕ) × (run turns p inputs ≡ Error kind at taken) × (take taken inputs ≡ draws)
