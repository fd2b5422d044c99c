-- When a graph stands for a program: errors that the program's runs end in are met by runs of the graph, and the other way.
use Rattle.std.specs.Prelude.{ℕ, ℤ, ◌≡◌, List, take, Some, slice_get}
use Rattle.lv_base.specs.declared.fault.ErrorKind.{ErrorKind}
use Rattle.c_run.specs.Run.{Error}
use Rattle.c_typed.specs.Tree.{Program}
use Rattle.c_typed.specs.Run.{run}
use Rattle.c_graph.specs.declared.graph.NodeId.{NodeId}
use Rattle.c_graph.specs.declared.graph.Node.TheVariants.{Error as AnError}
use Rattle.c_graph.specs.Shape.{Flow}
use Rattle.c_graph.specs.Runs.{RunsTo}
use Rattle.program_graphs.specs.Returning.{ErrorsReturn}

-- a run of the graph draws these values and ends at an error node of this kind and offset
abbrev pub MeetsError : Flow → List ℤ → ErrorKind → ℕ → Type 0
MeetsError g draws kind at = (v : NodeId) × ((after : List ℕ) × RunsTo g draws v after × (slice_get g.nodes v.0 ≡ Some (AnError kind at)))

-- each run of the program that ends in an error has a run of the graph to that error, which draws the inputs that it drew
abbrev pub ErrorsFollow : Program → Flow → Type 0
ErrorsFollow p g = (turns : ℕ) (inputs : List ℤ) (kind : ErrorKind) (at taken : ℕ) → run turns p inputs ≡ Error kind at taken → MeetsError g (take taken inputs) kind at

-- The graph has the program's errors, and no others.
pub record StandsFor (g : Flow) (p : Program) : Type 0 where
  pub follow : ErrorsFollow p g
  pub back : ErrorsReturn p g
