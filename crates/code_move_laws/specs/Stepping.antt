-- A step of the machine is a run through the nodes of its instruction.
use Rattle.std.specs.Prelude.{ℕ, ℤ, suc, ◌+◌, ◌≡◌, List, [], ◌++◌, take, Some, slice_get}
use Rattle.bv_term.specs.WellFormed.{Table, IsTable}
use Rattle.c_graph.specs.declared.graph.NodeId.{NodeId}
use Rattle.c_graph.specs.declared.graph.Node.{Node}
use Rattle.c_graph.specs.declared.graph.Node.TheVariants.{Error}
use Rattle.c_graph.specs.declared.graph.Edge.{Edge}
use Rattle.c_graph.specs.Shape.{widths_of}
use Rattle.slot_code.specs.declared.flat.Instruction.{Instruction}
use Rattle.slot_code.specs.declared.reply.Ending.TheVariants as ending
use Rattle.slot_code.specs.Machine.{Machine, Next, Goes, Over}
use Rattle.slot_laws.specs.Laws.{IsShaped}
use Rattle.code_moves.specs.Setting.{Setting}
use Rattle.cfg_build.specs.Steps.{node_id, Checked}
use Rattle.cfg_build.specs.Fitting.{IsFit}
use Rattle.layout_laws.specs.Serve.{Serves}
use Rattle.code_move_laws.specs.Mirrors.{IsLaid, Mirrors}
use Rattle.code_move_laws.specs.Ways.{objects_of}
use Rattle.code_move_laws.specs.Steps.{IsPlain, acted}
use Rattle.code_move_laws.specs.Paths.{Runs}

-- Where the machine goes on, a run goes to the next node, in a store that mirrors where the machine went, and draws what it drew; where
-- the machine meets an error, a run goes to a node of this error. Of other endings nothing is said.
abbrev pub Steps : Setting → Table → List ℤ → Machine → List ℕ → NodeId → ℕ → List Node → List Edge → Next → Type 0
Steps g table inputs m store next n nodes edges (Goes o) =
    (path : List ℕ) × (draws : List ℤ) × (after : List ℕ) × (o.place ≡ suc m.place) × (take (o.st).taken inputs ≡ take (m.st).taken inputs ++ draws)
    × Runs table edges path (node_id n) store draws next after × Mirrors g o.slots (o.st).store after
Steps g table inputs m store next n nodes edges (Over (ending.Error kind at taken)) =
    (path : List ℕ) × (k : ℕ) × (taken ≡ (m.st).taken) × (slice_get nodes k ≡ Some (Error kind at)) × Runs table edges path (node_id n) store [] (node_id (n + k)) store
Steps g table inputs m store next n nodes edges (Over _) = Unit {0}

-- So it is where these nodes and edges stand for the instruction.
abbrev pub StepsRun : Type 0
StepsRun =
    (g : Setting) (inputs : List ℤ) (x : Instruction) (m : Machine) (store : List ℕ) → IsLaid g → Serves g.model g.objects g.lay x → IsShaped (objects_of g) x
    → IsFit g.model (objects_of g) x → IsPlain x → Mirrors g m.slots (m.st).store store
    → (table : Table) (next : NodeId) (n : ℕ) (nodes : List Node) (edges : List Edge) → Checked g table x next n nodes edges → IsTable table → table.cells ≡ widths_of g.lay.cells
    → Steps g table inputs m store next n nodes edges (acted g inputs x m)
