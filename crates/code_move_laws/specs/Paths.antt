-- The edges of an instruction that is followed by checks and then by what it does: which of them a run takes.
use Rattle.std.specs.Prelude.{ℕ, ℤ, ◌+◌, ◌≡◌, List, [], ◌∷◌, ◌++◌, Some, None, slice_get}
use Rattle.lv_base.specs.declared.fault.ErrorKind.{ErrorKind}
use Rattle.bv_term.specs.WellFormed.{Table, IsTable}
use Rattle.c_graph.specs.declared.graph.NodeId.{NodeId}
use Rattle.c_graph.specs.declared.graph.Node.{Node}
use Rattle.c_graph.specs.declared.graph.Node.TheVariants.{Error}
use Rattle.c_graph.specs.declared.graph.Edge.{Edge}
use Rattle.c_graph.specs.Steps.{IsWhole, Leads}
use Rattle.word_laws.specs.Laws.{first_met}
use Rattle.slot_code.specs.declared.flat.Instruction.{Instruction}
use Rattle.code_moves.specs.Setting.{Setting}
use Rattle.code_moves.specs.Values.{failures_of}
use Rattle.code_moves.specs.Moves.{moves_of}
use Rattle.cfg_build.specs.Steps.{node_id, offset_of, Checked}
use Rattle.code_move_laws.specs.Doing.{Reaches}

-- a run along edges of a list, by their numbers in it, drawing these values, from a node in a store to a node in a store
abbrev pub Runs : Table → List Edge → List ℕ → NodeId → List ℕ → List ℤ → NodeId → List ℕ → Type 0
Runs table edges [] v store draws w after = (v ≡ w) × (store ≡ after) × (draws ≡ [])
Runs table edges (k ∷ path) v store draws w after =
    (e : Edge) × (slice_get edges k ≡ Some e) × (e.from ≡ v)
    × ((mid : List ℕ) × (first : List ℤ) × (rest : List ℤ) × (draws ≡ first ++ rest) × Leads table e store first mid × Runs table edges path e.to mid rest w after)

-- Where no check fails, a run goes through the instruction's nodes to the next one, and does its deeds.
abbrev pub ChecksPass : Type 0
ChecksPass =
    (g : Setting) (table : Table) (x : Instruction) (next : NodeId) (n : ℕ) (nodes : List Node) (edges : List Edge) (store : List ℕ) (draws : List ℤ) (after : List ℕ)
    → Checked g table x next n nodes edges → IsTable table → IsWhole table.cells store → first_met (failures_of g store x) ≡ None → Reaches table.cells (moves_of g x) store draws after []
    → (path : List ℕ) × Runs table edges path (node_id n) store draws next after

-- Where a check fails, a run goes to the node of the first that does.
abbrev pub ChecksFail : Type 0
ChecksFail =
    (g : Setting) (table : Table) (x : Instruction) (next : NodeId) (n : ℕ) (nodes : List Node) (edges : List Edge) (store : List ℕ) (kind : ErrorKind)
    → Checked g table x next n nodes edges → IsTable table → IsWhole table.cells store → first_met (failures_of g store x) ≡ Some kind
    → (path : List ℕ) × (k : ℕ) × (slice_get nodes k ≡ Some (Error kind (offset_of x))) × Runs table edges path (node_id n) store [] (node_id (n + k)) store
