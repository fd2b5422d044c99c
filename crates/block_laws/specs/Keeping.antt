-- Runs to errors and to loops, and the graph of blocks.
use Rattle.std.specs.Prelude.{ℕ, ℤ, ◌≡◌, true, List, length, Some, slice_get}
use Rattle.lv_base.specs.declared.fault.ErrorKind.{ErrorKind}
use Rattle.c_graph.specs.declared.graph.NodeId.{NodeId}
use Rattle.c_graph.specs.declared.graph.Node.TheVariants.{Error}
use Rattle.c_graph.specs.Shape.{Flow, IsFlow}
use Rattle.c_graph.specs.Runs.{Formulas, IsInductive, RunsTo}
use Rattle.block_rule.specs.Plans.{Plan, IsError}
use Rattle.block_rule.specs.Blocked.{Agree, IsBlocked}

-- a run to an error node has a run of the graph of blocks to the same error node, which draws the same values
abbrev pub BlocksKeepErrors : Type 0
BlocksKeepErrors =
    (g h : Flow) (plan : Plan) (draws : List ℤ) (v : NodeId) (after : List ℕ) (kind : ErrorKind) (at : ℕ)
    → IsFlow g → IsFlow h → IsBlocked g h plan → RunsTo g draws v after → slice_get g.nodes v.0 ≡ Some (Error kind at)
    → ((end : List ℕ) × RunsTo h draws v end) × (slice_get h.nodes v.0 ≡ Some (Error kind at))

-- A run to a cut point from which an error or a loop's node is reached has a run of the graph of blocks to the same node, which draws the
-- same values, and whose store holds the same in each cell that is read from there on, unless the node is an error.
abbrev pub BlocksKeepVisits : Type 0
BlocksKeepVisits =
    (g h : Flow) (plan : Plan) (draws : List ℤ) (v : NodeId) (after : List ℕ)
    → IsFlow g → IsFlow h → IsBlocked g h plan → plan.cuts v.0 ≡ true → plan.alive v.0 ≡ true → RunsTo g draws v after
    → (end : List ℕ) × RunsTo h draws v end × ((IsError g v.0 → ⊥) → Agree (length g.cells) (plan.live v.0) after end)

-- with an inductive map on the graph of blocks, no run of the graph itself reaches an error node
abbrev pub BlockedMapMeansSafe : Type 0
BlockedMapMeansSafe =
    (g h : Flow) (plan : Plan) (m : Formulas) (draws : List ℤ) (v : NodeId) (after : List ℕ) (kind : ErrorKind) (at : ℕ)
    → IsFlow g → IsFlow h → IsBlocked g h plan → IsInductive h m → RunsTo g draws v after → slice_get g.nodes v.0 ≡ Some (Error kind at) → ⊥
