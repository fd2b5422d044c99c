-- Nodes that are reached, nodes that are alive, and nodes of loops.
use Rattle.std.specs.Prelude.{ℕ, ◌≡◌, Bool, true, List, Some, slice_get}
use Rattle.c_graph.specs.declared.graph.NodeId.{NodeId}
use Rattle.c_graph.specs.declared.graph.Node.{Node}
use Rattle.c_graph.specs.declared.graph.Node.TheVariants.{Plain, Error, End, Call}
use Rattle.c_graph.specs.declared.graph.Edge.{Edge}
use Rattle.c_graph.specs.declared.graph.LoopAt.{LoopAt}
use Rattle.plan_tables.specs.Tables.{flag_at}
use Rattle.block_rule.specs.Plans.{Plan}
use Rattle.walk_states.specs.declared.known.Known.{Known}

-- the entry is reached, and a cut point
abbrev pub IsEntry : Plan → NodeId → Type 0
IsEntry plan v = (plan.reached v.0 ≡ true) × (plan.cuts v.0 ≡ true)

-- an edge leads from a node that is reached to one that is, and to a node that is alive from one that is
abbrev pub IsStep : Known → ℕ → ℕ → Type 0
IsStep known from to =
    (flag_at known.reached from ≡ true → flag_at known.reached to ≡ true) × (flag_at known.alive to ≡ true → flag_at known.alive from ≡ true)

abbrev pub AreSteps : Known → List Edge → Type 0
AreSteps known edges = (k : ℕ) (e : Edge) → slice_get edges k ≡ Some e → IsStep known e.from.0 e.to.0

-- an error node is alive
abbrev pub IsWatched : Node → Bool → Type 0
IsWatched Plain b = Unit {0}
IsWatched (Error kind at) b = b ≡ true
IsWatched End b = Unit {0}
IsWatched (Call callee next) b = Unit {0}

abbrev pub AreWatched : Known → List Node → Type 0
AreWatched known nodes = (v : ℕ) (x : Node) → slice_get nodes v ≡ Some x → IsWatched x (flag_at known.alive v)

-- the node of a loop is a cut point, and alive
abbrev pub IsListed : Plan → NodeId → Type 0
IsListed plan v = (plan.cuts v.0 ≡ true) × (plan.alive v.0 ≡ true)

abbrev pub AreListed : Plan → List LoopAt → Type 0
AreListed plan loops = (k : ℕ) (l : LoopAt) → slice_get loops k ≡ Some l → IsListed plan l.node
