use Rattle.std.proofs.Common.{◌≡◌, ◌<◌, ℕ, Some, slice_get, drop}
use Rattle.c_graph.specs.declared.graph.EdgeId.{EdgeId}
use Rattle.walk_states.specs.Known.{plan_of}
use Rattle.block_follow.specs.Following.{AreMade, IsKept}
use Rattle.block_follow.specs.Made as made
use Rattle.block_follow.proofs.keeping.kept_until.Given as goal

abbrev pub invariant-loop-number : goal.invariant-loop-number
invariant-loop-number l =
    ((j : ℕ) (id : EdgeId) → j < l.number → slice_get l.outs j ≡ Some id → IsKept l.old l.new (plan_of l.known) l.fn.node id.0)
    × AreMade l.old l.new (plan_of l.known) l.fn.node l.first l.at
    × (made.kept_until l.old l.new l.known l.fn.node l.first l.outs ≡ made.kept_until l.old l.new l.known l.fn.node l.at (drop l.number l.outs))
