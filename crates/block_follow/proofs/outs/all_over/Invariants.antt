use Rattle.std.proofs.Common.{◌≡◌, ◌<◌, ℕ, true, Some, slice_get, take}
use Rattle.c_graph.specs.declared.graph.EdgeId.{EdgeId}
use Rattle.block_follow.specs.Following.{IsOver}
use Rattle.block_follow.specs.Made as made
use Rattle.block_follow.proofs.outs.all_over.Given as goal

abbrev pub invariant-loop-number : goal.invariant-loop-number
invariant-loop-number l =
    ((j : ℕ) (id : EdgeId) → j < l.number → slice_get l.numbers j ≡ Some id → IsOver l.graph l.node id.0)
    × (made.all_over l.graph l.node (take l.number l.numbers) ≡ true)
