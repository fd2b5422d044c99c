use Rattle.std.proofs.Common.{◌≡◌, ◌<◌, ◌≤◌, ℕ, true, Some, slice_get, take}
use Rattle.c_graph.specs.declared.graph.EdgeId.{EdgeId}
use Rattle.block_follow.specs.Made as made
use Rattle.block_follow.proofs.outs.all_within.Given as goal

abbrev pub invariant-loop-number : goal.invariant-loop-number
invariant-loop-number l =
    ((j : ℕ) (id : EdgeId) → j < l.number → slice_get l.numbers j ≡ Some id → (l.first ≤ id.0) × (id.0 < l.end))
    × (made.all_within (take l.number l.numbers) l.first l.end ≡ true)
