use Rattle.std.proofs.Common.{◌≡◌, ◌<◌, ℕ, true, slice_index}
use Rattle.walk_states.specs.Known.{plan_of}
use Rattle.plan_tests.specs.Passes.{all_from}
use Rattle.block_follow.specs.Following.{Follows}
use Rattle.block_follow.specs.Made as made
use Rattle.block_follow.proofs.blocks.nodes_follow.Given as goal

abbrev pub invariant-loop-node : goal.invariant-loop-node
invariant-loop-node l =
    ((v : ℕ) → v < l.node → Follows l.old l.new (plan_of l.known) (slice_index l.sizes) v)
    × (all_from (made.follows l.old l.new l.known (made.lists_of l.members) l.firsts l.sizes) l.node 0 ≡ true)
