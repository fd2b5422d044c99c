use Rattle.std.proofs.Common.{◌≡◌, ◌++◌, drop}
use Rattle.block_follow.specs.Made as made
use Rattle.block_follow.proofs.blocks.sizes_of.Given as goal

abbrev pub invariant-loop-nodes : goal.invariant-loop-nodes
invariant-loop-nodes l =
    made.sizes_of (made.lists_of l.members) ≡ l.sizes.items ++ made.sizes_of (made.lists_of (drop l.nodes-index l.members))
