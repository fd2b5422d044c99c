use Rattle.std.proofs.Common.{◌≡◌, drop, length}
use Rattle.block_follow.specs.Made as made
use Rattle.block_follow.proofs.blocks.first_edges.Given as goal

abbrev pub invariant-loop-number : goal.invariant-loop-number
invariant-loop-number l =
    made.firsts_from (length l.edges) 0 l.edges l.initial.firsts.items
    ≡ made.firsts_from (length l.edges) l.number (drop l.number l.edges) l.firsts.items
