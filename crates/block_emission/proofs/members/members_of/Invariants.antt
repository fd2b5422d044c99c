use Rattle.std.proofs.Common.{◌≡◌, length}
use Rattle.block_emission.specs.Blocking as made
use Rattle.block_emission.proofs.members.members_of.Given as goal

abbrev pub invariant-loop-number : goal.invariant-loop-number
invariant-loop-number l = made.places_of l.members.items ≡ made.members_below l.blocks (made.empty_lists (length l.graph.nodes)) l.number
