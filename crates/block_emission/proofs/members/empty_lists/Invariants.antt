use Rattle.std.proofs.Common.{◌≡◌}
use Rattle.block_emission.specs.Blocking as made
use Rattle.block_emission.proofs.members.empty_lists.Given as goal

abbrev pub invariant-loop-number : goal.invariant-loop-number
invariant-loop-number l = made.places_of l.lists.items ≡ made.empty_lists l._number
