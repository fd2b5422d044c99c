use Rattle.std.proofs.Common.{◌≡◌, drop}
use Rattle.block_emission.specs.Blocking as made
use Rattle.block_emission.proofs.members.most_of.Given as goal

abbrev pub invariant-loop-number : goal.invariant-loop-number
invariant-loop-number l = made.most_from l.most (drop l.number (made.places_of l.members)) ≡ made.most_from 0 (made.places_of l.members)
