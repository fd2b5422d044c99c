use Rattle.std.proofs.Common.{◌≡◌, false, take}
use Rattle.block_places.specs.Made as made
use Rattle.block_places.proofs.leading.has_bare.Given as goal

abbrev pub invariant-loop-number : goal.invariant-loop-number
invariant-loop-number l = made.has_bare l.graph l.node (take l.number l.outs) l.test l.to ≡ false
