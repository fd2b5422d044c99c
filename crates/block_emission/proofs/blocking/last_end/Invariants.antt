use Rattle.std.proofs.Common.{◌≡◌, drop}
use Rattle.block_emission.specs.Blocking as made
use Rattle.block_emission.proofs.blocking.last_end.Given as goal

abbrev pub invariant-loop-number : goal.invariant-loop-number
invariant-loop-number l = made.last_end l.end l.number (drop l.number l.nodes) ≡ made.last_end l.fn.entry 0 l.nodes
