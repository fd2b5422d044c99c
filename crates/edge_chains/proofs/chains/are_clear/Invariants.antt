use Rattle.std.proofs.Common.{◌≡◌, drop}
use Rattle.edge_chains.specs.Made as made
use Rattle.edge_chains.proofs.chains.are_clear.Given as goal

abbrev pub invariant-loop-number : goal.invariant-loop-number
invariant-loop-number l = made.are_clear l.inner (drop l.number l.loops) ≡ made.are_clear l.inner l.loops
