use Rattle.std.proofs.Common.{◌≡◌, ◌++◌, drop}
use Rattle.edge_chains.specs.Made as made
use Rattle.edge_chains.proofs.chains.singles.Given as goal

abbrev pub invariant-loop-number : goal.invariant-loop-number
invariant-loop-number l = l.single.items ++ made.singles (drop l.number l.ways) ≡ made.singles l.ways
