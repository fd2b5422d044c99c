use Rattle.std.proofs.Common.{◌≡◌, drop}
use Rattle.edge_chains.specs.Made as made
use Rattle.edge_chains.proofs.chains.are_kept.Given as goal

abbrev pub invariant-loop-number : goal.invariant-loop-number
invariant-loop-number l = made.kept_from l.inner l.number (drop l.number l.nodes) ≡ made.are_kept l.nodes l.inner
