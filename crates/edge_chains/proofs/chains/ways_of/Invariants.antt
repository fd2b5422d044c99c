use Rattle.std.proofs.Common.{◌≡◌, drop}
use Rattle.edge_chains.specs.Made as made
use Rattle.edge_chains.proofs.chains.ways_of.Given as goal

abbrev pub invariant-loop-number : goal.invariant-loop-number
invariant-loop-number l = made.lead_all l.ways.items (drop l.number l.edges) ≡ made.ways_of l.nodes l.edges
