use Rattle.std.proofs.Common.{◌≡◌, drop}
use Rattle.edge_chains.specs.Made as made
use Rattle.edge_chains.proofs.chains.links_of.Given as goal

abbrev pub invariant-loop-number : goal.invariant-loop-number
invariant-loop-number l = made.link_all l.links.items l.number (drop l.number l.edges) ≡ made.links_of l.nodes l.edges
