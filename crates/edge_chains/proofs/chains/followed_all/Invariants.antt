use Rattle.std.proofs.Common.{◌≡◌, drop}
use Rattle.edge_chains.specs.Links.{AreJoined}
use Rattle.edge_chains.specs.Made as made
use Rattle.edge_chains.proofs.chains.followed_all.Given as goal

abbrev pub invariant-loop-number : goal.invariant-loop-number
invariant-loop-number l =
    AreJoined l.inner l.edges l.number l.found.items
    × (made.add_all l.edges l.inner l.links l.found.items (drop l.number l.edges) ≡ made.followed_all l.edges l.inner l.links)
