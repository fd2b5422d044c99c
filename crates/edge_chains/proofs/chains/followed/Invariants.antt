use Rattle.std.proofs.Common.{◌≡◌, ◌-◌, length}
use Rattle.edge_chains.specs.Links.{flag_at}
use Rattle.edge_chains.specs.Made as made
use Rattle.edge_chains.proofs.Following.{Completes}
use Rattle.edge_chains.proofs.chains.followed.Given as goal

abbrev pub invariant-loop-turn : goal.invariant-loop-turn
invariant-loop-turn l =
    Completes (flag_at l.inner) l.edges l.edge l.ops.items l.to
    × (made.follow (length l.edges - l._turn) l.edges l.inner l.links l.edge.from l.to l.ops.items ≡ made.followed l.edges l.inner l.links l.edge)
