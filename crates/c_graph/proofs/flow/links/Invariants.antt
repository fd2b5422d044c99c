use Rattle.std.proofs.Common.{◌≤◌, length}
use Rattle.c_graph.specs.Chains.{Linked}
use Rattle.c_graph.proofs.flow.links.Given as goal

abbrev pub invariant-loop-number : goal.invariant-loop-number
invariant-loop-number l = (l.number ≤ length l.edges) × Linked l.nodes l.edges l.number l.first.items l.next.items

abbrev pub decreases-loop-number : goal.decreases-loop-number
decreases-loop-number l = l.number
