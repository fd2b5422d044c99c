use Rattle.std.proofs.Common.{◌≡◌, ◌<◌, ℕ, true, Some, slice_get, take}
use Rattle.c_graph.specs.declared.graph.Edge.{Edge}
use Rattle.block_rule.specs.Plans.{matters}
use Rattle.block_rule.specs.Blocked.{Flows}
use Rattle.walk_states.specs.Known.{plan_of}
use Rattle.plan_tests.specs.Made as made
use Rattle.plan_tests.proofs.flow.all_flow.Given as goal

abbrev pub invariant-loop-number : goal.invariant-loop-number
invariant-loop-number l =
    ((k : ℕ) (e : Edge) → k < l.number → slice_get l.edges k ≡ Some e → matters (plan_of l.known) e.to.0 ≡ true → Flows (plan_of l.known) e)
    × (made.all_flow l.known (take l.number l.edges) l.count ≡ true)
