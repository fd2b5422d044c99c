use Rattle.std.proofs.Common.{◌≡◌, ◌<◌, ℕ, true, Some, slice_get, take}
use Rattle.c_graph.specs.declared.graph.Edge.{Edge}
use Rattle.plan_tests.specs.Made as made
use Rattle.plan_tests.specs.Nodes.{IsStep}
use Rattle.plan_tests.proofs.nodes.are_steps.Given as goal

abbrev pub invariant-loop-number : goal.invariant-loop-number
invariant-loop-number l =
    ((k : ℕ) (e : Edge) → k < l.number → slice_get l.edges k ≡ Some e → IsStep l.known e.from.0 e.to.0)
    × (made.are_steps l.known (take l.number l.edges) ≡ true)
