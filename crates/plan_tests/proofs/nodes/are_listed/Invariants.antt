use Rattle.std.proofs.Common.{◌≡◌, ◌<◌, ℕ, true, Some, slice_get, take}
use Rattle.c_graph.specs.declared.graph.LoopAt.{LoopAt}
use Rattle.walk_states.specs.Known.{plan_of}
use Rattle.plan_tests.specs.Made as made
use Rattle.plan_tests.specs.Nodes.{IsListed}
use Rattle.plan_tests.proofs.nodes.are_listed.Given as goal

abbrev pub invariant-loop-number : goal.invariant-loop-number
invariant-loop-number l =
    ((k : ℕ) (x : LoopAt) → k < l.number → slice_get l.loops k ≡ Some x → IsListed (plan_of l.known) x.node)
    × (made.are_listed l.known (take l.number l.loops) ≡ true)
