use Rattle.std.proofs.Common.{◌≡◌, ◌<◌, ℕ, true, Some, slice_get, take}
use Rattle.c_graph.specs.declared.graph.Operation.{Operation}
use Rattle.walk_states.specs.Known.{plan_of}
use Rattle.plan_tests.specs.Flow.{ReadsFlow}
use Rattle.plan_tests.specs.Made as made
use Rattle.plan_tests.specs.Passes.{all_at}
use Rattle.plan_tests.proofs.flow.all_reads_flow.Given as goal

abbrev pub invariant-loop-number : goal.invariant-loop-number
invariant-loop-number l =
    ((k : ℕ) (op : Operation) → k < l.number → slice_get l.ops k ≡ Some op → ReadsFlow (plan_of l.known) l.node (take k l.ops) op)
    × (all_at (λ number op. made.reads_flow l.known l.node (take number l.ops) op) 0 (take l.number l.ops) ≡ true)
