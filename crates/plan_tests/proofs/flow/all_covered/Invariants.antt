use Rattle.std.proofs.Common.{◌≡◌, ◌<◌, ℕ, true, Some, slice_get, take}
use Rattle.plan_tests.specs.Flow.{IsCovered}
use Rattle.plan_tests.specs.Made as made
use Rattle.plan_tests.proofs.flow.all_covered.Given as goal

abbrev pub invariant-loop-number : goal.invariant-loop-number
invariant-loop-number l =
    ((k u : ℕ) → k < l.number → slice_get l.units k ≡ Some u → IsCovered l.known l.node l.before u)
    × (made.all_covered l.known l.node l.before (take l.number l.units) ≡ true)
