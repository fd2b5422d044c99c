use Rattle.std.proofs.Common.{◌≡◌, ◌<◌, ℕ, true, Some, slice_get, take}
use Rattle.walk_states.specs.Known.{has_unit}
use Rattle.plan_tests.specs.Made as made
use Rattle.plan_tests.proofs.reads.includes.Given as goal

abbrev pub invariant-loop-number : goal.invariant-loop-number
invariant-loop-number l =
    ((k u : ℕ) → k < l.number → slice_get l.units k ≡ Some u → has_unit l.list u ≡ true) × (made.includes l.list (take l.number l.units) ≡ true)
