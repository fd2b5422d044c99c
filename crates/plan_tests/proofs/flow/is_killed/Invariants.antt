use Rattle.std.proofs.Common.{◌≡◌, false, take}
use Rattle.plan_tests.specs.Made as made
use Rattle.plan_tests.proofs.flow.is_killed.Given as goal

abbrev pub invariant-loop-number : goal.invariant-loop-number
invariant-loop-number l = made.is_killed l.units (take l.number l.ops) l.unit ≡ false
