use Rattle.std.proofs.Common.{◌≡◌, ◌+◌, ◌*◌, ◌<◌, ℕ, true}
use Rattle.plan_tests.specs.Flow.{IsKept}
use Rattle.plan_tests.specs.Made as made
use Rattle.plan_tests.specs.Passes.{all_from}
use Rattle.plan_tests.proofs.flow.are_bits_kept.Given as goal

abbrev pub invariant-loop-bit : goal.invariant-loop-bit
invariant-loop-bit l =
    ((b : ℕ) → b < l.bit → IsKept l.known l.from l.ops l.to (l.number * 64 + b))
    × (all_from (λ bit. made.is_kept l.known l.from l.ops l.to (l.number * 64 + bit)) l.bit 0 ≡ true)
