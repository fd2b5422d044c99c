use Rattle.std.proofs.Common.{◌≡◌, ◌<◌, ℕ, true}
use Rattle.plan_tests.specs.Flow.{IsWordKept}
use Rattle.plan_tests.specs.Made as made
use Rattle.plan_tests.specs.Passes.{all_from}
use Rattle.plan_tests.proofs.flow.all_kept.Given as goal

abbrev pub invariant-loop-number : goal.invariant-loop-number
invariant-loop-number l =
    ((n : ℕ) → n < l.number → IsWordKept l.known l.from l.ops l.to n) × (all_from (made.is_word_kept l.known l.from l.ops l.to) l.number 0 ≡ true)
