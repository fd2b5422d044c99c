use Rattle.std.proofs.Common.{◌≡◌, ℕ, ◌+◌, ◌*◌, ◌<◌, true, false}
use Rattle.dense_trail.specs.Dense.{is_true}
use Rattle.cdcl_solver.proofs.choosing.free_number.Given as goal

abbrev pub invariant-loop-number : goal.invariant-loop-number
invariant-loop-number l = (n : ℕ) → n < l.number → is_true l.trail.truth.items (2 * n) ≡ false → is_true l.trail.truth.items (2 * n + 1) ≡ true
