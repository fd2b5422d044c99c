use Rattle.std.proofs.Common.{◌≡◌, ℕ, take, true}
use Rattle.prop.specs.Trues.{listed}
use Rattle.cdcl_solver.proofs.opening.other_code.Given as goal

abbrev pub invariant-loop-code : goal.invariant-loop-code
invariant-loop-code l = (z : ℕ) → listed (take l.code-index l.row) z ≡ true → z ≡ l.first
