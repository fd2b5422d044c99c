use Rattle.std.proofs.Common.{◌≡◌, length}
use Rattle.cdcl_solver.proofs.choosing.bump_listed.Given as goal

abbrev pub invariant-loop-code : goal.invariant-loop-code
invariant-loop-code l = length l.order.phases.items ≡ length l.initial.order.phases.items
