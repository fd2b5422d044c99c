use Rattle.std.proofs.Common.{◌≡◌, length}
use Rattle.cdcl_solver.proofs.choosing.bump_marked.Given as goal

abbrev pub invariant-loop-at : goal.invariant-loop-at
invariant-loop-at l = length l.order.phases.items ≡ length l.initial.order.phases.items
