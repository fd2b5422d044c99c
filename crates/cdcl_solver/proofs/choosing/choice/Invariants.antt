use Rattle.std.proofs.Common.{◌≡◌, length}
use Rattle.cdcl_solver.proofs.choosing.choice.Given as goal

abbrev pub invariant-turns : goal.invariant-turns
invariant-turns l = length l.order.phases.items ≡ length l.initial.order.phases.items

abbrev pub decreases-turns : goal.decreases-turns
decreases-turns l = length l.order.heap.items
