use Rattle.std.proofs.Common.{◌≡◌, drop}
use Rattle.call_order.specs.Apart as apart
use Rattle.call_order.specs.Seen.{targets}
use Rattle.call_order.proofs.search.enter_all.Given as goal

-- what is left of the calls is the rest of them
abbrev pub invariant-loop-call : goal.invariant-loop-call
invariant-loop-call l = apart.marked_all l.search.marks.items (targets (drop l.call-index l.calls)) ≡ apart.marked_all l.initial.search.marks.items (targets l.calls)
