use Rattle.std.proofs.Common.{◌≡◌, take}
use Rattle.c_typed.specs.Rules as r
use Rattle.step_values.specs.Seen.{values}
use Rattle.call_order.specs.Seen.{calls}
use Rattle.call_order.proofs.calls.calls_of.Given as goal

-- those of the expressions so far
abbrev pub invariant-loop-value : goal.invariant-loop-value
invariant-loop-value l = calls l.found.items ≡ r.calls_of (values (take l.value-index l.all))
