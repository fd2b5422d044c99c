use Rattle.std.proofs.Common.{◌≡◌, ◌++◌, take}
use Rattle.c_typed.specs.View.{values_of}
use Rattle.c_typed.specs.Rules as r
use Rattle.call_order.specs.Seen.{calls}
use Rattle.call_order.proofs.calls.+calls.Given as goal

-- those so far stand behind those that were there
abbrev pub invariant-add_all_calls-loop-value : goal.invariant-add_all_calls-loop-value
invariant-add_all_calls-loop-value l = calls l.found.items ≡ calls l.initial.found.items ++ r.calls_in (values_of (take l.value-index l.list))
