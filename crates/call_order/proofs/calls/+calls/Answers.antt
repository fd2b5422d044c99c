use Rattle.std.proofs.Common.{arith, ap, ◌∙◌, refl}
use Rattle.call_order.specs.declared.calls.CallAt.{CallAt}
use Rattle.call_order.specs.Seen.{calls}
use Rattle.call_order.proofs.Arms.{list_step, call_arm, comma_arm, calls_behind}
use Rattle.call_order.proofs.calls.+calls.Goals as goal

pub add_all_calls-loop-value-preserved : goal.add_all_calls-loop-value-preserved
add_all_calls-loop-value-preserved t c =
    list_step c.args.list.now c.loop-value.value-index c.value-item.result (calls c.args.found.now.items) (calls c.loop-value.found.items) (calls c.add_calls.new.found.items)
    (omega arith) c.value-item.is c.loop-value.invariant c.in_ok-add_calls.ensures

pub add_calls-returns-in_ok-push-in-Call : goal.add_calls-returns-in_ok-push-in-Call
add_calls-returns-in_ok-push-in-Call t c =
    let own : CallAt = record { at = c.in-Call.at; to = c.in-Call.function } in
    call_arm c.args.value.now c.in-Call.field-0 c.in-Call.at c.in-Call.field-2 c.in-Call.function c.in-Call.values c.deref-in-Call.result.now own
    (calls c.args.found.now.items) (calls c.push.new.self.items) (calls c.add_all_calls.new.found.items) c.add_all_calls.result
    c.in-Call.is c.deref-in-Call.ensures.value refl (ap calls c.in_ok-push-in-Call.ensures.items ∙ calls_behind c.args.found.now.items own) c.add_all_calls.ensures

pub add_calls-returns-in_ok-add_all_calls-in-Comma : goal.add_calls-returns-in_ok-add_all_calls-in-Comma
add_calls-returns-in_ok-add_all_calls-in-Comma t c =
    comma_arm c.args.value.now c.in-Comma.values c.in-Comma.last c.deref-in-Comma.result.now c.deref-in-Comma-2.result.now
    (calls c.args.found.now.items) (calls c.add_all_calls-in-Comma.new.found.items) (calls c.add_calls-in-Comma.new.found.items) c.add_calls-in-Comma.result
    c.in-Comma.is c.deref-in-Comma.ensures.value c.deref-in-Comma-2.ensures c.in_ok-add_all_calls-in-Comma.ensures c.add_calls-in-Comma.ensures
