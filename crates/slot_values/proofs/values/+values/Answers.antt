use Rattle.std.proofs.Common.{arith, refl}
use Rattle.slot_values.specs.Seen.{use_of}
use Rattle.slot_values.proofs.Arms.{values_step, place_step, drops_step, both_arm, either_arm, cond_arm, call_arm, comma_arm}
use Rattle.slot_values.proofs.values.+values.Goals as goal

pub add_values-loop-value-preserved : goal.add_values-loop-value-preserved
add_values-loop-value-preserved t c = record {
  code = values_step c.args.scene.now c.args.slot c.args.values.now c.loop-value.value-index c.value-item.result c.loop-value.place c.args.code.now.items c.loop-value.code.items c.add_value.new.code.items
      (omega arith) c.value-item.is c.loop-value.invariant.place c.loop-value.invariant.code c.in_ok-add_value.ensures;
  place = place_step c.args.scene.now c.args.slot c.args.values.now c.loop-value.value-index c.value-item.result c.loop-value.place c.in_ok-place.place
      (omega arith) c.loop-value.invariant.place c.in_ok-place.ensures.value;
}

pub add_dropped-loop-value-preserved : goal.add_dropped-loop-value-preserved
add_dropped-loop-value-preserved t c =
    drops_step c.args.scene.now c.args.slot c.args.values.now c.loop-value.value-index c.value-item.result c.args.code.now.items c.loop-value.code.items c.add_value.new.code.items
    (omega arith) c.value-item.is c.loop-value.invariant c.in_ok-add_value.ensures

pub add_value-returns-in_ok-add_values-in-Call : goal.add_value-returns-in_ok-add_values-in-Call
add_value-returns-in_ok-add_values-in-Call t c =
    call_arm c.args.scene.now c.args.slot (use_of c.args.usage) c.args.value.now c.in-Call.kind c.in-Call.at c.in-Call.field-2 c.in-Call.function c.in-Call.values c.as_slice-arguments.result.now c.is_needed-needed.result _
    c.args.code.now.items c.add_values.new.code.items c.add_call.new.code.items c.add_call.result
    c.in-Call.is c.as_slice-arguments.ensures.value c.is_needed-needed.ensures refl c.in_ok-add_values-in-Call.ensures c.add_call.ensures

pub add_value-returns-in_ok-add_dropped-in-Comma : goal.add_value-returns-in_ok-add_dropped-in-Comma
add_value-returns-in_ok-add_dropped-in-Comma t c =
    comma_arm c.args.scene.now c.args.slot (use_of c.args.usage) c.args.value.now c.in-Comma.values c.in-Comma.last c.deref-in-Comma.result.now c.deref-in-Comma-2.result.now
    c.args.code.now.items c.add_dropped.new.code.items c.add_value-in-Comma.new.code.items c.add_value-in-Comma.result
    c.in-Comma.is c.deref-in-Comma.ensures.value c.deref-in-Comma-2.ensures c.in_ok-add_dropped-in-Comma.ensures c.add_value-in-Comma.ensures

pub add_value-returns-in_ok-add_value-in-Both-2 : goal.add_value-returns-in_ok-add_value-in-Both-2
add_value-returns-in_ok-add_value-in-Both-2 t c =
    both_arm c.args.scene.now c.args.slot (use_of c.args.usage) c.args.value.now c.in-Both.first c.in-Both.second c.deref-in-Both.result.now c.deref-in-Both-2.result.now
    c.args.code.now.items c.add_value-in-Both.new.code.items c.open.new.code.items c.add_value-in-Both-2.new.code.items c.end_both.new.code.items c.in_ok-at-in-Both.at c.end_both.result
    c.in-Both.is c.deref-in-Both.ensures c.deref-in-Both-2.ensures c.in_ok-add_value-in-Both.ensures c.in_ok-at-in-Both.ensures.code c.in_ok-at-in-Both.ensures.place c.in_ok-add_value-in-Both-2.ensures c.end_both.ensures

pub add_value-returns-in_ok-add_value-in-Either-2 : goal.add_value-returns-in_ok-add_value-in-Either-2
add_value-returns-in_ok-add_value-in-Either-2 t c =
    either_arm c.args.scene.now c.args.slot (use_of c.args.usage) c.args.value.now c.in-Either.first c.in-Either.second c.deref-in-Either.result.now c.deref-in-Either-2.result.now
    c.args.code.now.items c.add_value-in-Either.new.code.items c.open_either.new.code.items c.add_value-in-Either-2.new.code.items c.end_either.new.code.items c.in_ok-at-in-Either.at c.end_either.result
    c.in-Either.is c.deref-in-Either.ensures c.deref-in-Either-2.ensures c.in_ok-add_value-in-Either.ensures c.in_ok-at-in-Either.ensures.code c.in_ok-at-in-Either.ensures.place c.in_ok-add_value-in-Either-2.ensures c.end_either.ensures

pub add_value-returns-in_ok-add_value-in-Cond-3 : goal.add_value-returns-in_ok-add_value-in-Cond-3
add_value-returns-in_ok-add_value-in-Cond-3 t c =
    cond_arm c.args.scene.now c.args.slot (use_of c.args.usage) c.args.value.now c.in-Cond.kind c.in-Cond.test c.in-Cond.first c.in-Cond.second c.deref-in-Cond.result.now c.deref-in-Cond-2.result.now c.deref-in-Cond-3.result.now
    c.args.code.now.items c.add_value-in-Cond.new.code.items c.open-in-Cond.new.code.items c.add_value-in-Cond-2.new.code.items c.close_skip.new.code.items c.open-in-Cond-2.new.code.items c.add_value-in-Cond-3.new.code.items c.end_choice.new.code.items
    c.in_ok-skip-in-Cond.skip c.in_ok-jump-in-Cond.jump c.end_choice.result
    c.in-Cond.is c.deref-in-Cond.ensures c.deref-in-Cond-2.ensures c.deref-in-Cond-3.ensures c.in_ok-add_value-in-Cond.ensures c.in_ok-skip-in-Cond.ensures.code c.in_ok-skip-in-Cond.ensures.place c.in_ok-add_value-in-Cond-2.ensures
    c.in_ok-close_skip-in-Cond.ensures c.in_ok-jump-in-Cond.ensures.code c.in_ok-jump-in-Cond.ensures.place c.in_ok-add_value-in-Cond-3.ensures c.end_choice.ensures
