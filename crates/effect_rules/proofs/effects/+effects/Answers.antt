use Rattle.std.proofs.Common.{arith, ap}
use Rattle.effect_rules.specs.Effects as e
use Rattle.effect_rules.specs.Seen.{effects_of}
use Rattle.effect_rules.proofs.Arms.{list_step, clash_step, assign_arm, call_arm}
use Rattle.effect_rules.proofs.Sets.{argument_test, argument_same}
use Rattle.effect_rules.proofs.effects.+effects.Goals as goal

pub argument_effects-loop-value-preserved : goal.argument_effects-loop-value-preserved
argument_effects-loop-value-preserved t c = record {
  all = list_step c.args.values.now c.loop-value.value-index c.value-item.result (effects_of c.loop-value.all) (effects_of c.in_ok-own.own) (effects_of c.in_ok-all.all)
      (omega arith) c.value-item.is c.loop-value.invariant.all c.in_ok-own.ensures c.in_ok-all.ensures;
  test = clash_step c.args.values.now c.loop-value.value-index c.value-item.result (effects_of c.loop-value.all) (effects_of c.in_ok-own.own) c.loop-value.test c.either-test.result c.is_touched-clashes.result
      (omega arith) c.value-item.is c.loop-value.invariant.all c.in_ok-own.ensures c.loop-value.invariant.test
      (argument_test c.loop-value.touched.written.keys c.loop-value.touched.read.keys c.deref.result.now c.deref-in-loop-value.result.now (effects_of c.loop-value.all) (effects_of c.in_ok-own.own) c.is_touched-clashes.result
      c.loop-value.invariant.writes c.loop-value.invariant.reads c.deref.ensures.value c.deref-in-loop-value.ensures.value c.is_touched-clashes.ensures)
      c.either-test.ensures;
  writes = argument_same c.loop-value.touched.written.keys c.touch.new.touched.written.keys c.deref-in-loop-value-2.result.now c.in_ok-own.own.writes.items c.loop-value.all.writes.items c.in_ok-all.all.writes.items
      c.loop-value.invariant.writes c.in_ok-touch.ensures.writes c.deref-in-loop-value-2.ensures.value (ap (λ (z : e.Effects). z.writes) c.in_ok-all.ensures);
  reads = argument_same c.loop-value.touched.read.keys c.touch.new.touched.read.keys c.deref-in-loop-value-3.result.now c.in_ok-own.own.reads.items c.loop-value.all.reads.items c.in_ok-all.all.reads.items
      c.loop-value.invariant.reads c.in_ok-touch.ensures.reads c.deref-in-loop-value-3.ensures.value (ap (λ (z : e.Effects). z.reads) c.in_ok-all.ensures);
}

pub list_effects-loop-value-preserved : goal.list_effects-loop-value-preserved
list_effects-loop-value-preserved t c =
    list_step c.args.values.now c.loop-value.value-index c.value-item.result (effects_of c.loop-value.all) (effects_of c.in_ok-own.own) (effects_of c.in_ok-all.all)
    (omega arith) c.value-item.is c.loop-value.invariant c.in_ok-own.ensures c.in_ok-all.ensures

pub value_effects-returns-in_ok-inner-in-Assign : goal.value_effects-returns-in_ok-inner-in-Assign
value_effects-returns-in_ok-inner-in-Assign t c =
    assign_arm c.args.value.now c.in-Assign.field-0 c.in-Assign.at c.in-Assign.target c.in-Assign.inner c.deref-in-Assign.result.now c.deref-in-Assign-2.result.now c.deref-in-Assign-3.result.now c.object_in.result
    (effects_of c.in_ok-index-in-Assign.index) (effects_of c.in_ok-inner-in-Assign.inner) c.assigned.result
    c.in-Assign.is c.deref-in-Assign.ensures c.deref-in-Assign-2.ensures c.deref-in-Assign-3.ensures c.object_in.ensures c.in_ok-index-in-Assign.ensures c.in_ok-inner-in-Assign.ensures c.assigned.ensures

pub value_effects-returns-in-Call : goal.value_effects-returns-in-Call
value_effects-returns-in-Call t c =
    call_arm c.args.value.now c.in-Call.field-0 c.in-Call.field-1 c.in-Call.bracket c.in-Call.field-3 c.in-Call.values c.deref-in-Call.result.now c.argument_effects.result
    c.in-Call.is c.deref-in-Call.ensures.value c.argument_effects.ensures
