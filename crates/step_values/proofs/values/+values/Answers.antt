use Rattle.std.proofs.Common.{arith}
use Rattle.step_values.specs.Seen.{values}
use Rattle.step_values.proofs.Arms.{block_arm, for_arm, steps_step}
use Rattle.step_values.proofs.values.+values.Goals as goal

pub values_in-returns-in-Block : goal.values_in-returns-in-Block
values_in-returns-in-Block t c =
    block_arm c.args.step.now c.in-Block.steps c.deref-in-Block.result.now (values c.args.found.now.items) (values c.values_in_all.new.found.items) c.values_in_all.result
    c.in-Block.is c.deref-in-Block.ensures.value c.values_in_all.ensures

pub values_in-returns-in_ok-add_option-in-For-2 : goal.values_in-returns-in_ok-add_option-in-For-2
values_in-returns-in_ok-add_option-in-For-2 t c =
    for_arm c.args.step.now c.in-For.field-0 c.in-For.start c.in-For.test c.in-For.third c.in-For.inner c.deref-in-For.result.now c.deref-in-For-2.result.now
    (values c.args.found.now.items) (values c.values_in_all-in-For.new.found.items) (values c.add_option.new.found.items) (values c.add_option-in-For.new.found.items) (values c.values_in-in-For.new.found.items) c.values_in-in-For.result
    c.in-For.is c.deref-in-For.ensures.value c.deref-in-For-2.ensures c.in_ok-values_in_all-in-For.ensures c.in_ok-add_option-in-For.ensures c.in_ok-add_option-in-For-2.ensures c.values_in-in-For.ensures

pub values_in_all-loop-step-preserved : goal.values_in_all-loop-step-preserved
values_in_all-loop-step-preserved t c =
    steps_step c.args.steps.now c.loop-step.step-index c.step-item.result (values c.args.found.now.items) (values c.loop-step.found.items) (values c.values_in.new.found.items)
    (omega arith) c.step-item.is c.loop-step.invariant c.in_ok-values_in.ensures
