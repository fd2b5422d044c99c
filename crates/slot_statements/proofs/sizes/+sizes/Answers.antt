use Rattle.std.proofs.Common.{arith, ap, ◌∙◌, ◌++◌}
use Rattle.slot_code.specs.Statements.{moved}
use Rattle.slot_statements.specs.Seen.{marks_of, measure_of}
use Rattle.slot_statements.specs.Measures as me
use Rattle.slot_statements.proofs.Arms.{size_step, marks_step, block_measured, for_measured}
use Rattle.slot_statements.proofs.sizes.+sizes.Goals as goal

pub measured_all-loop-step-preserved : goal.measured_all-loop-step-preserved
measured_all-loop-step-preserved t c = record {
  size = size_step c.args.frame.now c.args.steps.now c.loop-step.step-index c.step-item.result c.loop-step.size _ c.in_ok-size.size
      (omega arith) c.step-item.is c.loop-step.invariant.size (ap (λ (z : me.Measure). z.size) c.in_ok-own.ensures) c.in_ok-size.ensures.value;
  marks = marks_step c.args.frame.now c.args.steps.now c.loop-step.step-index c.step-item.result c.loop-step.size (measure_of c.in_ok-own.own) (marks_of c.loop-step.marks.items) (marks_of c.add_moved.new.all.items)
      (omega arith) c.step-item.is c.loop-step.invariant.size c.loop-step.invariant.marks c.in_ok-own.ensures (c.in_ok-add_moved.ensures ∙ ap (λ z. marks_of c.loop-step.marks.items ++ moved c.loop-step.size (marks_of z)) c.deref.ensures.value);
}

pub measured-returns-in-Block : goal.measured-returns-in-Block
measured-returns-in-Block t c =
    block_measured c.args.frame.now c.args.step.now c.in-Block.steps c.deref-in-Block.result.now c.measured_all.result c.in-Block.is c.deref-in-Block.ensures.value c.measured_all.ensures

pub measured-returns-in_ok-body-in-For : goal.measured-returns-in_ok-body-in-For
measured-returns-in_ok-body-in-For t c =
    for_measured c.args.frame.now c.args.step.now c.in-For.field-0 c.in-For.start c.in-For.test c.in-For.third c.in-For.body c.deref-in-For.result.now c.deref-in-For-2.result.now c.in_ok-before-in-For.before (measure_of c.in_ok-body-in-For.body) c.counted.result
    c.in-For.is c.deref-in-For.ensures.value c.deref-in-For-2.ensures c.in_ok-before-in-For.ensures c.in_ok-body-in-For.ensures c.counted.ensures
