use Rattle.std.proofs.Common.{arith, ap, ◌∙◌, ◌++◌}
use Rattle.slot_statements.proofs.Arms.{code_step, size_step, block_code, for_code}
use Rattle.slot_statements.proofs.steps.+steps.Goals as goal

pub steps_code-loop-step-preserved : goal.steps_code-loop-step-preserved
steps_code-loop-step-preserved t c = record {
  code = code_step c.args.frame.now c.args.exits.now c.args.aims c.args.steps.now c.loop-step.step-index c.step-item.result c.loop-step.size c.in_ok-beyond.field-0 c.loop-step.code.items c.in_ok-own.own.items c.in_ok-code.code.items
      (omega arith) c.step-item.is c.loop-step.invariant.size c.loop-step.invariant.code c.in_ok-beyond.ensures c.in_ok-own.ensures (c.in_ok-code.ensures ∙ ap (λ z. c.loop-step.code.items ++ z) c.deref.ensures.value);
  size = size_step c.args.frame.now c.args.steps.now c.loop-step.step-index c.step-item.result c.loop-step.size c.in_ok-size_of.field-0 c.in_ok-size.size
      (omega arith) c.step-item.is c.loop-step.invariant.size c.in_ok-size_of.ensures c.in_ok-size.ensures.value;
}

pub step_code-returns-in-Block : goal.step_code-returns-in-Block
step_code-returns-in-Block t c =
    block_code c.args.frame.now c.args.exits.now c.args.aims c.args.step.now c.in-Block.steps c.deref-in-Block.result.now c.steps_code.result c.in-Block.is c.deref-in-Block.ensures.value c.steps_code.ensures

pub step_code-returns-in_ok-code-in-For : goal.step_code-returns-in_ok-code-in-For
step_code-returns-in_ok-code-in-For t c =
    for_code c.args.frame.now c.args.exits.now c.args.aims c.args.step.now c.in-For.at c.in-For.start c.in-For.test c.in-For.third c.in-For.body
    c.deref-in-For.result.now c.deref-in-For-3.result.now c.deref-in-For-4.result.now c.deref-in-For-2.result.now c.deref-in-For-5.result.now
    c.in_ok-inside-in-For.inside c.in_ok-place-in-For.place c.in_ok-begins-in-For.begins.items c.in_ok-code-in-For.code.items c.for_step.result
    c.in-For.is c.deref-in-For.ensures.value c.deref-in-For-3.ensures.value c.deref-in-For-4.ensures.value c.deref-in-For-2.ensures c.deref-in-For-5.ensures
    c.in_ok-inside-in-For.ensures c.in_ok-place-in-For.ensures c.in_ok-begins-in-For.ensures c.in_ok-code-in-For.ensures c.for_step.ensures
