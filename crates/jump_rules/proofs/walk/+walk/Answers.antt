use Rattle.std.proofs.Common.{arith}
use Rattle.jump_rules.specs.Seen.{state_of}
use Rattle.jump_rules.proofs.Arms.{block_arm, for_arm, walk_more}
use Rattle.jump_rules.proofs.walk.+walk.Goals as goal

pub walk_step-returns-in_ok-walk_steps-in-Block : goal.walk_step-returns-in_ok-walk_steps-in-Block
walk_step-returns-in_ok-walk_steps-in-Block t c =
    block_arm c.args.kind c.args.in_loop c.args.switch c.args.step.now c.in-Block.steps c.deref.result.now c.depth_of-depth.result (state_of c.args.walk.now) (state_of c.walk_steps.new.walk) (state_of c.leave.new.walk)
    c.in-Block.is c.deref.ensures.value c.depth_of-depth.ensures c.in_ok-walk_steps-in-Block.ensures c.leave.ensures

pub walk_step-returns-in_ok-walk_step-in-For : goal.walk_step-returns-in_ok-walk_step-in-For
walk_step-returns-in_ok-walk_step-in-For t c =
    for_arm c.args.kind c.args.in_loop c.args.switch c.args.step.now c.in-For.field-0 c.in-For.start c.in-For.field-2 c.in-For.field-3 c.in-For.inner c.deref-in-For.result.now c.deref-in-For-2.result.now c.depth_of-depth-in-For.result
    (state_of c.args.walk.now) (state_of c.add_all_declared.new.walk) (state_of c.walk_step-in-For.new.walk) (state_of c.leave-in-For.new.walk)
    c.in-For.is c.deref-in-For.ensures.value c.deref-in-For-2.ensures c.depth_of-depth-in-For.ensures c.in_ok-add_all_declared-in-For.ensures c.in_ok-walk_step-in-For.ensures c.leave-in-For.ensures

pub walk_steps-loop-step-preserved : goal.walk_steps-loop-step-preserved
walk_steps-loop-step-preserved t c =
    walk_more c.args.kind c.args.in_loop c.args.switch c.args.steps.now c.loop-step.step-index c.step-item.result (state_of c.args.walk.now) (state_of c.loop-step.walk) (state_of c.walk_step.new.walk) (state_of c.add_declared.new.walk)
    (omega arith) c.step-item.is c.loop-step.invariant c.in_ok-walk_step.ensures c.in_ok-add_declared.ensures
