use Rattle.std.proofs.Common.{arith}
use Rattle.jump_rules.specs.Seen.{state_of}
use Rattle.jump_rules.proofs.Arms.{declared_step}
use Rattle.jump_rules.proofs.walk.add_all_declared.Goals as goal

pub loop-step-preserved : goal.loop-step-preserved
loop-step-preserved c =
    declared_step c.args.steps.now c.loop-step.step-index c.step-item.result (state_of c.args.walk.now) (state_of c.loop-step.walk) (state_of c.add_declared.new.walk)
    (omega arith) c.step-item.is c.loop-step.invariant c.in_ok-add_declared.ensures
