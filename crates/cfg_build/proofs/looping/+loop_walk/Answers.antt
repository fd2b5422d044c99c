use Rattle.std.proofs.Common.{arith}
use Rattle.cfg_build.proofs.Walking.{in-block, steps-more}
use Rattle.cfg_build.proofs.looping.+loop_walk.Goals as goal

pub loops_of-returns-in-Block : goal.loops_of-returns-in-Block
loops_of-returns-in-Block t c =
    in-block c.args.step.now c.in-Block.steps c.deref.result.now c.args.found.now.items c.loops_in.new.found.items c.loops_in.result c.in-Block.is c.deref.ensures.value c.loops_in.ensures

pub loops_in-loop-step-preserved : goal.loops_in-loop-step-preserved
loops_in-loop-step-preserved t c =
    steps-more c.args.steps.now c.loop-step.step-index c.step-item.result c.args.found.now.items c.loop-step.found.items c.loops_of.new.found.items
    (omega arith) c.step-item.is c.loop-step.invariant c.in_ok-loops_of.ensures
