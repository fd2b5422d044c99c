use Rattle.std.proofs.Common.{arith}
use Rattle.first_broken.specs.Seen.{found_of}
use Rattle.jump_rules.proofs.Rows.{entering_step}
use Rattle.jump_rules.proofs.labels.entering.Goals as goal

pub loop-goto-preserved : goal.loop-goto-preserved
loop-goto-preserved c =
    entering_step c.args.named.now.labels.now c.args.gotos.now c.loop-goto.goto-index c.goto-item.result c.is_entering-test.result (found_of c.loop-goto.all) (found_of c.line.result) (found_of c.both-all.result)
    (omega arith) c.goto-item.is c.is_entering-test.ensures c.loop-goto.invariant c.line.ensures c.both-all.ensures
