use Rattle.std.proofs.Common.{arith}
use Rattle.first_broken.specs.Seen.{found_of}
use Rattle.jump_rules.proofs.Naming.{there_is}
use Rattle.jump_rules.proofs.Rows.{lost_step}
use Rattle.jump_rules.proofs.labels.lost.Goals as goal

pub loop-goto-preserved : goal.loop-goto-preserved
loop-goto-preserved c =
    lost_step c.args.named.now.labels.now c.args.gotos.now c.loop-goto.goto-index c.goto-item.result c.is_there-test.result (found_of c.loop-goto.all) (found_of c.line.result) (found_of c.both-all.result)
    (omega arith) c.goto-item.is
    (there_is c.args.named.now.labels.now c.goto-item.result c.as_bytes.result.now c.args.named.now.last c.last_of.result c.is_there-test.result c.requires c.as_bytes.ensures c.last_of.ensures c.is_there-test.ensures)
    c.loop-goto.invariant c.line.ensures c.both-all.ensures
