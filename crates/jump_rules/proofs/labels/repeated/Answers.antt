use Rattle.std.proofs.Common.{arith}
use Rattle.first_broken.specs.Seen.{found_of}
use Rattle.jump_rules.proofs.Naming.{second_is}
use Rattle.jump_rules.proofs.Rows.{repeated_step}
use Rattle.jump_rules.proofs.labels.repeated.Goals as goal

pub loop-i-preserved : goal.loop-i-preserved
loop-i-preserved c =
    repeated_step c.args.named.now.labels.now c.loop-i.i c.label-item.result c.is_there-test.result (found_of c.loop-i.all) (found_of c.line.result) (found_of c.both-all.result)
    (omega arith) c.label-item.is
    (second_is c.args.named.now.labels.now c.loop-i.i c.label-item.result c.args.named.now.before.items c.before_of.result c.is_there-test.result (omega arith) c.label-item.is c.requires c.before_of.ensures c.is_there-test.ensures)
    c.loop-i.invariant c.line.ensures c.both-all.ensures
