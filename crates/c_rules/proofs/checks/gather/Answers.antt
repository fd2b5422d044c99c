use Rattle.std.proofs.Common.{arith}
use Rattle.c_rules.specs.Seen.{gathering_of}
use Rattle.c_rules.proofs.Arms.{gather_step}
use Rattle.c_rules.proofs.checks.gather.Goals as goal

pub loop-i-preserved : goal.loop-i-preserved
loop-i-preserved c =
    gather_step c.args.functions.now c.loop-i.i c.index-functions-i.result (gathering_of c.loop-i.gathered) (gathering_of c.add_function.new.gathered)
    (omega arith) c.index-functions-i.is c.loop-i.invariant c.in_ok-add_function.ensures
