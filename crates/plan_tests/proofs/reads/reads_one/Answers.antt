use Rattle.plan_tests.proofs.Covering.{reads_one}
use Rattle.plan_tests.proofs.reads.reads_one.Goals as goal

pub returns-clause-tells : goal.returns-clause-tells
returns-clause-tells c y =
    reads_one c.args.known.now c.args.number c.args.i c.of.result.now c.of-2.result.now c.of.ensures c.of-2.ensures (c.includes.ensures.tells y)
