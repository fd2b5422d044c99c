use Rattle.plan_tests.proofs.Covering.{term_flows}
use Rattle.plan_tests.proofs.flow.term_flows.Goals as goal

pub returns-clause-tells : goal.returns-clause-tells
returns-clause-tells c y = term_flows c.args.known.now c.args.node c.args.before.now c.args.term c.of.result.now c.of.ensures (c.all_covered.ensures.tells y)
