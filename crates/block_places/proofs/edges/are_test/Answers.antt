use Rattle.c_graph.specs.declared.graph.Operation.TheVariants.{Assume}
use Rattle.block_places.proofs.Covering.{only}
use Rattle.block_places.proofs.edges.are_test.Goals as goal

pub returns-then-ops-eq1-clause-tells : goal.returns-then-ops-eq1-clause-tells
returns-then-ops-eq1-clause-tells c = λ t. only c.args.ops.now (Assume c.args.test) c.if-ops-eq1.true (c.tests_first.ensures.tells t)
