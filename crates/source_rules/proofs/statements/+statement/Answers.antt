use Rattle.std.proofs.Common.{arith}
use Rattle.first_broken.specs.Seen.{found_of}
use Rattle.type_scopes.specs.Seen.{env_of}
use Rattle.source_rules.proofs.Arms.{statements_step, block_arm}
use Rattle.source_rules.proofs.statements.+statement.Goals as goal

pub statement_found-returns-in-Block : goal.statement_found-returns-in-Block
statement_found-returns-in-Block t c =
    block_arm (env_of c.args.env.now) c.args.model c.args.bodies.now c.args.again.now c.args.kind c.args.statement.now c.in-Block.field-0 c.in-Block.list c.in-Block.field-2 c.deref.result.now c.statements_found.result
    c.in-Block.is c.deref.ensures.value c.statements_found.ensures

pub statements_found-loop-statement-preserved : goal.statements_found-loop-statement-preserved
statements_found-loop-statement-preserved t c =
    statements_step (env_of c.args.env.now) c.args.model c.args.bodies.now c.args.again.now c.args.kind c.args.statements.now c.loop-statement.statement-index c.statement-item.result (found_of c.loop-statement.all) (found_of c.in_ok-own.own) (found_of c.both-all.result)
    (omega arith) c.statement-item.is c.loop-statement.invariant c.in_ok-own.ensures c.both-all.ensures
