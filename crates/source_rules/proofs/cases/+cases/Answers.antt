use Rattle.std.proofs.Common.{arith}
use Rattle.type_scopes.specs.Seen.{env_of}
use Rattle.source_rules.specs.Cases.{cases}
use Rattle.source_rules.proofs.Arms.{cases_step, cases_block}
use Rattle.source_rules.proofs.cases.+cases.Goals as goal

pub cases_in-returns-in-Block : goal.cases_in-returns-in-Block
cases_in-returns-in-Block t c =
    cases_block (env_of c.args.env.now) c.args.model c.args.kind c.args.statement.now c.in-Block.field-0 c.in-Block.list c.in-Block.field-2 c.deref.result.now (cases c.args.found.now.items) (cases c.cases_in_all.new.found.items) c.cases_in_all.result
    c.in-Block.is c.deref.ensures.value c.cases_in_all.ensures

pub cases_in_all-loop-statement-preserved : goal.cases_in_all-loop-statement-preserved
cases_in_all-loop-statement-preserved t c =
    cases_step (env_of c.args.env.now) c.args.model c.args.kind c.args.statements.now c.loop-statement.statement-index c.statement-item.result (cases c.args.found.now.items) (cases c.loop-statement.found.items) (cases c.cases_in.new.found.items)
    (omega arith) c.statement-item.is c.loop-statement.invariant c.in_ok-cases_in.ensures
