use Rattle.trace_sites.proofs.Lists.{cases_arm}
use Rattle.trace_sites.proofs.statements.+cases.Goals as goal

pub case_sites-returns-in-Block : goal.case_sites-returns-in-Block
case_sites-returns-in-Block t c =
    cases_arm c.args.found.now.items c.all_case_sites.new.found.items c.args.statement.now c.in-Block.field-0 c.in-Block.statements c.in-Block.field-2 c.deref.result.now c.all_case_sites.result
    c.in-Block.is c.deref.ensures.value c.all_case_sites.ensures
