use Rattle.trace_sites.proofs.Lists.{block_arm}
use Rattle.trace_sites.proofs.statements.+statements.Goals as goal

pub statement_sites-returns-in-Block : goal.statement_sites-returns-in-Block
statement_sites-returns-in-Block t c =
    block_arm c.args.found.now.items c.all_sites.new.found.items c.args.statement.now c.in-Block.field-0 c.in-Block.statements c.in-Block.field-2 c.deref.result.now c.all_sites.result
    c.in-Block.is c.deref.ensures.value c.all_sites.ensures
