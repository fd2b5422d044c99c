use Rattle.trace_sites.proofs.Lists.{call_arm, comma_arm}
use Rattle.trace_sites.proofs.expressions.+sites.Goals as goal

pub expression_sites-returns-in_ok-part_sites-in-Call : goal.expression_sites-returns-in_ok-part_sites-in-Call
expression_sites-returns-in_ok-part_sites-in-Call t c =
    call_arm c.args.found.now.items c.part_sites.new.found.items c.add_draw.new.found.items c.args.e.now c.deref-in-Call-2.result.now c.in-Call.called c.in-Call.field-1 c.in-Call.parts c.in-Call.field-3 c.deref-in-Call.result.now c.add_draw.result
    c.in-Call.is c.deref-in-Call.ensures.value c.deref-in-Call-2.ensures c.in_ok-part_sites-in-Call.ensures c.add_draw.ensures

pub expression_sites-returns-in-Comma : goal.expression_sites-returns-in-Comma
expression_sites-returns-in-Comma t c =
    comma_arm c.args.found.now.items c.part_sites-in-Comma.new.found.items c.args.e.now c.in-Comma.parts c.deref-in-Comma.result.now c.part_sites-in-Comma.result
    c.in-Comma.is c.deref-in-Comma.ensures.value c.part_sites-in-Comma.ensures
