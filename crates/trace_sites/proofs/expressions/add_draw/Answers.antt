use Rattle.trace_sites.proofs.Draws.{name_arm, other_arm}
use Rattle.trace_sites.proofs.expressions.add_draw.Goals as goal

pub returns-in-Name : goal.returns-in-Name
returns-in-Name c = name_arm c.args.found.now.items c.add_drawn.new.found.items c.args.called.now c.in-Name.name c.as_bytes.result.now c.in-Name.at c.add_drawn.result c.in-Name.is c.as_bytes.ensures c.add_drawn.ensures

pub returns-in_default : goal.returns-in_default
returns-in_default c = other_arm c.args.found.now.items c.args.called.now c.in_default.not-Name
