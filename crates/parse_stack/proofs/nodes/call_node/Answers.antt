use Rattle.parse_stack.proofs.Views.{expr_Call}
use Rattle.parse_stack.proofs.nodes.call_node.Goals as goal

pub returns : goal.returns
returns c = expr_Call c.args.f c.args.a c.args.row.parts c.args.b
