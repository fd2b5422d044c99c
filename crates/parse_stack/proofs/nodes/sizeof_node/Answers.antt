use Rattle.parse_stack.proofs.Views.{expr_SizeofType}
use Rattle.parse_stack.proofs.nodes.sizeof_node.Goals as goal

pub returns : goal.returns
returns c = expr_SizeofType c.args.x c.args.a c.args.s.words c.args.b
