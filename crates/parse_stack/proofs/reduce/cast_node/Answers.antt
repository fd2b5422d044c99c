use Rattle.parse_stack.proofs.Views.{expr_Cast}
use Rattle.parse_stack.proofs.reduce.cast_node.Goals as goal

pub returns : goal.returns
returns c = expr_Cast c.args.a c.args.s.words c.args.b c.args.e
