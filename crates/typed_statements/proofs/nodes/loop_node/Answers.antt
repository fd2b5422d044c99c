use Rattle.typed_statements.proofs.Views.{step_For}
use Rattle.typed_statements.proofs.nodes.loop_node.Goals as goal

pub returns : goal.returns
returns c = step_For c.args.at c.args.start c.args.test c.args.third c.args.body
