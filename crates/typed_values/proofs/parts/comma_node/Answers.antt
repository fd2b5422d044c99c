use Rattle.typed_values.proofs.Views.{value_Comma}
use Rattle.typed_values.proofs.parts.comma_node.Goals as goal

pub returns : goal.returns
returns c = value_Comma c.args.before c.args.last
