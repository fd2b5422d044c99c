use Rattle.parse_stack.proofs.Views.{word_Enum}
use Rattle.parse_stack.proofs.nodes.bare_node.Goals as goal

pub returns : goal.returns
returns c = word_Enum c.args.at c.args.x c.args.row.constants c.args.comma c.args.close
