use Rattle.parse_stack.proofs.Views.{word_TagEnum}
use Rattle.parse_stack.proofs.nodes.tagged_node.Goals as goal

pub returns : goal.returns
returns c = word_TagEnum c.args.at c.args.name c.args.x c.args.y c.args.row.constants c.args.comma c.args.close
