use Rattle.typed_values.proofs.Views.{value_Call}
use Rattle.typed_values.proofs.calls.call_node.Goals as goal

pub returns : goal.returns
returns c = value_Call c.args.declared_result c.args.at c.args.bracket c.args.function c.args.arguments
