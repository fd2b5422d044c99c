use Rattle.c_parser.proofs.Views.{statement_Block}
use Rattle.c_parser.proofs.statements.block_statement.Goals as goal

pub returns : goal.returns
returns c = statement_Block c.args.a c.args.statements c.args.b
