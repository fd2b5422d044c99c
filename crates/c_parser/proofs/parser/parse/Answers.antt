use Rattle.c_parser.proofs.ReadingLaws.{denoted, alone, refusal}
use Rattle.c_parser.proofs.parser.parse.Goals as goal

pub returns-clause-tree : goal.returns-clause-tree
returns-clause-tree c = denoted c.args.tokens.now c.read.result c.read.ensures

pub returns-clause-only : goal.returns-clause-only
returns-clause-only c = alone c.args.tokens.now c.read.result c.read.ensures

pub returns-clause-refused : goal.returns-clause-refused
returns-clause-refused c = refusal c.args.tokens.now c.read.result c.read.ensures
