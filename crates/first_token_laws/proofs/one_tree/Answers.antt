use Rattle.first_token_laws.proofs.UniqueFile.{one_tree}
use Rattle.first_token_laws.proofs.one_tree.Goals as goal

pub returns : goal.returns
returns c = one_tree
