use Rattle.first_token_laws.proofs.FirstRefused.{one_first}
use Rattle.first_token_laws.proofs.one_first.Goals as goal

pub returns : goal.returns
returns c = one_first
