use Rattle.first_token_laws.proofs.HighFirst.{high_first}
use Rattle.first_token_laws.proofs.limits.Goals as goal

pub returns : goal.returns
returns c = high_first
