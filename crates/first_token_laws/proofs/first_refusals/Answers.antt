use Rattle.first_token_laws.proofs.FirstRefused.{first_refused}
use Rattle.first_token_laws.proofs.first_refusals.Goals as goal

pub returns : goal.returns
returns c = first_refused
