use Rattle.first_token_laws.proofs.Viable.{viable}
use Rattle.first_token_laws.proofs.viable_tokens.Goals as goal

pub returns : goal.returns
returns c = viable
