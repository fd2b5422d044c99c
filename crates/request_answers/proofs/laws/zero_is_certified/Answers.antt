use Rattle.request_answers.proofs.Zero.{zero_certified}
use Rattle.request_answers.proofs.laws.zero_is_certified.Goals as goal

pub returns : goal.returns
returns c = zero_certified
