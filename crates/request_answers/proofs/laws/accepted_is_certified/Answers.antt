use Rattle.request_answers.proofs.Checks.{accepted_certified}
use Rattle.request_answers.proofs.laws.accepted_is_certified.Goals as goal

pub returns : goal.returns
returns c = accepted_certified
