use Rattle.request_answers.proofs.Exact as law
use Rattle.request_answers.proofs.laws.safe_is_accepted.Goals as goal

pub returns : goal.returns
returns c = law.safe_accepted
