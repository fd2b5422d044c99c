use Rattle.request_answers.proofs.Exact as law
use Rattle.request_answers.proofs.laws.accepted_is_exact.Goals as goal

pub returns : goal.returns
returns c = law.accepted_exact
