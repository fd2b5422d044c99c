use Rattle.request_answers.proofs.Exact as law
use Rattle.request_answers.proofs.laws.checks_agree.Goals as goal

pub returns : goal.returns
returns c = law.checks_agree
