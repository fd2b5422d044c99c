use Rattle.code_visit_laws.proofs.Visiting as law
use Rattle.code_visit_laws.proofs.flat_visits_follow.Goals as goal

pub returns : goal.returns
returns c = law.flat-visits-follow
