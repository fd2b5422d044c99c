use Rattle.loop_visit_laws.proofs.Following as law
use Rattle.loop_visit_laws.proofs.loop_visits_follow.Goals as goal

pub returns : goal.returns
returns c = law.loop-visits-follow
