use Rattle.source_visit_laws.proofs.Inlined as law
use Rattle.source_visit_laws.proofs.inlined_visits_follow.Goals as goal

pub returns : goal.returns
returns c = law.inlined-visits-follow
