use Rattle.source_visit_laws.proofs.Holding as law
use Rattle.source_visit_laws.proofs.visits_hold.Goals as goal

pub returns : goal.returns
returns c = law.visits-hold
