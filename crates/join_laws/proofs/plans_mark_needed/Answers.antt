use Rattle.join_laws.proofs.Visits as law
use Rattle.join_laws.proofs.plans_mark_needed.Goals as goal

pub returns : goal.returns
returns c = law.plans_mark_needed
