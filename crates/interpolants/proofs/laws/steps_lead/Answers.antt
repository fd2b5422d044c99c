use Rattle.interpolants.proofs.Cutting as law
use Rattle.interpolants.proofs.laws.steps_lead.Goals as goal

pub returns : goal.returns
returns c = law.steps_lead
