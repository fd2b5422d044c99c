use Rattle.interpolants.proofs.Along as law
use Rattle.interpolants.proofs.laws.formulas_lead.Goals as goal

pub returns : goal.returns
returns c = law.formulas_lead
