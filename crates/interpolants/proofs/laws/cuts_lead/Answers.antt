use Rattle.interpolants.proofs.Cutting as law
use Rattle.interpolants.proofs.laws.cuts_lead.Goals as goal

pub returns : goal.returns
returns c = law.cuts_lead
