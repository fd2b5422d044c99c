use Rattle.interpolants.proofs.Cutting as law
use Rattle.interpolants.proofs.laws.first_is_true.Goals as goal

pub returns : goal.returns
returns c = law.first_is_true
