use Rattle.interpolants.proofs.Cutting as law
use Rattle.interpolants.proofs.laws.last_is_false.Goals as goal

pub returns : goal.returns
returns c = law.last_is_false
