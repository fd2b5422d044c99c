use Rattle.interpolants.proofs.Along as law
use Rattle.interpolants.proofs.laws.first_is_meant.Goals as goal

pub returns : goal.returns
returns c = law.first_is_meant
