use Rattle.interpolants.proofs.Along as law
use Rattle.interpolants.proofs.laws.last_is_meant.Goals as goal

pub returns : goal.returns
returns c = law.last_is_meant
