use Rattle.interpolants.proofs.Along as law
use Rattle.interpolants.proofs.laws.agreed_are_given.Goals as goal

pub returns : goal.returns
returns c = law.agreed_are_given
