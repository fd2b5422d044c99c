use Rattle.bv_term.proofs.Staying as law
use Rattle.bv_term.proofs.laws.values_stay.Goals as goal

pub returns : goal.returns
returns c = law.values_stay
