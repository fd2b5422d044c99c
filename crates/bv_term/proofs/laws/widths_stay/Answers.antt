use Rattle.bv_term.proofs.Staying as law
use Rattle.bv_term.proofs.laws.widths_stay.Goals as goal

pub returns : goal.returns
returns c = law.widths_stay
