use Rattle.interpolants.proofs.Along as law
use Rattle.interpolants.proofs.laws.formulas_read_their_cut.Goals as goal

pub returns : goal.returns
returns c = law.formulas_read_their_cut
