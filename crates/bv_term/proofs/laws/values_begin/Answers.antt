use Rattle.bv_term.proofs.Continuing as law
use Rattle.bv_term.proofs.laws.values_begin.Goals as goal

pub returns : goal.returns
returns c = law.values_begin
