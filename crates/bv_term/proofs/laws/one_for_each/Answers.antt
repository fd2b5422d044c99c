use Rattle.bv_term.proofs.Staying as law
use Rattle.bv_term.proofs.laws.one_for_each.Goals as goal

pub returns : goal.returns
returns c = law.one_for_each
