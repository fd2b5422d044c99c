use Rattle.path_weight_laws.proofs.Belows as law
use Rattle.path_weight_laws.proofs.terms_are_below.Goals as goal

pub returns : goal.returns
returns c = law.terms_are_below
