use Rattle.term_laws.proofs.Made as law
use Rattle.term_laws.proofs.laws.terms_are_made.Goals as goal

pub returns : goal.returns
returns c = law.made
