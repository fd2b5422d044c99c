use Rattle.word_laws.proofs.Whole as law
use Rattle.word_laws.proofs.laws.negations_agree.Goals as goal

pub returns : goal.returns
returns c = law.negations
