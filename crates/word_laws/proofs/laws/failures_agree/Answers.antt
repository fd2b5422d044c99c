use Rattle.word_laws.proofs.Whole as law
use Rattle.word_laws.proofs.laws.failures_agree.Goals as goal

pub returns : goal.returns
returns c = law.all_failures
