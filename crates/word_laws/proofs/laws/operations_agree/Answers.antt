use Rattle.word_laws.proofs.Whole as law
use Rattle.word_laws.proofs.laws.operations_agree.Goals as goal

pub returns : goal.returns
returns c = law.operations
