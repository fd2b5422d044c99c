use Rattle.code_back_laws.proofs.Whole as law
use Rattle.code_back_laws.proofs.moves_are_determined.Goals as goal

pub returns : goal.returns
returns c = law.moves-are-determined
