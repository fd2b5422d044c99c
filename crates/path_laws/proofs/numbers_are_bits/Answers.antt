use Rattle.path_laws.proofs.Spelling as law
use Rattle.path_laws.proofs.numbers_are_bits.Goals as goal

pub returns : goal.returns
returns c = law.numbers_are_bits
