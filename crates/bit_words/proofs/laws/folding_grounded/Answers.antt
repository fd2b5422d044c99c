use Rattle.bit_words.proofs.FoldingLaws.{folding_grounded}
use Rattle.bit_words.proofs.laws.folding_grounded.Goals as goal

pub returns : goal.returns
returns c = folding_grounded
