use Rattle.bit_words.proofs.FoldingLaws.{folding_told}
use Rattle.bit_words.proofs.laws.folding_told.Goals as goal

pub returns : goal.returns
returns c = folding_told
