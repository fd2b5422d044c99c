use Rattle.bit_words.proofs.FoldingLaws.{folding_small}
use Rattle.bit_words.proofs.laws.folding_small.Goals as goal

pub returns : goal.returns
returns c = folding_small
