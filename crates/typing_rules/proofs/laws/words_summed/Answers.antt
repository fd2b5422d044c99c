use Rattle.typing_rules.proofs.Summing.{words_are}
use Rattle.typing_rules.proofs.laws.words_summed.Goals as goal

pub returns : goal.returns
returns c = words_are
