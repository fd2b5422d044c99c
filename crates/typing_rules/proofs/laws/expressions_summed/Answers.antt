use Rattle.typing_rules.proofs.Summing.{expression_is}
use Rattle.typing_rules.proofs.laws.expressions_summed.Goals as goal

pub returns : goal.returns
returns c = expression_is
