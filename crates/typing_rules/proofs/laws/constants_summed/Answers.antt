use Rattle.typing_rules.proofs.Summing.{constant_is}
use Rattle.typing_rules.proofs.laws.constants_summed.Goals as goal

pub returns : goal.returns
returns c = constant_is
