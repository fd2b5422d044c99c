use Rattle.effect_rules.proofs.Summing.{effects_summed}
use Rattle.effect_rules.proofs.laws.effects_summed.Goals as goal

pub returns : goal.returns
returns c = effects_summed
