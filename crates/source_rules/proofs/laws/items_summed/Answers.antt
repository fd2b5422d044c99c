use Rattle.source_rules.proofs.Summing.{items_are}
use Rattle.source_rules.proofs.laws.items_summed.Goals as goal

pub returns : goal.returns
returns c = items_are
