use Rattle.declaration_rules.proofs.Agreeing.{twice_told_is}
use Rattle.declaration_rules.proofs.laws.twice_told.Goals as goal

pub returns : goal.returns
returns c = twice_told_is
