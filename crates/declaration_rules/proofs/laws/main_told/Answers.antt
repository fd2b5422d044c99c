use Rattle.declaration_rules.proofs.Telling.{main_told_is}
use Rattle.declaration_rules.proofs.laws.main_told.Goals as goal

pub returns : goal.returns
returns c = main_told_is
