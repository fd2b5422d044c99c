use Rattle.stored_text.proofs.Whole.{over_named}
use Rattle.stored_text.proofs.laws.over_is_named.Goals as goal

pub returns : goal.returns
returns c = over_named
