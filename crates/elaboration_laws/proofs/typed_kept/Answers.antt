use Rattle.elaboration_laws.proofs.Whole.{typed_kept_are}
use Rattle.elaboration_laws.proofs.typed_kept.Goals as goal

pub returns : goal.returns
returns c = typed_kept_are c.sources_typed.ensures
