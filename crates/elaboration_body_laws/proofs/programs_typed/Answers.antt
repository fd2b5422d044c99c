use Rattle.elaboration_body_laws.proofs.Whole.{programs_typed_are}
use Rattle.elaboration_body_laws.proofs.programs_typed.Goals as goal

pub returns : goal.returns
returns c = programs_typed_are c.tokens_rise.ensures c.sources_typed.ensures
