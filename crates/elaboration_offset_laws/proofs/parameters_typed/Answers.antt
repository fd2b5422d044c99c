use Rattle.elaboration_offset_laws.proofs.Parameters.{parameters_typed_are}
use Rattle.elaboration_offset_laws.proofs.parameters_typed.Goals as goal

pub returns : goal.returns
returns c = parameters_typed_are
