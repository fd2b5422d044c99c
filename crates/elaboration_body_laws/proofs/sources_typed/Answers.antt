use Rattle.elaboration_body_laws.proofs.Whole.{sources_typed_are}
use Rattle.elaboration_body_laws.proofs.sources_typed.Goals as goal

pub returns : goal.returns
returns c = sources_typed_are c.sources_hold.ensures c.objects_typed.ensures c.parameters_typed.ensures c.main_found.ensures
