use Rattle.elaboration_offset_laws.proofs.Objects.{objects_typed_are}
use Rattle.elaboration_offset_laws.proofs.objects_typed.Goals as goal

pub returns : goal.returns
returns c = objects_typed_are c.sources_hold.ensures
