use Rattle.elaboration_source_laws.proofs.Programs.{objects_kept_are}
use Rattle.elaboration_source_laws.proofs.objects_kept.Goals as goal

pub returns : goal.returns
returns c = objects_kept_are c.tokens_rise.ensures c.objects_typed.ensures c.parameters_typed.ensures
