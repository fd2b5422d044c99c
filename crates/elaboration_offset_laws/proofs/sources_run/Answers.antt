use Rattle.elaboration_offset_laws.proofs.Sources.{sources_run_are}
use Rattle.elaboration_offset_laws.proofs.sources_run.Goals as goal

pub returns : goal.returns
returns c = sources_run_are c.sources_hold.ensures c.sources_fit.ensures c.same_run.ensures
