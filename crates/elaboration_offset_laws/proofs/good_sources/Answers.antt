use Rattle.elaboration_offset_laws.proofs.Sources.{good_sources_are}
use Rattle.elaboration_offset_laws.proofs.good_sources.Goals as goal

pub returns : goal.returns
returns c = good_sources_are c.sources_run.ensures c.sources_break.ensures
