use Rattle.elaboration_offset_laws.proofs.Sources.{sources_break_are}
use Rattle.elaboration_offset_laws.proofs.sources_break.Goals as goal

pub returns : goal.returns
returns c = sources_break_are c.sources_hold.ensures c.sources_fit.ensures c.same_control.ensures
