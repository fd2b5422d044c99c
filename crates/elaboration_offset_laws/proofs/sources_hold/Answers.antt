use Rattle.elaboration_offset_laws.proofs.Whole.{sources_hold_is}
use Rattle.elaboration_offset_laws.proofs.sources_hold.Goals as goal

pub returns : goal.returns
returns c = sources_hold_is c.known_hold.ensures
