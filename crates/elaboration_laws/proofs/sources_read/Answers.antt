use Rattle.elaboration_laws.proofs.Whole.{sources_read_are}
use Rattle.elaboration_laws.proofs.sources_read.Goals as goal

pub returns : goal.returns
returns c = sources_read_are c.tokens_rise.ensures
