use Rattle.elaboration_source_laws.proofs.Offsets.{tokens_rise_is}
use Rattle.elaboration_source_laws.proofs.tokens_rise.Goals as goal

pub returns : goal.returns
returns c = tokens_rise_is
