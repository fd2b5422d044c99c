use Rattle.elaboration_source_laws.proofs.Programs.{calls_found_are}
use Rattle.elaboration_source_laws.proofs.calls_found.Goals as goal

pub returns : goal.returns
returns c = calls_found_are c.tokens_rise.ensures c.sources_hold.ensures c.sources_fit.ensures
