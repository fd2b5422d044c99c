use Rattle.elaboration_source_laws.proofs.Programs.{good_programs_are}
use Rattle.elaboration_source_laws.proofs.good_programs.Goals as goal

pub returns : goal.returns
returns c = good_programs_are c.tokens_rise.ensures c.good_sources.ensures
