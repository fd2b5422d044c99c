use Rattle.elaboration_laws.proofs.Whole.{runs_kept_are}
use Rattle.elaboration_laws.proofs.runs_kept.Goals as goal

pub returns : goal.returns
returns c = runs_kept_are c.sources_run.ensures c.sources_break.ensures
