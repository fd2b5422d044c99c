use Rattle.c_types.proofs.Whole.{same_run}
use Rattle.c_types.proofs.same_run.Goals as goal

pub returns : goal.returns
returns c = same_run
