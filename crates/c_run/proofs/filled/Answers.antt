use Rattle.c_run.proofs.Elements.{filled}
use Rattle.c_run.proofs.filled.Goals as goal

pub returns : goal.returns
returns c = filled
