use Rattle.typed_range_laws.proofs.Running.{runs_agreeing}
use Rattle.typed_range_laws.proofs.runs_agreeing.Goals as goal

pub returns : goal.returns
returns c = runs_agreeing
