use Rattle.typed_range_laws.proofs.Running.{runs_guarded}
use Rattle.typed_range_laws.proofs.runs_guarded.Goals as goal

pub returns : goal.returns
returns c = runs_guarded
