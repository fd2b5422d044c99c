use Rattle.typed_range_laws.proofs.Running.{runs_each_way}
use Rattle.typed_range_laws.proofs.runs_each_way.Goals as goal

pub returns : goal.returns
returns c = runs_each_way
