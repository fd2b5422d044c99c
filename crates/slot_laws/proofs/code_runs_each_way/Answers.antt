use Rattle.slot_laws.proofs.Whole.{runs_each_way}
use Rattle.slot_laws.proofs.code_runs_each_way.Goals as goal

pub returns : goal.returns
returns c = runs_each_way
