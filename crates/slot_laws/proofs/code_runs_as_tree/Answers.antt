use Rattle.slot_laws.proofs.Whole.{runs_as_tree}
use Rattle.slot_laws.proofs.code_runs_as_tree.Goals as goal

pub returns : goal.returns
returns c = runs_as_tree
