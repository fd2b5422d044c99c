use Rattle.c_run.proofs.Elements.{each_index}
use Rattle.c_run.proofs.each_index.Goals as goal

pub returns : goal.returns
returns c = each_index
