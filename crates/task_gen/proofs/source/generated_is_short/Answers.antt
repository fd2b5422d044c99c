use Rattle.task_gen.proofs.Lengths.{generated_short}
use Rattle.task_gen.proofs.source.generated_is_short.Goals as goal

pub returns : goal.returns
returns c = generated_short
