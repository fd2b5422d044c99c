use Rattle.unwinding_laws.proofs.Steering as law
use Rattle.unwinding_laws.proofs.growing_tables_keep_steering.Goals as goal

pub returns : goal.returns
returns c = law.growing_tables_keep_steering
