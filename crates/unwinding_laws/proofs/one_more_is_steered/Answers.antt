use Rattle.unwinding_laws.proofs.Steering as law
use Rattle.unwinding_laws.proofs.one_more_is_steered.Goals as goal

pub returns : goal.returns
returns c = law.one_more_is_steered
