use Rattle.resolution_log.proofs.Refuting as law
use Rattle.resolution_log.proofs.laws.lean_refutes.Goals as goal

pub returns : goal.returns
returns c = law.lean_refutes
