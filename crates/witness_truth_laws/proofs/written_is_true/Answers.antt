use Rattle.witness_truth_laws.proofs.Concluding as law
use Rattle.witness_truth_laws.proofs.written_is_true.Goals as goal

pub returns : goal.returns
returns c = law.written-is-true
