use Rattle.witness_truth_laws.proofs.Concluding as law
use Rattle.witness_truth_laws.proofs.written_has_value.Goals as goal

pub returns : goal.returns
returns c = law.written-has-value
