use Rattle.witness_truth_laws.proofs.Wording as law
use Rattle.witness_truth_laws.proofs.text_is_written.Goals as goal

pub returns : goal.returns
returns c = law.text-is-written
