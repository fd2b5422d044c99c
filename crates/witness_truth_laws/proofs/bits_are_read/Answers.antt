use Rattle.witness_truth_laws.proofs.Reading as law
use Rattle.witness_truth_laws.proofs.bits_are_read.Goals as goal

pub returns : goal.returns
returns c = law.bits-are-read
