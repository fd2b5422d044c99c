use Rattle.witness_visit_laws.proofs.Stating as law
use Rattle.witness_visit_laws.proofs.invariants_are_true.Goals as goal

pub returns : goal.returns
returns c = law.invariants-are-true
