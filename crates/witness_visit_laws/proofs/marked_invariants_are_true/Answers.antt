use Rattle.witness_visit_laws.proofs.Stating as law
use Rattle.witness_visit_laws.proofs.marked_invariants_are_true.Goals as goal

pub returns : goal.returns
returns c = law.marked-invariants-are-true
