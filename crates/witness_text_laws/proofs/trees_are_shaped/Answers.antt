use Rattle.witness_text_laws.proofs.Forming as law
use Rattle.witness_text_laws.proofs.trees_are_shaped.Goals as goal

pub returns : goal.returns
returns c = law.trees-are-shaped
