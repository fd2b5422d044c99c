use Rattle.map_laws.proofs.Inductive as law
use Rattle.map_laws.proofs.extracted_is_inductive.Goals as goal

pub returns : goal.returns
returns c = law.extracted_is_inductive
