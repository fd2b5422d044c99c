use Rattle.witness_text_laws.proofs.Spelled as law
use Rattle.witness_text_laws.proofs.texts_are_read.Goals as goal

pub returns : goal.returns
returns c = law.texts-are-read
