use Rattle.drawn_value_laws.proofs.Words as law
use Rattle.drawn_value_laws.proofs.drawn_are_words.Goals as goal

pub returns : goal.returns
returns c = law.drawn_are_words
