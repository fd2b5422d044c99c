use Rattle.journal_length_laws.proofs.Short as law
use Rattle.journal_length_laws.proofs.journals_are_short.Goals as goal

pub returns : goal.returns
returns c = law.journals_are_short
