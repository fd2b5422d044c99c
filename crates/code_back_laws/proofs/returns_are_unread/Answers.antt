use Rattle.code_back_laws.proofs.Unread as law
use Rattle.code_back_laws.proofs.returns_are_unread.Goals as goal

pub returns : goal.returns
returns c = law.returns-are-unread
