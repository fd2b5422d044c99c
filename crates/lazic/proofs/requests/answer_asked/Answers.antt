use Rattle.lazic.proofs.HeadlineLaws.{told_means}
use Rattle.lazic.proofs.requests.answer_asked.Goals as goal

pub returns-clause-headline : goal.returns-clause-headline
returns-clause-headline g c = told_means _ _ _ _ _ _ _ _ _ _ _ _ _ _ c.tell.ensures
