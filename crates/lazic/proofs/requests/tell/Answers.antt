use Rattle.lazic.proofs.HeadlineLaws.{told_as}
use Rattle.lazic.proofs.requests.tell.Goals as goal

pub returns : goal.returns
returns g c =
    told_as _ _ _ _ _ _ _ _ _ _ _ _ _ _ _ _ c.reported.ensures.status c.reported.ensures.kept c.answer-told.ensures.answer c.answer-told.ensures.witness c.answer-told.ensures.silent
    c.answer-told.ensures.read_fault c.answer-told.ensures.status c.answer-told.ensures.fault c.answer-told.ensures.printed c.answer-told.ensures.cut
    c.requires.apart c.answer-told.ensures.stored c.answer-told.ensures.witnessed c.answer-told.ensures.ordered c.answer-told.ensures.others
