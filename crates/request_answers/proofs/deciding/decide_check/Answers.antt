use Rattle.std.proofs.Common.{◌∙◌, refl}
use Rattle.request_answers.specs.Answers.IsCheckAnswer.{too_long}
use Rattle.request_answers.proofs.Checks.{check_behind}
use Rattle.request_answers.proofs.deciding.decide_check.Goals as goal

pub returns-in-Ok-Bytes-clause-answer : goal.returns-in-Ok-Bytes-clause-answer
returns-in-Ok-Bytes-clause-answer g c t =
    check_behind _ _ _ c.in-Ok-Bytes.ensures.reads c.args.checking.model _ c.deref.result.now _ _ c.check_source.result
    (c.deref.ensures.value ∙ (rw c.in-Ok-Bytes.field-0-is at (c.in-Ok-Bytes.ensures.bytes t)).0)
    (c.in-Ok-Bytes.ensures.files c.args.checking.cert.now)
    (c.check_source.ensures.answer (c.in-Ok-Bytes.ensures.tells t))

pub returns-in-Ok-Longer-clause-answer : goal.returns-in-Ok-Longer-clause-answer
returns-in-Ok-Longer-clause-answer g c t = too_long (rw c.in-Ok-Longer.field-0-is at (c.in-Ok-Longer.ensures.bytes t)) refl
