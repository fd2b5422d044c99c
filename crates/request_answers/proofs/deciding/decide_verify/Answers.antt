use Rattle.std.proofs.Common.{◌∙◌, refl}
use Rattle.request_answers.specs.Answers.IsVerifyAnswer.{too_long}
use Rattle.request_answers.proofs.Verifications.{verify_behind}
use Rattle.request_answers.proofs.Witnesses.{none_witness, witness_behind}
use Rattle.request_answers.proofs.deciding.decide_verify.Goals as goal

pub returns-in-Ok-Bytes-clause-answer : goal.returns-in-Ok-Bytes-clause-answer
returns-in-Ok-Bytes-clause-answer g c t =
    verify_behind _ c.args.verifying.model c.args.verifying.units c.args.verifying.learn _ c.deref.result.now _
    (c.deref.ensures.value ∙ (rw c.in-Ok-Bytes.field-0-is at (c.in-Ok-Bytes.ensures.bytes t)).0)
    c.verify_source.ensures.answer

pub returns-in-Ok-Bytes-clause-witness : goal.returns-in-Ok-Bytes-clause-witness
returns-in-Ok-Bytes-clause-witness g c t =
    witness_behind c.args.verifying.model c.args.stamp _ _ _ _ c.deref.result.now _ c.witness_name-name.ensures
    (c.deref.ensures.value ∙ (rw c.in-Ok-Bytes.field-0-is at (c.in-Ok-Bytes.ensures.bytes t)).0)
    c.verify_source.ensures.witness

pub returns-in-Ok-Longer-clause-answer : goal.returns-in-Ok-Longer-clause-answer
returns-in-Ok-Longer-clause-answer g c t = too_long (rw c.in-Ok-Longer.field-0-is at (c.in-Ok-Longer.ensures.bytes t)) refl

pub returns-in-Ok-Longer-clause-witness : goal.returns-in-Ok-Longer-clause-witness
returns-in-Ok-Longer-clause-witness g c t = none_witness _ _ _ _ _ refl

pub returns-in-Err-Failed-clause-witness : goal.returns-in-Err-Failed-clause-witness
returns-in-Err-Failed-clause-witness g c t = none_witness _ _ _ _ _ refl

pub returns-in-Err-Memory-clause-witness : goal.returns-in-Err-Memory-clause-witness
returns-in-Err-Memory-clause-witness g c t = none_witness _ _ _ _ _ refl
