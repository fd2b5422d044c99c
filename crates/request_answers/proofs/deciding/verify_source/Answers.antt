use Rattle.request_answers.specs.Answers.IsVerifyAnswer.{refused}
use Rattle.request_answers.proofs.Refusals.{refusal_no_fault}
use Rattle.request_answers.proofs.Witnesses.{refused_witness}
use Rattle.request_answers.proofs.deciding.verify_source.Goals as goal

pub returns-in-Err-clause-answer : goal.returns-in-Err-clause-answer
returns-in-Err-clause-answer g c = refused c.requires.small c.in-Err.ensures

pub returns-in-Err-clause-witness : goal.returns-in-Err-clause-witness
returns-in-Err-clause-witness g c = refused_witness _ _ _ _ _ c.in-Err.ensures

pub returns-in-Err-clause-no_fault : goal.returns-in-Err-clause-no_fault
returns-in-Err-clause-no_fault g c = refusal_no_fault _ _ _ c.in-Err.ensures
