use Rattle.request_answers.specs.Answers.IsCheckAnswer.{refused}
use Rattle.request_answers.proofs.Refusals.{refusal_no_fault}
use Rattle.request_answers.proofs.deciding.check_source.Goals as goal

pub returns-in-Err-clause-answer : goal.returns-in-Err-clause-answer
returns-in-Err-clause-answer g c t = refused c.requires.small c.in-Err.ensures

pub returns-in-Err-clause-read_fault : goal.returns-in-Err-clause-read_fault
returns-in-Err-clause-read_fault g c = λ e. absurd (refusal_no_fault _ _ _ c.in-Err.ensures e)
