use Rattle.std.proofs.Common.{refl}
use Rattle.request_answers.proofs.deciding.decide.Goals as goal

pub returns-in-Check-clause-answer : goal.returns-in-Check-clause-answer
returns-in-Check-clause-answer g c t = rw c.in-Check.is (c.decide_check.ensures.answer (rw c.in-Check.is at t))

pub returns-in-Verify-clause-answer : goal.returns-in-Verify-clause-answer
returns-in-Verify-clause-answer g c t = rw c.in-Verify.is (c.decide_verify.ensures.answer (rw c.in-Verify.is at t))

pub returns-in-Verify-clause-witness : goal.returns-in-Verify-clause-witness
returns-in-Verify-clause-witness g c t = rw c.in-Verify.is (c.decide_verify.ensures.witness (rw c.in-Verify.is at t))

pub returns-in-Generate-clause-answer : goal.returns-in-Generate-clause-answer
returns-in-Generate-clause-answer g c t = rw c.in-Generate.is c.decide_generate.ensures.answer

pub returns-in-Check-clause-witness : goal.returns-in-Check-clause-witness
returns-in-Check-clause-witness g c t = rw c.in-Check.is refl

pub returns-in-Generate-clause-witness : goal.returns-in-Generate-clause-witness
returns-in-Generate-clause-witness g c t = rw c.in-Generate.is refl
