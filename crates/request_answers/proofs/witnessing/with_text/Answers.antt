use Rattle.std.proofs.Common.{inl, inr, refl}
use Rattle.request_answers.proofs.witnessing.with_text.Goals as goal

pub returns-in-Ok-clause-text : goal.returns-in-Ok-clause-text
returns-in-Ok-clause-text c = inl (refl, c.in-Ok.ensures.text)

pub returns-in-Err-clause-text : goal.returns-in-Err-clause-text
returns-in-Err-clause-text c = inr (refl, refl)
