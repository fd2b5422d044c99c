use Rattle.request_answers.proofs.Verifications.{unsafe_reached}
use Rattle.request_answers.proofs.laws.unsafe_reaches.Goals as goal

pub returns : goal.returns
returns c = unsafe_reached
