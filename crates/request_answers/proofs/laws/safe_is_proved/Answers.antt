use Rattle.request_answers.proofs.Verifications.{safe_proved}
use Rattle.request_answers.proofs.laws.safe_is_proved.Goals as goal

pub returns : goal.returns
returns c = safe_proved
