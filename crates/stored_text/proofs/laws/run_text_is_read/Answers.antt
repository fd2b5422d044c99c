use Rattle.stored_text.proofs.Whole.{run_text_read}
use Rattle.stored_text.proofs.laws.run_text_is_read.Goals as goal

pub returns : goal.returns
returns c = run_text_read
