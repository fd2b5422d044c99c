use Rattle.stored_text.proofs.Whole.{run_text_read}
use Rattle.stored_text.proofs.Written.{written_spells}
use Rattle.stored_text.proofs.laws.written_is_read.Goals as goal

pub returns : goal.returns
returns c = λ values file short e. (run_text_read file values).1 (written_spells values file short e)
