use Rattle.stored_text.proofs.Whole.{refused_first}
use Rattle.stored_text.proofs.laws.refused_at_the_first_byte.Goals as goal

pub returns : goal.returns
returns c = refused_first
