use Rattle.c_tokens.proofs.Whole.{is_lexed_of}
use Rattle.c_tokens.proofs.laws.is_lexed.Goals as goal

pub returns : goal.returns
returns c source answer = is_lexed_of source answer
