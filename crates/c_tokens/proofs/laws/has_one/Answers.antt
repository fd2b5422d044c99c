use Rattle.c_tokens.proofs.Whole.{has_one_of}
use Rattle.c_tokens.proofs.laws.has_one.Goals as goal

pub returns : goal.returns
returns c source = has_one_of source
