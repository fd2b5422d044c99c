use Rattle.c_tokens.proofs.Whole.{one_list, one_fault, not_both}
use Rattle.c_tokens.proofs.laws.has_no_other.Goals as goal

pub returns : goal.returns
returns c source = (one_list source, one_fault source, not_both source)
