use Rattle.c_tokens.proofs.ListedSpans.{spans_of}
use Rattle.c_tokens.proofs.laws.has_spans.Goals as goal

pub returns : goal.returns
returns c source list tokens = spans_of source list tokens
