use Rattle.pair_query.proofs.Exact as exact
use Rattle.pair_query.proofs.laws.pair_read.Goals as goal

pub returns : goal.returns
returns c = exact.pair_read
