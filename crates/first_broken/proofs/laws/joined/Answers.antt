use Rattle.first_broken.proofs.Least.{joined_is}
use Rattle.first_broken.proofs.laws.joined.Goals as goal

pub returns : goal.returns
returns c = joined_is
