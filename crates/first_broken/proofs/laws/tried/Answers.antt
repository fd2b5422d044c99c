use Rattle.first_broken.proofs.Least.{tried_is}
use Rattle.first_broken.proofs.laws.tried.Goals as goal

pub returns : goal.returns
returns c = tried_is
