use Rattle.low_beginning_laws.proofs.Low.{low_beginning}
use Rattle.low_beginning_laws.proofs.low_beginnings.Goals as goal

pub returns : goal.returns
returns c = low_beginning
