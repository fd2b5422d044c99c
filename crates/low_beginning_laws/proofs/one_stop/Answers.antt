use Rattle.low_beginning_laws.proofs.Low.{one_stop}
use Rattle.low_beginning_laws.proofs.one_stop.Goals as goal

pub returns : goal.returns
returns c = one_stop
