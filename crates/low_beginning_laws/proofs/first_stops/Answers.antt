use Rattle.low_beginning_laws.proofs.Low.{first_stop}
use Rattle.low_beginning_laws.proofs.first_stops.Goals as goal

pub returns : goal.returns
returns c = first_stop
