use Rattle.slot_laws.proofs.Running.{ranks_fall}
use Rattle.slot_laws.proofs.ranks_fall.Goals as goal

pub returns : goal.returns
returns c = ranks_fall
