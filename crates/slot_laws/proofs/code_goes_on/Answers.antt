use Rattle.slot_laws.proofs.Running.{goes_on}
use Rattle.slot_laws.proofs.code_goes_on.Goals as goal

pub returns : goal.returns
returns c = goes_on
