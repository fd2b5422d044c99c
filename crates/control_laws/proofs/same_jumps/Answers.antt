use Rattle.control_laws.proofs.Jumping.{same_jumps_is}
use Rattle.control_laws.proofs.same_jumps.Goals as goal

pub returns : goal.returns
returns c = same_jumps_is
