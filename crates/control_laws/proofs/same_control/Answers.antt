use Rattle.control_laws.proofs.Controlling.{same_control_is}
use Rattle.control_laws.proofs.same_control.Goals as goal

pub returns : goal.returns
returns c = same_control_is
