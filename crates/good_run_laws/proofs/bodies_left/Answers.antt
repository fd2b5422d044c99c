use Rattle.good_run_laws.proofs.Bodies.{bodies_left_is}
use Rattle.good_run_laws.proofs.bodies_left.Goals as goal

pub returns : goal.returns
returns c = bodies_left_is
