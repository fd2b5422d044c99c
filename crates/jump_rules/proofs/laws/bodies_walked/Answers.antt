use Rattle.jump_rules.proofs.Walking.{bodies_walked}
use Rattle.jump_rules.proofs.laws.bodies_walked.Goals as goal

pub returns : goal.returns
returns c = bodies_walked
