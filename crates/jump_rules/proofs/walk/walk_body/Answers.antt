use Rattle.std.proofs.Common.{ap, ◌∙◌, None, false}
use Rattle.c_typed.specs.View.{steps_of}
use Rattle.jump_rules.specs.Walk as w
use Rattle.jump_rules.proofs.Walking.{bodies_walked}
use Rattle.jump_rules.proofs.walk.walk_body.Goals as goal

pub returns : goal.returns
returns c =
    c.in_ok-walk_steps.ensures ∙ ap (λ (z : w.State). w.walked_all c.args.kind false None z (steps_of c.args.body.now)) c.empty-walk.ensures ∙ bodies_walked c.args.kind (steps_of c.args.body.now)
