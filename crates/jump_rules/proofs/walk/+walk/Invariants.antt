use Rattle.std.proofs.Common.{◌≡◌, take}
use Rattle.c_typed.specs.View.{steps_of}
use Rattle.jump_rules.specs.Walk as w
use Rattle.jump_rules.specs.Seen.{state_of}
use Rattle.jump_rules.proofs.walk.+walk.Given as goal

-- the walk over those so far
abbrev pub invariant-walk_steps-loop-step : goal.invariant-walk_steps-loop-step
invariant-walk_steps-loop-step l = state_of l.walk ≡ w.walked_all l.kind l.in_loop l.switch (state_of l.initial.walk) (steps_of (take l.step-index l.steps))
