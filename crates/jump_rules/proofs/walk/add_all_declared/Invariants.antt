use Rattle.std.proofs.Common.{◌≡◌, take}
use Rattle.c_typed.specs.View.{steps_of}
use Rattle.c_typed.specs.Rules as r
use Rattle.jump_rules.specs.Walk as w
use Rattle.jump_rules.specs.Seen.{state_of}
use Rattle.jump_rules.proofs.walk.add_all_declared.Given as goal

-- those so far are in scope
abbrev pub invariant-loop-step : goal.invariant-loop-step
invariant-loop-step l = state_of l.walk ≡ w.declaring (state_of l.initial.walk) (r.declared_in (steps_of (take l.step-index l.steps)))
