use Rattle.std.proofs.Common.{◌≡◌, ◌++◌, take}
use Rattle.c_typed.specs.View.{steps_of}
use Rattle.c_typed.specs.Rules as r
use Rattle.step_values.specs.Seen.{values}
use Rattle.step_values.proofs.values.+values.Given as goal

-- those so far stand behind those that were there
abbrev pub invariant-values_in_all-loop-step : goal.invariant-values_in_all-loop-step
invariant-values_in_all-loop-step l = values l.found.items ≡ values l.initial.found.items ++ r.all_of_all (steps_of (take l.step-index l.steps))
