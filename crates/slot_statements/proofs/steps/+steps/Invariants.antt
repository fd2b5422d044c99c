use Rattle.std.proofs.Common.{◌≡◌, take}
use Rattle.c_typed.specs.View.{steps_of}
use Rattle.slot_statements.specs.Seen as seen
use Rattle.slot_statements.proofs.steps.+steps.Given as goal

-- the code of those so far, and its size
abbrev pub invariant-steps_code-loop-step : goal.invariant-steps_code-loop-step
invariant-steps_code-loop-step l = record {
  code : l.code.items ≡ seen.steps_code l.frame l.exits l.aims (steps_of (take l.step-index l.steps));
  size : l.size ≡ (seen.measured_all l.frame (steps_of (take l.step-index l.steps))).size;
}
