use Rattle.std.proofs.Common.{◌≡◌, take}
use Rattle.c_typed.specs.View.{steps_of}
use Rattle.slot_statements.specs.Seen as seen
use Rattle.slot_statements.proofs.sizes.+sizes.Given as goal

-- the measure of those so far
abbrev pub invariant-measured_all-loop-step : goal.invariant-measured_all-loop-step
invariant-measured_all-loop-step l = record {
  size : l.size ≡ (seen.measured_all l.frame (steps_of (take l.step-index l.steps))).size;
  marks : seen.marks_of l.marks.items ≡ (seen.measured_all l.frame (steps_of (take l.step-index l.steps))).marks;
}
