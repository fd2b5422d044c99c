use Rattle.std.proofs.Common.{◌≡◌, ◌≤◌, drop, length}
use Rattle.stored_text.specs.Reading.{head_fault}
use Rattle.stored_text.proofs.reading.head_end.Given as goal

abbrev pub invariant-loop-at : goal.invariant-loop-at
invariant-loop-at l = record {
  within : l.at ≤ length l.bytes;
  rest : head_fault (drop l.at l.head) l.at (drop l.at l.bytes) ≡ head_fault l.head 0 l.bytes;
}
