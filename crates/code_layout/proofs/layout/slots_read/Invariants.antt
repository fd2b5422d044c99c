use Rattle.std.proofs.Common.{◌≡◌, false, replicate, drop}
use Rattle.code_layout.specs.Reading.{marks_behind}
use Rattle.code_layout.proofs.layout.slots_read.Given as goal

-- the marks so far and the rest are the whole
abbrev pub invariant-loop-instruction : goal.invariant-loop-instruction
invariant-loop-instruction l = marks_behind l.objects l.read.items (drop l.instruction-index l.code) ≡ marks_behind l.objects (replicate l.slots false) l.code
