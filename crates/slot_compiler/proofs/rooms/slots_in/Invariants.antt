use Rattle.std.proofs.Common.{◌≡◌, take}
use Rattle.slot_code.specs.Slots.{slots_in}
use Rattle.slot_compiler.proofs.rooms.slots_in.Given as goal

-- those so far
abbrev pub invariant-loop-instruction : goal.invariant-loop-instruction
invariant-loop-instruction l = l.most ≡ slots_in (take l.instruction-index l.code)
