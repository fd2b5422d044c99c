use Rattle.std.proofs.Common.{◌≡◌, ◌-◌, take, map, length}
use Rattle.slot_machine.proofs.start.reset.Given as goal

-- the objects before are reset
abbrev pub invariant-objects : goal.invariant-objects
invariant-objects l = (map length l.store ≡ map length l.first) × (take l.index l.store ≡ take l.index l.first)

abbrev pub decreases-objects : goal.decreases-objects
decreases-objects l = length l.store - l.index
