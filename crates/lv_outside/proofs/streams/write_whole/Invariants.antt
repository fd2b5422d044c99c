use Rattle.std.proofs.Common.{◌-◌, ◌≤◌, length, take}
use Rattle.std.specs.Io.KnownBytes.{Appends}
use Rattle.lv_outside.proofs.streams.write_whole.Given as goal

-- so many bytes were taken
abbrev pub invariant-parts : goal.invariant-parts
invariant-parts g l = (l.done ≤ length l.bytes) × Appends (g.W.Write.contents l.initial.to) (g.W.Write.contents l.to) (take l.done l.bytes)

abbrev pub decreases-parts : goal.decreases-parts
decreases-parts g l = length l.bytes - l.done
