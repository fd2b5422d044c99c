use Rattle.std.proofs.Common.{◌≡◌, length, take, ◌-◌}
use Rattle.c_run.specs.Run as run
use Rattle.slot_board.proofs.row.Row.begin.Given as goal

-- the elements before are done
abbrev pub invariant-elements : goal.invariant-elements
invariant-elements l =
    (length l.self ≡ length l.initial.self)
    × (take l.index l.self ≡ take l.index (run.padded (length l.initial.self) l.first))

abbrev pub decreases-elements : goal.decreases-elements
decreases-elements l = length l.self - l.index
