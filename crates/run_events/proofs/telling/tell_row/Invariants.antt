use Rattle.std.proofs.Common.{◌≡◌, ◌-◌, drop, length}
use Rattle.run_events.specs.Told as told
use Rattle.run_events.proofs.telling.tell_row.Given as goal

-- what is left is told behind what was told
abbrev pub invariant-elements : goal.invariant-elements
invariant-elements l = told.all_noted l.log (told.row_events l.place l.index (drop l.index l.row)) ≡ told.all_noted l.initial.log (told.row_events l.place 0 l.row)

abbrev pub decreases-elements : goal.decreases-elements
decreases-elements l = length l.row - l.index
