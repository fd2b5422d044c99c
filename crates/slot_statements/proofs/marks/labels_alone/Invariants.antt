use Rattle.std.proofs.Common.{◌≡◌, take}
use Rattle.slot_code.specs.Statements as c
use Rattle.slot_statements.specs.Seen as seen
use Rattle.slot_statements.proofs.marks.labels_alone.Given as goal

-- the labels of those so far
abbrev pub invariant-loop-mark : goal.invariant-loop-mark
invariant-loop-mark l = seen.marks_of l.all.items ≡ c.labels_alone (seen.marks_of (take l.mark-index l.marks))
