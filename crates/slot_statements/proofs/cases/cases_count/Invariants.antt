use Rattle.std.proofs.Common.{◌≡◌, take}
use Rattle.slot_statements.specs.Casing as casing
use Rattle.slot_statements.specs.Seen as seen
use Rattle.slot_statements.proofs.cases.cases_count.Given as goal

-- those so far
abbrev pub invariant-loop-mark : goal.invariant-loop-mark
invariant-loop-mark l = l.count ≡ casing.cases_count (seen.marks_of (take l.mark-index l.marks))
