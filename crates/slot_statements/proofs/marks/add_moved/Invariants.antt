use Rattle.std.proofs.Common.{◌≡◌, ◌++◌, take}
use Rattle.slot_code.specs.Statements.{moved}
use Rattle.slot_statements.specs.Seen as seen
use Rattle.slot_statements.proofs.marks.add_moved.Given as goal

-- those so far stand behind those that were there
abbrev pub invariant-loop-mark : goal.invariant-loop-mark
invariant-loop-mark l = seen.marks_of l.all.items ≡ seen.marks_of l.initial.all.items ++ moved l.count (seen.marks_of (take l.mark-index l.marks))
