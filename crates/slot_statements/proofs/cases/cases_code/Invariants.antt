use Rattle.std.proofs.Common.{◌≡◌, ◌++◌, drop}
use Rattle.slot_code.specs.Statements as c
use Rattle.slot_statements.specs.Casing as casing
use Rattle.slot_statements.specs.Seen as seen
use Rattle.slot_statements.proofs.cases.cases_code.Given as goal

-- what is there and the rest are the whole, and so many cases are left
abbrev pub invariant-loop-mark : goal.invariant-loop-mark
invariant-loop-mark l = record {
  code : l.code.items ++ c.cases_code l.model l.slot l.kind (seen.marks_of (drop l.mark-index l.marks)) ≡ c.cases_code l.model l.slot l.kind (seen.marks_of l.marks);
  left : l.left ≡ casing.cases_count (seen.marks_of (drop l.mark-index l.marks));
}
