use Rattle.std.proofs.Common.{◌≤◌, length, drop}
use Rattle.slot_statements.specs.Marked.{marks_of, IsFound}
use Rattle.slot_statements.proofs.labels.places_of.Given as goal

-- the labels from here on
abbrev pub invariant-loop-left : goal.invariant-loop-left
invariant-loop-left l = record {
  left : l.left ≤ length l.marks;
  places : IsFound (marks_of (drop l.left l.marks)) l.places;
}

abbrev pub decreases-loop-left : goal.decreases-loop-left
decreases-loop-left l = l.left
