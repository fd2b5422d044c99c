use Rattle.std.proofs.Common.{◌≡◌, ◌≤◌, length}
use Rattle.invariant_map.specs.Copies.{KeepsMarks, IsClosed}
use Rattle.invariant_map.proofs.marking.mark_below.Given as goal

abbrev pub invariant-loop-at : goal.invariant-loop-at
invariant-loop-at l = record {
  within : l.at ≤ length l.marks;
  many : length l.marks ≡ length l.terms.terms;
  closed : IsClosed l.terms.terms l.marks l.at;
  kept : KeepsMarks l.initial.marks l.marks;
}

abbrev pub decreases-loop-at : goal.decreases-loop-at
decreases-loop-at l = l.at
