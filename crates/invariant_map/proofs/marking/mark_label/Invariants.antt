use Rattle.std.proofs.Common.{◌≡◌, ℕ, ◌<◌, true, slice_index_or}
use Rattle.bv_term.specs.declared.term.TermId.{TermId}
use Rattle.invariant_map.specs.Copies.{KeepsMarks, is_marked}
use Rattle.invariant_map.proofs.marking.mark_label.Given as goal

abbrev pub invariant-loop-term : goal.invariant-loop-term
invariant-loop-term l = record {
  kept : KeepsMarks l.initial.marks l.marks;
  marked : (k : ℕ) (d : TermId) → k < l.term-index → is_marked l.marks (slice_index_or l.label k d).0 ≡ true;
}
