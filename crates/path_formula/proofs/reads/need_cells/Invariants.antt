use Rattle.std.proofs.Common.{◌≡◌, ◌≤◌, ◌+◌, ◌*◌, [], length}
use Rattle.std.specs.BinaryHeap.{IsHeap, heap_items, heap_len}
use Rattle.std.specs.Ordering.{nat_cmp}
use Rattle.bit_blast.specs.Cone.{falling, pending}
use Rattle.bit_blast.specs.Done.{is_done}
use Rattle.path_formula.specs.Reads.{with_read, with_terms}
use Rattle.path_formula.proofs.reads.need_cells.Given as goal

abbrev pub invariant-loop-k : goal.invariant-loop-k
invariant-loop-k l =
    IsHeap nat_cmp (heap_items l.pending) × (l.below ≤ length l.terms.terms)
    × (with_read l.terms l.fn.term.0 l.initial.needed.keys ≡ with_terms l.terms.terms l.needed.keys (falling l.terms.terms (is_done []) l.below (pending (heap_items l.pending))))

abbrev pub decreases-loop-k : goal.decreases-loop-k
decreases-loop-k l = 4 * l.below + heap_len l.pending
