use Rattle.std.proofs.Common.{◌≡◌}
use Rattle.call_inline.specs.Copying.{copies_after, lists_of}
use Rattle.call_inline.proofs.copies.copies_of.Given as goal

abbrev pub invariant-loop-number : goal.invariant-loop-number
invariant-loop-number l = l.copies.items ≡ copies_after l.graphs (lists_of l.offsets) l.number
