use Rattle.std.proofs.Common.{◌-◌, ◌≤◌, length}
use Rattle.bv_term.specs.Laws.{Extends}
use Rattle.term_copy.specs.Copies.{AreCopies}
use Rattle.term_copy.proofs.copy.copied.Given as goal

abbrev pub invariant-loop-to : goal.invariant-loop-to
invariant-loop-to l =
    AreCopies l.from l.into l.to.items × Extends l.initial.into l.into × (length l.to.items ≤ length l.from.terms)

abbrev pub decreases-loop-to : goal.decreases-loop-to
decreases-loop-to l = length l.from.terms - length l.to.items
