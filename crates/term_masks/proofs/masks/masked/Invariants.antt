use Rattle.std.proofs.Common.{◌-◌, ◌≤◌, length}
use Rattle.bv_term.specs.Laws.{Extends}
use Rattle.term_masks.specs.Masks.{AreMasked}
use Rattle.term_masks.proofs.masks.masked.Given as goal

abbrev pub invariant-loop-to : goal.invariant-loop-to
invariant-loop-to l =
    AreMasked l.from l.into l.kept l.to.items × Extends l.initial.into l.into × (length l.to.items ≤ length l.from.terms)

abbrev pub decreases-loop-to : goal.decreases-loop-to
decreases-loop-to l = length l.from.terms - length l.to.items
