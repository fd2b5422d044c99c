use Rattle.call_inline.specs.Sizes.{AreSizes, room}
use Rattle.call_inline.proofs.sizes.settle.Given as goal

abbrev pub invariant-loop : goal.invariant-loop
invariant-loop l = AreSizes l.graphs l.sizes.items

abbrev pub decreases-loop : goal.decreases-loop
decreases-loop l = room l.sizes.items
