use Rattle.call_inline.specs.Sizes.{AreSizes}
use Rattle.call_inline.proofs.sizes.find_size.Given as goal

abbrev pub invariant-loop : goal.invariant-loop
invariant-loop l = AreSizes l.graphs l.fn.sizes.items → AreSizes l.graphs l.sizes.items
