use Rattle.call_inline.specs.Sizes.{AreSizes}
use Rattle.call_inline.proofs.sizes.guesses.Given as goal

abbrev pub invariant-loop-function : goal.invariant-loop-function
invariant-loop-function l = AreSizes l.graphs l.sizes.items
