use Rattle.std.proofs.Common.{◌≡◌, drop}
use Rattle.block_steps.specs.Made as made
use Rattle.block_steps.proofs.sides.are_among.Given as goal

abbrev pub invariant-loop-number : goal.invariant-loop-number
invariant-loop-number l = made.are_among l.numbers l.one l.other ≡ made.are_among (drop l.number l.numbers) l.one l.other
