use Rattle.std.proofs.Common.{ℕ}
use Rattle.loop_journey.specs.Chains.{Climbed}
use Rattle.loop_journey.proofs.chain.chain_up.Given as goal

abbrev pub invariant-loop-left : goal.invariant-loop-left
invariant-loop-left l = (last : ℕ) → Climbed last l.vertices l.fn.leaf l.left l.at l.formulas.items l.below

abbrev pub decreases-loop-left : goal.decreases-loop-left
decreases-loop-left l = l.left
