use Rattle.std.proofs.Common.{take}
use Rattle.refine.specs.Decisions.{IsSubset}
use Rattle.refine.proofs.settling.is_among.Given as goal

abbrev pub invariant-loop-conjunct : goal.invariant-loop-conjunct
invariant-loop-conjunct l = IsSubset l.left (take l.conjunct-index l.right)
