use Rattle.std.proofs.Common.{refl}
use Rattle.reach_tree.proofs.Growth.{numbers-more}
use Rattle.reach_tree.proofs.tree.numbers.Goals as goal

pub loop-number-preserved : goal.loop-number-preserved
loop-number-preserved c =
    numbers-more c.loop-number.numbers.items c.push.new.self.items _ c.loop-number.number _ _ c.loop-number-test.true c.in_ok-push.ensures.items refl c.loop-number.invariant
