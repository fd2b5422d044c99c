use Rattle.std.proofs.Common.{◌≡◌, suc, ◌+◌, arith}
use Rattle.cfg_build.proofs.Numbers.{owner-more}
use Rattle.cfg_build.proofs.numbering.own_all.Goals as goal

pub loop-place-preserved : goal.loop-place-preserved
loop-place-preserved c =
    let n = c.loop-place._place in
    let next : suc n ≡ n + 1 = omega arith in
    owner-more _ _ _ c.args.function n c.args.end (n + 1) c.loop-place-test.true next c.in_ok-push.ensures.items c.loop-place.invariant
