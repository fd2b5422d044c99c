use Rattle.std.proofs.Common.{◌≡◌, suc, ◌+◌, None, Some, slice_get, arith, rules}
use Rattle.cfg_build.proofs.Numbers.{between-more, between-past, number-more, number-done}
use Rattle.cfg_build.proofs.numbering.number_all.Goals as goal

pub returns-in_default : goal.returns-in_default
returns-in_default c =
    let there : slice_get c.args.code.now c.loop-place.place ≡ None = search rules in
    number-done _ _ _ _ (between-past c.args.code.now c.loop-place.place c.args.end there) c.loop-place.invariant

pub loop-place-preserved : goal.loop-place-preserved
loop-place-preserved c =
    let n = c.loop-place.place in
    let there : slice_get c.args.code.now n ≡ Some c.in-Some.instruction = search rules in
    let next : suc n ≡ n + 1 = omega arith in
    number-more _ _ _ _ _ c.in-Some.instruction _ _ (between-more c.args.code.now n c.args.end (n + 1) c.in-Some.instruction there c.loop-place-test.true next)
    c.in_ok-number.ensures c.in_ok-push.ensures.items c.loop-place.invariant
