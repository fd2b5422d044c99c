use Rattle.std.proofs.Common.{◌≡◌, suc, ◌+◌, None, Some, slice_get, ap, arith, rules}
use Rattle.cfg_build.specs.Steps.{node_id}
use Rattle.cfg_build.proofs.Numbers.{between-more, between-past, count-more, count-done}
use Rattle.cfg_build.proofs.numbering.exit_of.Goals as goal

pub returns-in_default : goal.returns-in_default
returns-in_default c =
    let there : slice_get c.args.code.now c.loop-place.place ≡ None = search rules in
    ap node_id (count-done _ _ _ (between-past c.args.code.now c.loop-place.place c.args.end there) c.loop-place.invariant)

pub loop-place-preserved : goal.loop-place-preserved
loop-place-preserved c =
    let n = c.loop-place.place in
    let there : slice_get c.args.code.now n ≡ Some c.in-Some.instruction = search rules in
    let next : suc n ≡ n + 1 = omega arith in
    count-more _ _ _ c.in-Some.instruction _ _ (between-more c.args.code.now n c.args.end (n + 1) c.in-Some.instruction there c.loop-place-test.true next) c.in_ok-exit.ensures c.loop-place.invariant
