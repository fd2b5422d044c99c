use Rattle.std.proofs.Common.{◌≢◌, refl}
use Rattle.lv_outside.proofs.FileLemmas.{found_here, found_later, none_later}
use Rattle.lv_outside.proofs.files.place_of_name.Goals as goal

pub returns-then-is-clause-found : goal.returns-then-is-clause-found
returns-then-is-clause-found c =
    found_here _ _ _ _ c.loop-i-test.true c.index-files-i.is c.loop-i.invariant.found (c.if-is.ensures.0 refl)

pub loop-i-preserved : goal.loop-i-preserved
loop-i-preserved c =
    let other : c.index-files-i.result.0 ≢ c.args.name.now = λ same. cc (c.if-is.ensures.1 same) in
    record {
      found = found_later _ _ _ _ c.loop-i-test.true c.index-files-i.is c.loop-i.invariant.found other;
      none = none_later _ _ _ _ c.loop-i-test.true c.index-files-i.is c.loop-i.invariant.none other;
    }
