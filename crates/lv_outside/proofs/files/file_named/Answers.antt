use Rattle.std.proofs.Common.{◌≢◌, ◌∙◌}
use Rattle.lv_outside.proofs.FileLemmas.{file_here, file_later}
use Rattle.lv_outside.proofs.files.file_named.Goals as goal

pub returns-then-is : goal.returns-then-is
returns-then-is c =
    c.deref.ensures.value ∙ file_here _ _ _ _ c.loop-entry-test.true c.entry-item.is c.loop-entry.invariant (c.is.ensures.0 c.if-is.true)

pub loop-entry-preserved : goal.loop-entry-preserved
loop-entry-preserved c =
    let other : c.entry-item.result.0 ≢ c.args.name.now = λ same. cc (c.is.ensures.1 same, c.if-is.false) in
    file_later _ _ _ _ c.loop-entry-test.true c.entry-item.is c.loop-entry.invariant other
