use Rattle.std.proofs.Common.{sym, ◌∙◌}
use Rattle.lv_outside.proofs.FileLemmas.{differ_not}
use Rattle.lv_outside.proofs.files.names_differ.Goals as goal

pub returns-then-is_some : goal.returns-then-is_some
returns-then-is_some c =
    (λ h. absurd (cc h), λ differ. absurd (differ_not c.args.files.now c.loop-i.i c.index-files-i.result c.as_bytes.result.now c.place_of_name.result c.loop-i-test.true c.index-files-i.is c.as_bytes.ensures c.loop-i.invariant.down c.place_of_name.ensures.found (sym c.is_some.ensures ∙ c.if-is_some.true) differ))
