use Rattle.std.proofs.Common.{length}
use Rattle.conflict_analysis.proofs.RowLaws.{code_fits}
use Rattle.conflict_analysis.proofs.minimizing.with_marks.Goals as goal

pub bounds-stamps-code : goal.bounds-stamps-code
bounds-stamps-code c = code_fits (length c.args.stamps.now) c.args.clause.now c.loop-code.code-index c.requires c.loop-code-test.true
