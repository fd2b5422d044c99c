use Rattle.std.proofs.Common.{length}
use Rattle.conflict_analysis.proofs.RowLaws.{code_fits}
use Rattle.conflict_analysis.proofs.minimizing.are_noted.Goals as goal

pub stays_out-requires : goal.stays_out-requires
stays_out-requires c = code_fits (length c.args.stamps.now) c.args.row.now c.loop-code.code-index c.requires c.loop-code-test.true
