use Rattle.std.proofs.Common.{arith, ◌≡◌, ◌<◌, ◌/◌, length}
use Rattle.conflict_analysis.proofs.RowLaws.{code_fits}
use Rattle.cdcl_solver.proofs.choosing.bump_listed.Goals as goal

pub bump-requires : goal.bump-requires
bump-requires c =
    let a = code_fits (length c.args.trail.now.levels.items) c.args.clause.now c.loop-code.code-index c.requires.fits c.loop-code-test.true in
    omega (arith, a, c.requires.ordered, c.loop-code.invariant)
