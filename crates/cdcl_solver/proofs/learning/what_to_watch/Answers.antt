use Rattle.std.proofs.Common.{rules, arith, ◌≡◌, ℕ, ◌<◌, ◌≤◌, ◌/◌, length, get_or}
use Rattle.conflict_analysis.proofs.RowLaws.{code_fits}
use Rattle.cdcl_solver.proofs.HighestLaws.{highest_none, highest_skip, highest_keep, highest_take, highest_end}
use Rattle.cdcl_solver.proofs.learning.what_to_watch.Goals as goal

pub loop-code-preserved-then-code-uip : goal.loop-code-preserved-then-code-uip
loop-code-preserved-then-code-uip c = highest_skip c.args.trail.now.levels.items c.args.clause.now c.loop-code.code-index c.args.uip c.loop-code.second c.loop-code.low c.loop-code-test.true c.loop-code.invariant c.if-code-uip.true

pub index-level-requires : goal.index-level-requires
index-level-requires c =
    let a = code_fits (length c.args.trail.now.levels.items) c.args.clause.now c.loop-code.code-index c.requires c.loop-code-test.true in
    omega (arith, a, c.args.trail.now.levels.ok.0)

pub loop-code-preserved-then-not-is_higher : goal.loop-code-preserved-then-not-is_higher
loop-code-preserved-then-not-is_higher c =
    let a = code_fits (length c.args.trail.now.levels.items) c.args.clause.now c.loop-code.code-index c.requires c.loop-code-test.true in
    highest_keep c.args.trail.now.levels.items c.args.clause.now c.loop-code.code-index c.args.uip c.loop-code.second c.loop-code.low c.loop-code-test.true c.loop-code.invariant c.index-level.result.now a c.index-level.ensures c.is_higher.result c.is_higher.ensures c.if-not-is_higher.true

pub loop-code-preserved : goal.loop-code-preserved
loop-code-preserved c =
    let a = code_fits (length c.args.trail.now.levels.items) c.args.clause.now c.loop-code.code-index c.requires c.loop-code-test.true in
    highest_take c.args.trail.now.levels.items c.args.clause.now c.loop-code.code-index c.args.uip c.loop-code.second c.loop-code.low c.loop-code-test.true c.loop-code.invariant c.index-level.result.now a c.index-level.ensures c.is_higher.result c.is_higher.ensures c.if-not-is_higher.false c.if-code-uip.false
