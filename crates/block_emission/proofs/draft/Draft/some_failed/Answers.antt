use Rattle.block_emission.proofs.Putting.{failed-step}
use Rattle.block_emission.proofs.draft.Draft.some_failed.Goals as goal

pub loop-behind-preserved : goal.loop-behind-preserved
loop-behind-preserved c = failed-step _ _ _ _ _ c.args.checks.now c.loop-behind.behind _ c.loop-behind.invariant c.loop-behind-test.true c.in_ok-any.ensures.made
