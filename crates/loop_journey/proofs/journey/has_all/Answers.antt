use Rattle.std.specs.Prelude.{Contains}
use Rattle.loop_journey.proofs.Labels.{all_there}
use Rattle.loop_journey.proofs.journey.has_all.Goals as goal

pub loop-term-preserved : goal.loop-term-preserved
loop-term-preserved c = all_there c.args.label.now c.args.terms.now c.loop-term.term-index (record { 0 = 0 }) c.loop-term-test.true c.loop-term.invariant (c.has.ensures c.if-not-has.false)
