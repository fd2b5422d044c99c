use Rattle.std.proofs.Common.{rules}
use Rattle.loop_turns.proofs.Turning.{one-more}
use Rattle.loop_turns.proofs.goals.standings_of.Goals as goal

pub loop-instruction-preserved : goal.loop-instruction-preserved
loop-instruction-preserved c = λ offset. one-more offset c.loop-instruction.instruction-index c.args.code.now _ _ _ (search rules) (c.in_ok-add.ensures offset) (c.loop-instruction.invariant offset)
