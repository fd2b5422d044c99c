use Rattle.std.proofs.Common.{arith, ◌∙◌, ◌≤◌, length}
use Rattle.walk_states.specs.Known.{plan_of}
use Rattle.walk_states.specs.Walks.{waits_of}
use Rattle.block_walk.proofs.Going.{moved-from, moved-out}
use Rattle.block_walk.proofs.places.moved.Goals as goal

pub returns-clause-made : goal.returns-clause-made
returns-clause-made c =
    let le : c.args.skip ≤ length c.args.ops.now = omega (arith, c.if-skip-ops.false) in
    moved-from c.args.old.now.terms c.args.new.now (plan_of c.args.known.now) (waits_of c.args.waiting.now) c.args.guard c.args.ops.now c.args.skip c.args.cursor le
    ∙ c.loop-number.invariant.1
    ∙ moved-out c.args.old.now.terms c.args.new.now (plan_of c.args.known.now) (waits_of c.args.waiting.now) c.args.guard c.args.ops.now c.loop-number.number c.loop-number.at
    (omega (arith, c.loop-number-test.false))
