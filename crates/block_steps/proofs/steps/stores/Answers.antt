use Rattle.std.proofs.Common.{refl}
use Rattle.block_rule.specs.Rule.{guarded}
use Rattle.block_steps.proofs.Places.{does}
use Rattle.block_steps.proofs.steps.stores.Goals as goal

pub returns-clause-means : goal.returns-clause-means
returns-clause-means c = λ code m.
    let (there, behind) = c.in-Some.ensures.means in
    let (is, within) = c.if-not-is_same.ensures.means refl in
    does c.args.graph.now c.args.cursor c.in-Some.step.next c.in-Some.step.operation (guarded c.args.old.now c.args.guard c.args.operation) code there behind is
    within m
