use Rattle.std.proofs.Common.{refl}
use Rattle.block_rule.specs.Deeds.{Ends}
use Rattle.block_steps.specs.Tests.{holds}
use Rattle.walk_states.proofs.Following.{weaken}
use Rattle.block_walk.proofs.Branching.{branch-found}
use Rattle.block_walk.proofs.branches.passed.Goals as goal

pub returns-clause-means : goal.returns-clause-means
returns-clause-means c =
    weaken c.second_side.result _ _
    (λ n second code m. branch-found c.args.new.now c.args.cursor c.in-Some-find_side.one.next n c.in-Some.fork.node c.in-Some-find_side.one.term
    (holds c.args.old.now.terms c.args.test) (Ends c.args.to) code c.in-Some.ensures.means c.in-Some-find_side.ensures.means (c.if-not-is_bit.ensures.means refl) second
    c.in_ok-end.ensures.means m)
    c.second_side.ensures.means
