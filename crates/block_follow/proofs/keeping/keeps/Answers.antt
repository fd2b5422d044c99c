use Rattle.std.proofs.Common.{◌∙◌}
use Rattle.walk_states.specs.Known.{plan_of}
use Rattle.block_follow.proofs.Growing.{weaken}
use Rattle.block_follow.proofs.Leaving.{has-kept}
use Rattle.block_follow.proofs.keeping.keeps.Goals as goal

pub returns-clause-tells : goal.returns-clause-tells
returns-clause-tells c =
    weaken c.are_within.result _ _
    (λ b within t. has-kept c.args.old.now c.args.new.now (plan_of c.args.known.now) c.args.node c.args.first c.in-Some.end c.deref.result.now
    (c.deref.ensures.value ∙ c.in_ok-outs.ensures) c.in-Some.ensures.kept c.in-Some.ensures.made (within t))
    c.are_within.ensures.tells
