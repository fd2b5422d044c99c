use Rattle.std.proofs.Common.{ℕ, Option, IfOk, sym, subst}
use Rattle.block_rule.specs.Rule.{waits}
use Rattle.block_steps.specs.Tests.{holds}
use Rattle.walk_states.specs.Known.{plan_of}
use Rattle.walk_states.specs.Walks.{Finds, state_of}
use Rattle.walk_states.proofs.leading.waits_at.Goals as goal

pub returns-in-Some-clause-means : goal.returns-in-Some-clause-means
returns-in-Some-clause-means c =
    subst
    (λ (x : Option (Option ℕ)). IfOk c.waits_more.result
    (Finds c.args.new.now c.args.walk
    (λ rest. waits (plan_of c.args.known.now) (state_of c.args.walk) c.args.to c.args.sure (holds c.args.old.now.terms c.args.test) rest x)))
    (sym c.in-Some.is) c.waits_more.ensures.means
