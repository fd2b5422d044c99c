use Rattle.std.proofs.Common.{rules, ◌≡◌, ℕ, Option, IfOk, subst}
use Rattle.block_rule.specs.Rule.{found, waits}
use Rattle.block_steps.specs.Tests.{holds}
use Rattle.walk_states.specs.Known.{plan_of}
use Rattle.walk_states.specs.Walks.{Finds, state_of, waits_of}
use Rattle.walk_states.proofs.leading.waits.Goals as goal

pub returns-clause-means : goal.returns-clause-means
returns-clause-means c =
    let e : c.found-place.result ≡ found (waits_of c.args.walk.waiting.items) c.args.to = search rules in
    subst
    (λ (x : Option (Option ℕ)). IfOk c.waits_at.result
    (Finds c.args.new.now c.args.walk
    (λ rest. waits (plan_of c.args.known.now) (state_of c.args.walk) c.args.to c.args.sure (holds c.args.old.now.terms c.args.test) rest x)))
    e c.waits_at.ensures.means
