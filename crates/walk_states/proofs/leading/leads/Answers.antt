use Rattle.std.proofs.Common.{◌≡◌, ◌∙◌, true, sym}
use Rattle.block_rule.specs.Plans as plans
use Rattle.walk_states.specs.Known.{plan_of}
use Rattle.walk_states.proofs.Following.{chosen, weaken}
use Rattle.walk_states.proofs.leading.leads.Goals as goal

pub returns-then-matters-clause-means : goal.returns-then-matters-clause-means
returns-then-matters-clause-means c =
    let e : plans.matters (plan_of c.args.known.now) c.args.to ≡ true = sym c.matters.ensures ∙ c.if-matters.true in
    weaken c.waits.result _ _ (λ w f rest m. chosen c.args.new.now c.args.walk.cursor (plans.matters (plan_of c.args.known.now) c.args.to) true _ _ e (f rest m))
    c.waits.ensures.means
