use Rattle.block_rule.specs.Rule.{goes}
use Rattle.walk_states.specs.Known.{plan_of}
use Rattle.walk_states.specs.Walks.{way_of}
use Rattle.walk_states.proofs.Following.{weaken}
use Rattle.block_walk.proofs.places.checks.Goals as goal

pub returns-clause-means : goal.returns-clause-means
returns-clause-means c =
    weaken c.goes.result _ _
    (λ w f rest m. c.in_ok-there.ensures.means
    (λ st. goes c.args.old.now.terms (plan_of c.args.known.now) st c.args.guard (way_of c.args.old.now c.args.way) rest) (f rest m))
    c.goes.ensures.means
