use Rattle.std.proofs.Common.{false}
use Rattle.block_rule.specs.Rule.{leads, under}
use Rattle.walk_states.specs.Known.{plan_of}
use Rattle.walk_states.proofs.Following.{weaken}
use Rattle.block_walk.proofs.places.forks.Goals as goal

pub returns-clause-means : goal.returns-clause-means
returns-clause-means c =
    weaken c.leads-2.result _ _
    (λ w f rest m. c.in_ok-there.ensures.means
    (λ st. leads (plan_of c.args.known.now) st c.args.other false (under c.args.old.now.terms c.args.guard c.args.others) rest) (f rest m))
    c.leads-2.ensures.means
