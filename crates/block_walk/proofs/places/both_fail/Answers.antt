use Rattle.block_rule.specs.Rule.{checked, under}
use Rattle.walk_states.proofs.Following.{weaken}
use Rattle.block_walk.proofs.places.both_fail.Goals as goal

pub returns-clause-means : goal.returns-clause-means
returns-clause-means c =
    weaken c.checked-2.result _ _
    (λ w f rest m. c.in_ok-there.ensures.means (λ st. checked st c.args.other (under c.args.old.now.terms c.args.guard c.args.others) rest) (f rest m))
    c.checked-2.ensures.means
