use Rattle.std.proofs.Common.{rules, ◌≡◌, true}
use Rattle.block_rule.specs.Deeds.{Ends}
use Rattle.walk_states.specs.Known.{plan_of}
use Rattle.walk_states.proofs.Following.{chosen, weaken}
use Rattle.block_walk.proofs.branches.last_exit.Goals as goal

pub returns-clause-means : goal.returns-clause-means
returns-clause-means c =
    let cut : (plan_of c.args.known.now).cuts c.args.exit.node ≡ true = search rules in
    let lost : c.args.lost ≡ true = search rules in
    weaken c.ended-2.result _ _
    (λ n end. chosen c.args.new.now c.args.cursor ((plan_of c.args.known.now).cuts c.args.exit.node) true _ _ cut
    (chosen c.args.new.now c.args.cursor c.args.lost true _ _ lost (c.in_ok-next.ensures.means (Ends c.args.exit.node) end)))
    c.ended-2.ensures.means
