use Rattle.std.proofs.Common.{rules, ◌≡◌, ◌&&◌, false, not}
use Rattle.walk_states.specs.Known.{plan_of}
use Rattle.walk_states.proofs.Following.{chosen, weaken}
use Rattle.walk_states.proofs.leading.begun.Goals as goal
use Rattle.walk_states.proofs.leading.begun.Goals.{else-sure-via-then-sure+else-not-is_cut, else-sure-via-else-sure}

pub returns-else-sure-clause-means : goal.returns-else-sure-clause-means
returns-else-sure-clause-means c =
    let b : (c.args.sure && not ((plan_of c.args.known.now).cuts c.args.to)) ≡ false = elim c.else-sure.branch [
      | else-sure-via-then-sure+else-not-is_cut w ↦ search rules
      | else-sure-via-else-sure w ↦ search rules
    ] in
    weaken c.entered.result _ _
    (λ w f rest m. chosen c.args.new.now c.args.walk.cursor (c.args.sure && not ((plan_of c.args.known.now).cuts c.args.to)) false _ _ b (f rest m))
    c.entered.ensures.means
