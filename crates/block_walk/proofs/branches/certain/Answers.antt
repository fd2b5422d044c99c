use Rattle.std.proofs.Common.{rules, ◌≡◌, ℕ, Bool, true, Option, sym, subst}
use Rattle.block_rule.specs.Rule.{certain}
use Rattle.block_steps.specs.Cursors.{Meets}
use Rattle.walk_states.proofs.Following.{weaken}
use Rattle.block_walk.proofs.branches.certain.Goals as goal

pub returns-in-Some-clause-means : goal.returns-in-Some-clause-means
returns-in-Some-clause-means c =
    let h = c.args.new.now in
    let lost : c.args.lost ≡ true = search rules in
    weaken c.assumed.result _ _
    (λ n f code m. subst (λ (b : Bool). Meets h c.args.cursor (certain b c.args.guard code)) (sym lost)
    (subst (λ (g : Option ℕ). Meets h c.args.cursor (certain true g code)) (sym c.in-Some.is) (f code m)))
    c.assumed.ensures.means
