use Rattle.std.proofs.Common.{◌||◌, subst}
use Rattle.bv_term.specs.Numbers.{truth}
use Rattle.bv_term.specs.WellFormed.{Table}
use Rattle.block_rule.specs.Deeds.{Code, Deed, Does, Sets}
use Rattle.block_rule.specs.Rule.{is_set}
use Rattle.block_steps.specs.Cursors.{Meets}
use Rattle.block_steps.specs.Tests.{holds}
use Rattle.walk_states.specs.Walks.{state_of}
use Rattle.walk_states.proofs.leading.added.Goals as goal

pub returns-clause-means : goal.returns-clause-means
returns-clause-means c =
    let h = c.args.new.now in
    let deed : Table → Deed = λ t. Sets c.args.cell (λ s. truth (is_set c.args.cell s || holds t c.args.test s)) in
    let step : (code : Code) → Meets h c.in-Some.cursor code → Meets h c.args.walk.cursor (Does (deed c.args.old.now.terms) code) =
    subst (λ (t : Table). (code : Code) → Meets h c.in-Some.cursor code → Meets h c.args.walk.cursor (Does (deed t) code)) c.terms.ensures.value
    c.in-Some.ensures.means in
    λ rest m. step (rest (state_of c.args.walk)) m
