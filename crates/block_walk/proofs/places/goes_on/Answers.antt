use Rattle.std.proofs.Common.{Bool, false, List, subst}
use Rattle.block_rule.specs.Deeds.{Code}
use Rattle.block_rule.specs.Rule.{is_on, leads, moved, some_draw}
use Rattle.block_steps.specs.Cursors.{Meets}
use Rattle.walk_states.specs.Known.{plan_of}
use Rattle.walk_states.specs.Walks.{moves_of, state_of, waits_of}
use Rattle.walk_states.specs.declared.state.Waiting.{Waiting}
use Rattle.walk_states.proofs.Following.{chosen, weaken}
use Rattle.block_walk.proofs.places.goes_on.Goals as goal

pub returns-clause-means : goal.returns-clause-means
returns-clause-means c =
    let h = c.args.new.now in
    let table = c.args.old.now.terms in
    let plan = plan_of c.args.known.now in
    let k = c.in_ok-cursor.cursor in
    let ops = moves_of c.args.old.now c.args.way in
    let moves : (code : Code) → Meets h k code → Meets h c.args.walk.cursor (moved table plan (waits_of c.args.walk.waiting.items) c.args.guard ops code) =
    subst (λ (ws : List Waiting). (code : Code) → Meets h k code → Meets h c.args.walk.cursor (moved table plan (waits_of ws) c.args.guard ops code))
    c.deref.ensures.value c.in_ok-cursor.ensures.means in
    weaken c.leads.result _ _
    (λ w f rest m. chosen h c.args.walk.cursor (some_draw ops) false _ _ c.requires.plain
    (moves _
    (subst (λ (b : Bool). Meets h k (leads plan (state_of c.args.walk) c.args.way.to b (is_on c.args.guard) rest)) c.is_sure.ensures (f rest m))))
    c.leads.ensures.means
