use Rattle.std.proofs.Common.{rules, ◌≡◌, ap, refl, true, false, List, None, subst}
use Rattle.block_rule.specs.Deeds.{Code}
use Rattle.block_rule.specs.Rule.{State, clear, flushed, is_none, moved}
use Rattle.block_steps.specs.Cursors.{Meets}
use Rattle.walk_states.specs.Known.{plan_of}
use Rattle.walk_states.specs.Walks.{bads_of, moves_of, state_of, waits_of, way_of}
use Rattle.walk_states.specs.declared.state.Failing.{Failing}
use Rattle.walk_states.specs.declared.state.Waiting.{Waiting}
use Rattle.block_walk.proofs.Branching.{drawn-found}
use Rattle.walk_states.proofs.Following.{same-state, weaken}
use Rattle.block_walk.proofs.places.drawn.Goals as goal

pub returns-clause-means : goal.returns-clause-means
returns-clause-means c =
    let h = c.args.new.now in
    let table = c.args.old.now.terms in
    let plan = plan_of c.args.known.now in
    let k = c.in_ok-cursor.cursor in
    let ops = moves_of c.args.old.now c.args.way in
    let none : is_none (waits_of c.args.walk.waiting.items) ≡ true = search rules in
    let there : State = record {
      waiting = waits_of c.args.walk.waiting.items;
      bads = bads_of c.new.result.items;
      lost = false;
      next = c.args.walk.next;
    } in
    let same : there ≡ clear (state_of c.args.walk) = same-state _ _ _ _ _ _ _ _ refl (ap bads_of c.new.ensures.items) refl refl in
    let flush : (code : Code) → Meets h c.in_ok-flushed.flushed code → Meets h c.args.walk.cursor (flushed (bads_of c.args.walk.bads.items) code) =
    subst (λ (bs : List Failing). (code : Code) → Meets h c.in_ok-flushed.flushed code → Meets h c.args.walk.cursor (flushed (bads_of bs) code))
    c.deref-2.ensures.value c.in_ok-flushed.ensures.means in
    let moves : (code : Code) → Meets h k code → Meets h c.in_ok-sure.sure (moved table plan (waits_of c.args.walk.waiting.items) None ops code) =
    subst (λ (ws : List Waiting). (code : Code) → Meets h k code → Meets h c.in_ok-sure.sure (moved table plan (waits_of ws) None ops code))
    c.deref-3.ensures.value c.in_ok-cursor.ensures.means in
    weaken c.leads.result _ _
    (λ w f rest m. drawn-found h table plan c.args.walk there c.args.guard (way_of c.args.old.now c.args.way) c.in_ok-flushed.flushed c.in_ok-sure.sure k
    rest c.requires.draws none same flush c.in_ok-sure.ensures.means moves (f rest m))
    c.leads.ensures.means
