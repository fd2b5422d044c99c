use Rattle.std.proofs.Common.{rules, ℕ, ◌+◌, ◌-◌, ◌<◌, ◌≤◌, ◌++◌, length, drop, get_or, refl, ap, ◌∙◌, sym, subst, List, Vec, Global}
use Rattle.std.proofs.lemmas.List.Elements.{All-push}
use Rattle.slot_code.specs.declared.flat.Instruction.{Instruction}
use Rattle.loop_turns.specs.Turning.{OnlyTurn}
use Rattle.c_graph.specs.declared.graph.LoopAt.{LoopAt}
use Rattle.cfg_build.specs.Follows.{plan_of}
use Rattle.c_graph.specs.declared.graph.NodeId.{NodeId}
use Rattle.cfg_build.specs.Graphs.{AreLoops, IsLoop}
use Rattle.cfg_build.specs.Looped.{loop_goal, loops_from, loops_at}
use Rattle.cfg_build.proofs.Laying.{loops-more, loops-wait, loops-full}
use Rattle.cfg_build.proofs.building.loops_at.Goals.{in-Some+in_ok-push, in_default}
use Rattle.cfg_build.proofs.building.loops_at.Goals as goal

pub loop-place-preserved : goal.loop-place-preserved
loop-place-preserved c =
    let p = plan_of c.args.places.now in
    let offsets = c.args.loops.now in
    let number = c.loop-place.number in
    let at = get_or offsets number 0 in
    let place = c.loop-place.place in
    let end = c.args.places.now.range.end in
    let found = c.loop-place.found.items in
    let all = loops_at p offsets in
    let inside : place < end = search rules in
    let left : number < length offsets = search rules in
    elim c.match-loop_goal.branch [
      | in-Some+in_ok-push w ↦
          let own : LoopAt = record { at = at; node = w.node_of-node.result } in
          let l : IsLoop p own = record {
            goal = w.in-Some.goal;
            place = place;
            not_before = (search rules);
            not_behind = (search rules);
            turns = w.in-Some.ensures.turns;
            only = subst (λ (code : List Instruction). OnlyTurn code at w.in-Some.goal) c.in_ok-goals.ensures w.in-Some.ensures.only;
            node = w.node_of-node.ensures;
          } in (
            subst (λ (v : Vec LoopAt Global). AreLoops p v.items) (sym w.found-is)
                (subst (λ (ls : List LoopAt). AreLoops p ls) (sym w.in_ok-push.ensures.items)
                (All-push (IsLoop p) found _ c.loop-place.invariant.0 l)),
            loops-more p place (place + 1) end number c.match-loop_goal.number w.in-Some.goal offsets found c.match-loop_goal.found.items all own inside left refl (sym w.number-is)
                (w.in-Some.ensures.value ∙ ap (λ (code : List Instruction). loop_goal p code place at) c.in_ok-goals.ensures)
                (ap (λ (n : NodeId). record { at = at; node = n }) w.node_of-node.ensures)
                (ap (λ (v : Vec LoopAt Global). v.items) w.found-is ∙ w.in_ok-push.ensures.items)
                c.loop-place.invariant.1,
          )
      | in_default w ↦ (
        subst (λ (v : Vec LoopAt Global). AreLoops p v.items) (sym w.found-is) c.loop-place.invariant.0,
        ap (λ (k : ℕ). c.match-loop_goal.found.items ++ loops_from p (place + 1) (end - (place + 1)) (drop k offsets)) w.number-is
            ∙ ap (λ (v : Vec LoopAt Global). v.items ++ loops_from p (place + 1) (end - (place + 1)) (drop number offsets)) w.found-is
            ∙ loops-wait p place (place + 1) end number offsets found all inside left refl
            (w.in_default.ensures.value ∙ ap (λ (code : List Instruction). loop_goal p code place at) c.in_ok-goals.ensures)
            c.loop-place.invariant.1,
      )
    ]

pub returns-then-number-loops-clause-made : goal.returns-then-number-loops-clause-made
returns-then-number-loops-clause-made c =
    let full : length c.args.loops.now ≤ c.loop-place.number = search rules in
    loops-full (plan_of c.args.places.now) c.loop-place.place _ c.loop-place.number c.args.loops.now c.loop-place.found.items _ full c.loop-place.invariant.1
