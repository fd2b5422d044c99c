use Rattle.std.proofs.Common.{rules, arith, ◌≡◌, ◌∙◌, ℕ, ◌+◌, ◌*◌, ◌-◌, ◌<◌, ◌≤◌, List, [], ◌∷◌, ◌++◌, length, nat_eq, length-append, length-set, sym, ap, refl, subst, true}
use Rattle.watched_clauses.specs.declared.looking.Watch.{Watch}
use Rattle.watched_clauses.specs.Kept.{KeepsWatch}
use Rattle.cdcl_solver.specs.Learning.{IsHighest, with_watch}
use Rattle.cdcl_solver.proofs.ListLaws.{with_length}
use Rattle.cdcl_solver.proofs.LearnLaws.{uip_small, second_small, uip_below, uip_free, uip_free_not, back_rises, new_state, new_linked, new_kept}
use Rattle.cdcl_solver.proofs.TurnLaws.{turn_rests, turn_deep}
use Rattle.cdcl_solver.proofs.joining.join_learned.Goals as goal

pub push-requires-clause-below : goal.push-requires-clause-below
push-requires-clause-below c = uip_below c.args.vars.now c.args.board.rows c.args.board.trail c.args.board.level c.requires.linked c.requires.learned.conflict c.args.notes.now.learnt.items c.requires.learned.pairs c.args.uip c.requires.learned.left c.requires.learned.taught c.requires.learned.above c.requires.fits c.requires.in_clause c.what_to_watch-found.result.watch.first c.what_to_watch-found.result.watch.second c.what_to_watch-found.result.low (subst (λ w. IsHighest c.args.board.trail.levels.items w c.args.uip c.what_to_watch-found.result.watch.first c.what_to_watch-found.result.watch.second c.what_to_watch-found.result.low) c.as_slice.ensures.value c.what_to_watch-found.ensures.highest) c.go_back.new.trail c.in_ok-go_back.ensures.back c.in_ok-go_back.ensures.rises c.in_ok-go_back.ensures.levels

pub push-requires-clause-free : goal.push-requires-clause-free
push-requires-clause-free c = uip_free c.args.vars.now c.args.board.rows c.args.board.trail c.args.board.level c.requires.linked c.requires.learned.conflict c.args.notes.now.learnt.items c.requires.learned.pairs c.args.uip c.requires.learned.left c.requires.learned.taught c.requires.learned.above c.requires.fits c.requires.in_clause c.what_to_watch-found.result.watch.first c.what_to_watch-found.result.watch.second c.what_to_watch-found.result.low (subst (λ w. IsHighest c.args.board.trail.levels.items w c.args.uip c.what_to_watch-found.result.watch.first c.what_to_watch-found.result.watch.second c.what_to_watch-found.result.low) c.as_slice.ensures.value c.what_to_watch-found.ensures.highest) c.go_back.new.trail c.in_ok-go_back.ensures.back c.in_ok-go_back.ensures.rises c.in_ok-go_back.ensures.levels

pub push-requires-clause-free_not : goal.push-requires-clause-free_not
push-requires-clause-free_not c = uip_free_not c.args.vars.now c.args.board.rows c.args.board.trail c.args.board.level c.requires.linked c.requires.learned.conflict c.args.notes.now.learnt.items c.requires.learned.pairs c.args.uip c.requires.learned.left c.requires.learned.taught c.requires.learned.above c.requires.fits c.requires.in_clause c.what_to_watch-found.result.watch.first c.what_to_watch-found.result.watch.second c.what_to_watch-found.result.low (subst (λ w. IsHighest c.args.board.trail.levels.items w c.args.uip c.what_to_watch-found.result.watch.first c.what_to_watch-found.result.watch.second c.what_to_watch-found.result.low) c.as_slice.ensures.value c.what_to_watch-found.ensures.highest) c.go_back.new.trail c.in_ok-go_back.ensures.back c.in_ok-go_back.ensures.rises c.in_ok-go_back.ensures.levels

pub add_watch-requires-clause-second : goal.add_watch-requires-clause-second
add_watch-requires-clause-second c = let q = second_small c.args.vars.now c.args.board.rows c.args.board.trail c.args.board.level c.requires.linked c.requires.learned.conflict c.args.notes.now.learnt.items c.requires.learned.pairs c.args.uip c.requires.learned.left c.requires.learned.taught c.requires.learned.above c.requires.fits c.requires.in_clause c.what_to_watch-found.result.watch.first c.what_to_watch-found.result.watch.second c.what_to_watch-found.result.low (subst (λ w. IsHighest c.args.board.trail.levels.items w c.args.uip c.what_to_watch-found.result.watch.first c.what_to_watch-found.result.watch.second c.what_to_watch-found.result.low) c.as_slice.ensures.value c.what_to_watch-found.ensures.highest) in omega (arith, q, c.args.board.all, c.args.board.trail.wide, c.requires.linked.wide)

pub invariant_of-result : goal.invariant_of-result
invariant_of-result c =
    let kept = new_kept c.args.vars.now c.args.board.rows c.args.board.trail c.args.board.level c.requires.linked c.requires.learned.conflict c.args.notes.now.learnt.items c.requires.learned.pairs c.args.uip c.requires.learned.left c.requires.learned.taught c.requires.learned.above c.requires.fits c.requires.in_clause c.what_to_watch-found.result.watch.first c.what_to_watch-found.result.watch.second c.what_to_watch-found.result.low (subst (λ w. IsHighest c.args.board.trail.levels.items w c.args.uip c.what_to_watch-found.result.watch.first c.what_to_watch-found.result.watch.second c.what_to_watch-found.result.low) c.as_slice.ensures.value c.what_to_watch-found.ensures.highest) c.go_back.new.trail c.in_ok-go_back.ensures.back c.in_ok-go_back.ensures.rises c.in_ok-go_back.ensures.levels c.push.new.self c.in_ok-number.number c.in_ok-number.ensures.value c.in_ok-push.ensures.codes c.in_ok-push.ensures.truth c.in_ok-push.ensures.levels c.in_ok-push.ensures.reasons c.args.board.watches.items c.args.board.lists c.args.board.head c.args.board.watching c.args.board.all c.what_to_watch-found.result.watch c.len-head.result c.what_to_watch-found.ensures.highest.uip_first refl (c.what_to_watch-found.ensures.pair ∙ ap (λ (w : List ℕ). nat_eq (length w) 2) c.as_slice.ensures.value) (omega (arith, c.len-head.ensures, c.go_back.new.trail.codes.ok.0)) in
    let k1 = subst (λ (w : List (List ℕ)). KeepsWatch w (c.args.board.watches.items ++ (c.what_to_watch-found.result.watch ∷ [])) (with_watch c.args.board.lists c.what_to_watch-found.result.watch c.in_ok-number.number) c.push.new.self c.what_to_watch-found.result.low c.len-head.result) (sym (c.in_ok-push-2.ensures.pushed ∙ ap (λ (w : List ℕ). c.args.board.rows ++ (w ∷ [])) c.as_slice-2.ensures.value)) kept in
    let k2 = subst (λ (w : List Watch). KeepsWatch c.push-2.new.self w (with_watch c.args.board.lists c.what_to_watch-found.result.watch c.in_ok-number.number) c.push.new.self c.what_to_watch-found.result.low c.len-head.result) (sym c.in_ok-add_watch.ensures.watches) k1 in
    let ss = second_small c.args.vars.now c.args.board.rows c.args.board.trail c.args.board.level c.requires.linked c.requires.learned.conflict c.args.notes.now.learnt.items c.requires.learned.pairs c.args.uip c.requires.learned.left c.requires.learned.taught c.requires.learned.above c.requires.fits c.requires.in_clause c.what_to_watch-found.result.watch.first c.what_to_watch-found.result.watch.second c.what_to_watch-found.result.low (subst (λ w. IsHighest c.args.board.trail.levels.items w c.args.uip c.what_to_watch-found.result.watch.first c.what_to_watch-found.result.watch.second c.what_to_watch-found.result.low) c.as_slice.ensures.value c.what_to_watch-found.ensures.highest) in
    let us = uip_small c.args.vars.now c.args.board.rows c.args.board.trail c.args.board.level c.requires.linked c.requires.learned.conflict c.args.notes.now.learnt.items c.requires.learned.pairs c.args.uip c.requires.learned.left c.requires.learned.taught c.requires.learned.above c.requires.fits c.requires.in_clause in
    let f : c.what_to_watch-found.result.watch.first ≡ c.args.uip = c.what_to_watch-found.ensures.highest.uip_first in
    let long : length (with_watch c.args.board.lists c.what_to_watch-found.result.watch c.in_ok-number.number) ≡ length c.args.board.lists = with_length c.args.board.lists c.what_to_watch-found.result.watch c.in_ok-number.number (omega (arith, us, f, c.args.board.all, c.args.board.trail.wide, c.requires.linked.wide)) (omega (arith, ss, c.args.board.all, c.args.board.trail.wide, c.requires.linked.wide)) in
    let d = turn_deep c.args.vars.now c.go_back.new.trail c.what_to_watch-found.result.low (back_rises c.args.vars.now c.args.board.rows c.args.board.trail c.args.board.level c.requires.linked c.requires.learned.conflict c.args.notes.now.learnt.items c.requires.learned.pairs c.args.uip c.requires.learned.left c.requires.learned.taught c.requires.learned.above c.requires.fits c.requires.in_clause c.what_to_watch-found.result.watch.first c.what_to_watch-found.result.watch.second c.what_to_watch-found.result.low (subst (λ w. IsHighest c.args.board.trail.levels.items w c.args.uip c.what_to_watch-found.result.watch.first c.what_to_watch-found.result.watch.second c.what_to_watch-found.result.low) c.as_slice.ensures.value c.what_to_watch-found.ensures.highest) c.go_back.new.trail c.in_ok-go_back.ensures.back c.in_ok-go_back.ensures.rises c.in_ok-go_back.ensures.levels) in
    record {
      watching = subst (λ (w : List (List ℕ)). KeepsWatch c.push-2.new.self c.add_watch.new.watches.items w c.push.new.self c.what_to_watch-found.result.low c.len-head.result) (sym c.in_ok-add_watch.ensures.lists) k2;
      within = omega (arith, c.len-head.ensures, c.go_back.new.trail.codes.ok.0, ap length c.in_ok-push.ensures.codes, length-append c.go_back.new.trail.codes.items (c.args.uip ∷ []));
      all = ap length c.in_ok-add_watch.ensures.lists ∙ long ∙ c.args.board.all ∙ sym (ap length c.in_ok-push.ensures.truth ∙ length-set c.go_back.new.trail.truth.items c.args.uip true ∙ c.in_ok-go_back.ensures.wide);
      deep = omega (arith, d, ap length c.in_ok-push.ensures.codes, length-append c.go_back.new.trail.codes.items (c.args.uip ∷ []));
      ordered = c.in_ok-go_back.ensures.ordered ∙ c.bump_all.ensures ∙ c.args.board.ordered ∙ sym (ap length c.in_ok-push.ensures.levels ∙ length-set c.go_back.new.trail.levels.items _ c.what_to_watch-found.result.low ∙ ap length c.in_ok-go_back.ensures.levels);
    }

pub returns-clause-rests : goal.returns-clause-rests
returns-clause-rests c = λ clauses log ch n above taught r.
    (let st = new_state c.args.vars.now c.args.board.rows c.args.board.trail c.args.board.level c.requires.linked ch.first c.args.notes.now.learnt.items ch.pairs c.args.uip n taught above c.requires.fits c.requires.in_clause c.what_to_watch-found.result.watch.first c.what_to_watch-found.result.watch.second c.what_to_watch-found.result.low (subst (λ w. IsHighest c.args.board.trail.levels.items w c.args.uip c.what_to_watch-found.result.watch.first c.what_to_watch-found.result.watch.second c.what_to_watch-found.result.low) c.as_slice.ensures.value c.what_to_watch-found.ensures.highest) c.go_back.new.trail c.in_ok-go_back.ensures.back c.in_ok-go_back.ensures.rises c.in_ok-go_back.ensures.levels c.push.new.self c.in_ok-number.number c.in_ok-number.ensures.value c.in_ok-push.ensures.codes c.in_ok-push.ensures.truth c.in_ok-push.ensures.levels c.in_ok-push.ensures.reasons clauses log ch (log ++ (ch ∷ [])) refl refl refl r.state in
    turn_rests clauses c.args.vars.now c.args.board.rows c.push-2.new.self c.what_to_watch-found.result.low c.push.new.self (log ++ (ch ∷ [])) c.args.notes.now.learnt.items (c.in_ok-push-2.ensures.pushed ∙ ap (λ (w : List ℕ). c.args.board.rows ++ (w ∷ [])) c.as_slice-2.ensures.value) r.fit c.requires.fits st (new_linked c.args.vars.now c.args.board.rows c.args.board.trail c.args.board.level c.requires.linked ch.first c.args.notes.now.learnt.items ch.pairs c.args.uip n taught above c.requires.fits c.requires.in_clause c.what_to_watch-found.result.watch.first c.what_to_watch-found.result.watch.second c.what_to_watch-found.result.low (subst (λ w. IsHighest c.args.board.trail.levels.items w c.args.uip c.what_to_watch-found.result.watch.first c.what_to_watch-found.result.watch.second c.what_to_watch-found.result.low) c.as_slice.ensures.value c.what_to_watch-found.ensures.highest) c.go_back.new.trail c.in_ok-go_back.ensures.back c.in_ok-go_back.ensures.rises c.in_ok-go_back.ensures.levels c.push.new.self c.in_ok-number.number c.in_ok-number.ensures.value c.in_ok-push.ensures.codes c.in_ok-push.ensures.truth c.in_ok-push.ensures.levels c.in_ok-push.ensures.reasons st.holds))
