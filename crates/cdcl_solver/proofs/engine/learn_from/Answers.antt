use Rattle.std.proofs.Common.{rules, arith, ◌≡◌, ◌∙◌, ℕ, ◌+◌, ◌*◌, ◌<◌, ◌≤◌, List, [], ◌∷◌, ◌++◌, length, sym, ap, refl, subst, true, Option, Some, None, MatchOption, slice_get}
use Rattle.prop.specs.Trues.{listed}
use Rattle.resolution_log.specs.Codes.{AllBelow}
use Rattle.resolution_log.specs.declared.Chain.{Chain}
use Rattle.clause_learning.specs.Trail.{Going}
use Rattle.dense_trail.specs.Dense.{known_of, lits_of}
use Rattle.watched_clauses.specs.Kept.{IsLinked}
use Rattle.conflict_analysis.specs.Walk.{IsTaught}
use Rattle.cdcl_solver.specs.Stops.{trail_entries}
use Rattle.cdcl_solver.specs.Search.{Rests}
use Rattle.cdcl_solver.proofs.OpenLaws.{begin_from}
use Rattle.cdcl_solver.proofs.TurnLaws.{turn_spent, turn_heavy, turn_counted, turn_light}
use Rattle.cdcl_solver.proofs.engine.learn_from.Goals as goal

pub analyze-requires-clause-begin : goal.analyze-requires-clause-begin
analyze-requires-clause-begin c = subst (λ w. (r : List ℕ) → slice_get c.args.s.board.rows c.args.k ≡ Some r → Going (known_of w c.args.s.board.rows) c.args.s.board.level (trail_entries w c.args.s.board.trail) c.args.k (lits_of w r) []) (sym c.deref.ensures.value) (begin_from c.args.clauses.now c.args.s.vars.items c.args.s.board.rows c.args.s.board.level c.args.s.board.trail c.args.s.log c.args.k c.requires.state.rests c.requires.clash)

pub join_learned-requires-clause-linked : goal.join_learned-requires-clause-linked
join_learned-requires-clause-linked c = subst (λ w. IsLinked w c.args.s.board.rows c.args.s.board.level c.args.s.board.trail) (sym c.deref-2.ensures.value) c.requires.state.rests.linked

pub join_learned-requires-clause-learned : goal.join_learned-requires-clause-learned
join_learned-requires-clause-learned c = record {
  conflict = c.args.k;
  pairs = c.in_ok-a.a.pairs;
  left = c.in_ok-a.a.left;
  taught = (subst (λ w. IsTaught w c.args.s.board.rows c.args.s.board.trail c.args.s.board.level c.args.k c.analyze.new.notes.learnt.items c.in_ok-a.a.pairs (Some c.in-Some.uip) c.in_ok-a.a.left) (sym c.deref-2.ensures.value) (subst (λ o. IsTaught c.args.s.vars.items c.args.s.board.rows c.args.s.board.trail c.args.s.board.level c.args.k c.analyze.new.notes.learnt.items c.in_ok-a.a.pairs o c.in_ok-a.a.left) c.in-Some.is (subst (λ w. IsTaught w c.args.s.board.rows c.args.s.board.trail c.args.s.board.level c.args.k c.analyze.new.notes.learnt.items c.in_ok-a.a.pairs c.in_ok-a.a.uip c.in_ok-a.a.left) c.deref.ensures.value c.in_ok-a.ensures.taught)));
  above = c.in_ok-a.ensures.above;
}

pub join_learned-requires-clause-fits : goal.join_learned-requires-clause-fits
join_learned-requires-clause-fits c = subst (λ (w : List ℕ). AllBelow (2 * length w) c.analyze.new.notes.learnt.items) (c.deref.ensures.value ∙ sym c.deref-2.ensures.value) c.in_ok-a.ensures.fits

pub join_learned-requires-clause-gone : goal.join_learned-requires-clause-gone
join_learned-requires-clause-gone c = subst (λ (w : List ℕ). AllBelow (2 * length w) c.as_slice.result.now) (c.deref.ensures.value ∙ sym c.deref-2.ensures.value) (subst (AllBelow (2 * length c.deref.result.now)) (sym c.as_slice.ensures.value) c.in_ok-a.ensures.gone)

pub join_learned-requires-clause-in_clause : goal.join_learned-requires-clause-in_clause
join_learned-requires-clause-in_clause c = subst (λ (o : Option ℕ). MatchOption o (Unit {0}) (λ k. listed c.analyze.new.notes.learnt.items k ≡ true)) c.in-Some.is c.in_ok-a.ensures.uip

pub returns-then-len-learn-clause-turn : goal.returns-then-len-learn-clause-turn
returns-then-len-learn-clause-turn c =
    let ch : Chain = record { first = c.args.k; pairs = c.in_ok-a.a.pairs } in
    let old = subst (λ w. Rests c.args.clauses.now w c.args.s.board.rows c.args.s.board.level c.args.s.board.trail c.args.s.log) (sym c.deref-2.ensures.value) c.requires.state.rests in
    let joined = c.in_ok-next.ensures.rests c.args.clauses.now c.args.s.log ch c.in_ok-a.a.left c.in_ok-a.ensures.above (subst (λ w. IsTaught w c.args.s.board.rows c.args.s.board.trail c.args.s.board.level c.args.k c.analyze.new.notes.learnt.items c.in_ok-a.a.pairs (Some c.in-Some.uip) c.in_ok-a.a.left) (sym c.deref-2.ensures.value) (subst (λ o. IsTaught c.args.s.vars.items c.args.s.board.rows c.args.s.board.trail c.args.s.board.level c.args.k c.analyze.new.notes.learnt.items c.in_ok-a.a.pairs o c.in_ok-a.a.left) c.in-Some.is (subst (λ w. IsTaught w c.args.s.board.rows c.args.s.board.trail c.args.s.board.level c.args.k c.analyze.new.notes.learnt.items c.in_ok-a.a.pairs c.in_ok-a.a.uip c.in_ok-a.a.left) c.deref.ensures.value c.in_ok-a.ensures.taught))) old in
    let named = subst (λ w. Rests c.args.clauses.now w c.in_ok-next.next.rows c.in_ok-next.next.level c.in_ok-next.next.trail (c.args.s.log ++ (ch ∷ []))) c.deref-2.ensures.value joined in
    let rests = subst (λ w. Rests c.args.clauses.now c.args.s.vars.items c.in_ok-next.next.rows c.in_ok-next.next.level c.in_ok-next.next.trail w) (sym c.in_ok-push.ensures.pushed) named in
    turn_spent c.args.clauses.now c.args.learn (known_of c.args.s.vars.items c.in_ok-next.next.rows) c.in_ok-next.next.level (trail_entries c.args.s.vars.items c.in_ok-next.next.trail) c.args.s.log c.push.new.self ch rests.state c.in_ok-push.ensures.pushed c.requires.state.short (omega (arith, c.len-2.ensures, c.if-len-learn.true))

pub returns-then-total-limit-clause-turn : goal.returns-then-total-limit-clause-turn
returns-then-total-limit-clause-turn c =
    let ch : Chain = record { first = c.args.k; pairs = c.in_ok-a.a.pairs } in
    let old = subst (λ w. Rests c.args.clauses.now w c.args.s.board.rows c.args.s.board.level c.args.s.board.trail c.args.s.log) (sym c.deref-2.ensures.value) c.requires.state.rests in
    let joined = c.in_ok-next.ensures.rests c.args.clauses.now c.args.s.log ch c.in_ok-a.a.left c.in_ok-a.ensures.above (subst (λ w. IsTaught w c.args.s.board.rows c.args.s.board.trail c.args.s.board.level c.args.k c.analyze.new.notes.learnt.items c.in_ok-a.a.pairs (Some c.in-Some.uip) c.in_ok-a.a.left) (sym c.deref-2.ensures.value) (subst (λ o. IsTaught c.args.s.vars.items c.args.s.board.rows c.args.s.board.trail c.args.s.board.level c.args.k c.analyze.new.notes.learnt.items c.in_ok-a.a.pairs o c.in_ok-a.a.left) c.in-Some.is (subst (λ w. IsTaught w c.args.s.board.rows c.args.s.board.trail c.args.s.board.level c.args.k c.analyze.new.notes.learnt.items c.in_ok-a.a.pairs c.in_ok-a.a.uip c.in_ok-a.a.left) c.deref.ensures.value c.in_ok-a.ensures.taught))) old in
    let named = subst (λ w. Rests c.args.clauses.now w c.in_ok-next.next.rows c.in_ok-next.next.level c.in_ok-next.next.trail (c.args.s.log ++ (ch ∷ []))) c.deref-2.ensures.value joined in
    let rests = subst (λ w. Rests c.args.clauses.now c.args.s.vars.items c.in_ok-next.next.rows c.in_ok-next.next.level c.in_ok-next.next.trail w) (sym c.in_ok-push.ensures.pushed) named in
    turn_heavy c.args.clauses.now c.args.learn c.args.limit (known_of c.args.s.vars.items c.in_ok-next.next.rows) c.in_ok-next.next.level (trail_entries c.args.s.vars.items c.in_ok-next.next.trail) c.args.s.log c.push.new.self ch c.args.s.pairs rests.state c.in_ok-push.ensures.pushed c.requires.state.counted c.requires.state.light (omega (arith, c.len-2.ensures, c.if-len-learn.false)) (omega (arith, c.len.ensures.value, c.if-total-limit.true))

pub returns-clause-turn : goal.returns-clause-turn
returns-clause-turn c =
    let ch : Chain = record { first = c.args.k; pairs = c.in_ok-a.a.pairs } in
    let old = subst (λ w. Rests c.args.clauses.now w c.args.s.board.rows c.args.s.board.level c.args.s.board.trail c.args.s.log) (sym c.deref-2.ensures.value) c.requires.state.rests in
    let joined = c.in_ok-next.ensures.rests c.args.clauses.now c.args.s.log ch c.in_ok-a.a.left c.in_ok-a.ensures.above (subst (λ w. IsTaught w c.args.s.board.rows c.args.s.board.trail c.args.s.board.level c.args.k c.analyze.new.notes.learnt.items c.in_ok-a.a.pairs (Some c.in-Some.uip) c.in_ok-a.a.left) (sym c.deref-2.ensures.value) (subst (λ o. IsTaught c.args.s.vars.items c.args.s.board.rows c.args.s.board.trail c.args.s.board.level c.args.k c.analyze.new.notes.learnt.items c.in_ok-a.a.pairs o c.in_ok-a.a.left) c.in-Some.is (subst (λ w. IsTaught w c.args.s.board.rows c.args.s.board.trail c.args.s.board.level c.args.k c.analyze.new.notes.learnt.items c.in_ok-a.a.pairs c.in_ok-a.a.uip c.in_ok-a.a.left) c.deref.ensures.value c.in_ok-a.ensures.taught))) old in
    let named = subst (λ w. Rests c.args.clauses.now w c.in_ok-next.next.rows c.in_ok-next.next.level c.in_ok-next.next.trail (c.args.s.log ++ (ch ∷ []))) c.deref-2.ensures.value joined in
    let rests = subst (λ w. Rests c.args.clauses.now c.args.s.vars.items c.in_ok-next.next.rows c.in_ok-next.next.level c.in_ok-next.next.trail w) (sym c.in_ok-push.ensures.pushed) named in
    record {
      rests = rests;
      short = omega (arith, c.len-2.ensures, c.if-len-learn.false);
      counted = turn_counted c.args.s.log c.push.new.self ch c.args.s.pairs _ c.in_ok-push.ensures.pushed c.requires.state.counted (ap (λ n. c.args.s.pairs + n) c.len.ensures.value);
      light = turn_light c.args.s.log c.push.new.self ch c.args.s.pairs c.args.limit c.in_ok-push.ensures.pushed c.requires.state.counted (omega (arith, c.len.ensures.value, c.if-total-limit.false));
      few = c.in_ok-next.ensures.few;
      stamps = c.in_ok-a.ensures.stamps ∙ ap length c.deref.ensures.value;
      pace = c.requires.state.pace;
    }
