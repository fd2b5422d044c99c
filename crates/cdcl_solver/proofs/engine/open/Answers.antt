use Rattle.std.proofs.Common.{rules, arith, ◌≡◌, ◌∙◌, ℕ, ◌*◌, ◌<◌, ◌≤◌, List, length, subst, sym, ap, Option, None, MatchOption}
use Rattle.resolution_log.specs.Codes.{all_codes}
use Rattle.clause_learning.specs.Solve.{pairs_of}
use Rattle.watched_clauses.specs.declared.looking.Watch.{Watch}
use Rattle.watched_clauses.specs.Kept.{IsFalse}
use Rattle.cdcl_solver.specs.Opening.{Built, AreUnits, UnitsMet}
use Rattle.cdcl_solver.specs.Search.{Rests}
use Rattle.cdcl_solver.proofs.OpenLaws.{open_some, open_below, open_length, open_linked, open_rests, open_units, open_kept}
use Rattle.cdcl_solver.proofs.engine.open.Goals as goal

pub watch_all-requires-clause-some : goal.watch_all-requires-clause-some
watch_all-requires-clause-some c = open_some c.args.clauses.now c.in_ok-vars.vars.items c.in_ok-rows.rows c.in_ok-vars.ensures.rising c.in_ok-vars.ensures.covers (c.in_ok-rows.ensures ∙ ap (λ (w : List ℕ). all_codes w c.args.clauses.now) c.deref.ensures.value) c.requires.some

pub watch_all-requires-clause-below : goal.watch_all-requires-clause-below
watch_all-requires-clause-below c k r z g h = let q = open_below c.args.clauses.now c.in_ok-vars.vars.items c.in_ok-rows.rows c.in_ok-vars.ensures.rising c.in_ok-vars.ensures.covers (c.in_ok-rows.ensures ∙ ap (λ (w : List ℕ). all_codes w c.args.clauses.now) c.deref.ensures.value) c.requires.some k r z g h in omega (arith, q, c.len-2.ensures, c.in_ok-vars.vars.ok.0)

pub watch_all-requires-clause-few : goal.watch_all-requires-clause-few
watch_all-requires-clause-few c = let q = open_length c.args.clauses.now c.in_ok-vars.vars.items c.in_ok-rows.rows c.in_ok-vars.ensures.rising c.in_ok-vars.ensures.covers (c.in_ok-rows.ensures ∙ ap (λ (w : List ℕ). all_codes w c.args.clauses.now) c.deref.ensures.value) c.requires.some in omega (arith, q, c.len.ensures.value, c.len.ensures.within)

pub set_units-requires-clause-few : goal.set_units-requires-clause-few
set_units-requires-clause-few c = let q = open_length c.args.clauses.now c.in_ok-vars.vars.items c.in_ok-rows.rows c.in_ok-vars.ensures.rising c.in_ok-vars.ensures.covers (c.in_ok-rows.ensures ∙ ap (λ (w : List ℕ). all_codes w c.args.clauses.now) c.deref.ensures.value) c.requires.some in omega (arith, q, c.len.ensures.value, c.len.ensures.within)

pub set_units-requires-clause-units : goal.set_units-requires-clause-units
set_units-requires-clause-units c = subst (λ (w : List Watch). AreUnits c.in_ok-rows.rows w (length c.in_ok-trail.trail.truth.items)) (sym c.deref-2.ensures.value) (open_units c.args.clauses.now c.in_ok-vars.vars.items c.in_ok-rows.rows c.in_ok-vars.ensures.rising c.in_ok-vars.ensures.covers (c.in_ok-rows.ensures ∙ ap (λ (w : List ℕ). all_codes w c.args.clauses.now) c.deref.ensures.value) c.requires.some c.in_ok-made.made.watches.items c.in_ok-made.made.lists (subst (λ (n : ℕ). Built c.in_ok-rows.rows c.in_ok-made.made.watches.items c.in_ok-made.made.lists (2 * n) (length c.in_ok-rows.rows)) (c.len-2.ensures ∙ c.in_ok-vars.vars.ok.0) c.in_ok-made.ensures) c.in_ok-trail.trail (omega (arith, c.in_ok-trail.trail.wide, c.in_ok-trail.ensures.vars, c.len-3.ensures, c.in_ok-vars.vars.ok.0)))

pub refute-requires-clause-state : goal.refute-requires-clause-state
refute-requires-clause-state c = subst (λ (w : List ℕ). Rests c.args.clauses.now w c.in_ok-rows.rows 0 c.set_units.new.trail c.new-log.result) (sym c.deref-in-Some.ensures.value) (open_rests c.args.clauses.now c.in_ok-vars.vars.items c.in_ok-rows.rows c.in_ok-vars.ensures.rising c.in_ok-vars.ensures.covers (c.in_ok-rows.ensures ∙ ap (λ (w : List ℕ). all_codes w c.args.clauses.now) c.deref.ensures.value) c.requires.some c.set_units.new.trail c.new-log.result c.new-log.ensures (c.in_ok-clash.ensures.linked c.in_ok-vars.vars.items (open_linked c.args.clauses.now c.in_ok-vars.vars.items c.in_ok-rows.rows c.in_ok-vars.ensures.rising c.in_ok-vars.ensures.covers (c.in_ok-rows.ensures ∙ ap (λ (w : List ℕ). all_codes w c.args.clauses.now) c.deref.ensures.value) c.requires.some c.in_ok-trail.trail c.in_ok-trail.ensures.codes (omega (arith, c.in_ok-trail.ensures.vars, c.len-3.ensures, c.in_ok-vars.vars.ok.0)))))

pub invariant_of-result : goal.invariant_of-result
invariant_of-result c =
    let b = (subst (λ (n : ℕ). Built c.in_ok-rows.rows c.in_ok-made.made.watches.items c.in_ok-made.made.lists (2 * n) (length c.in_ok-rows.rows)) (c.len-2.ensures ∙ c.in_ok-vars.vars.ok.0) c.in_ok-made.ensures) in
    let met : UnitsMet c.deref-2.result.now (length c.deref-2.result.now) c.set_units.new.trail = subst (λ (o : Option ℕ). MatchOption o (UnitsMet c.deref-2.result.now (length c.deref-2.result.now) c.set_units.new.trail) (IsFalse c.in_ok-rows.rows c.set_units.new.trail)) c.in_default.is c.in_ok-clash.ensures.result in
    record {
      watching = open_kept c.args.clauses.now c.in_ok-vars.vars.items c.in_ok-rows.rows c.in_ok-vars.ensures.rising c.in_ok-vars.ensures.covers (c.in_ok-rows.ensures ∙ ap (λ (w : List ℕ). all_codes w c.args.clauses.now) c.deref.ensures.value) c.requires.some c.in_ok-made.made.watches.items c.in_ok-made.made.lists b c.set_units.new.trail (c.in_ok-clash.ensures.linked c.in_ok-vars.vars.items (open_linked c.args.clauses.now c.in_ok-vars.vars.items c.in_ok-rows.rows c.in_ok-vars.ensures.rising c.in_ok-vars.ensures.covers (c.in_ok-rows.ensures ∙ ap (λ (w : List ℕ). all_codes w c.args.clauses.now) c.deref.ensures.value) c.requires.some c.in_ok-trail.trail c.in_ok-trail.ensures.codes (omega (arith, c.in_ok-trail.ensures.vars, c.len-3.ensures, c.in_ok-vars.vars.ok.0)))) (subst (λ (w : List Watch). UnitsMet w (length w) c.set_units.new.trail) c.deref-2.ensures.value met);
      within = omega arith;
      all = omega (arith, b.all, c.set_units.new.trail.wide, c.in_ok-clash.ensures.wide, c.in_ok-trail.ensures.vars, c.len-3.ensures, c.in_ok-vars.vars.ok.0);
      deep = omega arith;
      ordered = omega (arith, c.in_ok-order.ensures.phases, c.len-5.ensures, c.len-3.ensures, c.in_ok-trail.ensures.vars, c.in_ok-clash.ensures.wide);
    }

pub returns : goal.returns
returns c = record {
  rests = open_rests c.args.clauses.now c.in_ok-vars.vars.items c.in_ok-rows.rows c.in_ok-vars.ensures.rising c.in_ok-vars.ensures.covers (c.in_ok-rows.ensures ∙ ap (λ (w : List ℕ). all_codes w c.args.clauses.now) c.deref.ensures.value) c.requires.some c.set_units.new.trail c.new-log.result c.new-log.ensures (c.in_ok-clash.ensures.linked c.in_ok-vars.vars.items (open_linked c.args.clauses.now c.in_ok-vars.vars.items c.in_ok-rows.rows c.in_ok-vars.ensures.rising c.in_ok-vars.ensures.covers (c.in_ok-rows.ensures ∙ ap (λ (w : List ℕ). all_codes w c.args.clauses.now) c.deref.ensures.value) c.requires.some c.in_ok-trail.trail c.in_ok-trail.ensures.codes (omega (arith, c.in_ok-trail.ensures.vars, c.len-3.ensures, c.in_ok-vars.vars.ok.0))));
  short = omega (arith, ap length c.new-log.ensures, c.requires.learn);
  counted = sym (ap pairs_of c.new-log.ensures);
  light = omega (arith, ap pairs_of c.new-log.ensures, c.requires.limit);
  few = (let q = open_length c.args.clauses.now c.in_ok-vars.vars.items c.in_ok-rows.rows c.in_ok-vars.ensures.rising c.in_ok-vars.ensures.covers (c.in_ok-rows.ensures ∙ ap (λ (w : List ℕ). all_codes w c.args.clauses.now) c.deref.ensures.value) c.requires.some in omega (arith, q, c.len.ensures.value, c.len.ensures.within));
  stamps = omega (arith, c.in_ok-notes.ensures, c.len-4.ensures, c.in_ok-vars.vars.ok.0);
  pace = omega arith;
}
