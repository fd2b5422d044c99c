use Rattle.std.proofs.Common.{rules, arith, ◌≡◌, ℕ, ◌+◌, ◌++◌, ◌∷◌, [], ◌<◌, ◌≤◌, length, List, Some, None, ap, refl, sym, ◌∙◌, subst}
use Rattle.prop.specs.declared.Lit.{Lit}
use Rattle.resolution_log.specs.Codes.{CoversAll}
use Rattle.clause_learning.specs.declared.Entry.{Entry}
use Rattle.clause_learning.specs.Covers.{RisesFrom, last_level}
use Rattle.plain_solver.proofs.SettleLaws.{settle_clash, settle_met, settle_implied, settle_free, unset_all, implied_here, free_here}
use Rattle.clause_learning.proofs.StoreLaws.{rises_push, last_push, last_below}
use Rattle.plain_solver.proofs.engine.settle.Goals as goal

pub returns-in-Conflict-clause-stop : goal.returns-in-Conflict-clause-stop
returns-in-Conflict-clause-stop c = settle_clash c.args.known.now c.search.at c.search.trail.entries.items c.search.trail.entries.items c.search.invariant.holds refl c.in-Conflict.k c.in-Conflict.ensures

pub returns-in-Done-clause-stop : goal.returns-in-Done-clause-stop
returns-in-Done-clause-stop c = settle_met c.args.known.now c.search.at c.search.trail.entries.items c.search.trail.entries.items c.search.invariant.holds refl c.in-Done.ensures

pub push-requires-clause-listed : goal.push-requires-clause-listed
push-requires-clause-listed c = (implied_here c.search.trail.vars.items c.args.known.now c.search.trail.entries.items (subst (λ w. CoversAll w c.args.known.now) (sym c.search.invariant.vars) c.requires.covers) c.in-Implied.k c.in-Implied.l c.in-Implied.ensures).0

pub push-requires-clause-free : goal.push-requires-clause-free
push-requires-clause-free c = (implied_here c.search.trail.vars.items c.args.known.now c.search.trail.entries.items (subst (λ w. CoversAll w c.args.known.now) (sym c.search.invariant.vars) c.requires.covers) c.in-Implied.k c.in-Implied.l c.in-Implied.ensures).1

pub push-requires-clause-free_not : goal.push-requires-clause-free_not
push-requires-clause-free_not c = (implied_here c.search.trail.vars.items c.args.known.now c.search.trail.entries.items (subst (λ w. CoversAll w c.args.known.now) (sym c.search.invariant.vars) c.requires.covers) c.in-Implied.k c.in-Implied.l c.in-Implied.ensures).2

pub push-requires-in-Free-clause-listed : goal.push-requires-in-Free-clause-listed
push-requires-in-Free-clause-listed c = (free_here c.search.trail.vars.items c.args.known.now c.search.trail.entries.items (subst (λ w. CoversAll w c.args.known.now) (sym c.search.invariant.vars) c.requires.covers) c.in-Free.l c.in-Free.ensures).0

pub push-requires-in-Free-clause-free : goal.push-requires-in-Free-clause-free
push-requires-in-Free-clause-free c = (free_here c.search.trail.vars.items c.args.known.now c.search.trail.entries.items (subst (λ w. CoversAll w c.args.known.now) (sym c.search.invariant.vars) c.requires.covers) c.in-Free.l c.in-Free.ensures).1

pub push-requires-in-Free-clause-free_not : goal.push-requires-in-Free-clause-free_not
push-requires-in-Free-clause-free_not c = (free_here c.search.trail.vars.items c.args.known.now c.search.trail.entries.items (subst (λ w. CoversAll w c.args.known.now) (sym c.search.invariant.vars) c.requires.covers) c.in-Free.l c.in-Free.ensures).2

pub overflow_add-next : goal.overflow_add-next
overflow_add-next c =
    let b = last_below 0 c.search.trail.entries.items c.search.invariant.rises in
    omega (arith, b, c.search.invariant.level, c.search.trail.entries.ok.0, c.search.trail.entries.small)

pub search-smaller-in-Continue-1 : goal.search-smaller-in-Continue-1
search-smaller-in-Continue-1 c = (settle_implied c.args.known.now c.search.at c.search.trail.entries.items c.search.trail.entries.items c.search.invariant.holds refl c.in-Implied.k c.in-Implied.l c.push.new.self.entries.items c.in-Implied.ensures c.in_ok-push-in-Implied.ensures.entries).1

pub search-preserved-in-Continue-1 : goal.search-preserved-in-Continue-1
search-preserved-in-Continue-1 c =
    let e : Entry = record { lit = c.in-Implied.l; level = c.search.at; reason = Some c.in-Implied.k } in
    let is : c.push.new.self.entries.items ≡ c.search.trail.entries.items ++ (e ∷ []) = c.in_ok-push-in-Implied.ensures.entries in
    let le : last_level 0 c.search.trail.entries.items ≤ c.search.at = omega (arith, c.search.invariant.level) in
    let le2 : c.search.at ≤ last_level 0 c.search.trail.entries.items + 1 = omega (arith, c.search.invariant.level) in
    record {
      holds = (settle_implied c.args.known.now c.search.at c.search.trail.entries.items c.search.trail.entries.items c.search.invariant.holds refl c.in-Implied.k c.in-Implied.l c.push.new.self.entries.items c.in-Implied.ensures is).0;
      rises = subst (RisesFrom 0) (sym is) (rises_push 0 c.search.trail.entries.items e le le2 c.search.invariant.rises);
      level = ap (last_level 0) is ∙ last_push 0 c.search.trail.entries.items e;
      vars = c.in_ok-push-in-Implied.ensures.vars ∙ c.search.invariant.vars;
    }

pub search-smaller : goal.search-smaller
search-smaller c = (settle_free c.args.known.now c.search.at c.search.trail.entries.items c.search.trail.entries.items c.search.invariant.holds refl c.in-Free.l c.push-in-Free.new.self.entries.items c.in-Free.ensures c.in_ok-push-in-Free.ensures.entries).1

pub search-preserved : goal.search-preserved
search-preserved c =
    let e : Entry = record { lit = c.in-Free.l; level = c.search.at + 1; reason = None } in
    let is : c.push-in-Free.new.self.entries.items ≡ c.search.trail.entries.items ++ (e ∷ []) = c.in_ok-push-in-Free.ensures.entries in
    let le : last_level 0 c.search.trail.entries.items ≤ c.search.at + 1 = omega (arith, c.search.invariant.level) in
    let le2 : c.search.at + 1 ≤ last_level 0 c.search.trail.entries.items + 1 = omega (arith, c.search.invariant.level) in
    record {
      holds = (settle_free c.args.known.now c.search.at c.search.trail.entries.items c.search.trail.entries.items c.search.invariant.holds refl c.in-Free.l c.push-in-Free.new.self.entries.items c.in-Free.ensures is).0;
      rises = subst (RisesFrom 0) (sym is) (rises_push 0 c.search.trail.entries.items e le le2 c.search.invariant.rises);
      level = ap (last_level 0) is ∙ last_push 0 c.search.trail.entries.items e;
      vars = c.in_ok-push-in-Free.ensures.vars ∙ c.search.invariant.vars;
    }
