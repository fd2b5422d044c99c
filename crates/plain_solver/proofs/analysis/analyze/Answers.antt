use Rattle.std.proofs.Common.{rules, arith, ◌≡◌, ℕ, ◌+◌, ◌++◌, ◌∷◌, [], ◌<◌, ◌≤◌, length, Some, List, slice_get, true, false, refl, None, ap, ◌∙◌, sym, subst, append-nil}
use Rattle.prop.specs.declared.Lit.{Lit}
use Rattle.prop.specs.Logic.{negated}
use Rattle.prop.specs.Steps.{has, resolved}
use Rattle.clause_learning.specs.Trail.{first_of, GoingSet, ToldSet}
use Rattle.clause_learning.specs.Covers.{RisesFrom, last_level}
use Rattle.clause_learning.proofs.AnalysisLaws.{link_has, link_first}
use Rattle.clause_learning.proofs.GhostLaws.{set_start, set_pass, set_step, set_learn, set_end, popped_rises, set_reason, set_decided, joined}
use Rattle.plain_solver.proofs.analysis.analyze.Goals as goal

pub loop-e-init : goal.loop-e-init
loop-e-init c =
    let k : c.in_ok-d.d.items ≡ c.clause.result.now = c.in_ok-d.ensures.items in
    let p = c.requires.begin c.in_ok-d.d.items (c.clause.ensures ∙ ap Some (sym k)) in
    record {
      going = subst (GoingSet c.args.known.now c.args.level c.args.trail.now.entries.items c.args.conflict c.in_ok-d.d.items) (sym c.new-pairs.ensures) (set_start c.args.known.now c.args.level c.args.trail.now.entries.items c.args.conflict c.in_ok-d.d.items p);
      rises = c.requires.rises.0;
      high = omega (arith, c.requires.rises.1);
      vars = refl;
    }

pub loop-e-preserved-then-not-contains : goal.loop-e-preserved-then-not-contains
loop-e-preserved-then-not-contains c =
    let g = c.loop-e.invariant.going in
    let is : c.loop-e.trail.entries.items ≡ c.pop.new.self.entries.items ++ (c.in-Some.e ∷ []) = c.in-Some.ensures.entries in
    let h = link_has c.as_slice.result.now c.loop-e.d.items c.negate-back.result (negated c.in-Some.e.lit) c.contains.result false c.contains.ensures c.as_slice.ensures.value c.negate-back.ensures c.if-not-contains.true in
    let r = popped_rises c.args.known.now c.args.level c.loop-e.trail.entries.items c.pop.new.self.entries.items c.in-Some.e c.args.conflict c.loop-e.d.items c.loop-e.pairs g c.loop-e.invariant.rises is in
    record {
      going = set_pass c.args.known.now c.args.level c.loop-e.trail.entries.items c.pop.new.self.entries.items c.in-Some.e c.args.conflict c.loop-e.d.items c.loop-e.pairs g is h;
      rises = r.0;
      high = r.1;
      vars = c.in-Some.ensures.vars ∙ c.loop-e.invariant.vars;
    }

pub returns-then-is_first-clause-told : goal.returns-then-is_first-clause-told
returns-then-is_first-clause-told c =
    let g = c.loop-e.invariant.going in
    let is : c.loop-e.trail.entries.items ≡ c.pop.new.self.entries.items ++ (c.in-Some.e ∷ []) = c.in-Some.ensures.entries in
    let h = link_has c.as_slice.result.now c.loop-e.d.items c.negate-back.result (negated c.in-Some.e.lit) c.contains.result true c.contains.ensures c.as_slice.ensures.value c.negate-back.ensures c.if-not-contains.false in
    let b = link_first c.args.level c.pop.new.self.entries.items c.pop.new.self.entries.items c.negate-back.result (negated c.in-Some.e.lit) c.as_slice-in-Some.result.now c.loop-e.d.items c.is_first.result true c.is_first.ensures refl c.negate-back.ensures c.as_slice-in-Some.ensures.value c.if-is_first.true in
    let r = set_learn c.args.known.now c.args.level c.loop-e.trail.entries.items c.pop.new.self.entries.items c.in-Some.e c.args.conflict c.loop-e.d.items c.loop-e.pairs g is h b in
    subst (λ w. ToldSet c.args.known.now c.args.level c.pop.new.self.entries.items c.args.conflict c.loop-e.d.items c.loop-e.pairs (Some w)) (sym c.negate-back.ensures) r

pub returns-then-is_first-clause-rises : goal.returns-then-is_first-clause-rises
returns-then-is_first-clause-rises c =
    let is : c.loop-e.trail.entries.items ≡ c.pop.new.self.entries.items ++ (c.in-Some.e ∷ []) = c.in-Some.ensures.entries in
    popped_rises c.args.known.now c.args.level c.loop-e.trail.entries.items c.pop.new.self.entries.items c.in-Some.e c.args.conflict c.loop-e.d.items c.loop-e.pairs c.loop-e.invariant.going c.loop-e.invariant.rises is

pub unreachable-requires : goal.unreachable-requires
unreachable-requires c =
    let is : c.loop-e.trail.entries.items ≡ c.pop.new.self.entries.items ++ (c.in-Some.e ∷ []) = c.in-Some.ensures.entries in
    let b = link_first c.args.level c.pop.new.self.entries.items c.pop.new.self.entries.items c.negate-back.result (negated c.in-Some.e.lit) c.as_slice-in-Some.result.now c.loop-e.d.items c.is_first.result false c.is_first.ensures refl c.negate-back.ensures c.as_slice-in-Some.ensures.value c.if-is_first.false in
    set_decided c.args.known.now c.args.level c.loop-e.trail.entries.items c.pop.new.self.entries.items c.in-Some.e c.args.conflict c.loop-e.d.items c.loop-e.pairs c.loop-e.invariant.going is c.in_default-reason.not-Some b

pub clause-requires-in-Some : goal.clause-requires-in-Some
clause-requires-in-Some c =
    let is : c.loop-e.trail.entries.items ≡ c.pop.new.self.entries.items ++ (c.in-Some.e ∷ []) = c.in-Some.ensures.entries in
    set_reason c.args.known.now c.args.level c.loop-e.trail.entries.items c.pop.new.self.entries.items c.in-Some.e c.args.conflict c.loop-e.d.items c.loop-e.pairs c.loop-e.invariant.going is c.in-Some-reason.r c.in-Some-reason.is

pub loop-e-preserved : goal.loop-e-preserved
loop-e-preserved c =
    let g = c.loop-e.invariant.going in
    let is : c.loop-e.trail.entries.items ≡ c.pop.new.self.entries.items ++ (c.in-Some.e ∷ []) = c.in-Some.ensures.entries in
    let h = link_has c.as_slice.result.now c.loop-e.d.items c.negate-back.result (negated c.in-Some.e.lit) c.contains.result true c.contains.ensures c.as_slice.ensures.value c.negate-back.ensures c.if-not-contains.false in
    let b = link_first c.args.level c.pop.new.self.entries.items c.pop.new.self.entries.items c.negate-back.result (negated c.in-Some.e.lit) c.as_slice-in-Some.result.now c.loop-e.d.items c.is_first.result false c.is_first.ensures refl c.negate-back.ensures c.as_slice-in-Some.ensures.value c.if-is_first.false in
    let r = popped_rises c.args.known.now c.args.level c.loop-e.trail.entries.items c.pop.new.self.entries.items c.in-Some.e c.args.conflict c.loop-e.d.items c.loop-e.pairs g c.loop-e.invariant.rises is in
    let s = joined c.negate-back.result (negated c.in-Some.e.lit) c.as_slice-in-Some-2.result.now c.loop-e.d.items c.clause-in-Some.result.now c.clause-in-Some.result.now c.in_ok-d-2.d.items c.in_ok-d-2.ensures c.negate-back.ensures c.as_slice-in-Some-2.ensures.value refl in
    let more : c.push.new.self ≡ c.loop-e.pairs ++ ((c.in-Some.e.lit.var, c.in-Some-reason.r) ∷ []) = c.in_ok-push.ensures.pushed in
    record {
      going = subst (GoingSet c.args.known.now c.args.level c.pop.new.self.entries.items c.args.conflict c.in_ok-d-2.d.items) (sym more) (set_step c.args.known.now c.args.level c.loop-e.trail.entries.items c.pop.new.self.entries.items c.in-Some.e c.args.conflict c.loop-e.d.items c.loop-e.pairs g is c.in-Some-reason.r c.clause-in-Some.result.now c.in_ok-d-2.d.items (c.in-Some.e.lit.var, c.in-Some-reason.r) h c.in-Some-reason.is c.clause-in-Some.ensures b refl refl s);
      rises = r.0;
      high = r.1;
      vars = c.in-Some.ensures.vars ∙ c.loop-e.invariant.vars;
    }

pub returns-clause-told : goal.returns-clause-told
returns-clause-told c =
    let x : c.loop-e.trail.entries.items ≡ c.pop.new.self.entries.items = c.in_default.ensures.entries ∙ append-nil c.pop.new.self.entries.items in
    set_end c.args.known.now c.args.level c.pop.new.self.entries.items c.args.conflict c.loop-e.d.items c.loop-e.pairs (subst (λ w. GoingSet c.args.known.now c.args.level w c.args.conflict c.loop-e.d.items c.loop-e.pairs) x c.loop-e.invariant.going) (sym x ∙ c.in_default.ensures.ended)
