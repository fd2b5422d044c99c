use Rattle.std.proofs.Common.{◌≡◌, ◌∙◌, List, length, reverse, ap, refl, subst, sym, arith}
use Rattle.std.proofs.lemmas.Result.{err_from_is_err_and}
use Rattle.prop.specs.declared.Lit.{Lit}
use Rattle.clause_learning.specs.Solve.{IsSpent}
use Rattle.reach_tree.specs.declared.vertex.Vertex.{Vertex}
use Rattle.cover_engine.specs.Unwindings.{Unwound, path_of, vertices_named}
use Rattle.refine.specs.Refinements.{IsRefined}
use Rattle.explore.specs.Standing.{SameNodes}
use Rattle.explore.specs.Ends.{IsAsked}
use Rattle.explore.proofs.Ending.{leaf_ends, path_asked}
use Rattle.explore.proofs.Ready.{one_unit, ready_grows, same_units}
use Rattle.explore.proofs.Rules.{grown-steered}
use Rattle.explore.proofs.Trying.{follows-stays, path-there, path-turn, refined-steered, strengthened-last, strengthened-nodes}
use Rattle.explore.proofs.strategy.refine_at.Goals as goal

pub returns-in_err-log-clause-ready : goal.returns-in_err-log-clause-ready
returns-in_err-log-clause-ready g c =
    let same = same_units c.args.work.now.unwinding c.refine_leaf.new.unwinding c.in_err-log.ensures.only in
    let few = c.requires.ready.few in
    ready_grows c.args.graph.now c.args.budget.units c.args.work.now.unwinding c.refine_leaf.new.unwinding c.args.work.now.witnesses c.refine_leaf.ensures.extends
    (c.refine_leaf.ensures.legal c.requires.ready.legal c.requires.error) (omega (arith, same, few)) c.requires.ready

pub returns-in_err-path-clause-ready : goal.returns-in_err-path-clause-ready
returns-in_err-path-clause-ready g c =
    let made = subst (IsRefined c.args.graph.now c.args.work.now.unwinding c.refine_leaf.new.unwinding c.args.leaf c.args.budget.learn) c.in-Strengthened.is
    c.in_ok-log.ensures.refined in
    let more = one_unit c.args.graph.now c.args.work.now.unwinding c.refine_leaf.new.unwinding c.args.leaf made.0 in
    let few = c.requires.more in
    ready_grows c.args.graph.now c.args.budget.units c.args.work.now.unwinding c.refine_leaf.new.unwinding c.args.work.now.witnesses c.refine_leaf.ensures.extends
    (c.refine_leaf.ensures.legal c.requires.ready.legal c.requires.error) (omega (arith, more, few)) c.requires.ready

pub loop-vertex-init : goal.loop-vertex-init
loop-vertex-init g c =
    let made = subst (IsRefined c.args.graph.now c.args.work.now.unwinding c.refine_leaf.new.unwinding c.args.leaf c.args.budget.learn) c.in-Strengthened.is
    c.in_ok-log.ensures.refined in
    let more = one_unit c.args.graph.now c.args.work.now.unwinding c.refine_leaf.new.unwinding c.args.leaf made.0 in
    let few = c.requires.more in
    let new = c.refine_leaf.new.unwinding in
    let old = c.args.work.now.unwinding in
    let nodes : SameNodes old.vertices new.vertices = strengthened-nodes c.args.graph.now old new c.args.leaf made.0 in
    let sized = nodes.sized in
    let lt = c.requires.leaf in
    record {
      ready = ready_grows c.args.graph.now c.args.budget.units old new c.args.work.now.witnesses c.refine_leaf.ensures.extends
          (c.refine_leaf.ensures.legal c.requires.ready.legal c.requires.error) (omega (arith, more, few)) c.requires.ready;
      steered = refined-steered c.args.graph.now old new c.args.leaf c.args.budget.learn c.in_ok-log.field-0 c.requires.ready.legal c.requires.steered
          c.requires.highest c.in_ok-log.ensures.refined;
      follows = follows-stays c.args.graph.now old.vertices new.vertices c.args.work.now.beside c.args.work.now.beside nodes refl c.requires.follows;
      refined = strengthened-last c.args.graph.now old new c.args.leaf made.0;
      path = c.as_slice-vertex-items.ensures ∙ c.in_ok-path.ensures.vertices;
      there = omega (arith, lt, sized);
      grows = omega (arith, more);
    }

pub settle_all-requires-clause-there : goal.settle_all-requires-clause-there
settle_all-requires-clause-there g c =
    λ _ _.
    path-there c.args.graph.now c.loop-vertex.work.unwinding c.args.leaf c.as_slice-vertex-items.result.now c.loop-vertex.vertex-index (record { 0 = 0 })
    c.loop-vertex.invariant.ready.legal c.loop-vertex.invariant.there c.loop-vertex.invariant.path c.loop-vertex-test.true

pub settle_all-requires-clause-turn : goal.settle_all-requires-clause-turn
settle_all-requires-clause-turn g c =
    λ _ _.
    path-turn c.args.graph.now c.loop-vertex.work.unwinding c.args.leaf c.as_slice-vertex-items.result.now c.loop-vertex.vertex-index (record { 0 = 0 })
    c.loop-vertex.invariant.refined c.loop-vertex.invariant.path c.loop-vertex-test.true

pub loop-vertex-preserved : goal.loop-vertex-preserved
loop-vertex-preserved g c =
    let old = c.loop-vertex.work.unwinding in
    let new = c.settle_all.new.work.unwinding in
    let same : new.vertices ≡ old.vertices = c.in_ok-settle_all.ensures.vertices in
    let sized = ap (λ (vs : List Vertex). length vs) same in
    let there = c.loop-vertex.invariant.there in
    let more = c.settle_all.ensures.grows in
    let so-far = c.loop-vertex.invariant.grows in
    record {
      ready = c.settle_all.ensures.ready;
      steered = c.settle_all.ensures.steered;
      follows = c.in_ok-settle_all.ensures.follows;
      refined = c.in_ok-settle_all.ensures.refined ∙ c.loop-vertex.invariant.refined;
      path = c.loop-vertex.invariant.path ∙ ap (λ (vs : List Vertex). vertices_named (reverse (path_of vs c.args.leaf))) (sym same);
      there = omega (arith, there, sized);
      grows = omega (arith, more, so-far);
    }

pub returns-in_err-log-clause-ended : goal.returns-in_err-log-clause-ended
returns-in_err-log-clause-ended g c =
    let p = err_from_is_err_and c.from_residual.result c.from_residual.ensures.1 in
    rw (p.1, p.2)
    (leaf_ends c.args.graph.now c.args.budget.units c.args.budget.learn c.args.work.now.unwinding c.refine_leaf.new.unwinding c.args.leaf c.in_err-log.field-0.0
    c.requires.leaf c.requires.highest c.requires.error c.requires.more c.in_err-log.ensures.refused)

pub returns-in-Spent-clause-ended : goal.returns-in-Spent-clause-ended
returns-in-Spent-clause-ended g c =
    let made = subst (IsRefined c.args.graph.now c.args.work.now.unwinding c.refine_leaf.new.unwinding c.args.leaf c.args.budget.learn) c.in-Spent.is
    c.in_ok-log.ensures.refined in
    subst (λ (u : Unwound). IsAsked c.args.graph.now c.args.budget.units u (λ (clauses : List (List Lit)). IsSpent clauses c.args.budget.learn c.in-Spent.log)) (sym made.0)
    (path_asked c.args.graph.now c.args.budget.units c.args.work.now.unwinding c.args.leaf _ c.requires.leaf c.requires.highest c.requires.error c.requires.more made.1)

pub returns-in_err-log-clause-steered : goal.returns-in_err-log-clause-steered
returns-in_err-log-clause-steered g c =
    grown-steered c.args.graph.now c.args.work.now.unwinding c.refine_leaf.new.unwinding c.in_err-log.ensures.only.extends c.in_err-log.ensures.only.others
    c.requires.ready.legal c.requires.steered

pub returns-in_err-path-clause-steered : goal.returns-in_err-path-clause-steered
returns-in_err-path-clause-steered g c =
    refined-steered c.args.graph.now c.args.work.now.unwinding c.refine_leaf.new.unwinding c.args.leaf c.args.budget.learn c.in_ok-log.field-0
    c.requires.ready.legal c.requires.steered c.requires.highest c.in_ok-log.ensures.refined

pub returns-in-Feasible-clause-steered : goal.returns-in-Feasible-clause-steered
returns-in-Feasible-clause-steered g c =
    refined-steered c.args.graph.now c.args.work.now.unwinding c.refine_leaf.new.unwinding c.args.leaf c.args.budget.learn c.in_ok-log.field-0
    c.requires.ready.legal c.requires.steered c.requires.highest c.in_ok-log.ensures.refined

pub returns-in-Spent-clause-steered : goal.returns-in-Spent-clause-steered
returns-in-Spent-clause-steered g c =
    refined-steered c.args.graph.now c.args.work.now.unwinding c.refine_leaf.new.unwinding c.args.leaf c.args.budget.learn c.in_ok-log.field-0
    c.requires.ready.legal c.requires.steered c.requires.highest c.in_ok-log.ensures.refined
