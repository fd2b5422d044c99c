use Rattle.std.proofs.Common.{◌≡◌, ◌∙◌, ◌<◌, true, false, List, length, ap, subst, sym, arith}
use Rattle.std.proofs.lemmas.Result.{err_from_is_err_and}
use Rattle.prop.specs.declared.Lit.{Lit}
use Rattle.clause_learning.specs.Solve.{IsSpent}
use Rattle.cover_engine.specs.Unwindings.{Unwound, is_complete, may_settle}
use Rattle.refine.specs.Decisions.{IsPairSettled}
use Rattle.explore.specs.Settling.{MayCover}
use Rattle.explore.specs.Ends.{IsAsked}
use Rattle.explore.proofs.Ending.{pair_asked, pair_ends}
use Rattle.explore.proofs.Leaves.{open_incomplete}
use Rattle.explore.proofs.Turns.{may-cover}
use Rattle.explore.proofs.Trying.{settled-steered}
use Rattle.explore.proofs.strategy.try_pair.Goals as goal

pub returns-in_err-settle_with-clause-ended : goal.returns-in_err-settle_with-clause-ended
returns-in_err-settle_with-clause-ended g c =
    let same : c.next_leaf.new.unwinding ≡ c.args.work.now.unwinding = c.next_leaf.ensures.unchanged in
    let sized = ap (λ (x : Unwound). length x.vertices) same in
    let left : c.args.v.0 < length c.next_leaf.new.unwinding.vertices = omega (arith, c.requires.there, sized) in
    let right : c.args.w.0 < length c.next_leaf.new.unwinding.vertices = omega (arith, c.requires.below, left) in
    let may : may_settle c.args.work.now.unwinding c.args.v c.args.w ≡ true = sym c.may_settle.ensures ∙ c.if-not-may_settle.false in
    let rule : MayCover c.args.graph.now c.next_leaf.new.unwinding c.args.v c.args.w =
    subst (λ (x : Unwound). MayCover c.args.graph.now x c.args.v c.args.w) (sym same)
    (may-cover c.args.graph.now c.args.work.now.unwinding c.args.v c.args.w c.requires.turn c.requires.below c.requires.lowest may) in
    let leaf = c.in_ok-next_leaf.ensures.leaf in
    let incomplete : is_complete c.args.graph.now c.next_leaf.new.unwinding ≡ false =
    open_incomplete c.args.graph.now c.next_leaf.new.unwinding (length c.next_leaf.new.unwinding.vertices) c.in_ok-next_leaf.field-0 leaf.0 leaf.1 in
    let p = err_from_is_err_and c.from_residual-in_err-settle_with.result c.from_residual-in_err-settle_with.ensures.1 in
    rw (p.1, p.2)
    (pair_ends c.args.graph.now c.args.budget.units c.args.budget.learn c.next_leaf.new.unwinding c.settle_with.new.unwinding c.args.v c.args.w c.in_err-settle_with.field-0.0
    incomplete left right rule c.in_ok-next_leaf.ensures.more c.in_err-settle_with.ensures.unchanged c.in_err-settle_with.ensures.refused)

pub returns-in-Spent-clause-ended : goal.returns-in-Spent-clause-ended
returns-in-Spent-clause-ended g c =
    let same : c.next_leaf.new.unwinding ≡ c.args.work.now.unwinding = c.next_leaf.ensures.unchanged in
    let sized = ap (λ (x : Unwound). length x.vertices) same in
    let left : c.args.v.0 < length c.next_leaf.new.unwinding.vertices = omega (arith, c.requires.there, sized) in
    let right : c.args.w.0 < length c.next_leaf.new.unwinding.vertices = omega (arith, c.requires.below, left) in
    let may : may_settle c.args.work.now.unwinding c.args.v c.args.w ≡ true = sym c.may_settle.ensures ∙ c.if-not-may_settle.false in
    let rule : MayCover c.args.graph.now c.next_leaf.new.unwinding c.args.v c.args.w =
    subst (λ (x : Unwound). MayCover c.args.graph.now x c.args.v c.args.w) (sym same)
    (may-cover c.args.graph.now c.args.work.now.unwinding c.args.v c.args.w c.requires.turn c.requires.below c.requires.lowest may) in
    let leaf = c.in_ok-next_leaf.ensures.leaf in
    let incomplete : is_complete c.args.graph.now c.next_leaf.new.unwinding ≡ false =
    open_incomplete c.args.graph.now c.next_leaf.new.unwinding (length c.next_leaf.new.unwinding.vertices) c.in_ok-next_leaf.field-0 leaf.0 leaf.1 in
    let made = subst (IsPairSettled c.next_leaf.new.unwinding c.settle_with.new.unwinding c.args.v c.args.w c.args.budget.learn) c.in-Spent.is
    c.in_ok-settle_with.ensures.settled in
    subst (λ (u : Unwound). IsAsked c.args.graph.now c.args.budget.units u (λ (clauses : List (List Lit)). IsSpent clauses c.args.budget.learn c.in-Spent.log)) (sym made.0)
    (pair_asked c.args.graph.now c.args.budget.units c.next_leaf.new.unwinding c.args.v c.args.w _ incomplete left right rule c.in_ok-next_leaf.ensures.more made.1)

pub returns-in-Covered-clause-steered : goal.returns-in-Covered-clause-steered
returns-in-Covered-clause-steered g c =
    let graph = c.args.graph.now in
    let old = c.args.work.now.unwinding in
    let may : may_settle old c.args.v c.args.w ≡ true = sym c.may_settle.ensures ∙ c.if-not-may_settle.false in
    let rule : MayCover graph old c.args.v c.args.w = may-cover graph old c.args.v c.args.w c.requires.turn c.requires.below c.requires.lowest may in
    settled-steered graph old c.settle_with.new.unwinding c.args.v c.args.w c.args.budget.learn c.in_ok-settle_with.field-0 c.requires.ready.legal c.requires.steered rule
    (subst (λ (u : Unwound). IsPairSettled u c.settle_with.new.unwinding c.args.v c.args.w c.args.budget.learn c.in_ok-settle_with.field-0)
    c.next_leaf.ensures.unchanged c.in_ok-settle_with.ensures.settled)

pub returns-in-Apart-clause-steered : goal.returns-in-Apart-clause-steered
returns-in-Apart-clause-steered g c =
    let graph = c.args.graph.now in
    let old = c.args.work.now.unwinding in
    let may : may_settle old c.args.v c.args.w ≡ true = sym c.may_settle.ensures ∙ c.if-not-may_settle.false in
    let rule : MayCover graph old c.args.v c.args.w = may-cover graph old c.args.v c.args.w c.requires.turn c.requires.below c.requires.lowest may in
    settled-steered graph old c.settle_with.new.unwinding c.args.v c.args.w c.args.budget.learn c.in_ok-settle_with.field-0 c.requires.ready.legal c.requires.steered rule
    (subst (λ (u : Unwound). IsPairSettled u c.settle_with.new.unwinding c.args.v c.args.w c.args.budget.learn c.in_ok-settle_with.field-0)
    c.next_leaf.ensures.unchanged c.in_ok-settle_with.ensures.settled)
