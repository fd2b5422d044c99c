use Rattle.std.proofs.Common.{◌≡◌, ◌∙◌, false, None, length, ap, arith, subst, sym}
use Rattle.cover_engine.specs.Unwindings.{Unwound}
use Rattle.cover_engine.specs.Steering.{IsHighestOpen, Steered}
use Rattle.unwinding_laws.specs.Steered.{last_refined}
use Rattle.explore.specs.Settling.{AreLeft, HasTurn, IsTried}
use Rattle.explore.specs.Ends.{IsReady}
use Rattle.explore.proofs.Trying.{follows-same}
use Rattle.explore.proofs.Turns.{left-begins, left-fewer, left-low, left-lowest, tried-highest, tried-refined, tried-turn, tried-vertices}
use Rattle.explore.proofs.strategy.settle_all.Goals as goal

pub loop-w-init : goal.loop-w-init
loop-w-init g c =
    let graph = c.args.graph.now in
    let old = c.args.work.now.unwinding in
    let same : c.below_of.new.work.unwinding ≡ old = c.below_of.ensures.unwinding in
    let known : c.below_of.new.work.witnesses ≡ c.args.work.now.witnesses = c.below_of.ensures.witnesses in
    let many = ap (λ (u : Unwound). length u.journal) same in
    record {
      ready =
          subst (λ (u : Unwound). IsReady graph c.args.budget.units u c.below_of.new.work.witnesses) (sym same)
          (subst (λ ws. IsReady graph c.args.budget.units old ws) (sym known) c.requires.ready);
      steered = subst (Steered graph) (sym same) c.requires.steered;
      follows = c.in_ok-below.ensures.follows;
      turn = subst (λ (u : Unwound). HasTurn graph u c.args.v) (sym same) c.requires.turn;
      left = subst (λ (u : Unwound). AreLeft u c.args.v c.in_ok-below.below.items) (sym same) (left-begins old c.args.v c.in_ok-below.below.items c.in_ok-below.ensures.below);
      grows = omega (arith, many);
      vertices = ap (λ (u : Unwound). u.vertices) same;
      refined = ap (λ (u : Unwound). last_refined None u.journal) same;
      highest = λ h. subst (λ (u : Unwound). IsHighestOpen graph u c.args.v) (sym same) h;
    }

pub try_pair-requires-clause-below : goal.try_pair-requires-clause-below
try_pair-requires-clause-below g c =
    λ _ _.
    left-low c.loop-w.work.unwinding c.args.v c.in-Some.w c.loop-w.below.items c.pop.new.self.items c.in-Some.ensures.items c.loop-w.invariant.left

pub try_pair-requires-clause-lowest : goal.try_pair-requires-clause-lowest
try_pair-requires-clause-lowest g c =
    λ _ _.
    left-lowest c.loop-w.work.unwinding c.args.v c.in-Some.w c.loop-w.below.items c.pop.new.self.items c.in-Some.ensures.items c.loop-w.invariant.left

pub returns-then-branch-clause-refined : goal.returns-then-branch-clause-refined
returns-then-branch-clause-refined g c =
    tried-refined c.loop-w.work.unwinding c.try_pair.new.work.unwinding c.args.v c.in-Some.w c.in_ok-try_pair.field-0 c.in_ok-try_pair.ensures.tried
    ∙ c.loop-w.invariant.refined

pub loop-w-preserved : goal.loop-w-preserved
loop-w-preserved g c =
    let graph = c.args.graph.now in
    let old = c.loop-w.work.unwinding in
    let new = c.try_pair.new.work.unwinding in
    let tried : IsTried old new c.args.v c.in-Some.w false = subst (IsTried old new c.args.v c.in-Some.w) c.if-branch.false c.in_ok-try_pair.ensures.tried in
    let same : new.vertices ≡ old.vertices = tried-vertices old new c.args.v c.in-Some.w false tried in
    let more = c.try_pair.ensures.grows in
    let so-far = c.loop-w.invariant.grows in
    record {
      ready = c.try_pair.ensures.ready;
      steered = c.try_pair.ensures.steered;
      follows = follows-same graph old new c.loop-w.work.beside c.try_pair.new.work.beside same c.try_pair.ensures.beside c.loop-w.invariant.follows;
      turn = tried-turn graph old new c.args.v c.in-Some.w tried c.loop-w.invariant.turn;
      left = left-fewer old new c.args.v c.in-Some.w c.loop-w.below.items c.pop.new.self.items c.in-Some.ensures.items tried c.loop-w.invariant.left;
      grows = omega (arith, more, so-far);
      vertices = same ∙ c.loop-w.invariant.vertices;
      refined = tried-refined old new c.args.v c.in-Some.w false tried ∙ c.loop-w.invariant.refined;
      highest = λ h. tried-highest graph old new c.args.v c.in-Some.w tried (c.loop-w.invariant.highest h);
    }
