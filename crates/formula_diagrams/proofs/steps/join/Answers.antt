use Rattle.std.proofs.Common.{◌≡◌, ◌≢◌, ℕ, ◌+◌, ◌-◌, ◌<◌, ◌≤◌, ◌&&◌, ◌||◌, ◌==◌, Bool, true, false, not, List, [], ◌∷◌, ◌++◌, length, refl, sym, ap, ◌∙◌, subst, arith, rules, Some, Result, Ok, Err, slice_get, zero, suc}
use Rattle.formula_diagrams.specs.Steps.{IsTurn, IsStep, Waits, left_of}
use Rattle.formula_diagrams.specs.declared.steps.Step.{Step}
use Rattle.formula_diagrams.specs.declared.steps.Step.TheVariants.{Next, Done}
use Rattle.formula_diagrams.specs.declared.steps.Frame.{Frame}
use Rattle.formula_diagrams.proofs.Pairing.{none-right}
use Rattle.formula_diagrams.proofs.Truth.{grown-none, grown-twice}
use Rattle.formula_diagrams.proofs.steps.join.Goals as goal

pub loop-frames-init : goal.loop-frames-init
loop-frames-init c =
    let P : List Frame → Type 0 = λ fs. Waits c.args.nodes.now c.args.how c.args.pair fs c.args.pair in
    record {
      right = none-right _ _ c.new-recall.ensures;
      grown = grown-none _;
      turn = (c.requires, subst P (sym c.new-frames.ensures.items) refl);
    }

pub take_step-requires-clause-turn : goal.take_step-requires-clause-turn
take_step-requires-clause-turn c = (c.args.pair, c.loop-frames.invariant.turn)

pub loop-frames-preserved : goal.loop-frames-preserved
loop-frames-preserved c =
    let P : Step → Type 0 = λ s. IsStep c.take_step.new.nodes c.args.how c.args.pair c.take_step.new.frames.items (left_of c.loop-frames.frames.items c.loop-frames.turn) s in
    let s = c.in_ok-next.ensures.step c.args.pair c.loop-frames.invariant.turn in
    let t = subst P c.in-Next.is s in
    record {
      right = c.take_step.ensures.right;
      grown = grown-twice _ _ _ c.loop-frames.invariant.grown c.take_step.ensures.grown;
      turn = t.0;
    }

pub loop-frames-smaller : goal.loop-frames-smaller
loop-frames-smaller c =
    let P : Step → Type 0 = λ s. IsStep c.take_step.new.nodes c.args.how c.args.pair c.take_step.new.frames.items (left_of c.loop-frames.frames.items c.loop-frames.turn) s in
    let s = c.in_ok-next.ensures.step c.args.pair c.loop-frames.invariant.turn in
    let t = subst P c.in-Next.is s in
    t.1

pub returns-in-Done-clause-grown : goal.returns-in-Done-clause-grown
returns-in-Done-clause-grown c = grown-twice _ _ _ c.loop-frames.invariant.grown c.take_step.ensures.grown

pub returns-in-Done-clause-means : goal.returns-in-Done-clause-means
returns-in-Done-clause-means c =
    let P : Step → Type 0 = λ s. IsStep c.take_step.new.nodes c.args.how c.args.pair c.take_step.new.frames.items (left_of c.loop-frames.frames.items c.loop-frames.turn) s in
    let s = c.in_ok-next.ensures.step c.args.pair c.loop-frames.invariant.turn in
    subst P c.in-Done.is s

pub returns-in_err-next-clause-grown : goal.returns-in_err-next-clause-grown
returns-in_err-next-clause-grown c = grown-twice _ _ _ c.loop-frames.invariant.grown c.take_step.ensures.grown
