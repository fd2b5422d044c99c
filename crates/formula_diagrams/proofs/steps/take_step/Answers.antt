use Rattle.std.proofs.Common.{◌≡◌, ◌≢◌, ℕ, ◌+◌, ◌-◌, ◌<◌, ◌≤◌, ◌&&◌, ◌||◌, ◌==◌, Bool, true, false, not, List, [], ◌∷◌, ◌++◌, length, refl, sym, ap, ◌∙◌, subst, arith, rules, Some, Result, Ok, Err, slice_get, zero, suc}
use Rattle.formula_diagrams.specs.Steps.{IsTurn, IsStep, left_of}
use Rattle.formula_diagrams.specs.declared.steps.Turn.{Turn}
use Rattle.formula_diagrams.specs.declared.pairs.Pair.{Pair}
use Rattle.std.specs.Prelude.{IfOk}
use Rattle.formula_diagrams.proofs.steps.take_step.Goals as goal

pub returns-in-Answered-clause-step : goal.returns-in-Answered-clause-step
returns-in-Answered-clause-step c =
    λ (p : Pair).
    let P : Turn → Type 0 = λ t. IsTurn c.args.nodes.now c.args.how p c.args.frames.now.items t → IfOk c.answer.result (IsStep c.answer.new.nodes c.args.how p c.answer.new.frames.items (left_of c.args.frames.now.items t)) in
    subst P (sym c.in-Answered.is) (c.answer.ensures.step p)
