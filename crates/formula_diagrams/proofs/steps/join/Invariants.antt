use Rattle.std.proofs.Common.{◌≡◌, ◌≢◌, ℕ, ◌+◌, ◌-◌, ◌<◌, ◌≤◌, ◌&&◌, ◌||◌, ◌==◌, Bool, true, false, not, List, [], ◌∷◌, ◌++◌, length, refl, sym, ap, ◌∙◌, subst, arith, rules, Some, Result, Ok, Err, slice_get, zero, suc}
use Rattle.formula_diagrams.specs.Shape.{Arena, Grown}
use Rattle.formula_diagrams.specs.Joins.{AllRight}
use Rattle.formula_diagrams.specs.Steps.{IsTurn, left_of}
use Rattle.formula_diagrams.proofs.steps.join.Given as goal

abbrev pub invariant-loop-frames : goal.invariant-loop-frames
invariant-loop-frames l = record {
  right : AllRight l.nodes l.recall;
  grown : Grown l.fn.nodes l.nodes;
  turn : IsTurn l.nodes l.how l.fn.pair l.frames.items l.turn;
}

abbrev pub decreases-loop-frames : goal.decreases-loop-frames
decreases-loop-frames l = left_of l.frames.items l.turn
