-- What joins the clauses after a conflict.
use Rattle.std.specs.Prelude.{ℕ, List, Some}
use Rattle.dense_trail.specs.declared.Trail.{Trail}
use Rattle.conflict_analysis.specs.Walk.{AreAbove, IsTaught}

-- some conflict taught the clause, and its literal
pub record Learned (vars : List ℕ) (rows : List (List ℕ)) (t : Trail) (level : ℕ) (clause : List ℕ) (uip : ℕ) : Type 0 where
  pub conflict : ℕ
  pub pairs : List (ℕ × ℕ)
  pub left : ℕ
  pub taught : IsTaught vars rows t level conflict clause pairs (Some uip) left
  pub above : AreAbove t level left
