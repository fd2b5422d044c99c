-- The solver's refutations are lean, and the checker refuses no refutation.
use Rattle.std.proofs.Common.{◌≡◌, ◌∙◌, ℕ, List, sym, subst}
use Rattle.prop.specs.declared.Lit.{Lit}
use Rattle.resolution_log.specs.declared.Chain.{Chain}
use Rattle.resolution_log.specs.declared.LogFail.{LogFail}
use Rattle.resolution_log.specs.declared.LogFail.TheVariants.{BadStep, NoEmpty, Memory}
use Rattle.resolution_log.specs.Logs.{Lean}
use Rattle.clause_learning.specs.declared.Answer.{Answer}
use Rattle.clause_learning.specs.declared.Answer.TheVariants.{Unsat}
use Rattle.clause_learning.specs.Solve.{IsAnswer}

pub unsat_lean : (clauses : List (List Lit)) (learn : ℕ) (a : Answer) (log : List Chain) → a ≡ Unsat log → IsAnswer clauses learn a → Lean clauses log
unsat_lean clauses learn a log e h = (subst (IsAnswer clauses learn) e h).0

pub bad_step : (f : LogFail) (k : ℕ) → f ≡ BadStep k → f ≡ Memory → ⊥
bad_step f k e h = let q : BadStep k ≡ Memory = sym e ∙ h in cc

pub no_empty : (f : LogFail) → f ≡ NoEmpty → f ≡ Memory → ⊥
no_empty f e h = let q : NoEmpty ≡ Memory = sym e ∙ h in cc
