-- Answers to obligations that are there before these are asked about.
use Rattle.std.specs.Prelude.{ℕ, ◌≡◌, List, Option, Some, slice_get, IfOk, IfErr}
use Rattle.c_graph.specs.Shape.{Flow}
use Rattle.c_graph.specs.Runs.{Formulas}
use Rattle.resolution_log.specs.declared.Chain.{Chain}
use Rattle.clause_learning.specs.Solve.{IsAnswer}
use Rattle.obligations.specs.Stated.{obligation_says}
use Rattle.cert_check.specs.Answers.{IsWithin}
use Rattle.cert_build.specs.Proofs.{IsOneCause, IsProof}
use Rattle.cert_build.specs.declared.known_answers.Stopped.{Stopped}

-- what was answered of the obligation of this number is so
pub record IsStopped (g : Flow) (m : Formulas) (learn : ℕ) (s : Stopped) : Type 0 where
  pub answer : IfOk s.answer (IsAnswer (obligation_says g m s.number) learn)
  pub within : IfOk s.answer (λ _. IsWithin g m s.number)
  pub cause : IfErr s.answer (IsOneCause g m s.number learn)

-- each log that is there, at the place of its obligation's number, proves that obligation
pub record AreLogs (g : Flow) (m : Formulas) (learn : ℕ) (logs : List (Option (List Chain))) : Type 0 where
  pub each : (k : ℕ) (log : List Chain) → slice_get logs k ≡ Some (Some log) → IsProof g m learn k log
