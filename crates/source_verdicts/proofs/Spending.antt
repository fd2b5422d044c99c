-- Budgets that were spent, and limits that were passed, on a question of an unwinding or on an obligation of a map.
use Rattle.std.proofs.Common.{inr, refl, ℕ, List}
use Rattle.prop.specs.declared.BlastFail.TheVariants.{Over as PastLiterals}
use Rattle.bit_gates.specs.Cut.{IsCutOff}
use Rattle.lv_base.specs.declared.kind.Model.{Model}
use Rattle.c_typed.specs.Tree.{Program}
use Rattle.c_graph.specs.Shape.{Flow}
use Rattle.c_graph.specs.Runs.{Formulas, IsMapOf}
use Rattle.resolution_log.specs.declared.Chain.{Chain}
use Rattle.clause_learning.specs.Solve.{IsHeavy, IsSpent}
use Rattle.clause_learning.specs.declared.QueryFail.TheVariants.{Over as TooLong, OverLog as TooHeavy}
use Rattle.cover_engine.specs.Unwindings.{Unwound}
use Rattle.cover_engine.specs.Units.{Legal}
use Rattle.cover_engine.specs.Steering.{Steered}
use Rattle.explore.specs.Ends.{IsAsked}
use Rattle.obligations.specs.Stated.{obligation_says}
use Rattle.cert_build.specs.Proofs.{IsLowest, IsProveCause}
use Rattle.verdicts.specs.declared.verdict.Verdict.TheVariants.{OutOfLearn, Over}
use Rattle.source_verdicts.specs.Verified.{IsVerified}
use Rattle.source_verdicts.specs.Verified.IsLimit.{of_literals, of_pairs}
use Rattle.source_verdicts.specs.Verified.IsMet.{of_question, of_obligation}

module _ (p : Program) (g : Flow) (source : List ℕ) (model : Model) (units learn : ℕ) where
  -- ---- Of a question

  pub question_spent : (u : Unwound) (log : List Chain) → Legal g u → Steered g u → IsAsked g units u (λ clauses. IsSpent clauses learn log) → IsVerified p g source model units learn (OutOfLearn learn)
  question_spent u log legal steered asked = (refl, inr (log, of_question u legal steered asked))

  pub question_long : (u : Unwound) (n : ℕ) → Legal g u → Steered g u → IsAsked g units u (λ clauses. IsCutOff clauses (PastLiterals n)) → IsVerified p g source model units learn (Over 6 n)
  question_long u n legal steered asked = of_literals refl (of_question u legal steered asked)

  pub question_heavy : (u : Unwound) (log : List Chain) → Legal g u → Steered g u → IsAsked g units u (λ clauses. IsHeavy clauses learn 134217728 log) → IsVerified p g source model units learn (Over 7 134217728)
  question_heavy u log legal steered asked = of_pairs refl refl (log, of_question u legal steered asked)

  -- ---- Of an obligation

  pub obligation_spent : (m : Formulas) (number : ℕ) (log : List Chain) → IsMapOf g m → IsLowest g m learn number → IsSpent (obligation_says g m number) learn log → IsVerified p g source model units learn (OutOfLearn learn)
  obligation_spent m number log is lowest spent = (refl, inr (log, of_obligation m number is lowest spent))

  pub obligation_long : (m : Formulas) (n : ℕ) → IsMapOf g m → IsProveCause g m learn (TooLong n) → IsVerified p g source model units learn (Over 6 n)
  obligation_long m n is (number, lowest, long) = of_literals refl (of_obligation m number is lowest long)

  pub obligation_heavy : (m : Formulas) (log : List Chain) → IsMapOf g m → IsProveCause g m learn (TooHeavy log) → IsVerified p g source model units learn (Over 7 134217728)
  obligation_heavy m log is (number, lowest, heavy) = of_pairs refl refl (log, of_obligation m number is lowest heavy)
