-- What workers know of the obligations that they were given.
use Rattle.std.specs.Prelude.{ℕ, ◌≡◌, ◌<◌, ◌⊎◌, List, length, IfSome, Some, slice_get}
use Rattle.c_graph.specs.Shape.{Flow}
use Rattle.c_graph.specs.Runs.{Formulas, IsMapOf}
use Rattle.resolution_log.specs.declared.Chain.{Chain}
use Rattle.obligations.specs.Questions.{count_of}
use Rattle.cert_check.specs.Answers.{AreRefutations, Passes}
use Rattle.cert_check.specs.Causes.{IsLogCause, IsLogsCause}
use Rattle.work_claims.specs.declared.knowledge.Hand.{Hand}
use Rattle.work_claims.specs.declared.words.Claimer.{Claimer}
use Rattle.work_claims.specs.declared.words.Claims.{Claims}
use Rattle.work_claims.specs.Counts.{times}
use Rattle.work_claims.specs.Hands.{fresh}
use Rattle.work_claims.specs.Seats.{hand, terms, IsOf}
use Rattle.check_workers.specs.declared.worker.Failure.{Failure}
use Rattle.check_workers.specs.declared.worker.Worked.{Worked}
use Rattle.check_workers.specs.declared.verdict.Verdict.{Verdict}
use Rattle.check_workers.specs.declared.verdict.Verdict.TheVariants.{Passed, Failed, Open}

-- an obligation passes by the log of its number
abbrev pub IsPassed : Flow → Formulas → List (List Chain) → ℕ → Type 0
IsPassed g m logs n = (log : List Chain) → slice_get logs n ≡ Some log → Passes g m n log

-- all that a worker was given has passed
abbrev pub HavePassed : Flow → Formulas → List (List Chain) → Hand → Type 0
HavePassed g m logs h = (n : ℕ) → 0 < times n h.given → IsPassed g m logs n

-- each number that a worker was given has passed, or was reported by it, or is above an answer that it had for the lowest report
pub record IsSettled (g : Flow) (m : Formulas) (logs : List (List Chain)) (h : Hand) : Type 0 where
  pub each : (n : ℕ) → 0 < times n h.given → IsPassed g m logs n ⊎ ((0 < times n h.reported) ⊎ (h.least < n))

-- the log of this obligation fails so
pub record IsFailure (g : Flow) (m : Formulas) (logs : List (List Chain)) (f : Failure) : Type 0 where
  pub log : List Chain
  pub at : slice_get logs f.number ≡ Some log
  pub cause : IsLogCause g m f.number log f.fail

-- a claimer of these claims with which a worker has ended
pub record IsEnded (g : Flow) (m : Formulas) (logs : List (List Chain)) (s : Claims) (c : Claimer) : Type 0 where
  pub of : IsOf s c
  pub settled : IsSettled g m logs (hand c)

-- a worker may begin: the map fits, there is one log for each obligation, and the claims are of these; it was given nothing
pub record CanWork (g : Flow) (m : Formulas) (logs : List (List Chain)) (s : Claims) (c : Claimer) : Type 0 where
  pub map : IsMapOf g m
  pub all : length logs ≡ count_of g
  pub total : (terms s).total ≡ length logs
  pub of : IsOf s c
  pub begun : hand c ≡ fresh (terms s).total 1

-- what a worker did: all that it was given is settled, and what it found to fail fails
pub record IsWorked (g : Flow) (m : Formulas) (logs : List (List Chain)) (s : Claims) (w : Worked) : Type 0 where
  pub ended : IsEnded g m logs s w.me
  pub failed : IfSome w.failed (IsFailure g m logs)

-- what a verdict means
abbrev pub IsVerdict : Flow → Formulas → List (List Chain) → Verdict → Type 0
IsVerdict g m logs Passed = AreRefutations g m logs
IsVerdict g m logs (Failed fail) = IsLogsCause g m logs fail
IsVerdict g m logs Open = Unit {0}
