-- What workers know of the obligations that they were given.
use Rattle.std.specs.Prelude.{ℕ, ◌≡◌, ◌<◌, All, IfSome}
use Rattle.c_graph.specs.Shape.{Flow}
use Rattle.c_graph.specs.Runs.{Formulas, IsMapOf}
use Rattle.obligations.specs.Questions.{count_of}
use Rattle.cert_build.specs.Answered.{IsStopped}
use Rattle.cert_build.specs.Proofs.{IsProof}
use Rattle.work_claims.specs.declared.words.Claimer.{Claimer}
use Rattle.work_claims.specs.declared.words.Claims.{Claims}
use Rattle.work_claims.specs.Seats.{hand, terms, IsOf}
use Rattle.prove_workers.specs.declared.worker.Refuted.{Refuted}
use Rattle.prove_workers.specs.declared.worker.Worked.{Worked}

-- there is an obligation of this number, and the log proves it
pub record Proves (g : Flow) (m : Formulas) (learn : ℕ) (r : Refuted) : Type 0 where
  pub there : r.number < count_of g
  pub proof : IsProof g m learn r.number r.log

-- what a worker did: each log proves its obligation, and what was answered of the last one is so
pub record IsWorked (g : Flow) (m : Formulas) (learn : ℕ) (w : Worked) : Type 0 where
  pub refuted : All (Proves g m learn) w.refuted.items
  pub stopped : IfSome w.stopped (IsStopped g m learn)

-- a worker may begin: the map fits, and the claims are of all obligations; its claimer has not finished
pub record CanWork (g : Flow) (m : Formulas) (learn : ℕ) (s : Claims) (c : Claimer) : Type 0 where
  pub map : IsMapOf g m
  pub some : 0 < learn
  pub total : (terms s).total ≡ count_of g
  pub of : IsOf s c
  pub unfinished : (hand c).finishes ≡ 0
