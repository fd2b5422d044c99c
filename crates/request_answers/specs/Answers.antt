-- The answers to requests for checks and verifications, by the files.
use Rattle.std.specs.Prelude.{ℕ, ◌≡◌, ◌<◌, ◌≤◌, ◌^◌, List, length, Err}
use Rattle.lv_base.specs.Place.{place_at}
use Rattle.lv_base.specs.declared.kind.Model.{Model}
use Rattle.lv_base.specs.declared.fail.SourceFail.{SourceFail}
use Rattle.lv_base.specs.declared.fail.SourceFail.TheVariants as fail
use Rattle.c_typed.specs.Parts.{Parts, tree_of}
use Rattle.c_graph.specs.Shape.{Flow, IsFlow}
use Rattle.source_reading.specs.Reading.{source_read, IsReplay}
use Rattle.program_graphs.specs.Standing.{StandsFor}
use Rattle.source_graphs.specs.Refusals.{IsTooBig, IsWithinLimits}
use Rattle.source_graphs.specs.Whole.{joined_of}
use Rattle.task_gen.specs.Generated.{generated}
use Rattle.request_words.specs.Asked.{Asked, Check, Verify, Generate, plain_learn, plain_model, plain_units}
use Rattle.verdicts.specs.declared.verdict.Verdict.{Verdict}
use Rattle.verdicts.specs.declared.verdict.Verdict.TheVariants.{Faulty, Over, ReadFault, NoMemory}
use Rattle.cert_verdicts.specs.Judged.{IsJudged}
use Rattle.source_verdicts.specs.Verified.{IsVerified}

-- why a source is refused
abbrev pub refused_for : List ℕ → SourceFail → Verdict
refused_for source (fail.Fault fault at) = Faulty fault (place_at source at)
refused_for source (fail.Over number count) = Over number count
refused_for source fail.Memory = NoMemory

-- why no graph is made
abbrev pub limit_for : SourceFail → Verdict
limit_for (fail.Over number count) = Over number count
limit_for (fail.Fault fault at) = NoMemory
limit_for fail.Memory = NoMemory

-- A source is refused: for what is read of it, or for a limit that the graphs of its typed tree pass.
pub data IsRefused (model : Model) (source : List ℕ) (v : Verdict) : Type 0 where
  unread : (e : SourceFail) → source_read model source ≡ Err e → v ≡ refused_for source e → IsRefused model source v
  over : (t : Parts) (e : SourceFail) → IsReplay model source (tree_of t) → IsTooBig t e → v ≡ limit_for e → IsRefused model source v
  no_memory : v ≡ NoMemory → IsRefused model source v

-- A source has a graph: it has at most 1,048,576 bytes, breaks no rule, and passes no limit. The graph is the one of its typed tree, for
-- which it stands.
pub record HasGraph (model : Model) (source : List ℕ) (t : Parts) (g : Flow) : Type 0 where
  pub short : length source ≤ 2 ^ 20
  pub replay : IsReplay model source (tree_of t)
  pub within : IsWithinLimits t
  pub is : g ≡ joined_of t
  pub stands : StandsFor g (tree_of t)
  pub flow : IsFlow g

-- The answer to the check of a certificate's bytes against a source, on the source's graph.
pub data IsCheckAnswer (rose : Type 0) (model : Model) (source cert : List ℕ) (v : Verdict) : Type 0 where
  too_long : 1048576 < length source → v ≡ Over 1 1048577 → IsCheckAnswer rose model source cert v
  refused : length source ≤ 2 ^ 20 → IsRefused model source v → IsCheckAnswer rose model source cert v
  long_cert : (t : Parts) (g : Flow) → HasGraph model source t g → 67108864 < length cert → v ≡ Over 8 67108865 → IsCheckAnswer rose model source cert v
  judged : (t : Parts) (g : Flow) → HasGraph model source t g → length cert ≤ 67108864 → IsJudged g source model cert v → IsCheckAnswer rose model source cert v
  read_failed : rose → v ≡ ReadFault → IsCheckAnswer rose model source cert v
  no_memory : v ≡ NoMemory → IsCheckAnswer rose model source cert v

-- The answer to the verification of a source, on the source's graph.
pub data IsVerifyAnswer (rose : Type 0) (model : Model) (units learn : ℕ) (source : List ℕ) (v : Verdict) : Type 0 where
  too_long : 1048576 < length source → v ≡ Over 1 1048577 → IsVerifyAnswer rose model units learn source v
  refused : length source ≤ 2 ^ 20 → IsRefused model source v → IsVerifyAnswer rose model units learn source v
  verified : (t : Parts) (g : Flow) → HasGraph model source t g → IsVerified (tree_of t) g source model units learn v → IsVerifyAnswer rose model units learn source v
  read_failed : rose → v ≡ ReadFault → IsVerifyAnswer rose model units learn source v
  no_memory : v ≡ NoMemory → IsVerifyAnswer rose model units learn source v

-- the source that is asked about is known: that of a file where the files are told, and that of a seed
abbrev pub IsKnown : Type 0 → Asked → Type 0
IsKnown files_told (Check c) = files_told
IsKnown files_told (Verify w) = files_told
IsKnown files_told (Generate seed) = Unit {0}

-- the answer to what is asked, where the files are these; the source of a seed is read of none
abbrev pub IsAnswer : Type 0 → Asked → (List ℕ → List ℕ) → Verdict → Type 0
IsAnswer rose (Check c) file v = IsCheckAnswer rose c.model (file c.source) (file c.cert) v
IsAnswer rose (Verify w) file v = IsVerifyAnswer rose w.model w.units w.learn (file w.source) v
IsAnswer rose (Generate seed) file v = IsVerifyAnswer ⊥ plain_model plain_units plain_learn (generated seed) v
