-- What the answers mean.
use Rattle.std.specs.Prelude.{ℕ, ℤ, ◌≡◌, ◌⊎◌, ◌≤◌, List, length, Ok}
use Rattle.lv_outside.specs.Counts.{Rose}
use Rattle.lv_base.specs.Place.{place_at}
use Rattle.lv_base.specs.declared.kind.Model.{Model}
use Rattle.lv_base.specs.declared.fault.ErrorKind.{ErrorKind}
use Rattle.lv_base.specs.declared.place.Place.{Place}
use Rattle.c_tree.specs.Tree.{Items}
use Rattle.c_meaning.specs.Program.{Reaches, Secure}
use Rattle.c_graph.specs.Shape.{Flow, IsFlow}
use Rattle.cert_text.specs.declared.Cert.{Cert}
use Rattle.cert_text.specs.Content.{content_of}
use Rattle.cert_text.specs.Reading.{read_cert_of}
use Rattle.cert_verdicts.specs.Judged.{HasNoErrors, IsCertificate}
use Rattle.source_verdicts.specs.Laws.{IsAcceptedBack}
use Rattle.source_verdicts.specs.Verified.{IsSafe}
use Rattle.source_reading.specs.Reading.{IsSourceTree, IsReplay, RunsAs}
use Rattle.program_graphs.specs.Standing.{StandsFor}
use Rattle.c_typed.specs.Parts.{Parts}
use Rattle.c_typed.specs.Tree.{Program}
use Rattle.verdicts.specs.declared.verdict.Verdict.{Verdict}
use Rattle.verdicts.specs.declared.verdict.Verdict.TheVariants.{Safe, Unsafe, Accepted, Over, ReadFault, NoMemory}
use Rattle.task_gen.specs.Generated.{generated}
use Rattle.request_words.specs.Asked.{Asked, Check, Verify, Generate, plain_model}
use Rattle.verdicts.specs.Lines.{status_of}
use Rattle.request_answers.specs.Answers.{HasGraph, IsAnswer, IsCheckAnswer, IsVerifyAnswer}

-- A certificate is accepted only where the source is secure, and the bytes are read to one of the source under the model, which is
-- accepted on a graph that stands for the source's tree: no run of that graph meets an error.
abbrev pub AcceptedIsCertified : Type 0
AcceptedIsCertified =
    (before behind : ℕ) (model : Model) (source bytes : List ℕ) → IsCheckAnswer (Rose before behind) model source bytes Accepted
    → (tree : Items) × IsSourceTree model source tree × Secure tree model
    × ((p : Program) × (g : Flow) × RunsAs p tree model × StandsFor g p × IsFlow g
    × ((c : Cert) × (read_cert_of bytes ≡ Ok (content_of c)) × IsCertificate g source model c))

-- A source is called safe only where it is secure, with the text of a certificate that is accepted on a graph that stands for its
-- tree: no run of that graph meets an error, and each check of the text against that graph accepts it, or memory runs out. The certificate is
-- that of the map of a complete unwinding, which is legal and steered and has no more units than are allowed.
abbrev pub SafeIsProved : Type 0
SafeIsProved =
    (before behind : ℕ) (model : Model) (units learn : ℕ) (source text : List ℕ) → IsVerifyAnswer (Rose before behind) model units learn source (Safe text)
    → (tree : Items) × IsSourceTree model source tree × Secure tree model
    × ((p : Program) × (g : Flow) × RunsAs p tree model × StandsFor g p × IsFlow g × IsSafe g source model units learn text
    × IsAcceptedBack g source model text)

-- The source has a typed tree that runs as it does, and a graph that stands for the tree, no run of which meets an error: so no run of
-- the source meets one, whatever the inputs are.
pub record IsCertified (model : Model) (source : List ℕ) : Type 0 where
  pub program : Program
  pub graph : Flow
  pub replay : IsReplay model source program
  pub stands : StandsFor graph program
  pub flow : IsFlow graph
  pub safe : HasNoErrors graph
  pub secure : Secure replay.tree model

-- the source that is asked about is certified
abbrev pub IsCertifiedFor : Asked → (List ℕ → List ℕ) → Type 0
IsCertifiedFor (Check c) file = IsCertified c.model (file c.source)
IsCertifiedFor (Verify w) file = IsCertified w.model (file w.source)
IsCertifiedFor (Generate seed) file = IsCertified plain_model (generated seed)

-- The status 0 is that of SAFE and ACCEPTED alone: it comes only where the source is certified.
abbrev pub ZeroIsCertified : Type 0
ZeroIsCertified = (before behind : ℕ) (asked : Asked) (file : List ℕ → List ℕ) (v : Verdict) → IsAnswer (Rose before behind) asked file v → status_of v ≡ 0 → IsCertifiedFor asked file

-- A source is called unsafe only with values that reach the error at its place in it.
abbrev pub UnsafeReaches : Type 0
UnsafeReaches =
    (before behind : ℕ) (model : Model) (units learn : ℕ) (source : List ℕ) (kind : ErrorKind) (place : Place) (values : List ℤ) (text : List ℕ)
    → IsVerifyAnswer (Rose before behind) model units learn source (Unsafe kind place values text)
    → (tree : Items) × IsSourceTree model source tree
    × ((at : ℕ) × (place ≡ place_at source at) × Reaches tree model values kind at)

-- ---- Exact answers

-- The answer is not one of the bytes: memory runs out, or the host refuses to read.
abbrev pub IsStopped : Type 0 → Verdict → Type 0
IsStopped rose v = (v ≡ NoMemory) ⊎ (rose × (v ≡ ReadFault))

-- What a check has to accept: the source has a graph, and the bytes, which are not too many, are read to a certificate of this source under
-- this model, which is accepted on the graph.
pub record IsAcceptable (model : Model) (source bytes : List ℕ) : Type 0 where
  pub tree : Parts
  pub graph : Flow
  pub has : HasGraph model source tree graph
  pub short : length bytes ≤ 67108864
  pub cert : Cert
  pub read : read_cert_of bytes ≡ Ok (content_of cert)
  pub is : IsCertificate graph source model cert

-- A check accepts what it has to accept, and nothing else.
abbrev pub AcceptedIsExact : Type 0
AcceptedIsExact =
    (before behind : ℕ) (model : Model) (source bytes : List ℕ) (v : Verdict) → IsCheckAnswer (Rose before behind) model source bytes v
    → (v ≡ Accepted → IsAcceptable model source bytes) × (IsAcceptable model source bytes → (v ≡ Accepted) ⊎ IsStopped (Rose before behind) v)

-- What a verification calls safe, each check of the same source by the text that was written accepts.
abbrev pub SafeIsAccepted : Type 0
SafeIsAccepted =
    (before between behind : ℕ) (model : Model) (units learn : ℕ) (source text : List ℕ) (v : Verdict)
    → IsVerifyAnswer (Rose before between) model units learn source (Safe text) → IsCheckAnswer (Rose between behind) model source text v
    → (v ≡ Accepted) ⊎ IsStopped (Rose between behind) v

-- the same answer, but for the count that is told of what passes a limit
abbrev pub IsSame : Verdict → Verdict → Type 0
IsSame v w = (v ≡ w) ⊎ ((number : ℕ) × ((m : ℕ) × ((n : ℕ) × (v ≡ Over number m) × (w ≡ Over number n))))

-- Two checks of the same bytes against the same source have one answer, unless one of them is stopped: so the first reason why
-- bytes are rejected is told, whoever looks for it.
abbrev pub ChecksAgree : Type 0
ChecksAgree =
    (before between behind : ℕ) (model : Model) (source bytes : List ℕ) (v w : Verdict)
    → IsCheckAnswer (Rose before between) model source bytes v → IsCheckAnswer (Rose between behind) model source bytes w
    → IsStopped (Rose before between) v ⊎ (IsStopped (Rose between behind) w ⊎ IsSame v w)
