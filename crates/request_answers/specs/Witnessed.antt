-- The witness of an answer.
use Rattle.std.specs.Prelude.{ℕ, ℤ, ◌≡◌, ◌⊎◌, List, Bool, true, false, Option, Some, None, Ok}
use Rattle.lv_base.specs.Place.{place_at}
use Rattle.lv_base.specs.declared.kind.Model.{Model}
use Rattle.lv_base.specs.declared.fault.ErrorKind.{ErrorKind}
use Rattle.lv_base.specs.declared.fault.ErrorKind.TheVariants.{Reach, Overflow, Zero, Shift, Index, Missing}
use Rattle.lv_base.specs.declared.place.Place.{Place}
use Rattle.c_tree.specs.Tree.{Items}
use Rattle.c_meaning.specs.Program.{Reaches}
use Rattle.c_typed.specs.Tree.{Program}
use Rattle.c_graph.specs.declared.graph.LoopAt.{LoopAt}
use Rattle.c_graph.specs.Shape.{Flow, IsFlow}
use Rattle.c_graph.specs.Runs.{Formulas}
use Rattle.program_graphs.specs.Standing.{StandsFor}
use Rattle.program_visits.specs.Visiting.{IsLoopOf}
use Rattle.source_reading.specs.Reading.{IsSourceTree, RunsAs}
use Rattle.source_verdicts.specs.declared.found.Found.{Found}
use Rattle.source_verdicts.specs.declared.found.Found.TheVariants as found
use Rattle.source_verdicts.specs.Verified.{HoldsMap}
use Rattle.source_witnesses.specs.declared.stamp.Stamp.{Stamp}
use Rattle.source_witnesses.specs.Witnesses.{safe_text, unsafe_text}
use Rattle.witness_visit_laws.specs.Visited.{InvariantIsTrue}
use Rattle.request_words.specs.Asked.{Asked, Check, Verify, Generate}
use Rattle.verdicts.specs.declared.verdict.Verdict.{Verdict}
use Rattle.verdicts.specs.declared.verdict.Verdict.TheVariants.{Safe, Unsafe, OutOfUnits, OutOfLearn, Accepted, Rejected, Faulty, Over, ReadFault, NoMemory}

-- ---- Which text it is

abbrev pub safe_witness_of : List ℕ → List ℕ → Items → Model → Flow → (ℕ → ℕ → Bool) → Stamp → Found → Option (List ℕ)
safe_witness_of name source tree model g marks stamp (found.OfMap m) = Some (safe_text name source tree model g marks m stamp)
safe_witness_of name source tree model g marks stamp (found.AtOffset at) = None
safe_witness_of name source tree model g marks stamp found.Nothing = None

abbrev pub offset_witness_of : List ℕ → List ℕ → Items → Model → Stamp → Found → Option (List ℕ)
offset_witness_of name source tree model stamp (found.AtOffset at) = Some (unsafe_text name source tree model at stamp)
offset_witness_of name source tree model stamp (found.OfMap m) = None
offset_witness_of name source tree model stamp found.Nothing = None

-- of an error by a call of `reach_error`, and of no other
abbrev pub unsafe_witness_of : List ℕ → List ℕ → Items → Model → Stamp → ErrorKind → Found → Option (List ℕ)
unsafe_witness_of name source tree model stamp Reach f = offset_witness_of name source tree model stamp f
unsafe_witness_of name source tree model stamp Overflow f = None
unsafe_witness_of name source tree model stamp Zero f = None
unsafe_witness_of name source tree model stamp Shift f = None
unsafe_witness_of name source tree model stamp Index f = None
unsafe_witness_of name source tree model stamp Missing f = None

-- the witness of a verdict, by what was found for it
abbrev pub witness_of : List ℕ → List ℕ → Items → Model → Flow → (ℕ → ℕ → Bool) → Stamp → Verdict → Found → Option (List ℕ)
witness_of name source tree model g marks stamp (Safe text) f = safe_witness_of name source tree model g marks stamp f
witness_of name source tree model g marks stamp (Unsafe kind place values text) f = unsafe_witness_of name source tree model stamp kind f
witness_of name source tree model g marks stamp (OutOfUnits n) f = None
witness_of name source tree model g marks stamp (OutOfLearn n) f = None
witness_of name source tree model g marks stamp Accepted f = None
witness_of name source tree model g marks stamp (Rejected rejection) f = None
witness_of name source tree model g marks stamp (Faulty fault place) f = None
witness_of name source tree model g marks stamp (Over number count) f = None
witness_of name source tree model g marks stamp ReadFault f = None
witness_of name source tree model g marks stamp NoMemory f = None

-- the name of the source, where a witness is asked for
abbrev pub named_for : Option (List ℕ) → List ℕ → Option (List ℕ)
named_for None source = None
named_for (Some witness) source = Some source

-- A verdict is told with its witness where one is asked for, or memory runs out.
abbrev pub IsTextOf : Option (List ℕ) → List ℕ → Items → Model → Flow → (ℕ → ℕ → Bool) → Stamp → Verdict × Found → Verdict × Option (List ℕ) → Type 0
IsTextOf None source tree model g marks stamp told answer = (answer.0 ≡ told.0) × (answer.1 ≡ None)
IsTextOf (Some name) source tree model g marks stamp told answer =
    ((answer.0 ≡ told.0) × (answer.1 ≡ witness_of name source tree model g marks stamp told.0 told.1)) ⊎ ((answer.0 ≡ NoMemory) × (answer.1 ≡ None))

-- ---- Which answers have one

abbrev pub is_reach : ErrorKind → Bool
is_reach Reach = true
is_reach Overflow = false
is_reach Zero = false
is_reach Shift = false
is_reach Index = false
is_reach Missing = false

-- SAFE, and UNSAFE by a call of `reach_error`
abbrev pub has_witness : Verdict → Bool
has_witness (Safe text) = true
has_witness (Unsafe kind place values text) = is_reach kind
has_witness (OutOfUnits n) = false
has_witness (OutOfLearn n) = false
has_witness Accepted = false
has_witness (Rejected rejection) = false
has_witness (Faulty fault place) = false
has_witness (Over number count) = false
has_witness ReadFault = false
has_witness NoMemory = false

-- ---- What it says

-- The witness of a source that is safe has the invariants of a map: that of the certificate, on a graph that stands for the source's tree.
-- They are written over the cells that are marked, and each is true.
pub record IsSafeWitness (name : List ℕ) (model : Model) (source : List ℕ) (stamp : Stamp) (text witness : List ℕ) : Type 0 where
  pub tree : Items
  pub read : IsSourceTree model source tree
  pub program : Program
  pub runs : RunsAs program tree model
  pub graph : Flow
  pub stands : StandsFor graph program
  pub flow : IsFlow graph
  pub marks : ℕ → ℕ → Bool
  pub formulas : Formulas
  pub held : HoldsMap graph source model text formulas
  pub is : witness ≡ safe_text name source tree model graph marks formulas stamp
  pub true_there : (l : LoopAt) → IsLoopOf graph l → InvariantIsTrue tree model source graph marks formulas l

-- The witness of a source that reaches an error has the place of the call that the values lead to, and the function around it.
pub record IsUnsafeWitness (name : List ℕ) (model : Model) (source : List ℕ) (stamp : Stamp) (place : Place) (values : List ℤ) (witness : List ℕ) : Type 0 where
  pub tree : Items
  pub read : IsSourceTree model source tree
  pub at : ℕ
  pub is_at : place ≡ place_at source at
  pub reaches : Reaches tree model values Reach at
  pub is : witness ≡ unsafe_text name source tree model at stamp

abbrev pub IsReachWitness : List ℕ → Model → List ℕ → Stamp → Place → List ℤ → ErrorKind → Option (List ℕ) → Type 0
IsReachWitness name model source stamp place values Reach t = (witness : List ℕ) × (t ≡ Some witness) × IsUnsafeWitness name model source stamp place values witness
IsReachWitness name model source stamp place values Overflow t = t ≡ None
IsReachWitness name model source stamp place values Zero t = t ≡ None
IsReachWitness name model source stamp place values Shift t = t ≡ None
IsReachWitness name model source stamp place values Index t = t ≡ None
IsReachWitness name model source stamp place values Missing t = t ≡ None

-- the witness of a verdict on a source whose file has this name
abbrev pub IsWitnessOf : List ℕ → Model → List ℕ → Stamp → Verdict → Option (List ℕ) → Type 0
IsWitnessOf name model source stamp (Safe text) t = (witness : List ℕ) × (t ≡ Some witness) × IsSafeWitness name model source stamp text witness
IsWitnessOf name model source stamp (Unsafe kind place values text) t = IsReachWitness name model source stamp place values kind t
IsWitnessOf name model source stamp (OutOfUnits n) t = t ≡ None
IsWitnessOf name model source stamp (OutOfLearn n) t = t ≡ None
IsWitnessOf name model source stamp Accepted t = t ≡ None
IsWitnessOf name model source stamp (Rejected rejection) t = t ≡ None
IsWitnessOf name model source stamp (Faulty fault place) t = t ≡ None
IsWitnessOf name model source stamp (Over number count) t = t ≡ None
IsWitnessOf name model source stamp ReadFault t = t ≡ None
IsWitnessOf name model source stamp NoMemory t = t ≡ None

abbrev pub IsWitnessBy : Option (List ℕ) → Model → List ℕ → Stamp → Verdict → Option (List ℕ) → Type 0
IsWitnessBy None model source stamp v t = t ≡ None
IsWitnessBy (Some name) model source stamp v t = IsWitnessOf name model source stamp v t

-- the witness of the answer to what is asked: one is made where a file is named for it
abbrev pub IsWitnessed : Asked → (List ℕ → List ℕ) → Stamp → Verdict → Option (List ℕ) → Type 0
IsWitnessed (Check c) file stamp v t = t ≡ None
IsWitnessed (Verify w) file stamp v t = IsWitnessBy (named_for w.witness w.source) w.model (file w.source) stamp v t
IsWitnessed (Generate seed) file stamp v t = t ≡ None
