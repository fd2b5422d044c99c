-- What the verdict on a source means.
use Rattle.std.specs.Prelude.{ℕ, ◌≡◌, ◌≤◌, ◌⊎◌, Bool, true, false, nat_lt, ◌==◌, if◌then◌else◌, List, length, ℤ, Option, Some, None, Ok, Err, unsigned_abs}
use Rattle.std.specs.List.{list_all}
use Rattle.lv_base.specs.Place.{place_at}
use Rattle.lv_base.specs.declared.kind.Model.{Model}
use Rattle.lv_base.specs.declared.fault.ErrorKind.{ErrorKind}
use Rattle.lv_base.specs.declared.place.Place.{Place}
use Rattle.c_run.specs.Run.{End, Error}
use Rattle.slot_code.specs.declared.reply.Ending.{Ending}
use Rattle.slot_code.specs.declared.reply.Ending.TheVariants as ending
use Rattle.c_typed.specs.Tree.{Program}
use Rattle.c_typed.specs.Run.{run}
use Rattle.c_graph.specs.Shape.{Flow}
use Rattle.c_graph.specs.Runs.{Formulas, IsMapOf}
use Rattle.prop.specs.declared.Lit.{Lit}
use Rattle.prop.specs.declared.BlastFail.TheVariants.{Over as PastLiterals}
use Rattle.bit_gates.specs.Cut.{IsCutOff}
use Rattle.resolution_log.specs.declared.Chain.{Chain}
use Rattle.clause_learning.specs.Solve.{IsHeavy, IsSpent}
use Rattle.cover_engine.specs.Unwindings.{Unwound, is_complete}
use Rattle.cover_engine.specs.Units.{Legal}
use Rattle.cover_engine.specs.Steering.{Steered}
use Rattle.explore.specs.Ends.{IsAsked}
use Rattle.obligations.specs.Stated.{obligation_says}
use Rattle.stored_text.specs.declared.StoredFail.{StoredFail}
use Rattle.stored_text.specs.declared.StoredFail.TheVariants as stored
use Rattle.stored_text.specs.Writing.{write_run_of}
use Rattle.cert_text.specs.declared.Cert.{Cert}
use Rattle.cert_text.specs.Content.{content_of}
use Rattle.cert_text.specs.Reading.{read_cert_of}
use Rattle.cert_text.specs.Writing.{write_cert_of}
use Rattle.cert_build.specs.Proofs.{AreProofs, IsLowest}
use Rattle.invariant_map.specs.Labels.{SaysLabels}
use Rattle.cert_verdicts.specs.Judged.{IsCertificate}
use Rattle.cert_check.specs.Answers.{numbered}
use Rattle.source_verdicts.specs.declared.found.Found.{Found}
use Rattle.source_verdicts.specs.declared.found.Found.TheVariants as found
use Rattle.verdicts.specs.declared.verdict.Verdict.{Verdict}
use Rattle.verdicts.specs.declared.verdict.Verdict.TheVariants.{Safe, Unsafe, OutOfUnits, OutOfLearn, Accepted, Rejected, Faulty, Over, ReadFault, NoMemory}

-- the text is that of a certificate of this source, which is accepted on this graph, and is read back to it
pub record IsProved (g : Flow) (source : List ℕ) (model : Model) (text : List ℕ) : Type 0 where
  pub cert : Cert
  pub written : write_cert_of (content_of cert) ≡ Ok text
  pub read : read_cert_of text ≡ Ok (content_of cert)
  pub is : IsCertificate g source model cert

-- The exploration is finished: a legal and steered unwinding of the graph, of no more units than are allowed, is complete. The map says at
-- each node what the labels of the uncovered vertices there say.
pub record IsExtracted (g : Flow) (units : ℕ) (m : Formulas) : Type 0 where
  pub unwinding : Unwound
  pub legal : Legal g unwinding
  pub steered : Steered g unwinding
  pub complete : is_complete g unwinding ≡ true
  pub few : length unwinding.journal ≤ units
  pub map : IsMapOf g m
  pub says : SaysLabels g unwinding m

-- The certificate holds the terms and formulas of this map, and for each of its obligations a lean refutation with so many learned clauses at most.
pub record IsOfMap (g : Flow) (learn : ℕ) (m : Formulas) (cert : Cert) : Type 0 where
  pub terms : cert.terms.items ≡ m.terms.terms
  pub formulas : numbered cert.formulas.items ≡ m.at
  pub logs : AreProofs g m learn cert.logs.items

-- the text is that of the certificate of a finished exploration's map
pub record IsSafe (g : Flow) (source : List ℕ) (model : Model) (units learn : ℕ) (text : List ℕ) : Type 0 where
  pub proved : IsProved g source model text
  pub map : Formulas
  pub extracted : IsExtracted g units map
  pub of_map : IsOfMap g learn map proved.cert

-- these values, all of them being drawn, lead the program to this error
pub record Meets (p : Program) (source : List ℕ) (kind : ErrorKind) (place : Place) (values : List ℤ) : Type 0 where
  pub at : ℕ
  pub is_at : place ≡ place_at source at
  pub turns : ℕ
  pub ends : run turns p values ≡ Error kind at (length values)

-- with so many turns these values, all of them being drawn, lead the program to an error
abbrev pub EndsSo : Program → ℕ → List ℤ → Type 0
EndsSo p turns values = (kind : ErrorKind) × (at : ℕ) × (run turns p values ≡ Error kind at (length values))

-- Something is so of the clauses of a question that a legal and steered unwinding of the graph has, which is not complete and has fewer units
-- than are allowed; or of those of an obligation of a map, the ones before it being refuted with so many learned clauses each.
pub data IsMet (g : Flow) (units learn : ℕ) (Why : List (List Lit) → Type 0) : Type 0 where
  of_question : (unwinding : Unwound) → Legal g unwinding → Steered g unwinding → IsAsked g units unwinding Why → IsMet g units learn Why
  of_obligation : (m : Formulas) (number : ℕ) → IsMapOf g m → IsLowest g m learn number → Why (obligation_says g m number) → IsMet g units learn Why

-- A log over the clauses numbers the learned clauses that are allowed.
abbrev pub IsOutOfLearn : Flow → ℕ → ℕ → Type 0
IsOutOfLearn g units learn = (log : List Chain) × IsMet g units learn (λ clauses. IsSpent clauses learn log)

-- A log over the clauses reaches the limit on pairs with its last chain.
abbrev pub IsTooHeavy : Flow → ℕ → ℕ → Type 0
IsTooHeavy g units learn = (log : List Chain) × IsMet g units learn (λ clauses. IsHeavy clauses learn 134217728 log)

-- The clauses are cut off by the limit on literals, and so many are those up to the first clause that passes it.
abbrev pub IsTooLong : Flow → ℕ → ℕ → ℕ → Type 0
IsTooLong g units learn count = IsMet g units learn (λ clauses. IsCutOff clauses (PastLiterals count))

-- Which limit was passed: on the literals of a question or obligation, on the pairs of its log, on the bytes of the certificate of a finished
-- exploration's map, which is accepted, or on the values that lead to an error.
pub data IsLimit (p : Program) (g : Flow) (source : List ℕ) (model : Model) (units learn number count : ℕ) : Type 0 where
  of_literals : number ≡ 6 → IsTooLong g units learn count → IsLimit p g source model units learn number count
  of_pairs : number ≡ 7 → count ≡ 134217728 → IsTooHeavy g units learn → IsLimit p g source model units learn number count
  of_bytes : (cert : Cert) (m : Formulas) → IsExtracted g units m → IsOfMap g learn m cert → IsCertificate g source model cert → write_cert_of (content_of cert) ≡ Err (stored.Over number count) → IsLimit p g source model units learn number count
  of_values : (kind : ErrorKind) (place : Place) (values : List ℤ) → Meets p source kind place values → write_run_of values ≡ Err (stored.Over number count) → IsLimit p g source model units learn number count

-- a legal and steered unwinding of the graph has all units that are allowed and is not complete
pub record IsOutOfUnits (g : Flow) (units : ℕ) : Type 0 where
  pub unwinding : Unwound
  pub legal : Legal g unwinding
  pub steered : Steered g unwinding
  pub incomplete : is_complete g unwinding ≡ false
  pub all : length unwinding.journal ≡ units

-- What a verdict means, on a source with this typed tree, from the graph that was made of it, with so many units and learned
-- clauses of a question.
abbrev pub IsVerified : Program → Flow → List ℕ → Model → ℕ → ℕ → Verdict → Type 0
IsVerified p g source model units learn (Safe text) = IsSafe g source model units learn text
IsVerified p g source model units learn (Unsafe kind place values text) = Meets p source kind place values × (write_run_of values ≡ Ok text)
IsVerified p g source model units learn (OutOfUnits n) = (n ≡ units) × ((units ≡ 0) ⊎ IsOutOfUnits g units)
IsVerified p g source model units learn (OutOfLearn n) = (n ≡ learn) × ((learn ≡ 0) ⊎ IsOutOfLearn g units learn)
IsVerified p g source model units learn (Over number count) = IsLimit p g source model units learn number count
IsVerified p g source model units learn NoMemory = Unit {0}
IsVerified p g source model units learn Accepted = ⊥
IsVerified p g source model units learn (Rejected rejection) = ⊥
IsVerified p g source model units learn (Faulty fault place) = ⊥
IsVerified p g source model units learn ReadFault = ⊥

-- the answer where a text is not written
abbrev pub unwritten_for : StoredFail → Verdict
unwritten_for (stored.Over number count) = Over number count
unwritten_for (stored.Format at) = NoMemory
unwritten_for stored.Memory = NoMemory

-- ---- What witnesses tell of

-- the map is that of the certificate of this text, which proves that the source is safe
pub record HoldsMap (g : Flow) (source : List ℕ) (model : Model) (text : List ℕ) (m : Formulas) : Type 0 where
  pub proved : IsProved g source model text
  pub terms : proved.cert.terms.items ≡ m.terms.terms
  pub formulas : numbered proved.cert.formulas.items ≡ m.at

-- these values, all of them being drawn, lead the program to this error at this offset
pub record MeetsAt (p : Program) (source : List ℕ) (kind : ErrorKind) (place : Place) (values : List ℤ) (at : ℕ) : Type 0 where
  pub is_at : place ≡ place_at source at
  pub turns : ℕ
  pub ends : run turns p values ≡ Error kind at (length values)

-- the map that makes a source safe, or the offset of the error that is reached
abbrev pub IsFound : Program → Flow → List ℕ → Model → Verdict → Found → Type 0
IsFound p g source model (Safe text) f = (m : Formulas) × (f ≡ found.OfMap m) × HoldsMap g source model text m
IsFound p g source model (Unsafe kind place values text) f = (at : ℕ) × (f ≡ found.AtOffset at) × MeetsAt p source kind place values at
IsFound p g source model (OutOfUnits n) f = Unit {0}
IsFound p g source model (OutOfLearn n) f = Unit {0}
IsFound p g source model (Over number count) f = Unit {0}
IsFound p g source model NoMemory f = Unit {0}
IsFound p g source model Accepted f = Unit {0}
IsFound p g source model (Rejected rejection) f = Unit {0}
IsFound p g source model (Faulty fault place) f = Unit {0}
IsFound p g source model ReadFault f = Unit {0}

-- the verdict, and what a witness of it tells of
abbrev pub IsVerifiedAs : Program → Flow → List ℕ → Model → ℕ → ℕ → Verdict × Found → Type 0
IsVerifiedAs p g source model units learn v = IsVerified p g source model units learn v.0 × IsFound p g source model v.0 v.1

-- a verdict by a map: SAFE is by the certificate of this map
abbrev pub IsByMap : Flow → List ℕ → Model → Formulas → Verdict → Type 0
IsByMap g source model m (Safe text) = HoldsMap g source model text m
IsByMap g source model m (Unsafe kind place values text) = ⊥
IsByMap g source model m (OutOfUnits n) = Unit {0}
IsByMap g source model m (OutOfLearn n) = Unit {0}
IsByMap g source model m (Over number count) = Unit {0}
IsByMap g source model m NoMemory = Unit {0}
IsByMap g source model m Accepted = Unit {0}
IsByMap g source model m (Rejected rejection) = Unit {0}
IsByMap g source model m (Faulty fault place) = Unit {0}
IsByMap g source model m ReadFault = Unit {0}
