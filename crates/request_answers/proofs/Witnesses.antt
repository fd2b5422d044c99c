-- The witness of what was verified.
use Rattle.std.proofs.Common.{◌≡◌, ◌∙◌, inl, inr, refl, sym, ap, subst, ℕ, ℤ, List, Bool, false}
use Rattle.std.specs.Prelude.{Option, Some, None}
use Rattle.lv_base.specs.declared.kind.Model.{Model}
use Rattle.lv_base.specs.declared.fault.ErrorKind.{ErrorKind}
use Rattle.lv_base.specs.declared.fault.ErrorKind.TheVariants.{Reach, Overflow, Zero, Shift, Index, Missing}
use Rattle.lv_base.specs.declared.place.Place.{Place}
use Rattle.c_typed.specs.Tree.{Program}
use Rattle.c_typed.specs.Parts.{Parts, tree_of}
use Rattle.c_graph.specs.declared.graph.LoopAt.{LoopAt}
use Rattle.c_graph.specs.Shape.{Flow, IsFlow}
use Rattle.c_graph.specs.Runs.{Formulas}
use Rattle.cert_check_laws.proofs.Accepted.{accepted_is_inductive}
use Rattle.cfg_build.specs.Graphs.{program_setting}
use Rattle.program_visits.specs.Visiting.{IsLoopOf}
use Rattle.program_graphs.specs.Standing.{StandsFor}
use Rattle.source_reading.specs.Reading.{IsReplay}
use Rattle.source_verdicts.specs.declared.found.Found.{Found}
use Rattle.source_verdicts.specs.Verified.{HoldsMap, IsFound, IsVerified}
use Rattle.source_witnesses.specs.declared.stamp.Stamp.{Stamp}
use Rattle.source_witnesses.specs.Witnesses.{safe_text, unsafe_text}
use Rattle.witness_visit_laws.specs.Visited.{InvariantIsTrue, VisitsMarked}
use Rattle.witness_visit_laws.proofs.Writing.{written-invariants-are-true}
use Rattle.verdicts.specs.declared.verdict.Verdict.{Verdict}
use Rattle.verdicts.specs.declared.verdict.Verdict.TheVariants.{Safe, Unsafe, OutOfUnits, OutOfLearn, Accepted, Rejected, Faulty, Over, ReadFault, NoMemory}
use Rattle.request_answers.specs.Answers.{HasGraph, IsRefused, IsVerifyAnswer}
use Rattle.request_answers.specs.Answers.IsVerifyAnswer.{too_long, refused, verified, read_failed, no_memory}
use Rattle.request_answers.specs.Witnessed.{has_witness, is_reach, safe_witness_of, offset_witness_of, unsafe_witness_of, witness_of, IsTextOf, IsReachWitness, IsWitnessOf, IsWitnessBy}
use Rattle.request_answers.proofs.Refusals.{IsRefusal, refusal_is, refusal_no_fault, verdict_no_fault}

-- ---- Answers without a witness

module _ (model : Model) (source : List ℕ) (stamp : Stamp) where
  no_reach : (name : List ℕ) (place : Place) (values : List ℤ) (kind : ErrorKind) → is_reach kind ≡ false → IsReachWitness name model source stamp place values kind None
  no_reach name place values Reach h = absurd (cc)
  no_reach name place values Overflow h = refl
  no_reach name place values Zero h = refl
  no_reach name place values Shift h = refl
  no_reach name place values Index h = refl
  no_reach name place values Missing h = refl

  no_witness : (name : List ℕ) (v : Verdict) → has_witness v ≡ false → IsWitnessOf name model source stamp v None
  no_witness name (Safe text) h = absurd (cc)
  no_witness name (Unsafe kind place values text) h = no_reach name place values kind h
  no_witness name (OutOfUnits n) h = refl
  no_witness name (OutOfLearn n) h = refl
  no_witness name Accepted h = refl
  no_witness name (Rejected rejection) h = refl
  no_witness name (Faulty fault place) h = refl
  no_witness name (Over number count) h = refl
  no_witness name ReadFault h = refl
  no_witness name NoMemory h = refl

  pub none_witness : (name : Option (List ℕ)) (v : Verdict) → has_witness v ≡ false → IsWitnessBy name model source stamp v None
  none_witness None v h = refl
  none_witness (Some name) v h = no_witness name v h

  refusal_silent : (v : Verdict) → IsRefusal v → has_witness v ≡ false
  refusal_silent (Safe text) h = absurd h
  refusal_silent (Unsafe kind place values text) h = absurd h
  refusal_silent (OutOfUnits n) h = absurd h
  refusal_silent (OutOfLearn n) h = absurd h
  refusal_silent Accepted h = absurd h
  refusal_silent (Rejected rejection) h = absurd h
  refusal_silent (Faulty fault place) h = refl
  refusal_silent (Over number count) h = refl
  refusal_silent ReadFault h = absurd h
  refusal_silent NoMemory h = refl

  pub refused_witness : (name : Option (List ℕ)) (v : Verdict) → IsRefused model source v → IsWitnessBy name model source stamp v None
  refused_witness name v r = none_witness name v (refusal_silent v (refusal_is model source v r))

-- of a source and a name that are those of the request
pub witness_behind : (model : Model) (stamp : Stamp) (v : Verdict) (t : Option (List ℕ)) (given name : Option (List ℕ)) (bytes source : List ℕ) → given ≡ name → bytes ≡ source → IsWitnessBy given model bytes stamp v t → IsWitnessBy name model source stamp v t
witness_behind model stamp v t given name bytes source e f h =
    subst (λ (x : Option (List ℕ)). IsWitnessBy x model source stamp v t) e (subst (λ (x : List ℕ). IsWitnessBy given model x stamp v t) f h)

-- ---- What was verified

module _ (t : Parts) (order : List ℕ) (g : Flow) (marks : ℕ → ℕ → Bool) (model : Model) (source : List ℕ) (stamp : Stamp) (has : HasGraph model source t g)
    (visits : VisitsMarked (program_setting t order) (tree_of t) marks g) where
  abbrev p : Program
  p = tree_of t

  abbrev replay : IsReplay model source (tree_of t)
  replay = has.replay

  abbrev stands : StandsFor g (tree_of t)
  stands = has.stands

  abbrev flow : IsFlow g
  flow = has.flow

  -- the map of an accepted certificate is inductive, so that what is written of it is true
  true_there : (text : List ℕ) (m : Formulas) → HoldsMap g source model text m → (l : LoopAt) → IsLoopOf g l → InvariantIsTrue replay.tree model source g marks m l
  true_there text m held l there =
      let a = held.proved.is.accepted in
      written-invariants-are-true replay.tree model t order g marks m a.formulas source l replay.made replay.fits visits flow a.stored.fits
      (accepted_is_inductive g held.proved.cert flow a) (a.stored.terms ∙ held.terms) (a.stored.at ∙ held.formulas) there

  safe_case : (name text : List ℕ) (f : Found) → IsFound p g source model (Safe text) f → IsWitnessOf name model source stamp (Safe text) (safe_witness_of name source replay.tree model g marks stamp f)
  safe_case name text f found = (
    safe_text name source replay.tree model g marks found.0 stamp,
    ap (safe_witness_of name source replay.tree model g marks stamp) found.1,
    record {
      tree = replay.tree;
      read = replay.read;
      program = p;
      runs = replay.runs;
      graph = g;
      stands = stands;
      flow = flow;
      marks = marks;
      formulas = found.0;
      held = found.2;
      is = refl;
      true_there = true_there text found.0 found.2;
    },
  )

  unsafe_case : (name : List ℕ) (place : Place) (values : List ℤ) (text : List ℕ) (f : Found) (kind : ErrorKind) → IsFound p g source model (Unsafe kind place values text) f → IsReachWitness name model source stamp place values kind (unsafe_witness_of name source replay.tree model stamp kind f)
  unsafe_case name place values text f Reach found = (
    unsafe_text name source replay.tree model found.0 stamp,
    ap (offset_witness_of name source replay.tree model stamp) found.1,
    record {
      tree = replay.tree;
      read = replay.read;
      at = found.0;
      is_at = found.2.is_at;
      reaches = record { turns = found.2.turns; ends = sym (replay.runs found.2.turns values) ∙ found.2.ends };
      is = refl;
    },
  )
  unsafe_case name place values text f Overflow found = refl
  unsafe_case name place values text f Zero found = refl
  unsafe_case name place values text f Shift found = refl
  unsafe_case name place values text f Index found = refl
  unsafe_case name place values text f Missing found = refl

  found_witness : (name : List ℕ) (v : Verdict) (f : Found) → IsFound p g source model v f → IsWitnessOf name model source stamp v (witness_of name source replay.tree model g marks stamp v f)
  found_witness name (Safe text) f found = safe_case name text f found
  found_witness name (Unsafe kind place values text) f found = unsafe_case name place values text f kind found
  found_witness name (OutOfUnits n) f found = refl
  found_witness name (OutOfLearn n) f found = refl
  found_witness name Accepted f found = refl
  found_witness name (Rejected rejection) f found = refl
  found_witness name (Faulty fault place) f found = refl
  found_witness name (Over number count) f found = refl
  found_witness name ReadFault f found = refl
  found_witness name NoMemory f found = refl

  pub told_witness : (name : Option (List ℕ)) (told : Verdict × Found) (r : Verdict × Option (List ℕ)) → IsFound p g source model told.0 told.1 → IsTextOf name source replay.tree model g marks stamp told r → IsWitnessBy name model source stamp r.0 r.1
  told_witness None told r found h = h.1
  told_witness (Some name) told r found (inl h) =
      subst (λ (x : Verdict). IsWitnessOf name model source stamp x r.1) (sym h.0)
      (subst (λ (x : Option (List ℕ)). IsWitnessOf name model source stamp told.0 x) (sym h.1) (found_witness name told.0 told.1 found))
  told_witness (Some name) told r found (inr h) =
      subst (λ (x : Verdict). IsWitnessOf name model source stamp x r.1) (sym h.0) h.1

  pub told_answer : (units learn : ℕ) (name : Option (List ℕ)) (told : Verdict × Found) (r : Verdict × Option (List ℕ)) → IsVerified p g source model units learn told.0 → IsTextOf name source replay.tree model g marks stamp told r → IsVerifyAnswer ⊥ model units learn source r.0
  told_answer units learn None told r is h = subst (λ (x : Verdict). IsVerifyAnswer ⊥ model units learn source x) (sym h.0) (verified t g has is)
  told_answer units learn (Some name) told r is (inl h) = subst (λ (x : Verdict). IsVerifyAnswer ⊥ model units learn source x) (sym h.0) (verified t g has is)
  told_answer units learn (Some name) told r is (inr h) = no_memory h.0

-- a verification of a source that was read is no read fault
pub answer_no_fault : (model : Model) (units learn : ℕ) (source : List ℕ) (v : Verdict) → IsVerifyAnswer ⊥ model units learn source v → v ≡ ReadFault → ⊥
answer_no_fault model units learn source v (too_long h is) e = let both : Over 1 1048577 ≡ ReadFault = sym is ∙ e in cc
answer_no_fault model units learn source v (refused l r) e = refusal_no_fault model source v r e
answer_no_fault model units learn source v (verified t g has is) e = verdict_no_fault (tree_of t) g source model units learn v is e
answer_no_fault model units learn source v (read_failed h is) e = h
answer_no_fault model units learn source v (no_memory is) e = let both : NoMemory ≡ ReadFault = sym is ∙ e in cc
