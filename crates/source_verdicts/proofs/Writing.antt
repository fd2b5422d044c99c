-- What is said where a text is written, or is not.
use Rattle.std.proofs.Common.{inl, inr, ◌⊎◌, ◌≡◌, sym, subst, ℕ, ℤ, List, length}
use Rattle.std.specs.Prelude.{Ok, Err}
use Rattle.lv_base.specs.Place.{place_at}
use Rattle.lv_base.specs.declared.kind.Model.{Model}
use Rattle.lv_base.specs.declared.fault.ErrorKind.{ErrorKind}
use Rattle.lv_base.specs.declared.place.Place.{Place}
use Rattle.c_run.specs.Run.{Error}
use Rattle.c_typed.specs.Tree.{Program}
use Rattle.c_typed.specs.Run.{run}
use Rattle.c_graph.specs.Shape.{Flow}
use Rattle.c_graph.specs.Runs.{Formulas}
use Rattle.stored_text.specs.declared.StoredFail.{StoredFail}
use Rattle.stored_text.specs.declared.StoredFail.TheVariants as stored
use Rattle.stored_text.specs.Writing.{write_run_of}
use Rattle.cert_text.specs.declared.Cert.{Cert}
use Rattle.cert_text.specs.Content.{content_of}
use Rattle.cert_text.specs.Writing.{write_cert_of}
use Rattle.cert_verdicts.specs.Judged.{IsCertificate}
use Rattle.verdicts.specs.declared.verdict.Verdict.{Verdict}
use Rattle.verdicts.specs.declared.verdict.Verdict.TheVariants.{Unsafe}
use Rattle.source_verdicts.specs.Verified.{IsExtracted, IsOfMap, IsVerified, Meets, MeetsAt, unwritten_for}
use Rattle.source_verdicts.specs.Verified.IsLimit.{of_bytes, of_values}

module _ (p : Program) (g : Flow) (source : List ℕ) (model : Model) (units learn : ℕ) where
  no_cert : (cert : Cert) (m : Formulas) → IsExtracted g units m → IsOfMap g learn m cert → IsCertificate g source model cert → (e : StoredFail) → (e ≡ stored.Memory) ⊎ (write_cert_of (content_of cert) ≡ Err e) → IsVerified p g source model units learn (unwritten_for e)
  no_cert cert m ex held is (stored.Over number count) (inl lacks) = absurd (cc)
  no_cert cert m ex held is (stored.Over number count) (inr r) = of_bytes cert m ex held is r
  no_cert cert m ex held is (stored.Format at) h = tt
  no_cert cert m ex held is stored.Memory h = tt

  pub cert_unwritten : (cert : Cert) (m : Formulas) → IsExtracted g units m → IsOfMap g learn m cert → IsCertificate g source model cert → (e : StoredFail) (v : Verdict) → v ≡ unwritten_for e → (e ≡ stored.Memory) ⊎ (write_cert_of (content_of cert) ≡ Err e) → IsVerified p g source model units learn v
  cert_unwritten cert m ex held is e v said h = subst (IsVerified p g source model units learn) (sym said) (no_cert cert m ex held is e h)

  no_run : (kind : ErrorKind) (place : Place) (values : List ℤ) → Meets p source kind place values → (e : StoredFail) → (e ≡ stored.Memory) ⊎ (write_run_of values ≡ Err e) → IsVerified p g source model units learn (unwritten_for e)
  no_run kind place values meets (stored.Over number count) (inl m) = absurd (cc)
  no_run kind place values meets (stored.Over number count) (inr r) = of_values kind place values meets r
  no_run kind place values meets (stored.Format at) h = tt
  no_run kind place values meets stored.Memory h = tt

  pub run_unwritten : (kind : ErrorKind) (place : Place) (values : List ℤ) → Meets p source kind place values → (e : StoredFail) (v : Verdict) → v ≡ unwritten_for e → (e ≡ stored.Memory) ⊎ (write_run_of values ≡ Err e) → IsVerified p g source model units learn v
  run_unwritten kind place values meets e v said h = subst (IsVerified p g source model units learn) (sym said) (no_run kind place values meets e h)

  pub run_written : (kind : ErrorKind) (place : Place) (values copy : List ℤ) (items file : List ℕ) → Meets p source kind place values → copy ≡ values → file ≡ items → write_run_of values ≡ Ok items → IsVerified p g source model units learn (Unsafe kind place copy file)
  run_written kind place values copy items file meets same text written =
      subst (λ (x : List ℤ). IsVerified p g source model units learn (Unsafe kind place x file)) (sym same)
      (subst (λ (x : List ℕ). IsVerified p g source model units learn (Unsafe kind place values x)) (sym text) (meets, written))

-- an error at this offset
pub meets_at : (p : Program) (source : List ℕ) (kind : ErrorKind) (place : Place) (at turns : ℕ) (values : List ℤ) → place ≡ place_at source at → run turns p values ≡ Error kind at (length values) → Meets p source kind place values
meets_at p source kind place at turns values is ends = record { at = at; is_at = is; turns = turns; ends = ends }

-- the same of a copy of the values
pub met_at_offset : (p : Program) (source : List ℕ) (kind : ErrorKind) (place : Place) (at turns : ℕ) (values copy : List ℤ) → copy ≡ values → place ≡ place_at source at → run turns p values ≡ Error kind at (length values) → MeetsAt p source kind place copy at
met_at_offset p source kind place at turns values copy same is ends =
    subst (λ (x : List ℤ). MeetsAt p source kind place x at) (sym same) (record { is_at = is; turns = turns; ends = ends })
