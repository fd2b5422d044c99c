-- There is one answer to the bytes of a certificate.
use Rattle.std.proofs.Common.{◌≡◌, ◌⊎◌, ◌∙◌, inl, inr, ap, refl, sym, ℕ, List, Result, Ok, Err}
use Rattle.sha2.specs.Sha256.{sha256}
use Rattle.lv_base.specs.declared.kind.Model.{Model}
use Rattle.c_graph.specs.Shape.{Flow}
use Rattle.stored_text.specs.declared.StoredFail.{StoredFail}
use Rattle.stored_text.specs.declared.StoredFail.TheVariants as stored
use Rattle.cert_text.specs.declared.Cert.{Cert}
use Rattle.cert_text.specs.Content.{Content, content_of}
use Rattle.cert_text.specs.Reading.{Reading, read_cert_of}
use Rattle.cert_check.specs.declared.fails.CheckFail.{CheckFail}
use Rattle.cert_check.specs.declared.fails.CheckFail.TheVariants as fail
use Rattle.cert_check_laws.specs.Laws.{IsChecked}
use Rattle.cert_check_laws.proofs.Unique.{check_is_unique}
use Rattle.verdicts.specs.declared.rejection.Rejection.TheVariants.{OtherModel, OtherSource}
use Rattle.verdicts.specs.declared.verdict.Verdict.{Verdict}
use Rattle.verdicts.specs.declared.verdict.Verdict.TheVariants.{Accepted, Rejected, NoMemory}
use Rattle.cert_verdicts.specs.Judged.{IsCertJudged, IsJudged, rejected_for, unread_for}
use Rattle.cert_verdicts.specs.Judged.IsCertJudged.{accepted, other_source as differs, other_model as mistakes, refused}
use Rattle.cert_verdicts.specs.Judged.IsJudged.{unread, read, no_memory}
use Rattle.cert_verdicts.specs.Laws.{CertificateIsAccepted, JudgedIsUnique}

-- one of two answers is want of memory, or they are one
abbrev AreOne : Verdict → Verdict → Type 0
AreOne v w = (v ≡ NoMemory) ⊎ ((w ≡ NoMemory) ⊎ (v ≡ w))

abbrev verdict_for : Result (Unit {0}) CheckFail → Verdict
verdict_for (Ok u) = Accepted
verdict_for (Err e) = rejected_for e

-- how a certificate is answered
data Way (source : List ℕ) (model : Model) (g : Flow) (c : Cert) (v : Verdict) : Type 0 where
  other_source : (c.hash ≡ sha256 source → ⊥) → v ≡ Rejected (OtherSource c.hash (sha256 source)) → Way source model g c v
  other_model : c.hash ≡ sha256 source → (c.model ≡ model → ⊥) → v ≡ Rejected (OtherModel c.model model) → Way source model g c v
  checked : (r : Result (Unit {0}) CheckFail) → c.hash ≡ sha256 source → c.model ≡ model → IsChecked g c r → v ≡ verdict_for r → Way source model g c v

way_of : (g : Flow) (source : List ℕ) (model : Model) (c : Cert) (v : Verdict) → IsCertJudged g source model c v → Way source model g c v
way_of g source model c v (accepted h is) = checked (Ok tt) h.hash h.under h.accepted is
way_of g source model c v (differs h is) = other_source h is
way_of g source model c v (mistakes h k is) = other_model h k is
way_of g source model c v (refused e h k cause is) = checked (Err e) h k cause is

module _ (g : Flow) (source : List ℕ) (model : Model) where
  one_check : (c d : Cert) (v w : Verdict) (a b : Result (Unit {0}) CheckFail) → content_of c ≡ content_of d → IsChecked g c a → IsChecked g d b
      → v ≡ verdict_for a → w ≡ verdict_for b → AreOne v w
  one_check c d v w a b e h k is it = elim (check_is_unique g c d a b e h k) [
    | inl none ↦ inl (is ∙ ap verdict_for none)
    | inr rest ↦ elim rest [
      | inl nothing ↦ inr (inl (it ∙ ap verdict_for nothing))
      | inr same ↦ inr (inr (is ∙ (ap verdict_for same ∙ sym it)))
    ]
  ]

  one_way : (c d : Cert) (v w : Verdict) → content_of c ≡ content_of d → Way source model g c v → Way source model g d w → AreOne v w
  one_way c d v w e (other_source h is) (other_source k it) =
      inr (inr (is ∙ (ap (λ (x : Content). Rejected (OtherSource x.hash (sha256 source))) e ∙ sym it)))
  one_way c d v w e (other_source h is) (other_model hash k it) = absurd (h (ap (λ (x : Content). x.hash) e ∙ hash))
  one_way c d v w e (other_source h is) (checked r hash under k it) = absurd (h (ap (λ (x : Content). x.hash) e ∙ hash))
  one_way c d v w e (other_model hash h is) (other_source k it) = absurd (k (sym (ap (λ (x : Content). x.hash) e) ∙ hash))
  one_way c d v w e (other_model hash h is) (other_model same k it) =
      inr (inr (is ∙ (ap (λ (x : Content). Rejected (OtherModel x.model model)) e ∙ sym it)))
  one_way c d v w e (other_model hash h is) (checked r same under k it) = absurd (h (ap (λ (x : Content). x.model) e ∙ under))
  one_way c d v w e (checked r hash under h is) (other_source k it) = absurd (k (sym (ap (λ (x : Content). x.hash) e) ∙ hash))
  one_way c d v w e (checked r hash under h is) (other_model same k it) = absurd (k (sym (ap (λ (x : Content). x.model) e) ∙ under))
  one_way c d v w e (checked a hash under h is) (checked b same as_said k it) = one_check c d v w a b e h k is it

abbrev the_fail : Reading → StoredFail
the_fail (Ok c) = stored.Memory
the_fail (Err e) = e

abbrev the_content : Content → Reading → Content
the_content d (Ok c) = c
the_content d (Err e) = d

not_both : (r : Reading) (e : StoredFail) (c : Content) → r ≡ Err e → r ≡ Ok c → ⊥
not_both r e c a b = cc

pub judged_is_unique : JudgedIsUnique
judged_is_unique g source model bytes v w (no_memory is) k = inl is
judged_is_unique g source model bytes v w (unread e r is) (no_memory it) = inr (inl it)
judged_is_unique g source model bytes v w (unread e r is) (unread f s it) =
    inr (inr (is ∙ (ap (λ (x : Reading). unread_for (the_fail x)) (sym r ∙ s) ∙ sym it)))
judged_is_unique g source model bytes v w (unread e r is) (read d s k) = absurd (not_both (read_cert_of bytes) e (content_of d) r s)
judged_is_unique g source model bytes v w (read c r h) (no_memory it) = inr (inl it)
judged_is_unique g source model bytes v w (read c r h) (unread f s it) = absurd (not_both (read_cert_of bytes) f (content_of c) s r)
judged_is_unique g source model bytes v w (read c r h) (read d s k) =
    one_way g source model c d v w (ap (the_content (content_of c)) (sym r ∙ s)) (way_of g source model c v h) (way_of g source model d w k)

not_accepted : Accepted ≡ NoMemory → ⊥
not_accepted e = cc

pub certificate_is_accepted : CertificateIsAccepted
certificate_is_accepted g source model bytes c v r is j = elim (judged_is_unique g source model bytes v Accepted j (read c r (accepted is refl))) [
  | inl none ↦ inr none
  | inr rest ↦ elim rest [
    | inl never ↦ absurd (not_accepted never)
    | inr same ↦ inl same
  ]
]
