-- What a judgement can be.
use Rattle.std.proofs.Common.{◌≡◌, sym, subst, ℕ, List}
use Rattle.std.specs.Prelude.{Ok}
use Rattle.lv_base.specs.declared.kind.Model.{Model}
use Rattle.c_graph.specs.Shape.{Flow}
use Rattle.stored_text.specs.declared.StoredFail.{StoredFail}
use Rattle.stored_text.specs.declared.StoredFail.TheVariants as stored
use Rattle.cert_text.specs.declared.Cert.{Cert}
use Rattle.cert_text.specs.Content.{content_of}
use Rattle.cert_text.specs.Reading.{read_cert_of}
use Rattle.cert_check.specs.declared.fails.CheckFail.{CheckFail}
use Rattle.cert_check.specs.declared.fails.CheckFail.TheVariants as check
use Rattle.verdicts.specs.declared.verdict.Verdict.{Verdict}
use Rattle.verdicts.specs.declared.verdict.Verdict.TheVariants.{Accepted, Rejected, Over, ReadFault, NoMemory}
use Rattle.cert_verdicts.specs.Judged.{IsCertificate, IsCertJudged, IsJudged, rejected_for, unread_for}
use Rattle.cert_verdicts.specs.Judged.IsCertJudged.{accepted, other_source, other_model, refused}
use Rattle.cert_verdicts.specs.Judged.IsJudged.{unread, read, no_memory}

-- the answers to a certificate
abbrev pub IsJudgement : Verdict → Type 0
IsJudgement Accepted = Unit {0}
IsJudgement (Rejected rejection) = Unit {0}
IsJudgement (Over number count) = Unit {0}
IsJudgement NoMemory = Unit {0}
IsJudgement _ = ⊥

unread_is : (e : StoredFail) → IsJudgement (unread_for e)
unread_is (stored.Format at) = tt
unread_is (stored.Over number count) = tt
unread_is stored.Memory = tt

rejected_is : (e : CheckFail) → IsJudgement (rejected_for e)
rejected_is (check.WrongMap fault) = tt
rejected_is (check.Count a b) = tt
rejected_is (check.BadStep a b) = tt
rejected_is (check.NoEmpty a) = tt
rejected_is (check.Over count) = tt
rejected_is check.Memory = tt

cert_is : (g : Flow) (bytes : List ℕ) (model : Model) (c : Cert) (v : Verdict) → IsCertJudged g bytes model c v → IsJudgement v
cert_is g bytes model c v (accepted h is) = subst IsJudgement (sym is) tt
cert_is g bytes model c v (other_source h is) = subst IsJudgement (sym is) tt
cert_is g bytes model c v (other_model h k is) = subst IsJudgement (sym is) tt
cert_is g bytes model c v (refused e h k cause is) = subst IsJudgement (sym is) (rejected_is e)

pub judgement_is : (g : Flow) (bytes : List ℕ) (model : Model) (file : List ℕ) (v : Verdict) → IsJudged g bytes model file v → IsJudgement v
judgement_is g bytes model file v (unread e r is) = subst IsJudgement (sym is) (unread_is e)
judgement_is g bytes model file v (read c r j) = cert_is g bytes model c v j
judgement_is g bytes model file v (no_memory is) = subst IsJudgement (sym is) tt

-- no judgement is a read fault
pub judgement_no_fault : (g : Flow) (bytes : List ℕ) (model : Model) (file : List ℕ) (v : Verdict) → IsJudged g bytes model file v → v ≡ ReadFault → ⊥
judgement_no_fault g bytes model file v j e = subst IsJudgement e (judgement_is g bytes model file v j)

unread_no : (e : StoredFail) → Accepted ≡ unread_for e → ⊥
unread_no (stored.Format at) is = cc
unread_no (stored.Over number count) is = cc
unread_no stored.Memory is = cc

rejected_no : (e : CheckFail) → Accepted ≡ rejected_for e → ⊥
rejected_no (check.WrongMap fault) is = cc
rejected_no (check.Count a b) is = cc
rejected_no (check.BadStep a b) is = cc
rejected_no (check.NoEmpty a) is = cc
rejected_no (check.Over count) is = cc
rejected_no check.Memory is = cc

cert_accepted : (g : Flow) (source : List ℕ) (model : Model) (c : Cert) → IsCertJudged g source model c Accepted → IsCertificate g source model c
cert_accepted g source model c (accepted h is) = h
cert_accepted g source model c (other_source h is) = absurd (cc)
cert_accepted g source model c (other_model h k is) = absurd (cc)
cert_accepted g source model c (refused e h k cause is) = absurd (rejected_no e is)

pub judged_accepted : (g : Flow) (source : List ℕ) (model : Model) (bytes : List ℕ) → IsJudged g source model bytes Accepted → (c : Cert) × (read_cert_of bytes ≡ Ok (content_of c)) × IsCertificate g source model c
judged_accepted g source model bytes (unread e r is) = absurd (unread_no e is)
judged_accepted g source model bytes (read c r j) = (c, r, cert_accepted g source model c j)
judged_accepted g source model bytes (no_memory is) = absurd (cc)
