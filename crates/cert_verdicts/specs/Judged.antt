-- What is answered to the bytes of a certificate.
use Rattle.std.specs.Prelude.{ℕ, ◌≡◌, List, ℤ, Some, Ok, Err, slice_get}
use Rattle.sha2.specs.Sha256.{sha256}
use Rattle.lv_base.specs.declared.kind.Model.{Model}
use Rattle.lv_base.specs.declared.fault.ErrorKind.{ErrorKind}
use Rattle.c_graph.specs.declared.graph.NodeId.{NodeId}
use Rattle.c_graph.specs.declared.graph.Node.TheVariants.{Error}
use Rattle.c_graph.specs.Shape.{Flow}
use Rattle.c_graph.specs.Runs.{RunsTo}
use Rattle.stored_text.specs.declared.StoredFail.{StoredFail}
use Rattle.stored_text.specs.declared.StoredFail.TheVariants as stored
use Rattle.cert_text.specs.declared.Cert.{Cert}
use Rattle.cert_text.specs.Content.{content_of}
use Rattle.cert_text.specs.Reading.{read_cert_of}
use Rattle.cert_check.specs.declared.fails.MapFault.{MapFault}
use Rattle.cert_check.specs.declared.fails.MapFault.TheVariants as misfit
use Rattle.cert_check.specs.declared.fails.CheckFail.{CheckFail}
use Rattle.cert_check.specs.declared.fails.CheckFail.TheVariants as fail
use Rattle.cert_check.specs.Answers.{IsAccepted}
use Rattle.cert_check.specs.Causes.{IsCheckCause}
use Rattle.verdicts.specs.declared.rejection.Rejection.{Rejection}
use Rattle.verdicts.specs.declared.rejection.Rejection.TheVariants.{Format, OtherSource, OtherModel, Layout, Nodes, Term, Formula, Count, BadStep, NoEmpty}
use Rattle.verdicts.specs.declared.verdict.Verdict.{Verdict}
use Rattle.verdicts.specs.declared.verdict.Verdict.TheVariants.{Accepted, Rejected, Over, NoMemory}

-- no run of the graph meets an error
abbrev pub HasNoErrors : Flow → Type 0
HasNoErrors g =
    (draws : List ℤ) (v : NodeId) (kind : ErrorKind) (at : ℕ) (after : List ℕ)
    → RunsTo g draws v after → slice_get g.nodes v.0 ≡ Some (Error kind at) → ⊥

-- The certificate is one of this source under this model, and it is accepted on this graph: so no run of the graph meets an error.
pub record IsCertificate (g : Flow) (source : List ℕ) (model : Model) (c : Cert) : Type 0 where
  pub hash : c.hash ≡ sha256 source
  pub under : c.model ≡ model
  pub accepted : IsAccepted g c
  pub safe : HasNoErrors g

-- ---- Rejections

abbrev pub misfit_for : MapFault → Rejection
misfit_for (misfit.Layout stored wanted) = Layout stored wanted
misfit_for (misfit.Nodes stored wanted) = Nodes stored wanted
misfit_for (misfit.Term number) = Term number
misfit_for (misfit.Formula node) = Formula node

abbrev pub rejected_for : CheckFail → Verdict
rejected_for (fail.WrongMap fault) = Rejected (misfit_for fault)
rejected_for (fail.Count stored wanted) = Rejected (Count stored wanted)
rejected_for (fail.BadStep obligation step) = Rejected (BadStep obligation step)
rejected_for (fail.NoEmpty obligation) = Rejected (NoEmpty obligation)
rejected_for (fail.Over count) = Over 6 count
rejected_for fail.Memory = NoMemory

abbrev pub unread_for : StoredFail → Verdict
unread_for (stored.Format at) = Rejected (Format at)
unread_for (stored.Over number count) = Over number count
unread_for stored.Memory = NoMemory

-- ---- Answers

-- The answer to a certificate: the first of another hash, another model, and what the check of it finds.
pub data IsCertJudged (g : Flow) (source : List ℕ) (model : Model) (c : Cert) (v : Verdict) : Type 0 where
  accepted : IsCertificate g source model c → v ≡ Accepted → IsCertJudged g source model c v
  other_source : (c.hash ≡ sha256 source → ⊥) → v ≡ Rejected (OtherSource c.hash (sha256 source)) → IsCertJudged g source model c v
  other_model : c.hash ≡ sha256 source → (c.model ≡ model → ⊥) → v ≡ Rejected (OtherModel c.model model) → IsCertJudged g source model c v
  refused : (e : CheckFail) → c.hash ≡ sha256 source → c.model ≡ model → IsCheckCause g c e → v ≡ rejected_for e → IsCertJudged g source model c v

-- The answer to the bytes of a certificate.
pub data IsJudged (g : Flow) (source : List ℕ) (model : Model) (bytes : List ℕ) (v : Verdict) : Type 0 where
  unread : (e : StoredFail) → read_cert_of bytes ≡ Err e → v ≡ unread_for e → IsJudged g source model bytes v
  read : (c : Cert) → read_cert_of bytes ≡ Ok (content_of c) → IsCertJudged g source model c v → IsJudged g source model bytes v
  no_memory : v ≡ NoMemory → IsJudged g source model bytes v
