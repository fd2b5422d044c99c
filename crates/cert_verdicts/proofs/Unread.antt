-- Bytes that are no certificate are answered so.
use Rattle.std.proofs.Common.{inl, inr, ◌⊎◌, ◌≡◌, ◌∙◌, ap, ℕ, List}
use Rattle.std.specs.Prelude.{Err}
use Rattle.lv_base.specs.declared.kind.Model.{Model}
use Rattle.c_graph.specs.Shape.{Flow}
use Rattle.stored_text.specs.declared.StoredFail.{StoredFail}
use Rattle.stored_text.specs.declared.StoredFail.TheVariants as stored
use Rattle.cert_text.specs.Reading.{read_cert_of}
use Rattle.verdicts.specs.declared.verdict.Verdict.{Verdict}
use Rattle.cert_verdicts.specs.Judged.{IsJudged, unread_for}
use Rattle.cert_verdicts.specs.Judged.IsJudged.{unread, no_memory}

pub unread_judged : (g : Flow) (source : List ℕ) (model : Model) (bytes : List ℕ) (e : StoredFail) (v : Verdict) → v ≡ unread_for e → (e ≡ stored.Memory) ⊎ (read_cert_of bytes ≡ Err e) → IsJudged g source model bytes v
unread_judged g source model bytes e v is (inl m) = no_memory (is ∙ ap unread_for m)
unread_judged g source model bytes e v is (inr r) = unread e r is
