-- What the answers to certificates mean.
use Rattle.std.specs.Prelude.{ℕ, ◌≡◌, ◌⊎◌, List, Ok}
use Rattle.lv_base.specs.declared.kind.Model.{Model}
use Rattle.c_graph.specs.Shape.{Flow}
use Rattle.cert_text.specs.declared.Cert.{Cert}
use Rattle.cert_text.specs.Content.{content_of}
use Rattle.cert_text.specs.Reading.{read_cert_of}
use Rattle.verdicts.specs.declared.verdict.Verdict.{Verdict}
use Rattle.verdicts.specs.declared.verdict.Verdict.TheVariants.{Accepted, NoMemory}
use Rattle.cert_verdicts.specs.Judged.{IsCertificate, IsJudged}

-- Two answers to the same bytes, for one source, model and graph, are one answer, want of memory aside.
abbrev pub JudgedIsUnique : Type 0
JudgedIsUnique =
    (g : Flow) (source : List ℕ) (model : Model) (bytes : List ℕ) (v w : Verdict) → IsJudged g source model bytes v → IsJudged g source model bytes w
    → (v ≡ NoMemory) ⊎ ((w ≡ NoMemory) ⊎ (v ≡ w))

-- Bytes that are read to a certificate which is accepted are answered so, or memory runs out.
abbrev pub CertificateIsAccepted : Type 0
CertificateIsAccepted =
    (g : Flow) (source : List ℕ) (model : Model) (bytes : List ℕ) (c : Cert) (v : Verdict)
    → read_cert_of bytes ≡ Ok (content_of c) → IsCertificate g source model c → IsJudged g source model bytes v → (v ≡ Accepted) ⊎ (v ≡ NoMemory)
