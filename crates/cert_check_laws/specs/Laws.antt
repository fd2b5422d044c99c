-- What follows where a certificate is accepted, and that a check has one answer.
use Rattle.std.specs.Prelude.{ℕ, ℤ, ◌≡◌, ◌⊎◌, List, Some, slice_get, Result, Ok, Err}
use Rattle.lv_base.specs.declared.fault.ErrorKind.{ErrorKind}
use Rattle.c_graph.specs.declared.graph.NodeId.{NodeId}
use Rattle.c_graph.specs.declared.graph.Node.TheVariants.{Error}
use Rattle.c_graph.specs.Shape.{Flow, IsFlow}
use Rattle.c_graph.specs.Runs.{IsInductive, RunsTo}
use Rattle.cert_text.specs.declared.Cert.{Cert}
use Rattle.cert_text.specs.Content.{content_of}
use Rattle.cert_check.specs.declared.fails.CheckFail.{CheckFail}
use Rattle.cert_check.specs.declared.fails.CheckFail.TheVariants.{Memory}
use Rattle.cert_check.specs.Answers.{IsAccepted}
use Rattle.cert_check.specs.Causes.{IsCheckCause}

-- the map of an accepted certificate is inductive
abbrev pub AcceptedIsInductive : Type 0
AcceptedIsInductive = (g : Flow) (c : Cert) → IsFlow g → (a : IsAccepted g c) → IsInductive g a.formulas

-- with an accepted certificate, no graph run from the entry reaches an error node
abbrev pub AcceptedIsSafe : Type 0
AcceptedIsSafe =
    (g : Flow) (c : Cert) (draws : List ℤ) (v : NodeId) (kind : ErrorKind) (at : ℕ) (after : List ℕ)
    → IsFlow g → IsAccepted g c → RunsTo g draws v after → slice_get g.nodes v.0 ≡ Some (Error kind at) → ⊥

-- a certificate that is accepted has no cause of refusal but want of memory
abbrev pub AcceptedIsNotRefused : Type 0
AcceptedIsNotRefused = (g : Flow) (c : Cert) (e : CheckFail) → IsAccepted g c → IsCheckCause g c e → e ≡ Memory

-- what a check answers: nothing more where the certificate is accepted, else why it is not
abbrev pub IsChecked : Flow → Cert → Result (Unit {0}) CheckFail → Type 0
IsChecked g c (Ok u) = IsAccepted g c
IsChecked g c (Err e) = IsCheckCause g c e

-- Two answers to what one certificate says, against one graph, are one answer, want of memory aside.
abbrev pub CheckIsUnique : Type 0
CheckIsUnique =
    (g : Flow) (c d : Cert) (a b : Result (Unit {0}) CheckFail) → content_of c ≡ content_of d → IsChecked g c a → IsChecked g d b
    → (a ≡ Err Memory) ⊎ ((b ≡ Err Memory) ⊎ (a ≡ b))
