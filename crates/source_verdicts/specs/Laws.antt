-- What the verdict that a source is safe means for checks.
use Rattle.std.specs.Prelude.{ℕ, ◌≡◌, ◌⊎◌, List}
use Rattle.lv_base.specs.declared.kind.Model.{Model}
use Rattle.c_graph.specs.Shape.{Flow}
use Rattle.verdicts.specs.declared.verdict.Verdict.{Verdict}
use Rattle.verdicts.specs.declared.verdict.Verdict.TheVariants.{Accepted, NoMemory}
use Rattle.cert_verdicts.specs.Judged.{IsJudged}
use Rattle.source_verdicts.specs.Verified.{IsProved}

-- each check of the text against this graph accepts it, or memory runs out
abbrev pub IsAcceptedBack : Flow → List ℕ → Model → List ℕ → Type 0
IsAcceptedBack g source model text = (v : Verdict) → IsJudged g source model text v → (v ≡ Accepted) ⊎ (v ≡ NoMemory)

-- The text that is written of a proof is accepted by each check of it for the same source, model and graph, or memory runs out.
abbrev pub WrittenIsAccepted : Type 0
WrittenIsAccepted = (g : Flow) (source : List ℕ) (model : Model) (text : List ℕ) → IsProved g source model text → IsAcceptedBack g source model text
