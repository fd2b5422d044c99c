-- What the lack of runs to errors on a graph tells of the source that it stands for.
use Rattle.std.proofs.Common.{◌∙◌, ℕ, List, length}
use Rattle.std.specs.Prelude.{take}
use Rattle.lv_base.specs.declared.kind.Model.{Model}
use Rattle.c_meaning.specs.Program.{Secure}
use Rattle.c_typed.specs.Tree.{Program}
use Rattle.c_graph.specs.Shape.{Flow, IsFlow}
use Rattle.source_reading.specs.Reading.{IsReplay}
use Rattle.program_graphs.specs.Standing.{StandsFor}
use Rattle.cert_verdicts.specs.Judged.{HasNoErrors}
use Rattle.request_answers.specs.Laws.{IsCertified}

-- a source is secure where its graph has no run to an error
pub secure_by : (model : Model) (source : List ℕ) (p : Program) (g : Flow) → (replay : IsReplay model source p) → StandsFor g p → HasNoErrors g → Secure replay.tree model
secure_by model source p g replay stands none inputs kind at reaches =
    let met = stands.follow reaches.turns inputs kind at (length inputs) (replay.runs reaches.turns inputs ∙ reaches.ends) in
    none (take (length inputs) inputs) met.0 kind at met.1.0 met.1.1 met.1.2

pub certified : (model : Model) (source : List ℕ) (p : Program) (g : Flow) → IsReplay model source p → StandsFor g p → IsFlow g → HasNoErrors g → IsCertified model source
certified model source p g replay stands flow none = record {
  program = p;
  graph = g;
  replay = replay;
  stands = stands;
  flow = flow;
  safe = none;
  secure = secure_by model source p g replay stands none;
}
