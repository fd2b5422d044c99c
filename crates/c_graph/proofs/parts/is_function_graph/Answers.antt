use Rattle.std.proofs.Common.{rules, All, IsTrue, length}
use Rattle.c_graph.specs.Parts.{AllMarked, CallFitsBy}
use Rattle.c_graph.proofs.Marks.{calls_fit-by}
use Rattle.c_graph.proofs.parts.is_function_graph.Goals.{then-calls_fit, else-calls_fit}
use Rattle.c_graph.proofs.parts.is_function_graph.Goals as goal

pub returns : goal.returns
returns c = (
  search rules,
  λ h. elim c.if-calls_fit.branch [
    | then-calls_fit w ↦ search rules
    | else-calls_fit w ↦
        let marked : AllMarked (length c.args.graph.now.nodes) c.args.graph.now.edges c.in_ok-marks.marks.items = search rules in
        let by : All (CallFitsBy c.args.functions c.args.graph.now.nodes c.in_ok-marks.marks.items) c.args.graph.now.nodes =
        calls_fit-by c.args.functions c.args.graph.now c.in_ok-marks.marks.items marked h.calls in
        let fits : IsTrue c.calls_fit.result = c.calls_fit.ensures.1 (search rules) in search rules
  ],
)
