use Rattle.std.proofs.Common.{◌≡◌, ◌+◌, List, length, map, vec_len, All}
use Rattle.c_graph.specs.declared.graph.EdgeId.{EdgeId}
use Rattle.path_formula.specs.Paths.{IsDraft, IsStep}
use Rattle.path_formula.specs.Questions.{planned, plans}
use Rattle.path_formula.proofs.Asking.{Going}
use Rattle.path_formula.proofs.path.path_clauses.Given as goal

abbrev pub invariant-loop-step : goal.invariant-loop-step
invariant-loop-step l =
    IsDraft l.graph.terms l.draft × All (IsStep l.graph) l.steps.items
    × (length l.draft.starts.items + length l.steps.items ≡ length l.path)
    × ((es : List EdgeId) × (map planned l.steps.items ≡ plans l.graph es) × Going l.graph l.path es l.draft)

abbrev pub decreases-loop-step : goal.decreases-loop-step
decreases-loop-step l = vec_len l.steps
