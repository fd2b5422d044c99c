use Rattle.std.proofs.Common.{ℕ, ◌≡◌, ◌<◌}
use Rattle.std.specs.Prelude.{Some, slice_get}
use Rattle.c_graph.specs.declared.graph.NodeId.{NodeId}
use Rattle.c_graph.specs.declared.graph.Node.TheVariants.{End}
use Rattle.c_graph.specs.Functions.{FnFlow}
use Rattle.c_graph.proofs.parts.return_at.Given as goal

abbrev pub invariant-loop-number : goal.invariant-loop-number
invariant-loop-number l =
    (k : ℕ) (g : FnFlow) (v : NodeId) → k < l.number → slice_get l.graphs k ≡ Some g → slice_get l.exits k ≡ Some v → slice_get g.nodes v.0 ≡ Some End
