-- Edges that are among the ways out of a node.
use Rattle.std.specs.Prelude.{ℕ, ◌≡◌, List, [], ◌∷◌, Some, slice_get}
use Rattle.c_graph.specs.declared.graph.Edge.{Edge}
use Rattle.c_graph.specs.declared.graph.EdgeId.{EdgeId}
use Rattle.c_graph.specs.declared.graph.Operation.{Operation}
use Rattle.c_graph.specs.declared.graph.Operation.TheVariants.{Assume}
use Rattle.c_graph.specs.Shape.{Flow}
use Rattle.block_rule.specs.Plans.{IsOneOf, IsWay}
use Rattle.block_edges.specs.Exact.{Either, Leaves}
use Rattle.walk_states.specs.declared.state.Ways.{Ways}
use Rattle.walk_states.specs.declared.state.Ways.TheVariants.{Goes, Tested, Checked, Fails, Forks}
use Rattle.walk_states.specs.Walks.{moves_of, ways_of}

-- the edge of a number does this and leads there
abbrev pub Leads : Flow → ℕ → List Operation → ℕ → Type 0
Leads g k ops to = (e : Edge) → slice_get g.edges k ≡ Some e → IsWay e ops to

-- the edge of a number is one of the ways
abbrev pub IsCovered : Flow → Ways → ℕ → Type 0
IsCovered g ways k = (e : Edge) → slice_get g.edges k ≡ Some e → IsOneOf (ways_of g ways) e

-- each of these edges is one of the ways
abbrev pub AreCovered : Flow → Ways → List EdgeId → Type 0
AreCovered g ways outs = (j : ℕ) (out : EdgeId) → slice_get outs j ≡ Some out → IsCovered g ways out.0

-- each of the ways is an edge from the node
abbrev pub AreLeading : Flow → ℕ → Ways → Type 0
AreLeading g v (Goes way) = Leaves g v (moves_of g way) way.to
AreLeading g v (Tested t way) = Leaves g v (Assume t ∷ moves_of g way) way.to
AreLeading g v (Checked t error u way) = Leaves g v (Assume t ∷ []) error × Leaves g v (Assume u ∷ moves_of g way) way.to
AreLeading g v (Fails t error u other) = Leaves g v (Assume t ∷ []) error × Leaves g v (Assume u ∷ []) other
AreLeading g v (Forks t one u other) = Leaves g v (Assume t ∷ []) one × Leaves g v (Assume u ∷ []) other

-- where there are two ways, the test of one of them holds
abbrev pub IsTotal : Flow → Ways → Type 0
IsTotal g (Goes way) = Unit {0}
IsTotal g (Tested t way) = Unit {0}
IsTotal g (Checked t error u way) = Either g.terms t u
IsTotal g (Fails t error u other) = Either g.terms t u
IsTotal g (Forks t one u other) = Either g.terms t u
