-- Chains of edges that become one.
use Rattle.std.specs.Prelude.{ℕ, ◌≡◌, Bool, true, false, zero, suc, List, [], ◌++◌, Some, slice_get}
use Rattle.lv_base.specs.declared.fault.ErrorKind.{ErrorKind}
use Rattle.c_graph.specs.declared.graph.NodeId.{NodeId}
use Rattle.c_graph.specs.declared.graph.Node.{Node}
use Rattle.c_graph.specs.declared.graph.Node.TheVariants.{Error}
use Rattle.c_graph.specs.declared.graph.Operation.{Operation}
use Rattle.c_graph.specs.declared.graph.Edge.{Edge}
use Rattle.c_graph.specs.declared.graph.LoopAt.{LoopAt}

-- the edge is one of these
abbrev pub Among : List Edge → Edge → Type 0
Among edges e = (k : ℕ) × (slice_get edges k ≡ Some e)

-- of the edges that lead from a node, e is the only one
abbrev pub IsOnly : List Edge → NodeId → Edge → Type 0
IsOnly edges v e = Among edges e × (e.from ≡ v) × ((f : Edge) → Among edges f → f.from ≡ v → f ≡ e)

-- what follows a node along n nodes that give their edges away: nothing at a node that is kept, else the operations of its only edge
-- and what follows that
abbrev pub Follows : (ℕ → Bool) → List Edge → ℕ → NodeId → List Operation → NodeId → Type 0
Follows inner edges zero v ops to = (inner v.0 ≡ false) × (ops ≡ []) × (v ≡ to)
Follows inner edges (suc n) v ops to =
    (inner v.0 ≡ true)
    × ((e : Edge) × (rest : List Operation) × IsOnly edges v e × (ops ≡ e.ops ++ rest) × Follows inner edges n e.to rest to)

-- the edge f is e with all that follows it
abbrev pub Extends : (ℕ → Bool) → List Edge → Edge → Edge → Type 0
Extends inner edges e f =
    (n : ℕ) × (rest : List Operation) × (f.from ≡ e.from) × (f.ops ≡ e.ops ++ rest) × Follows inner edges n e.to rest f.to

-- Some nodes give their edges away, but neither the entry nor an error node nor that of a loop. Each edge from another node stands in the
-- new edges with all that follows it, and there are no others.
pub record IsJoined (nodes : List Node) (places : List LoopAt) (first : NodeId) (edges new : List Edge) : Type 0 where
  pub inner : ℕ → Bool
  pub entry : inner first.0 ≡ false
  pub loops : (k : ℕ) (l : LoopAt) → slice_get places k ≡ Some l → inner l.node.0 ≡ false
  pub errors : (v : NodeId) (kind : ErrorKind) (at : ℕ) → slice_get nodes v.0 ≡ Some (Error kind at) → inner v.0 ≡ false
  pub kept : (e : Edge) → Among edges e → inner e.from.0 ≡ false → (f : Edge) × Among new f × Extends inner edges e f
  pub made : (f : Edge) → Among new f → (e : Edge) × Among edges e × (inner e.from.0 ≡ false) × Extends inner edges e f
