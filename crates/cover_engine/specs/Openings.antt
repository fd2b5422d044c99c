-- The vertices that may be open leaves: a set of numbers that has each of them, whatever the graph's ends are.
use Rattle.std.specs.Prelude.{ℕ, ◌<◌, ◌≤◌, ◌≡◌, ◌==◌, ◌&&◌, ◌||◌, Bool, true, false, not, List, [], ◌∷◌, length, Option, None, Some, slice_get, slice_index}
use Rattle.std.specs.BTreeSet.{BTreeSet, contains}
use Rattle.std.specs.Ordering.{nat_cmp}
use Rattle.bv_term.specs.WellFormed.{Table}
use Rattle.c_graph.specs.declared.graph.Node.{Node}
use Rattle.c_graph.specs.Shape.{Flow}
use Rattle.reach_tree.specs.declared.vertex.VertexId.{VertexId}
use Rattle.reach_tree.specs.declared.vertex.Vertex.{Vertex}
use Rattle.reach_tree.specs.Trees.{vertex_at}
use Rattle.cover_engine.specs.declared.waiting.Found.{Found}
use Rattle.cover_engine.specs.declared.waiting.Found.TheVariants.{Known, Unknown}
use Rattle.cover_engine.specs.Unwindings.{Unwound, has, is_complete, is_end, is_none, some_false}
use Rattle.cover_engine.specs.Steering.{IsHighestOpen}

-- whether the number is in the set
abbrev pub waits : BTreeSet ℕ → ℕ → Bool
waits set k = contains nat_cmp set k

-- each number of the first set is in the second
abbrev pub Widens : BTreeSet ℕ → BTreeSet ℕ → Type 0
Widens old new = (k : ℕ) → waits old k ≡ true → waits new k ≡ true

-- each vertex waits that has no children and no conjunct false, with no left side on its path, and whose node is none of
-- these
abbrev pub AreWaiting : List Vertex → Table → List ℕ → List ℕ → BTreeSet ℕ → Type 0
AreWaiting vs table counts ends set =
    (k : ℕ) → k < length vs → (vertex_at vs k).children ≡ [] → slice_index counts k ≡ 0
    → some_false table (vertex_at vs k).label ≡ false → has (vertex_at vs k).node.0 ends ≡ false → waits set k ≡ true

-- these nodes are all ends
abbrev pub all_end : List Node → List ℕ → Bool
all_end nodes [] = true
all_end nodes (x ∷ xs) = is_end (slice_get nodes x) && all_end nodes xs

-- a vertex is an open leaf, where the counts are those of the left sides on the paths
abbrev pub opens : List Node → Table → List Vertex → List ℕ → ℕ → Bool
opens nodes table vs counts k =
    is_none (vertex_at vs k).children
    && (not (some_false table (vertex_at vs k).label || is_end (slice_get nodes (vertex_at vs k).node.0)) && slice_index counts k == 0)

-- the open leaf of highest number, or that there is none
abbrev pub IsHighest : List Node → Table → List Vertex → List ℕ → Option VertexId → Type 0
IsHighest nodes table vs counts None = (k : ℕ) → k < length vs → opens nodes table vs counts k ≡ false
IsHighest nodes table vs counts (Some v) =
    (v.0 < length vs) × (opens nodes table vs counts v.0 ≡ true)
    × ((k : ℕ) → v.0 < k → k < length vs → opens nodes table vs counts k ≡ false)

-- what the waiting vertices say is so
abbrev pub IsFound : List Node → Table → List Vertex → List ℕ → Found → Type 0
IsFound nodes table vs counts (Known leaf) = IsHighest nodes table vs counts leaf
IsFound nodes table vs counts Unknown = Unit {0}

-- the open leaf of highest number of an unwinding, or that it is complete
abbrev pub IsHighestLeaf : Flow → Unwound → Option VertexId → Type 0
IsHighestLeaf g u None = is_complete g u ≡ true
IsHighestLeaf g u (Some v) = (v.0 < length u.vertices) × IsHighestOpen g u v
