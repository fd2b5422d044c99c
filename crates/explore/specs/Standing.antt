-- The vertices that stand at each node.
use Rattle.std.specs.Prelude.{ℕ, ◌<◌, ◌≤◌, ◌≡◌, ◌==◌, List, [], ◌∷◌, zero, suc, length, slice_index, if◌then◌else◌}
use Rattle.reach_tree.specs.declared.vertex.VertexId.{VertexId}
use Rattle.reach_tree.specs.declared.vertex.Vertex.{Vertex}
use Rattle.reach_tree.specs.Trees.{vertex_at}

abbrev pub node_at : List Vertex → ℕ → ℕ
node_at vs k = (vertex_at vs k).node.0

-- one more than the number of the last vertex below n that stands at the node, 0 where none does
abbrev pub last_at : List Vertex → ℕ → ℕ → ℕ
last_at vs x zero = 0
last_at vs x (suc n) = if node_at vs n == x then suc n else last_at vs x n

-- the vertices below n that stand at the node, the last one first
abbrev pub standing : List Vertex → ℕ → ℕ → List VertexId
standing vs x zero = []
standing vs x (suc n) = if node_at vs n == x then record { 0 = n } ∷ standing vs x n else standing vs x n

-- what is kept of the first vertices: for each the last one before it at its node, and for each node the last one of them
pub record AreBeside (vs : List Vertex) (before last : List ℕ) : Type 0 where
  pub few : length before ≤ length vs
  pub earlier : (k : ℕ) → k < length before → slice_index before k ≡ last_at vs (node_at vs k) k
  pub latest : (x : ℕ) → x < length last → slice_index last x ≡ last_at vs x (length before)

-- each vertex is at one of so many nodes
abbrev pub AreAtNodes : List Vertex → ℕ → Type 0
AreAtNodes vs n = (k : ℕ) → k < length vs → node_at vs k < n

-- the first vertices of the second list are at the nodes of those of the first
pub record SameNodes (vs ws : List Vertex) : Type 0 where
  pub sized : length vs ≤ length ws
  pub nodes : (k : ℕ) → k < length vs → node_at ws k ≡ node_at vs k
