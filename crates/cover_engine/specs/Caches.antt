-- What an unwinding keeps beside its parts, so that questions about it are look-ups.
use Rattle.std.specs.Prelude.{ℕ, ◌+◌, ◌<◌, ◌≡◌, ◌==◌, ◌||◌, Bool, true, false, nat_lt, List, [], ◌∷◌, ◌++◌, zero, suc, length, All, Option, None, Some, slice_index, if◌then◌else◌}
use Rattle.reach_tree.specs.declared.vertex.VertexId.{VertexId}
use Rattle.reach_tree.specs.declared.vertex.Vertex.{Vertex}
use Rattle.reach_tree.specs.Trees.{vertex_at}
use Rattle.cover_engine.specs.Unwindings.{Pair, has, path_of, path_up}

-- 1 for yes, 0 for no
abbrev pub bit : Bool → ℕ
bit true = 1
bit false = 0

-- how often a number stands in a list
abbrev pub times : ℕ → List ℕ → ℕ
times z [] = 0
times z (x ∷ xs) = bit (z == x) + times z xs

abbrev pub vertex_numbers : List VertexId → List ℕ
vertex_numbers [] = []
vertex_numbers (c ∷ cs) = c.0 ∷ vertex_numbers cs

-- the numbers of a vertex's children
abbrev pub children_at : List Vertex → ℕ → List ℕ
children_at vs x = vertex_numbers (vertex_at vs x).children

-- 1 where x is the parent, else 0
abbrev pub parent_is : Option VertexId → ℕ → ℕ
parent_is None x = 0
parent_is (Some p) x = bit (p.0 == x)

-- parents have lower numbers, and each vertex is once among the children of its parent and of no other
pub record IsFamily (vs : List Vertex) : Type 0 where
  pub lower : (k : ℕ) (p : VertexId) → k < length vs → (vertex_at vs k).parent ≡ Some p → p.0 < k
  pub inside : (k : ℕ) → k < length vs → All (λ c. c < length vs) (children_at vs k)
  pub once : (x z : ℕ) → x < length vs → z < length vs → times z (children_at vs x) ≡ parent_is (vertex_at vs z).parent x

-- 1 where x is z or an ancestor of z, else 0
abbrev pub above : List Vertex → ℕ → ℕ → ℕ
above vs x z = bit (has x (path_up vs (length vs) z))

-- how many of the pairs have a left side on the path of z
abbrev pub covers : List Vertex → List Pair → ℕ → ℕ
covers vs [] z = 0
covers vs (p ∷ ps) z = above vs p.0.0 z + covers vs ps z

-- the vertices of a queue and all below them, each before its children; at most so many
abbrev pub spread : List Vertex → ℕ → List ℕ → List ℕ
spread vs zero queue = []
spread vs (suc n) [] = []
spread vs (suc n) (x ∷ queue) = x ∷ spread vs n (queue ++ children_at vs x)

-- the vertex and all below it
abbrev pub below : List Vertex → ℕ → List ℕ
below vs x = spread vs (length vs) (x ∷ [])

-- the left sides of pairs, and all below them
abbrev pub below_lefts : List Vertex → List Pair → List ℕ
below_lefts vs [] = []
below_lefts vs (p ∷ ps) = below vs p.0.0 ++ below_lefts vs ps

-- for each vertex, how many left sides stand on its path
pub record AreCovers (vs : List Vertex) (ps : List Pair) (counts : List ℕ) : Type 0 where
  pub sized : length counts ≡ length vs
  pub counted : (z : ℕ) → z < length vs → slice_index counts z ≡ covers vs ps z

-- the pairs that fall where a vertex is covered: those onto it or onto a vertex below it
abbrev pub pairs_under : List Vertex → VertexId → List Pair → List Pair
pairs_under vs v [] = []
pairs_under vs v (p ∷ ps) = if has v.0 (path_of vs p.1) then p ∷ pairs_under vs v ps else pairs_under vs v ps

-- the pairs that fall where vertices are strengthened: those onto them
abbrev pub pairs_onto : List ℕ → List Pair → List Pair
pairs_onto ws [] = []
pairs_onto ws (p ∷ ps) = if has p.1.0 ws then p ∷ pairs_onto ws ps else pairs_onto ws ps

-- the numbers of the right sides of pairs
abbrev pub rights : List Pair → List ℕ
rights [] = []
rights (p ∷ ps) = p.1.0 ∷ rights ps

-- for each number, how many pairs are onto its vertex
abbrev pub AreOnto : List Pair → List ℕ → Type 0
AreOnto ps counts = (z : ℕ) → slice_index counts z ≡ times z (rights ps)

-- some pair is onto one of these vertices
abbrev pub lead_onto : List Pair → List ℕ → Bool
lead_onto ps [] = false
lead_onto ps (x ∷ xs) = nat_lt 0 (times x (rights ps)) || lead_onto ps xs

-- both sides of each pair are there
abbrev pub AreInside : List Vertex → List Pair → Type 0
AreInside vs ps = All (λ p. (p.0.0 < length vs) × (p.1.0 < length vs)) ps

-- vertices with the same parents and children
pub record SameShape (vs ws : List Vertex) : Type 0 where
  pub sized : length ws ≡ length vs
  pub parents : (k : ℕ) → (vertex_at ws k).parent ≡ (vertex_at vs k).parent
  pub children : (k : ℕ) → (vertex_at ws k).children ≡ (vertex_at vs k).children
