-- The edges that lead from each node, as chains of numbers, so that they are found without looking at any other edge.
use Rattle.std.specs.Prelude.{ℕ, ◌<◌, ◌≤◌, ◌≡◌, List, [], ◌∷◌, zero, suc, length, drop, nat_lt, slice_index, if◌then◌else◌}
use Rattle.c_graph.specs.declared.graph.EdgeId.{EdgeId}
use Rattle.c_graph.specs.declared.graph.Node.{Node}
use Rattle.c_graph.specs.declared.graph.Edge.{Edge}
use Rattle.c_graph.specs.Shape.{outs_from}

-- the chain from a number on: each number names the next of it, until one is past the end; at most so many
abbrev pub chain : List ℕ → ℕ → ℕ → List EdgeId
chain next zero e = []
chain next (suc n) e = if nat_lt e (length next) then record { 0 = e } ∷ chain next n (slice_index next e) else []

-- from a number on, the next of each is greater
abbrev pub Rises : List ℕ → ℕ → Type 0
Rises next k = (e : ℕ) → k ≤ e → e < length next → e < slice_index next e

-- the chain from the first edge of each node has the edges that lead from it
pub record AreChains (nodes : List Node) (edges : List Edge) (first next : List ℕ) : Type 0 where
  pub firsts : length first ≡ length nodes
  pub nexts : length next ≡ length edges
  pub finds : (v : ℕ) → v < length nodes → chain next (length edges) (slice_index first v) ≡ outs_from 0 edges (record { 0 = v })

-- the number of the node from which an edge leads
abbrev pub source_of : List Edge → ℕ → ℕ
source_of [] k = 0
source_of (e ∷ es) zero = e.from.0
source_of (e ∷ es) (suc k) = source_of es k

-- edges from a number on are linked
pub record Linked (nodes : ℕ) (edges : List Edge) (k : ℕ) (first next : List ℕ) : Type 0 where
  pub firsts : length first ≡ nodes
  pub nexts : length next ≡ length edges
  pub rises : Rises next k
  pub behind : (v : ℕ) → v < nodes → k ≤ slice_index first v
  pub finds : (v : ℕ) → v < nodes → chain next (length edges) (slice_index first v) ≡ outs_from k (drop k edges) (record { 0 = v })
