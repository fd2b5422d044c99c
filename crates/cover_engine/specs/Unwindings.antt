-- Unwindings as pure values: what is covered, closed, open and complete, and which pairs may be settled.
use Rattle.std.specs.Prelude.{ℕ, ◌==◌, ◌&&◌, ◌||◌, Bool, true, false, not, List, [], ◌∷◌, zero, suc, length, Option, None, Some, slice_get}
use Rattle.bv_term.specs.declared.term.TermId.{TermId}
use Rattle.bv_term.specs.WellFormed.{Table}
use Rattle.c_graph.specs.declared.graph.Node.{Node}
use Rattle.c_graph.specs.declared.graph.Node.TheVariants.{End}
use Rattle.c_graph.specs.Shape.{Flow}
use Rattle.needed_cells.specs.Formulas.{is_false_term}
use Rattle.reach_tree.specs.declared.vertex.VertexId.{VertexId}
use Rattle.reach_tree.specs.declared.vertex.Vertex.{Vertex}
use Rattle.reach_tree.specs.Trees.{vertex_at}
use Rattle.cover_engine.specs.declared.unit.Apart.{Apart}
use Rattle.cover_engine.specs.declared.unit.UnitDone.{UnitDone}
use Rattle.cover_engine.specs.declared.unit.UnitDone.TheVariants.{Expand, Refine, CoverYes, CoverNo}

-- a pair of vertices, the left one covered by the right one
abbrev pub Pair : Type 0
Pair = VertexId × VertexId

-- an unwinding: the vertices of its tree, the table of their labels' terms, its pairs, its journal of units, and the
-- pairs that were kept apart
pub record Unwound : Type 0 where
  pub vertices : List Vertex
  pub terms : Table
  pub pairs : List Pair
  pub journal : List UnitDone
  pub apart : List Apart

abbrev pub same : VertexId → VertexId → Bool
same v w = v.0 == w.0

-- some number of the list passes the test
abbrev pub any_of : (ℕ → Bool) → List ℕ → Bool
any_of test [] = false
any_of test (x ∷ xs) = test x || any_of test xs

-- the number is in the list
abbrev pub has : ℕ → List ℕ → Bool
has v xs = any_of (λ x. x == v) xs

-- the numbers on the path from a vertex up to the root, at most so many
abbrev pub path_up : List Vertex → ℕ → ℕ → List ℕ
path_up vs zero v = []
path_up vs (suc n) v = v ∷ elim (vertex_at vs v).parent [ None ↦ [] | Some p ↦ path_up vs n p.0 ]

-- the path of a vertex, from itself up to the root
abbrev pub path_of : List Vertex → VertexId → List ℕ
path_of vs v = path_up vs (length vs) v.0

-- the vertices of these numbers
abbrev pub vertices_named : List ℕ → List VertexId
vertices_named [] = []
vertices_named (x ∷ xs) = record { 0 = x } ∷ vertices_named xs

-- u is v or an ancestor of v
abbrev pub is_above : List Vertex → VertexId → VertexId → Bool
is_above vs u v = has u.0 (path_of vs v)

-- the vertex of this number is the left side of a pair
abbrev pub is_left : List Pair → ℕ → Bool
is_left [] v = false
is_left (p ∷ ps) v = p.0.0 == v || is_left ps v

-- a vertex is covered where it or an ancestor is the left side of a pair
abbrev pub is_covered : Unwound → VertexId → Bool
is_covered u v = any_of (is_left u.pairs) (path_of u.vertices v)

abbrev pub some_false : Table → List TermId → Bool
some_false table [] = false
some_false table (t ∷ ts) = is_false_term table t || some_false table ts

abbrev pub is_end : Option Node → Bool
is_end (Some End) = true
is_end _ = false

-- a vertex is closed where its label has the conjunct false or its node is an end
abbrev pub is_closed : Flow → Unwound → VertexId → Bool
is_closed g u v =
    some_false u.terms (vertex_at u.vertices v.0).label || is_end (slice_get g.nodes (vertex_at u.vertices v.0).node.0)

abbrev pub is_none : {A : Type 0} → List A → Bool
is_none [] = true
is_none (x ∷ xs) = false

-- an open leaf is an uncovered vertex without children that is not closed
abbrev pub is_open_leaf : Flow → Unwound → VertexId → Bool
is_open_leaf g u v =
    is_none (vertex_at u.vertices v.0).children && (not (is_closed g u v) && not (is_covered u v))

-- no vertex below this number is an open leaf
abbrev pub none_open : Flow → Unwound → ℕ → Bool
none_open g u zero = true
none_open g u (suc n) = not (is_open_leaf g u (record { 0 = n })) && none_open g u n

-- an unwinding is complete where it has no open leaf
abbrev pub is_complete : Flow → Unwound → Bool
is_complete g u = none_open g u (length u.vertices)

-- whether a CoverYes of the pair stands since the last Refine, where it did or did not before these units
abbrev pub yes_since : Bool → List UnitDone → VertexId → VertexId → Bool
yes_since b [] v w = b
yes_since b (Expand x ∷ js) v w = yes_since b js v w
yes_since b (Refine x fs ∷ js) v w = yes_since false js v w
yes_since b (CoverYes x y ∷ js) v w = yes_since (b || (same x v && same y w)) js v w
yes_since b (CoverNo x y s ∷ js) v w = yes_since b js v w

-- whether the pair was kept apart and both labels are as they were then
abbrev pub stays_apart : List Apart → List Vertex → VertexId → VertexId → Bool
stays_apart [] vs v w = false
stays_apart (a ∷ others) vs v w =
    (same a.left v && (same a.right w
    && (a.left_version == (vertex_at vs v.0).version && a.right_version == (vertex_at vs w.0).version)))
    || stays_apart others vs v w

-- the conditions of a covering but for the implication: different uncovered vertices of one node, the left no ancestor
-- of the right, and no CoverYes of the pair since the last Refine
abbrev pub may_pair : Unwound → VertexId → VertexId → Bool
may_pair u v w =
    not (same v w)
    && ((vertex_at u.vertices v.0).node.0 == (vertex_at u.vertices w.0).node.0
    && (not (is_covered u v) && (not (is_covered u w)
    && (not (is_above u.vertices v w) && not (yes_since false u.journal v w)))))

-- the pair may be settled: it was not kept apart with both labels as they are
abbrev pub may_settle : Unwound → VertexId → VertexId → Bool
may_settle u v w = may_pair u v w && not (stays_apart u.apart u.vertices v w)
