-- The four units: when each is legal, and what each makes.
use Rattle.std.specs.Prelude.{ℕ, ◌<◌, ◌≡◌, ◌&&◌, Bool, true, false, not, IsTrue, List, [], ◌∷◌, ◌++◌, length, reverse, All, Option, None, Some, slice_get, if◌then◌else◌}
use Rattle.bv_term.specs.declared.term.TermId.{TermId}
use Rattle.bv_term.specs.WellFormed.{Table}
use Rattle.bv_term.specs.Values.{Holds}
use Rattle.lv_base.specs.declared.fault.ErrorKind.{ErrorKind}
use Rattle.c_graph.specs.declared.graph.Node.TheVariants.{Plain, Error}
use Rattle.c_graph.specs.declared.graph.EdgeId.{EdgeId}
use Rattle.c_graph.specs.Shape.{Flow, HasWidth, widths_of}
use Rattle.c_graph.specs.Steps.{IsWhole}
use Rattle.reach_tree.specs.declared.vertex.VertexId.{VertexId}
use Rattle.reach_tree.specs.declared.vertex.Vertex.{Vertex}
use Rattle.reach_tree.specs.Trees.{vertex_at, expanded, strengthened, root_at}
use Rattle.cover_engine.specs.declared.unit.Apart.{Apart}
use Rattle.cover_engine.specs.declared.unit.UnitDone.{UnitDone}
use Rattle.cover_engine.specs.declared.unit.UnitDone.TheVariants.{Expand, Refine, CoverYes, CoverNo}
use Rattle.needed_cells.specs.Formulas.{EdgeImplies, begins_true, is_false_term, is_true_term}
use Rattle.needed_cells.specs.Reads.{OnlyNames, needed_along}
use Rattle.cover_engine.specs.Unwindings.{Unwound, Pair, has, path_of, is_open_leaf, may_pair, may_settle}

-- a store meets a label where each conjunct holds in it
abbrev pub Meets : Table → List ℕ → List TermId → Type 0
Meets table store label = All (Holds table store) label

-- one label implies another, in each store of the cells
abbrev pub Implies : Flow → Table → List TermId → List TermId → Type 0
Implies g table a b = (store : List ℕ) → IsWhole (widths_of g.cells) store → Meets table store a → Meets table store b

-- the edge, where there is one
abbrev pub edge_in : Option EdgeId → List EdgeId
edge_in None = []
edge_in (Some e) = e ∷ []

-- the edges that lead to these vertices
abbrev pub edges_to : List Vertex → List ℕ → List EdgeId
edges_to vs [] = []
edges_to vs (x ∷ xs) = edge_in (vertex_at vs x).by ++ edges_to vs xs

-- formulas along a path down from a vertex: each with the next edge implies the next, and the last is false
abbrev pub Links : Flow → Table → List Vertex → List ℕ → List TermId → Type 0
Links g table vs [] fs = ⊥
Links g table vs (x ∷ xs) [] = ⊥
Links g table vs (x ∷ []) (f ∷ []) = IsTrue (is_false_term table f)
Links g table vs (x ∷ []) (f ∷ h ∷ fs) = ⊥
Links g table vs (x ∷ y ∷ xs) (f ∷ []) = ⊥
Links g table vs (x ∷ y ∷ xs) (f ∷ h ∷ fs) =
    ((e : EdgeId) × ((vertex_at vs y).by ≡ Some e) × EdgeImplies g table e f h) × Links g table vs (y ∷ xs) (h ∷ fs)

-- each formula names only cells that the rest of the path reads before setting them
abbrev pub NameNeeded : Flow → Table → List Vertex → List ℕ → List TermId → Type 0
NameNeeded g table vs [] fs = Unit {0}
NameNeeded g table vs (x ∷ xs) [] = Unit {0}
NameNeeded g table vs (x ∷ xs) (f ∷ fs) =
    OnlyNames table f (needed_along g (edges_to vs xs)) × NameNeeded g table vs xs fs

-- Expand of an open leaf at a plain node; an error is none, and an open leaf is at no end
pub record CanExpand (g : Flow) (u : Unwound) (v : VertexId) : Type 0 where
  pub vertex : v.0 < length u.vertices
  pub leaf : is_open_leaf g u v ≡ true
  pub node : slice_get g.nodes (vertex_at u.vertices v.0).node.0 ≡ Some Plain

-- Refine of an open leaf at an error node by a chain of formulas along its path, from true at the root to false at the
-- leaf; the terms are there
pub record CanRefine (g : Flow) (u : Unwound) (v : VertexId) (fs : List TermId) : Type 0 where
  pub vertex : v.0 < length u.vertices
  pub leaf : is_open_leaf g u v ≡ true
  pub node : (kind : ErrorKind) × ((at : ℕ) × (slice_get g.nodes (vertex_at u.vertices v.0).node.0 ≡ Some (Error kind at)))
  pub terms : All (λ t. HasWidth u.terms t 1) fs
  pub first : begins_true u.terms fs ≡ true
  pub links : Links g u.terms u.vertices (reverse (path_of u.vertices v)) fs
  pub names : NameNeeded g u.terms u.vertices (reverse (path_of u.vertices v)) fs

-- CoverYes: the pair may be one, and the left label implies the right
pub record CanCover (g : Flow) (u : Unwound) (v w : VertexId) : Type 0 where
  pub left : v.0 < length u.vertices
  pub right : w.0 < length u.vertices
  pub pair : may_pair u v w ≡ true
  pub implies : Implies g u.terms (vertex_at u.vertices v.0).label (vertex_at u.vertices w.0).label

-- CoverNo: the pair may be settled, and the store meets the left label and not the right
pub record CanPart (g : Flow) (u : Unwound) (v w : VertexId) (store : List ℕ) : Type 0 where
  pub left : v.0 < length u.vertices
  pub right : w.0 < length u.vertices
  pub pair : may_settle u v w ≡ true
  pub whole : IsWhole (widths_of g.cells) store
  pub meets : Meets u.terms store (vertex_at u.vertices v.0).label
  pub misses : Meets u.terms store (vertex_at u.vertices w.0).label → ⊥

-- the unwinding with a child for each edge that leads on
abbrev pub after_expand : Flow → Unwound → VertexId → Unwound
after_expand g u v = record u { vertices = expanded g u.vertices v; journal = u.journal ++ Expand v ∷ [] }

abbrev pub numbers_of : List TermId → List ℕ
numbers_of [] = []
numbers_of (t ∷ ts) = t.0 ∷ numbers_of ts

-- a vertex is strengthened by a formula exactly where the formula is neither true nor already a conjunct of its label
abbrev pub strengthens : Table → List Vertex → ℕ → TermId → Bool
strengthens table vs x f = not (is_true_term table f) && not (has f.0 (numbers_of (vertex_at vs x).label))

-- the vertices of a path strengthened, each by its formula
abbrev pub refined_along : Table → List Vertex → List ℕ → List TermId → List Vertex
refined_along table vs [] fs = vs
refined_along table vs (x ∷ xs) [] = vs
refined_along table vs (x ∷ xs) (f ∷ fs) =
    refined_along table (if strengthens table vs x f then strengthened vs (record { 0 = x }) f else vs) xs fs

-- the numbers of those that are strengthened
abbrev pub strengthened_along : Table → List Vertex → List ℕ → List TermId → List ℕ
strengthened_along table vs [] fs = []
strengthened_along table vs (x ∷ xs) [] = []
strengthened_along table vs (x ∷ xs) (f ∷ fs) =
    if strengthens table vs x f
    then x ∷ strengthened_along table (strengthened vs (record { 0 = x }) f) xs fs
    else strengthened_along table vs xs fs

-- the pairs whose right side is none of these
abbrev pub pairs_but_onto : List ℕ → List Pair → List Pair
pairs_but_onto ws [] = []
pairs_but_onto ws (p ∷ ps) = if has p.1.0 ws then pairs_but_onto ws ps else p ∷ pairs_but_onto ws ps

-- the unwinding with the vertices of the path strengthened, without the pairs onto those that were
abbrev pub after_refine : Unwound → VertexId → List TermId → Unwound
after_refine u v fs =
    let up = path_of u.vertices v in
    record u {
      vertices = refined_along u.terms u.vertices up (reverse fs);
      pairs = pairs_but_onto (strengthened_along u.terms u.vertices up (reverse fs)) u.pairs;
      journal = u.journal ++ Refine v fs ∷ [];
    }

-- the pairs whose right side is neither the vertex nor below it
abbrev pub pairs_but_under : List Vertex → VertexId → List Pair → List Pair
pairs_but_under vs v [] = []
pairs_but_under vs v (p ∷ ps) = if has v.0 (path_of vs p.1) then pairs_but_under vs v ps else p ∷ pairs_but_under vs v ps

-- the unwinding with the pair, without the pairs onto the left vertex and onto those below it
abbrev pub after_cover : Unwound → VertexId → VertexId → Unwound
after_cover u v w =
    record u { pairs = pairs_but_under u.vertices v u.pairs ++ (v, w) ∷ []; journal = u.journal ++ CoverYes v w ∷ [] }

-- the pair as it is kept apart now
abbrev pub apart_now : List Vertex → VertexId → VertexId → Apart
apart_now vs v w =
    record { left = v; right = w; left_version = (vertex_at vs v.0).version; right_version = (vertex_at vs w.0).version }

-- the unwinding with the pair kept apart
abbrev pub after_part : Unwound → VertexId → VertexId → List ℕ → Unwound
after_part u v w store =
    record u { journal = u.journal ++ CoverNo v w store ∷ []; apart = u.apart ++ apart_now u.vertices v w ∷ [] }

-- the unit is legal in the unwinding
abbrev pub Can : Flow → Unwound → UnitDone → Type 0
Can g u (Expand v) = CanExpand g u v
Can g u (Refine v fs) = CanRefine g u v fs
Can g u (CoverYes v w) = CanCover g u v w
Can g u (CoverNo v w store) = CanPart g u v w store

-- what the unit makes of the unwinding
abbrev pub after : Flow → Unwound → UnitDone → Unwound
after g u (Expand v) = after_expand g u v
after g u (Refine v fs) = after_refine u v fs
after g u (CoverYes v w) = after_cover u v w
after g u (CoverNo v w store) = after_part u v w store

-- what units make of an unwinding, one after another
abbrev pub after_all : Flow → Unwound → List UnitDone → Unwound
after_all g u [] = u
after_all g u (x ∷ xs) = after_all g (after g u x) xs

-- each unit is legal where it stands
abbrev pub CanAll : Flow → Unwound → List UnitDone → Type 0
CanAll g u [] = Unit {0}
CanAll g u (x ∷ xs) = Can g u x × CanAll g (after g u x) xs

-- the unwinding of one vertex, over a table of terms
abbrev pub start : Flow → Table → Unwound
start g table = record { vertices = root_at g.entry ∷ []; terms = table; pairs = []; journal = []; apart = [] }

-- an unwinding is legal for a graph where its journal makes it from the one root, over its own table, which is over the
-- graph's cells, each unit being legal where it stands
pub record Legal (g : Flow) (u : Unwound) : Type 0 where
  pub cells : u.terms.cells ≡ widths_of g.cells
  pub units : CanAll g (start g u.terms) u.journal
  pub made : u ≡ after_all g (start g u.terms) u.journal
