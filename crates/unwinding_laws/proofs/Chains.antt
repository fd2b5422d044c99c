-- Chains of formulas along the edges of a path down to a vertex.
use Rattle.std.proofs.Common.{◌≡◌, ℕ, ◌<◌, true, List, [], ◌∷◌, ◌++◌, length, reverse, Option, Some, None, slice_get, zero, suc, refl, sym, ap, ◌∙◌, subst, arith}
use mathlib.Core.List.{reverse-cons}
use Rattle.bv_term.specs.declared.term.TermId.{TermId}
use Rattle.bv_term.specs.WellFormed.{Table}
use Rattle.c_graph.specs.declared.graph.EdgeId.{EdgeId}
use Rattle.c_graph.specs.Shape.{Flow}
use Rattle.needed_cells.specs.Formulas.{AreChained, AreSteps, NameRest, ends_false}
use Rattle.reach_tree.specs.declared.vertex.VertexId.{VertexId}
use Rattle.reach_tree.specs.declared.vertex.Vertex.{Vertex}
use Rattle.reach_tree.specs.Trees.{vertex_at}
use Rattle.cover_engine.specs.Unwindings.{Unwound, path_of, path_up}
use Rattle.cover_engine.specs.Units.{Links, NameNeeded, edge_in, edges_to}
use Rattle.cover_engine.proofs.Subtrees.{path_none, path_some}
use Rattle.unwinding_laws.specs.Laws.{ChainsRefine, IsChild, IsTree}
use Rattle.unwinding_laws.proofs.Rooting.{legal_tree}

-- each vertex came by an edge
abbrev CameBy : List Vertex → List ℕ → Type 0
CameBy vs [] = Unit {0}
CameBy vs (x ∷ xs) = ((e : EdgeId) × ((vertex_at vs x).by ≡ Some e)) × CameBy vs xs

came_more : (vs : List Vertex) (xs : List ℕ) (y : ℕ) (e : EdgeId) → CameBy vs xs → (vertex_at vs y).by ≡ Some e → CameBy vs (xs ++ y ∷ [])
came_more vs [] y e c by = ((e, by), tt)
came_more vs (x ∷ xs) y e c by = (c.0, came_more vs xs y e c.1 by)

-- the path down to a vertex: the root, and then vertices that came by edges
record Descent (vs : List Vertex) (down : List ℕ) : Type 0 where
  rest : List ℕ
  parts : down ≡ 0 ∷ rest
  came : CameBy vs rest

descends : (g : Flow) (u : Unwound) → IsTree g u → (n k : ℕ) → k < n → k < length u.vertices → Descent u.vertices (reverse (path_up u.vertices n k))
descends g u t zero k lt lk = absurd (omega (arith, lt))
descends g u t (suc n) zero lt lk = record { rest = []; parts = ap reverse (path_none u.vertices n 0 t.root.0); came = tt }
descends g u t (suc n) (suc k) lt lk =
    let c : IsChild g u.vertices (suc k) = t.others (suc k) (omega arith) lk in
    let low = c.lower in
    let d = descends g u t n c.above.0 (omega (arith, lt, low)) (omega (arith, lk, low)) in
    let up : List ℕ = path_up u.vertices n c.above.0 in
    record {
      rest = d.rest ++ suc k ∷ [];
      parts = ap reverse (path_some u.vertices n (suc k) c.above c.parent) ∙ reverse-cons (suc k) up ∙ ap (λ (xs : List ℕ). xs ++ suc k ∷ []) d.parts;
      came = came_more u.vertices d.rest (suc k) c.edge d.came c.by;
    }

edges_more : (vs : List Vertex) (x : ℕ) (xs : List ℕ) (e : EdgeId) → (vertex_at vs x).by ≡ Some e → edges_to vs (x ∷ xs) ≡ e ∷ edges_to vs xs
edges_more vs x xs e by = ap (λ (o : Option EdgeId). edge_in o ++ edges_to vs xs) by

edges_root : (vs : List Vertex) (xs : List ℕ) → (vertex_at vs 0).by ≡ None → edges_to vs (0 ∷ xs) ≡ edges_to vs xs
edges_root vs xs by = ap (λ (o : Option EdgeId). edge_in o ++ edges_to vs xs) by

edges_long : (vs : List Vertex) (xs : List ℕ) → CameBy vs xs → length (edges_to vs xs) ≡ length xs
edges_long vs [] c = refl
edges_long vs (x ∷ xs) c = ap length (edges_more vs x xs c.0.0 c.0.1) ∙ ap suc (edges_long vs xs c.1)

links_down : (g : Flow) (table : Table) (vs : List Vertex) (x : ℕ) (xs : List ℕ) (fs : List TermId) → CameBy vs xs → length fs ≡ suc (length xs)
    → AreSteps g table (edges_to vs xs) fs → ends_false table fs ≡ true → Links g table vs (x ∷ xs) fs
links_down g table vs x xs [] c long each last = absurd (omega (arith, long))
links_down g table vs x [] (f ∷ []) c long each last = last
links_down g table vs x [] (f ∷ h ∷ fs) c long each last = absurd (omega (arith, long))
links_down g table vs x (y ∷ xs) (f ∷ []) c long each last = absurd (omega (arith, long))
links_down g table vs x (y ∷ xs) (f ∷ h ∷ fs) c long each last =
    let e : EdgeId = c.0.0 in
    let all : AreSteps g table (e ∷ edges_to vs xs) (f ∷ h ∷ fs) =
    subst (λ (es : List EdgeId). AreSteps g table es (f ∷ h ∷ fs)) (edges_more vs y xs e c.0.1) each in (
      (e, c.0.1, all 0 e f h refl refl refl),
      links_down g table vs y xs (h ∷ fs) c.1 (omega (arith, long)) (λ k d a b at one next. all (suc k) d a b at one next) last,
    )

names_down : (g : Flow) (table : Table) (vs : List Vertex) (x : ℕ) (xs : List ℕ) (fs : List TermId) → CameBy vs xs
    → NameRest g table (edges_to vs xs) fs → NameNeeded g table vs (x ∷ xs) fs
names_down g table vs x xs [] c each = tt
names_down g table vs x [] (f ∷ fs) c each = (each 0 f refl, tt)
names_down g table vs x (y ∷ xs) (f ∷ fs) c each =
    let e : EdgeId = c.0.0 in
    let all : NameRest g table (e ∷ edges_to vs xs) (f ∷ fs) =
    subst (λ (es : List EdgeId). NameRest g table es (f ∷ fs)) (edges_more vs y xs e c.0.1) each in
    (each 0 f refl, names_down g table vs y xs fs c.1 (λ k d at. all (suc k) d at))

-- a chain along the edges of the path down to a vertex of a tree of paths are links along the path, and each names what is needed
pub chains_link : (g : Flow) (u : Unwound) (v : VertexId) (fs : List TermId) → IsTree g u → v.0 < length u.vertices
    → AreChained g u.terms (edges_to u.vertices (reverse (path_of u.vertices v))) fs
    → Links g u.terms u.vertices (reverse (path_of u.vertices v)) fs × NameNeeded g u.terms u.vertices (reverse (path_of u.vertices v)) fs
chains_link g u v fs t there chain =
    let vs : List Vertex = u.vertices in
    let d : Descent vs (reverse (path_of vs v)) = descends g u t (length vs) v.0 there there in
    let edges : edges_to vs (reverse (path_of vs v)) ≡ edges_to vs d.rest = ap (edges_to vs) d.parts ∙ edges_root vs d.rest t.root.1 in
    let c : AreChained g u.terms (edges_to vs d.rest) fs = subst (λ (es : List EdgeId). AreChained g u.terms es fs) edges chain in
    let links : Links g u.terms vs (0 ∷ d.rest) fs =
    links_down g u.terms vs 0 d.rest fs d.came (c.count ∙ ap suc (edges_long vs d.rest d.came)) c.steps c.last in
    let names : NameNeeded g u.terms vs (0 ∷ d.rest) fs = names_down g u.terms vs 0 d.rest fs d.came c.names in (
      subst (λ (xs : List ℕ). Links g u.terms vs xs fs) (sym d.parts) links,
      subst (λ (xs : List ℕ). NameNeeded g u.terms vs xs fs) (sym d.parts) names,
    )

pub chains_refine : ChainsRefine
chains_refine g u v fs kind at legal there leaf node chain =
    let (links, names) = chains_link g u v fs (legal_tree g u legal) there chain in
    record {
      vertex = there;
      leaf = leaf;
      node = (kind, (at, node));
      terms = chain.bits;
      first = chain.first;
      links = links;
      names = names;
    }
