-- The values of a satisfying assignment drive a run along the path down to a vertex.
use Rattle.std.proofs.Common.{◌≡◌, ◌∙◌, ℕ, ℤ, ◌+◌, ◌<◌, ◌==◌, Bool, true, false, List, [], ◌∷◌, ◌++◌, length, reverse, Option, Some, slice_get, zero, suc, refl, sym, ap, subst, arith, if◌then◌else◌}
use Rattle.std.specs.Prelude.{Contains}
use Rattle.std.proofs.lemmas.Bool.{eqb-true}
use mathlib.Core.List.{reverse-cons}
use Rattle.prop.specs.Logic.{all_hold}
use Rattle.c_graph.specs.declared.graph.NodeId.{NodeId}
use Rattle.c_graph.specs.declared.graph.EdgeId.{EdgeId}
use Rattle.c_graph.specs.declared.graph.Edge.{Edge}
use Rattle.c_graph.specs.Shape.{Flow, IsFlow, outs_from, widths_of}
use Rattle.c_graph.specs.Runs.{RunsAlong}
use Rattle.reach_tree.specs.declared.vertex.VertexId.{VertexId}
use Rattle.reach_tree.specs.declared.vertex.Vertex.{Vertex}
use Rattle.reach_tree.specs.Trees.{target_of, vertex_at}
use Rattle.cover_engine.specs.Unwindings.{Unwound, path_up}
use Rattle.cover_engine.specs.Units.{Legal, edge_in, edges_to}
use Rattle.cover_engine.proofs.Subtrees.{path_none, path_some}
use Rattle.unwinding_laws.specs.Laws.{IsChild, IsTree}
use Rattle.unwinding_laws.proofs.Rooting.{legal_tree}
use Rattle.path_laws.specs.Laws.{Joins}
use Rattle.path_laws.specs.Values.{signs_along, values_read}
use Rattle.path_laws.proofs.Running.{questions_make_runs}
use Rattle.path_laws.proofs.Reading.{draws_are_read}
use Rattle.refine.specs.Refinements.{IsDriven, edges_of, question_at}

-- an edge that leads from one node to another
abbrev LeadsOn : Flow → EdgeId → NodeId → NodeId → Type 0
LeadsOn g e from to = (edge : Edge) × (slice_get g.edges e.0 ≡ Some edge) × (edge.from ≡ from) × (edge.to ≡ to)

node_is : (v w : NodeId) → v.0 ≡ w.0 → v ≡ w
node_is v w e = ap (λ (k : ℕ). let x : NodeId = record { 0 = k } in x) e

-- what leads from a node is an edge that begins there
abbrev IsOut : List Edge → ℕ → NodeId → EdgeId → Type 0
IsOut es n v e = (k : ℕ) × ((edge : Edge) × (e.0 ≡ n + k) × (slice_get es k ≡ Some edge) × (edge.from ≡ v))

out-later : (x : Edge) (es : List Edge) (n : ℕ) (v : NodeId) (e : EdgeId) → IsOut es (n + 1) v e → IsOut (x ∷ es) n v e
out-later x es n v e (k, (edge, is, at, from)) = (suc k, (edge, omega (arith, is), at, from))

out-is : (es : List Edge) (n : ℕ) (v : NodeId) (e : EdgeId) → Contains (outs_from n es v) e → IsOut es n v e
out-is [] n v e c = absurd (omega (arith, c.1))
out-is (x ∷ es) n v e c = by (x.from.0 == v.0) refl (λ q. out-is es (n + 1) v e q) c
  where
    by : (b : Bool) → (x.from.0 == v.0) ≡ b → (Contains (outs_from (n + 1) es v) e → IsOut es (n + 1) v e)
        → Contains (if b then record { 0 = n } ∷ outs_from (n + 1) es v else outs_from (n + 1) es v) e → IsOut (x ∷ es) n v e
    by true q later (zero, lt, is) =
        let same : n ≡ e.0 = ap (λ (y : EdgeId). y.0) is in
        (0, (x, omega (arith, same), refl, node_is x.from v (eqb-true x.from.0 v.0 q)))
    by true q later (suc k, lt, is) = out-later x es n v e (later (k, omega (arith, lt), is))
    by false q later c = out-later x es n v e (later c)

target-is : (es : List Edge) (k : ℕ) (edge : Edge) → slice_get es k ≡ Some edge → edge.to ≡ target_of es k
target-is [] k edge e = absurd cc
target-is (x ∷ es) zero edge e = let same : x ≡ edge = cc in ap (λ (y : Edge). y.to) (sym same)
target-is (x ∷ es) (suc k) edge e = target-is es k edge e

child-leads : (g : Flow) (vs : List Vertex) (k : ℕ) (c : IsChild g vs k) → LeadsOn g c.edge (vertex_at vs c.above.0).node (vertex_at vs k).node
child-leads g vs k c =
    let (j, (edge, is, at, from)) = out-is g.edges 0 (vertex_at vs c.above.0).node c.edge c.leads in
    let same : j ≡ c.edge.0 = omega (arith, is) in
    let here : slice_get g.edges c.edge.0 ≡ Some edge = subst (λ (n : ℕ). slice_get g.edges n ≡ Some edge) same at in
    (edge, here, from, target-is g.edges c.edge.0 edge here ∙ sym c.node)

-- an edge more behind edges that join
joins-more : (g : Flow) (path : List EdgeId) (e : EdgeId) (from mid to : NodeId) → Joins g path from mid → LeadsOn g e mid to → Joins g (path ++ e ∷ []) from to
joins-more g [] e from mid to j (edge, is, here, there) = (edge, is, here ∙ sym j, there)
joins-more g (x ∷ path) e from mid to (edge, is, here, j) on = (edge, is, here, joins-more g path e edge.to mid to j on)

edges-both : (vs : List Vertex) (xs ys : List ℕ) → edges_to vs (xs ++ ys) ≡ edges_to vs xs ++ edges_to vs ys
edges-both vs [] ys = refl
edges-both vs (x ∷ xs) ys = ap (λ (es : List EdgeId). edge_in (vertex_at vs x).by ++ es) (edges-both vs xs ys) ∙ assoc (edge_in (vertex_at vs x).by) (edges_to vs xs) (edges_to vs ys)
  where
    assoc : (xs ys zs : List EdgeId) → xs ++ (ys ++ zs) ≡ (xs ++ ys) ++ zs
    assoc [] ys zs = refl
    assoc (x ∷ xs) ys zs = ap (λ (t : List EdgeId). x ∷ t) (assoc xs ys zs)

one-edge : (vs : List Vertex) (x : ℕ) (e : EdgeId) → (vertex_at vs x).by ≡ Some e → edges_to vs (x ∷ []) ≡ e ∷ []
one-edge vs x e by = ap (λ (o : Option EdgeId). edge_in o ++ []) by

-- the edges of a path join from the entry to the vertex's node
joins-down : (g : Flow) (u : Unwound) → IsTree g u → (n k : ℕ) → k < n → k < length u.vertices
    → Joins g (edges_to u.vertices (reverse (path_up u.vertices n k))) g.entry (vertex_at u.vertices k).node
joins-down g u t zero k lt lk = absurd (omega (arith, lt))
joins-down g u t (suc n) zero lt lk =
    let es : edges_to u.vertices (reverse (path_up u.vertices (suc n) 0)) ≡ [] =
    ap (λ (xs : List ℕ). edges_to u.vertices (reverse xs)) (path_none u.vertices n 0 t.root.0) ∙ ap (λ (o : Option EdgeId). edge_in o ++ []) t.root.1 in
    subst (λ (path : List EdgeId). Joins g path g.entry (vertex_at u.vertices 0).node) (sym es) (sym t.root.2)
joins-down g u t (suc n) (suc k) lt lk =
    let c : IsChild g u.vertices (suc k) = t.others (suc k) (omega arith) lk in
    let low = c.lower in
    let above = joins-down g u t n c.above.0 (omega (arith, lt, low)) (omega (arith, lk, low)) in
    let down : reverse (path_up u.vertices (suc n) (suc k)) ≡ reverse (path_up u.vertices n c.above.0) ++ suc k ∷ [] =
    ap reverse (path_some u.vertices n (suc k) c.above c.parent) ∙ reverse-cons (suc k) (path_up u.vertices n c.above.0) in
    let es : edges_to u.vertices (reverse (path_up u.vertices (suc n) (suc k))) ≡ edges_to u.vertices (reverse (path_up u.vertices n c.above.0)) ++ c.edge ∷ [] =
    ap (edges_to u.vertices) down ∙ edges-both u.vertices (reverse (path_up u.vertices n c.above.0)) (suc k ∷ [])
    ∙ ap (λ (ys : List EdgeId). edges_to u.vertices (reverse (path_up u.vertices n c.above.0)) ++ ys) (one-edge u.vertices (suc k) c.edge c.by) in
    subst (λ (path : List EdgeId). Joins g path g.entry (vertex_at u.vertices (suc k)).node) (sym es)
    (joins-more g (edges_to u.vertices (reverse (path_up u.vertices n c.above.0))) c.edge g.entry (vertex_at u.vertices c.above.0).node
    (vertex_at u.vertices (suc k)).node above (child-leads g u.vertices (suc k) c))

pub values_drive : (g : Flow) (u : Unwound) (v : VertexId) (found : ℕ → Bool) (values : List ℤ) → IsFlow g → v.0 < length u.vertices
    → all_hold found (question_at g u v).clauses ≡ true
    → values ≡ values_read (widths_of g.cells) found (question_at g u v).draws (signs_along g (edges_of u v)) → Legal g u → IsDriven g u v values
values_drive g u v found values flow there held is legal =
    let joins : Joins g (edges_of u v) g.entry (vertex_at u.vertices v.0).node = joins-down g u (legal_tree g u legal) (length u.vertices) v.0 there there in
    let ((store, whole, spells), runs) = questions_make_runs g (edges_of u v) g.entry (vertex_at u.vertices v.0).node found flow joins held in
    let (draws, after, run, drawn) = runs store whole spells in
    let read = draws_are_read g (edges_of u v) g.entry (vertex_at u.vertices v.0).node store draws after found flow run drawn in
    (store, after, whole, subst (λ (zs : List ℤ). RunsAlong g (edges_of u v) g.entry store zs (vertex_at u.vertices v.0).node after) (read ∙ sym is) run)
