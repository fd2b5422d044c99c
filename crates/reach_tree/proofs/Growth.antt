-- Trees that grow by children.
use Rattle.std.proofs.Common.{◌≡◌, ℕ, ◌+◌, ◌-◌, ◌<◌, ◌≤◌, length, List, [], ◌∷◌, ◌++◌, arith, ap, sym, ◌∙◌, refl, suc, zero, subst, slice_index_or, slice_set, All, drop, append_assoc, Bool, true, false, nat_eq, ◌==◌, if◌then◌else◌, Option, Some, None}
use Rattle.std.proofs.Math.Seq.{drop-cons}
use Rattle.c_graph.specs.declared.graph.NodeId.{NodeId}
use Rattle.c_graph.specs.declared.graph.EdgeId.{EdgeId}
use Rattle.c_graph.specs.declared.graph.Edge.{Edge}
use Rattle.c_graph.specs.Shape.{Flow, outs, outs_from}
use Rattle.reach_tree.specs.declared.vertex.VertexId.{VertexId}
use Rattle.reach_tree.specs.declared.vertex.Vertex.{Vertex}
use Rattle.reach_tree.specs.declared.vertex.NewLabel.{NewLabel}
use Rattle.reach_tree.specs.Trees.{fresh, vertex_at, changed, numbers_from, target_of, leaves_of, expanded, with_children, relabelled, with_label}
use Rattle.std.proofs.lemmas.List.{length-set}
use Rattle.std.proofs.Common.{length-append}

-- the edges that lead from a node are there
pub outs-below : (n : ℕ) (es : List Edge) (v : NodeId) → All (λ e. e.0 < n + length es) (outs_from n es v)
outs-below n [] v = λ k d lt. absurd (omega (arith, lt))
outs-below n (e ∷ es) v =
    let P : ℕ → Type 0 = λ m. All (λ (x : EdgeId). x.0 < m) (outs_from (n + 1) es v) in
    let s : (n + 1) + length es ≡ n + suc (length es) = omega arith in
    let rest : All (λ (x : EdgeId). x.0 < n + suc (length es)) (outs_from (n + 1) es v) = subst P s (outs-below (n + 1) es v) in
    elim (e.from.0 == v.0) as (λ b. All (λ (x : EdgeId). x.0 < n + suc (length es)) (if b then record { 0 = n } ∷ outs_from (n + 1) es v else outs_from (n + 1) es v)) [
      | true ↦ (λ k d lt.
          elim k as (λ k. k < suc (length (outs_from (n + 1) es v)) → (slice_index_or (record { 0 = n } ∷ outs_from (n + 1) es v) k d).0 < n + suc (length es))
          [ zero ↦ (λ _. omega arith) | suc j ↦ (λ l. rest j d (omega (arith, l))) ] lt)
      | false ↦ rest
    ]

pub length-numbers : (n k : ℕ) → length (numbers_from n k) ≡ k
length-numbers n zero = refl
length-numbers n (suc k) = ap suc (length-numbers (n + 1) k)

pub length-leaves : (edges : List Edge) (v : VertexId) (es : List EdgeId) → length (leaves_of edges v es) ≡ length es
length-leaves edges v [] = refl
length-leaves edges v (e ∷ es) = ap suc (length-leaves edges v es)

pub target-of : (edges : List Edge) (k : ℕ) (d : Edge) → k < length edges → (slice_index_or edges k d).to ≡ target_of edges k
target-of [] k d lt = absurd (omega arith)
target-of (e ∷ es) zero d lt = refl
target-of (e ∷ es) (suc k) d lt = target-of es k d (omega arith)

-- one number more
pub numbers-more : (acc new whole : List VertexId) (n m : ℕ) (x : VertexId) → n < m → new ≡ acc ++ x ∷ [] → x.0 ≡ n
    → acc ++ numbers_from n (m - n) ≡ whole → new ++ numbers_from (n + 1) (m - (n + 1)) ≡ whole
numbers-more acc new whole n m x lt e is h =
    let s : m - n ≡ suc (m - (n + 1)) = omega arith in
    let same : record { 0 = n } ≡ x = ap (λ (k : ℕ). let r : VertexId = record { 0 = k } in r) (sym is) in
    ap (λ (z : List VertexId). z ++ numbers_from (n + 1) (m - (n + 1))) e
    ∙ append_assoc acc (x ∷ []) (numbers_from (n + 1) (m - (n + 1)))
    ∙ ap (λ (z : VertexId). acc ++ z ∷ numbers_from (n + 1) (m - (n + 1))) (sym same)
    ∙ ap (λ (k : ℕ). acc ++ numbers_from n k) (sym s)
    ∙ h

-- the same node at a fresh vertex
pub fresh-at : (x : Vertex) (parent : Option VertexId) (by : Option EdgeId) (n m : NodeId) → x ≡ fresh parent by n → n ≡ m → x ≡ fresh parent by m
fresh-at x parent by n m e is = e ∙ ap (λ (k : NodeId). fresh parent by k) is

-- one leaf more
pub leaves-more : (edges : List Edge) (v : VertexId) (es : List EdgeId) (acc new whole : List Vertex) (i : ℕ) (d : EdgeId) (x : Vertex)
    → i < length es → new ≡ acc ++ x ∷ [] → x ≡ fresh (Some v) (Some (slice_index_or es i d)) (target_of edges (slice_index_or es i d).0)
    → acc ++ leaves_of edges v (drop i es) ≡ whole → new ++ leaves_of edges v (drop (i + 1) es) ≡ whole
leaves-more edges v es acc new whole i d x lt e is h =
    let s : i + 1 ≡ suc i = omega arith in
    ap (λ (n : ℕ). new ++ leaves_of edges v (drop n es)) s
    ∙ ap (λ (z : List Vertex). z ++ leaves_of edges v (drop (suc i) es)) e
    ∙ append_assoc acc (x ∷ []) (leaves_of edges v (drop (suc i) es))
    ∙ ap (λ (z : Vertex). acc ++ z ∷ leaves_of edges v (drop (suc i) es)) is
    ∙ ap (λ (z : List EdgeId). acc ++ leaves_of edges v z) (sym (drop-cons es i d lt))
    ∙ h

-- a change within the first of two lists
vertex-append : (xs ys : List Vertex) (k : ℕ) (d : Vertex) → k < length xs → slice_index_or (xs ++ ys) k d ≡ slice_index_or xs k d
vertex-append [] ys k d lt = absurd (omega arith)
vertex-append (x ∷ xs) ys zero d lt = refl
vertex-append (x ∷ xs) ys (suc k) d lt = vertex-append xs ys k d (omega arith)

set-append : (xs ys : List Vertex) (k : ℕ) (z : Vertex) → k < length xs → slice_set (xs ++ ys) k z ≡ slice_set xs k z ++ ys
set-append [] ys k z lt = absurd (omega arith)
set-append (x ∷ xs) ys zero z lt = refl
set-append (x ∷ xs) ys (suc k) z lt = ap (λ (r : List Vertex). x ∷ r) (set-append xs ys k z (omega arith))

pub changed-append : (xs ys : List Vertex) (k : ℕ) (f : Vertex → Vertex) → k < length xs → changed (xs ++ ys) k f ≡ changed xs k f ++ ys
changed-append xs ys k f lt =
    ap (λ (z : Vertex). slice_set (xs ++ ys) k (f z)) (vertex-append xs ys k (vertex_at [] 0) lt) ∙ set-append xs ys k (f (vertex_at xs k)) lt

-- a vertex got its children: the list is the expanded one
pub is-expanded : (g : Flow) (vs more new : List Vertex) (v : VertexId) (outs_of : List EdgeId) (children : List VertexId) (first count : ℕ)
    → v.0 < length vs → outs_of ≡ outs g (vertex_at vs v.0).node → first ≡ length vs → count ≡ length outs_of
    → children ≡ numbers_from first count → more ≡ leaves_of g.edges v outs_of
    → new ≡ changed (vs ++ more) v.0 (with_children children) → new ≡ expanded g vs v
is-expanded g vs more new v outs_of children first count lt eo ef ec en em e =
    e ∙ changed-append vs more v.0 (with_children children) lt
    ∙ ap (λ (c : List VertexId). changed vs v.0 (with_children c) ++ more) (en ∙ ap (λ (n : ℕ). numbers_from n count) ef ∙ ap (numbers_from (length vs)) (ec ∙ ap length eo))
    ∙ ap (λ (m : List Vertex). changed vs v.0 (with_children (numbers_from (length vs) (length (outs g (vertex_at vs v.0).node)))) ++ m) (em ∙ ap (leaves_of g.edges v) eo)

-- how many vertices there are then
pub length-expanded : (g : Flow) (vs more new : List Vertex) (v : VertexId) (outs_of : List EdgeId) (children : List VertexId)
    → more ≡ leaves_of g.edges v outs_of → new ≡ changed (vs ++ more) v.0 (with_children children) → length new ≡ length vs + length outs_of
length-expanded g vs more new v outs_of children em e =
    ap length e ∙ length-set (vs ++ more) v.0 (with_children children (vertex_at (vs ++ more) v.0)) ∙ length-append vs more
    ∙ ap (λ (n : ℕ). length vs + n) (ap length em ∙ length-leaves g.edges v outs_of)

-- the edges that lead from a node of a graph are among its edges
pub outs-there : (g : Flow) (v : NodeId) (es fs : List EdgeId) (edges : List Edge) → es ≡ fs → fs ≡ outs g v → edges ≡ g.edges → All (λ e. e.0 < length edges) es
outs-there g v es fs edges e f d =
    let P : ℕ → List EdgeId → Type 0 = λ n xs. All (λ (x : EdgeId). x.0 < n) xs in
    let z : 0 + length g.edges ≡ length g.edges = omega arith in
    let A : ℕ → Type 0 = λ n. P n (outs g v) in
    let B : List EdgeId → Type 0 = λ xs. P (length edges) xs in
    subst B (sym (e ∙ f)) (subst A (ap length (sym d)) (subst A z (outs-below 0 g.edges v)))

-- an element that is read within the list is the vertex of that number
pub read-vertex : (vs : List Vertex) (k : ℕ) (r : Vertex) → k < length vs → r ≡ slice_index_or vs k r → r ≡ vertex_at vs k
read-vertex [] k r lt e = absurd (omega arith)
read-vertex (x ∷ vs) zero r lt e = e
read-vertex (x ∷ vs) (suc k) r lt e = read-vertex vs k r (omega arith) e

-- the same in the names that the code has for the parts
pub expanded-at : (g : Flow) (vs more base new now : List Vertex) (v : VertexId) (os es : List EdgeId) (r : Vertex) (children cs : List VertexId) (first count : ℕ)
    → v.0 < length vs → vs ≡ now → r ≡ slice_index_or vs v.0 r → os ≡ es → es ≡ outs g r.node → first ≡ length vs → count ≡ length os
    → children ≡ numbers_from first count → cs ≡ children → (edges : List Edge) → edges ≡ g.edges → more ≡ leaves_of edges v os
    → base ≡ vs ++ more → new ≡ changed base v.0 (with_children cs)
    → (new ≡ expanded g now v) × (length new ≡ length vs + length os)
expanded-at g vs more base new now v os es r children cs first count lt view er eo ee ef ec en ecs edges ed em eb e =
    let rv = read-vertex vs v.0 r lt er in
    let o : os ≡ outs g (vertex_at vs v.0).node = eo ∙ ee ∙ ap (λ (x : Vertex). outs g x.node) rv in
    let m : more ≡ leaves_of g.edges v os = em ∙ ap (λ (x : List Edge). leaves_of x v os) ed in
    let n : new ≡ changed (vs ++ more) v.0 (with_children children) = e ∙ ap (λ (c : List VertexId). changed base v.0 (with_children c)) ecs ∙ ap (λ (b : List Vertex). changed b v.0 (with_children children)) eb in (
      is-expanded g vs more new v os children first count lt o ef ec en m n ∙ ap (λ (x : List Vertex). expanded g x v) view,
      length-expanded g vs more new v os children m n,
    )

-- one label more
pub relabelled-more : (vs : List Vertex) (ls : List NewLabel) (l : NewLabel) → relabelled vs (ls ++ l ∷ []) ≡ changed (relabelled vs ls) l.vertex.0 (with_label l.label l.version)
relabelled-more vs [] l = refl
relabelled-more vs (m ∷ ls) l = relabelled-more (changed vs m.vertex.0 (with_label m.label m.version)) ls l

pub relabelled-put : (vs old whole : List Vertex) (ls : List NewLabel) (l : NewLabel) → old ≡ relabelled whole ls
    → vs ≡ changed old l.vertex.0 (with_label l.label l.version) → vs ≡ relabelled whole (ls ++ l ∷ [])
relabelled-put vs old whole ls l h is =
    is ∙ ap (λ (ws : List Vertex). changed ws l.vertex.0 (with_label l.label l.version)) h ∙ sym (relabelled-more whole ls l)
