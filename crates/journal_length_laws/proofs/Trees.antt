-- Each vertex of a legal unwinding is a path of its own.
use Rattle.std.proofs.Common.{◌≡◌, ◌∙◌, ℕ, ◌+◌, ◌<◌, ◌≤◌, ◌==◌, ◌⊎◌, inl, inr, Bool, true, false, List, [], ◌∷◌, ◌++◌, length, None, Some, reverse, slice_get, slice_index_or, zero, suc, refl, sym, ap, subst, arith, if◌then◌else◌}
use Rattle.std.proofs.lemmas.Bool.{eqb-true}
use Rattle.std.proofs.lemmas.List.{get_or_default, reverse-reverse}
use mathlib.Core.List.{reverse-cons}
use Rattle.c_graph.specs.declared.graph.NodeId.{NodeId}
use Rattle.c_graph.specs.declared.graph.EdgeId.{EdgeId}
use Rattle.c_graph.specs.declared.graph.Edge.{Edge}
use Rattle.c_graph.specs.Shape.{Flow, outs, outs_from}
use Rattle.reach_tree.specs.declared.vertex.VertexId.{VertexId}
use Rattle.reach_tree.specs.declared.vertex.Vertex.{Vertex}
use Rattle.reach_tree.specs.Trees.{target_of, vertex_at}
use Rattle.cover_engine.specs.Unwindings.{Unwound}
use Rattle.cover_engine.specs.Units.{Legal}
use Rattle.cover_engine.specs.WellLabelled.{LedBy}
use Rattle.unwinding_laws.specs.Laws.{IsChild, IsTree}
use Rattle.unwinding_laws.proofs.Journals.{legal_good}
use Rattle.unwinding_laws.proofs.Rooting.{legal_tree}
use Rattle.journal_length_laws.specs.Laws.{AreAllPaths, IsPath}
use Rattle.journal_length_laws.proofs.Counting.{Distinct, In, few}

-- edges and vertices that are listed
abbrev Edges : List EdgeId → ℕ → Type 0
Edges [] k = ⊥
Edges (e ∷ es) k = (e.0 ≡ k) ⊎ Edges es k

abbrev Vertices : List VertexId → ℕ → Type 0
Vertices [] k = ⊥
Vertices (c ∷ cs) k = (c.0 ≡ k) ⊎ Vertices cs k

edge-in : (es : List EdgeId) (e : EdgeId) (k : ℕ) → k < length es → slice_index_or es k e ≡ e → Edges es e.0
edge-in [] e k lt at = absurd (omega (arith, lt))
edge-in (x ∷ es) e zero lt at = inl (ap (λ (y : EdgeId). y.0) at)
edge-in (x ∷ es) e (suc k) lt at = inr (edge-in es e k (omega (arith, lt)) at)

vertex-in : (cs : List VertexId) (c : VertexId) (k : ℕ) → k < length cs → slice_index_or cs k c ≡ c → Vertices cs c.0
vertex-in [] c k lt at = absurd (omega (arith, lt))
vertex-in (x ∷ cs) c zero lt at = inl (ap (λ (y : VertexId). y.0) at)
vertex-in (x ∷ cs) c (suc k) lt at = inr (vertex-in cs c k (omega (arith, lt)) at)

-- the edges that lead from a node rise
abbrev Rising : List EdgeId → Type 0
Rising [] = Unit {0}
Rising (e ∷ es) = ((k : ℕ) → Edges es k → e.0 < k) × Rising es

outs-above : (n : ℕ) (es : List Edge) (v : NodeId) (k : ℕ) → Edges (outs_from n es v) k → n ≤ k
outs-above n [] v k h = absurd h
outs-above n (e ∷ es) v k h = by (e.from.0 == v.0) h (outs-above (n + 1) es v k)
  where
    by : (b : Bool) → Edges (if b then record { 0 = n } ∷ outs_from (n + 1) es v else outs_from (n + 1) es v) k → (Edges (outs_from (n + 1) es v) k → n + 1 ≤ k) → n ≤ k
    by true (inl s) f = omega (arith, s)
    by true (inr h) f = let le = f h in omega (arith, le)
    by false h f = let le = f h in omega (arith, le)

outs-rise : (n : ℕ) (es : List Edge) (v : NodeId) → Rising (outs_from n es v)
outs-rise n [] v = tt
outs-rise n (e ∷ es) v = by (e.from.0 == v.0) (outs-rise (n + 1) es v)
  where
    by : (b : Bool) → Rising (outs_from (n + 1) es v) → Rising (if b then record { 0 = n } ∷ outs_from (n + 1) es v else outs_from (n + 1) es v)
    by true r = (λ k h. (let le = outs-above (n + 1) es v k h in omega (arith, le)), r)
    by false r = r

-- an edge that leads from a node begins there
record Begins (es : List Edge) (n k : ℕ) (v : NodeId) : Type 0 where
  place : ℕ
  number : k ≡ n + place
  edge : Edge
  there : slice_get es place ≡ Some edge
  begins : edge.from.0 ≡ v.0

outs-begin : (n : ℕ) (es : List Edge) (v : NodeId) (k : ℕ) → Edges (outs_from n es v) k → Begins es n k v
outs-begin n [] v k h = absurd h
outs-begin n (e ∷ es) v k h = by (e.from.0 == v.0) refl h (outs-begin (n + 1) es v k)
  where
    later : Begins es (n + 1) k v → Begins (e ∷ es) n k v
    later b = let s = b.number in record { place = suc b.place; number = omega (arith, s); edge = b.edge; there = b.there; begins = b.begins }

    by : (b : Bool) → (e.from.0 == v.0) ≡ b → Edges (if b then record { 0 = n } ∷ outs_from (n + 1) es v else outs_from (n + 1) es v) k
        → (Edges (outs_from (n + 1) es v) k → Begins es (n + 1) k v) → Begins (e ∷ es) n k v
    by true is (inl s) f = record { place = 0; number = omega (arith, s); edge = e; there = refl; begins = eqb-true e.from.0 v.0 is }
    by true is (inr h) f = later (f h)
    by false is h f = later (f h)

target-is : (es : List Edge) (k : ℕ) (e : Edge) → slice_get es k ≡ Some e → target_of es k ≡ e.to
target-is [] k e at = absurd cc
target-is (x ∷ es) zero e at = let s : x ≡ e = cc in ap (λ (y : Edge). y.to) s
target-is (x ∷ es) (suc k) e at = target-is es k e at

edge-number : (a b : EdgeId) → Some a ≡ Some b → a.0 ≡ b.0
edge-number a b e = let s : a ≡ b = cc in ap (λ (x : EdgeId). x.0) s

-- children that rising edges lead to in order, by edges that are different
led-edge : (vs : List Vertex) (cs : List VertexId) (es : List EdgeId) (k : ℕ) (e : EdgeId) → LedBy vs cs es → Vertices cs k → (vertex_at vs k).by ≡ Some e → Edges es e.0
led-edge vs [] es k e l h by = absurd h
led-edge vs (c ∷ cs) [] k e l h by = absurd l
led-edge vs (c ∷ cs) (x ∷ es) k e l (inl s) by =
    inl (edge-number x e (sym l.0 ∙ ap (λ (i : ℕ). (vertex_at vs i).by) s ∙ by))
led-edge vs (c ∷ cs) (x ∷ es) k e l (inr h) by = inr (led-edge vs cs es k e l.1 h by)

led-same : (vs : List Vertex) (cs : List VertexId) (es : List EdgeId) (j k : ℕ) (e : EdgeId) → LedBy vs cs es → Rising es → Vertices cs j → Vertices cs k
    → (vertex_at vs j).by ≡ Some e → (vertex_at vs k).by ≡ Some e → j ≡ k
led-same vs [] es j k e l r h i a b = absurd h
led-same vs (c ∷ cs) [] j k e l r h i a b = absurd l
led-same vs (c ∷ cs) (x ∷ es) j k e l r (inl s) (inl t) a b = sym s ∙ t
led-same vs (c ∷ cs) (x ∷ es) j k e l r (inl s) (inr i) a b =
    let same = edge-number x e (sym l.0 ∙ ap (λ (n : ℕ). (vertex_at vs n).by) s ∙ a) in
    let lt = r.0 e.0 (led-edge vs cs es k e l.1 i b) in absurd (omega (arith, same, lt))
led-same vs (c ∷ cs) (x ∷ es) j k e l r (inr h) (inl t) a b =
    let same = edge-number x e (sym l.0 ∙ ap (λ (n : ℕ). (vertex_at vs n).by) t ∙ b) in
    let lt = r.0 e.0 (led-edge vs cs es j e l.1 h a) in absurd (omega (arith, same, lt))
led-same vs (c ∷ cs) (x ∷ es) j k e l r (inr h) (inr i) a b = led-same vs cs es j k e l.1 r.1 h i a b

vertex-number : (a b : VertexId) → Some a ≡ Some b → a ≡ b
vertex-number a b e = cc

-- a way up from a vertex to the root: the edges, the last one first
abbrev pub IsWay : List Vertex → ℕ → List EdgeId → Type 0
IsWay vs k [] = k ≡ 0
IsWay vs k (e ∷ es) = (q : VertexId) × ((vertex_at vs k).parent ≡ Some q) × ((vertex_at vs k).by ≡ Some e) × IsWay vs q.0 es

-- edges that follow one another from one node to another
abbrev LeadsTo : Flow → NodeId → List EdgeId → NodeId → Type 0
LeadsTo g n [] m = n ≡ m
LeadsTo g n (e ∷ es) m = (edge : Edge) × (slice_get g.edges e.0 ≡ Some edge) × (edge.from ≡ n) × LeadsTo g edge.to es m

leads-path : (g : Flow) (n m : NodeId) (es : List EdgeId) → LeadsTo g n es m → IsPath g n es
leads-path g n m [] l = tt
leads-path g n m (e ∷ es) (edge, at, from, l) = (edge, at, from, leads-path g edge.to m es l)

leads-more : (g : Flow) (n m : NodeId) (es : List EdgeId) (e : EdgeId) (edge : Edge) → LeadsTo g n es m → slice_get g.edges e.0 ≡ Some edge → edge.from ≡ m
    → LeadsTo g n (es ++ e ∷ []) edge.to
leads-more g n m [] e edge l at from = (edge, at, from ∙ sym l, refl)
leads-more g n m (x ∷ es) e edge (first, there, begins, l) at from = (first, there, begins, leads-more g first.to m es e edge l at from)

no-vertex : (q : VertexId) → None ≡ Some q → ⊥
no-vertex q e = absurd cc

module _ (g : Flow) (u : Unwound) (l : Legal g u) where
  abbrev vs : List Vertex
  vs = u.vertices

  tree : IsTree g u
  tree = legal_tree g u l

  child : (k : ℕ) (q : VertexId) → k < length u.vertices → (vertex_at u.vertices k).parent ≡ Some q → IsChild g u.vertices k
  child zero q lt p = absurd (no-vertex q (sym tree.root.0 ∙ p))
  child (suc k) q lt p = tree.others (suc k) (omega arith) lt

  -- of two vertices with one parent and one edge
  siblings : (j k : ℕ) (q : VertexId) (e : EdgeId) → j < length u.vertices → k < length u.vertices → (vertex_at u.vertices j).parent ≡ Some q
      → (vertex_at u.vertices k).parent ≡ Some q → (vertex_at u.vertices j).by ≡ Some e → (vertex_at u.vertices k).by ≡ Some e → j ≡ k
  siblings j k q e lj lk pj pk bj bk =
      let cj = child j q lj pj in
      let ck = child k q lk pk in
      let aj : cj.above ≡ q = vertex-number cj.above q (sym cj.parent ∙ pj) in
      let ak : ck.above ≡ q = vertex-number ck.above q (sym ck.parent ∙ pk) in
      let low = cj.lower in
      let there : q.0 < length u.vertices = let s = ap (λ (x : VertexId). x.0) aj in omega (arith, s, low, lj) in
      let ij : Vertices (vertex_at u.vertices q.0).children j =
      subst (λ (x : VertexId). Vertices (vertex_at u.vertices x.0).children j) aj
      (vertex-in (vertex_at u.vertices cj.above.0).children (record { 0 = j }) cj.among.0 cj.among.1 cj.among.2) in
      let ik : Vertices (vertex_at u.vertices q.0).children k =
      subst (λ (x : VertexId). Vertices (vertex_at u.vertices x.0).children k) ak
      (vertex-in (vertex_at u.vertices ck.above.0).children (record { 0 = k }) ck.among.0 ck.among.1 ck.among.2) in
      elim ((legal_good g u l).well.families q there) [
        | inl none ↦ absurd (subst (λ (cs : List VertexId). Vertices cs j) none ij)
        | inr led ↦
            led-same u.vertices (vertex_at u.vertices q.0).children (outs g (vertex_at u.vertices q.0).node) j k e led.0
            (outs-rise 0 g.edges (vertex_at u.vertices q.0).node) ij ik bj bk
      ]

  parent-low : (k : ℕ) (q : VertexId) → k < length u.vertices → (vertex_at u.vertices k).parent ≡ Some q → q.0 < k
  parent-low k q lt p =
      let c = child k q lt p in
      let s : c.above ≡ q = vertex-number c.above q (sym c.parent ∙ p) in
      let low = c.lower in
      let e = ap (λ (x : VertexId). x.0) s in omega (arith, low, e)

  -- ways up
  way-of : (n k : ℕ) → k < n → k < length u.vertices → (es : List EdgeId) × IsWay u.vertices k es
  way-of zero k lt there = absurd (omega (arith, lt))
  way-of (suc n) zero lt there = ([], refl)
  way-of (suc n) (suc k) lt there =
      let c = tree.others (suc k) (omega arith) there in
      let low = c.lower in
      let (es, w) = way-of n c.above.0 (omega (arith, low, lt)) (omega (arith, low, there)) in
      (c.edge ∷ es, (c.above, c.parent, c.by, w))

  way-same : (es : List EdgeId) (j k : ℕ) → j < length u.vertices → k < length u.vertices → IsWay u.vertices j es → IsWay u.vertices k es → j ≡ k
  way-same [] j k lj lk a b = a ∙ sym b
  way-same (e ∷ es) j k lj lk (p, pj, bj, a) (q, pk, bk, b) =
      let lp = parent-low j p lj pj in
      let lq = parent-low k q lk pk in
      let same : p.0 ≡ q.0 = way-same es p.0 q.0 (omega (arith, lp, lj)) (omega (arith, lq, lk)) a b in
      let one : p ≡ q = ap (λ (n : ℕ). let x : VertexId = record { 0 = n } in x) same in
      siblings j k q e lj lk (pj ∙ ap (λ (x : VertexId). Some x) one) pk bj bk

  way-leads : (es : List EdgeId) (k : ℕ) → k < length u.vertices → IsWay u.vertices k es → LeadsTo g g.entry (reverse es) (vertex_at u.vertices k).node
  way-leads [] k lt w = sym tree.root.2 ∙ ap (λ (n : ℕ). (vertex_at u.vertices n).node) (sym w)
  way-leads (e ∷ es) k lt (q, p, by, w) =
      let c = child k q lt p in
      let s : c.above ≡ q = vertex-number c.above q (sym c.parent ∙ p) in
      let low = parent-low k q lt p in
      let up = way-leads es q.0 (omega (arith, low, lt)) w in
      let ce : c.edge.0 ≡ e.0 = edge-number c.edge e (sym c.by ∙ by) in
      let among : Edges (outs g (vertex_at u.vertices c.above.0).node) c.edge.0 =
      edge-in (outs g (vertex_at u.vertices c.above.0).node) c.edge c.leads.0 c.leads.1 c.leads.2 in
      let b = outs-begin 0 g.edges (vertex_at u.vertices c.above.0).node c.edge.0 among in
      let number = b.number in
      let place : b.place ≡ e.0 = omega (arith, number, ce) in
      let there : slice_get g.edges e.0 ≡ Some b.edge = subst (λ (n : ℕ). slice_get g.edges n ≡ Some b.edge) place b.there in
      let from : b.edge.from ≡ (vertex_at u.vertices q.0).node =
      ap (λ (n : ℕ). let x : NodeId = record { 0 = n } in x) b.begins ∙ ap (λ (x : VertexId). (vertex_at u.vertices x.0).node) s in
      let to : b.edge.to ≡ (vertex_at u.vertices k).node =
      sym (target-is g.edges e.0 b.edge there) ∙ ap (target_of g.edges) (sym ce) ∙ sym c.node in
      subst (λ (xs : List EdgeId). LeadsTo g g.entry xs (vertex_at u.vertices k).node) (sym (reverse-cons e es))
      (subst (λ (m : NodeId). LeadsTo g g.entry (reverse es ++ e ∷ []) m) to
      (leads-more g g.entry (vertex_at u.vertices q.0).node (reverse es) e b.edge up there from))

  -- the places of the vertices' paths
  record Places (paths : List (List EdgeId)) (n : ℕ) : Type 0 where
    list : List ℕ
    long : length list ≡ n
    distinct : Distinct list
    each : (i : ℕ) → In list i
        → (i < length paths) × ((k : ℕ) × (k < n) × ((es : List EdgeId) × IsWay u.vertices k es × (slice_index_or paths i [] ≡ reverse es)))

  places : (paths : List (List EdgeId)) → AreAllPaths g paths → (n : ℕ) → n ≤ length u.vertices → Places paths n
  places paths all zero le = record { list = []; long = refl; distinct = tt; each = λ i h. absurd h }
  places paths all (suc n) le =
      let r = places paths all n (omega (arith, le)) in
      let there : n < length u.vertices = omega (arith, le) in
      let (es, w) = way-of (suc n) n (omega arith) there in
      let (i, lt, at) = all (reverse es) (leads-path g g.entry (vertex_at u.vertices n).node (reverse es) (way-leads es n there w)) in
      let here : slice_index_or paths i [] ≡ reverse es = get_or_default paths i [] (reverse es) lt ∙ at in
      let long = r.long in
      record {
        list = i ∷ r.list;
        long = omega (arith, long);
        distinct = (
          λ h. (let (lt', (k, lk, (es', w', at'))) = r.each i h in
              let same : es ≡ es' = sym (reverse-reverse es) ∙ ap reverse (sym here ∙ at') ∙ reverse-reverse es' in
              let e : n ≡ k = way-same es' n k there (omega (arith, lk, le)) (subst (IsWay u.vertices n) same w) w' in
              omega (arith, e, lk)),
          r.distinct,
        );
        each = λ j h. elim h [
          | inl e ↦ subst
              (λ (m : ℕ). (m < length paths) × ((k : ℕ) × (k < suc n) × ((ds : List EdgeId) × IsWay u.vertices k ds × (slice_index_or paths m [] ≡ reverse ds)))) e
              (lt, (n, omega arith, (es, w, here)))
          | inr b ↦ (let (lj, (k, lk, rest)) = r.each j b in (lj, (k, omega (arith, lk), rest)))
        ];
      }

  pub vertices-few : (paths : List (List EdgeId)) → AreAllPaths g paths → length u.vertices ≤ length paths
  vertices-few paths all =
      let r = places paths all (length u.vertices) (omega arith) in
      let long = r.long in
      let low = few (length paths) r.list r.distinct (λ i h. (r.each i h).0) in
      omega (arith, long, low)
