-- The labels of a complete unwinding's uncovered vertices make an inductive map.
use Rattle.std.proofs.Common.{◌≡◌, ◌≢◌, ℕ, ℤ, ◌+◌, ◌<◌, Bool, true, false, not, ◌&&◌, ◌||◌, List, [], ◌∷◌, length, refl, sym, ap, ◌∙◌, subst, arith, zero, suc, inl, inr, ◌⊎◌, Option, Some, None, slice_get, slice_index_or, nat_lt, nat_eq, ◌==◌, if◌then◌else◌}
use Rattle.std.proofs.lemmas.Bool.{false≢true, cases_eq, eqb-true, eq-eqb, lt-ltb, and_parts, or_cases, or_left, or_right}
use Rattle.lv_base.specs.declared.fault.ErrorKind.{ErrorKind}
use Rattle.bv_term.specs.declared.term.TermId.{TermId}
use Rattle.bv_term.specs.declared.term.Term.{Term}
use Rattle.bv_term.specs.declared.term.Term.TheVariants.{Constant}
use Rattle.bv_term.specs.WellFormed.{Table, IsTable}
use Rattle.bv_term.specs.Values.{IsStore, value}
use Rattle.c_graph.specs.declared.graph.NodeId.{NodeId}
use Rattle.c_graph.specs.declared.graph.EdgeId.{EdgeId}
use Rattle.c_graph.specs.declared.graph.Edge.{Edge}
use Rattle.c_graph.specs.declared.graph.Node.{Node}
use Rattle.c_graph.specs.declared.graph.Node.TheVariants.{Plain, Error}
use Rattle.c_graph.specs.Shape.{Flow, IsFlow, EdgeFits, outs, outs_from, widths_of}
use Rattle.c_graph.specs.Steps.{IsWhole, Leads}
use Rattle.c_graph.specs.Runs.{Formulas, HoldsAt, IsInductive, IsMapOf}
use Rattle.c_graph.proofs.Keeping.{leads-whole, edge-fits}
use Rattle.reach_tree.specs.declared.vertex.VertexId.{VertexId}
use Rattle.reach_tree.specs.declared.vertex.Vertex.{Vertex}
use Rattle.reach_tree.specs.Trees.{vertex_at, target_of}
use Rattle.needed_cells.specs.Formulas.{is_bit, is_false_term}
use Rattle.cover_engine.specs.Unwindings.{Unwound, Pair, any_of, has, path_of, is_above, is_left, is_covered, some_false, is_end, is_closed, is_none, is_open_leaf, none_open, is_complete}
use Rattle.cover_engine.specs.Units.{Meets, Legal}
use Rattle.cover_engine.specs.WellLabelled.{ChildFollows, LedBy, PairHolds, WellLabelled}
use Rattle.unwinding_laws.proofs.Paths.{Path, top, step, path_is, path_runs}
use Rattle.unwinding_laws.proofs.Units.{Good}
use Rattle.unwinding_laws.proofs.Journals.{legal_good}
use Rattle.invariant_map.specs.Labels.{counts, SomeMet, SaysLabels}
use Rattle.invariant_map.proofs.Moves.{over}
use Rattle.map_laws.specs.Laws.{ExtractedIsInductive}
use Rattle.map_laws.proofs.Placing.{Stands, stands}

-- a label with the conjunct false is met in no store
false_bit : (t : Term) → is_bit 0 (Some t) ≡ true → t ≡ Constant 1 0
false_bit (Constant w v) h = let (a, b) = and_parts (w == 1) (v == 0) h in ap (λ (x : ℕ). Constant x v) (eqb-true w 1 a) ∙ ap (Constant 1) (eqb-true v 0 b)
false_bit _ h = absurd cc

false_value : (table : Table) (store : List ℕ) (t : TermId) → IsTable table → is_false_term table t ≡ true → value table store t ≡ 0
false_value table store t is h = at (slice_get table.terms t.0) refl h
  where
    at : (o : Option Term) → slice_get table.terms t.0 ≡ o → is_bit 0 o ≡ true → value table store t ≡ 0
    at None e b = absurd cc
    at (Some x) e b = (over table store t.0 (Constant 1 0) is (e ∙ ap Some (false_bit x b))).1.1.value

unmet : (table : Table) (store : List ℕ) (label : List TermId) → IsTable table → some_false table label ≡ true → Meets table store label → ⊥
unmet table store [] is h m = absurd cc
unmet table store (t ∷ label) is h m = elim (or_cases (is_false_term table t) (some_false table label) h) [
  | inl a ↦ (let e = false_value table store t is a in let f : value table store t ≡ 1 = m 0 t (omega arith) in omega (arith, e, f))
  | inr b ↦ unmet table store label is b (λ k d lt. m (suc k) d (omega (arith, lt)))
]

-- no vertex of a complete unwinding is an open leaf
off_of : (b : Bool) → not b ≡ true → b ≡ false
off_of true e = absurd cc
off_of false e = refl

not_open : (g : Flow) (u : Unwound) (n k : ℕ) → none_open g u n ≡ true → k < n → is_open_leaf g u (record { 0 = k }) ≡ false
not_open g u zero k h lt = absurd (omega (arith, lt))
not_open g u (suc n) k h lt =
    let (a, b) = and_parts (not (is_open_leaf g u (record { 0 = n }))) (none_open g u n) h in
    elim (cases_eq k n) [
      | inl q ↦ subst (λ (j : ℕ). is_open_leaf g u (record { 0 = j }) ≡ false) (sym q) (off_of (is_open_leaf g u (record { 0 = n })) a)
      | inr d ↦ not_open g u n k b (let ne : k ≢ n = d in omega (arith, lt, ne))
    ]

-- an uncovered vertex that is no open leaf is closed or has children
closed_or_more : (c cl cov : Bool) → c && (not cl && not cov) ≡ false → cov ≡ false → (cl ≡ true) ⊎ (c ≡ false)
closed_or_more false cl cov h e = inr refl
closed_or_more true true cov h e = inl refl
closed_or_more true false true h e = absurd cc
closed_or_more true false false h e = absurd cc

-- the edges that lead from a node
abbrev Among : List EdgeId → EdgeId → Type 0
Among [] e = ⊥
Among (x ∷ xs) e = (x ≡ e) ⊎ Among xs e

among_outs : (n : ℕ) (edges : List Edge) (v : NodeId) (k : ℕ) (edge : Edge) → slice_get edges k ≡ Some edge → edge.from ≡ v → Among (outs_from n edges v) (record { 0 = n + k })
among_outs n [] v k edge s f = absurd cc
among_outs n (x ∷ edges) v zero edge s f =
    let q : x ≡ edge = cc in
    let e : x.from.0 ≡ v.0 = ap (λ (y : Edge). y.from.0) q ∙ ap (λ (w : NodeId). w.0) f in
    let t : (x.from.0 == v.0) ≡ true = eq-eqb x.from.0 v.0 e in
    let z : n ≡ n + 0 = omega arith in
    let F : ℕ → EdgeId = λ i. record { 0 = i } in
    rw t (inl (ap F z))
among_outs n (x ∷ edges) v (suc k) edge s f =
    let z : (n + 1) + k ≡ n + suc k = omega arith in
    let rest : Among (outs_from (n + 1) edges v) (record { 0 = n + suc k }) = subst (λ (i : ℕ). Among (outs_from (n + 1) edges v) (record { 0 = i })) z (among_outs (n + 1) edges v k edge s f) in
    put (x.from.0 == v.0) rest
  where
    put : (b : Bool) → Among (outs_from (n + 1) edges v) (record { 0 = n + suc k }) → Among (if b then record { 0 = n } ∷ outs_from (n + 1) edges v else outs_from (n + 1) edges v) (record { 0 = n + suc k })
    put true a = inr a
    put false a = a

-- the child to which an edge leads
pub record ChildBy (vs : List Vertex) (cs : List VertexId) (e : EdgeId) : Type 0 where
  pub at : ℕ
  pub child : VertexId
  pub first : at < length cs
  pub is : slice_index_or cs at child ≡ child
  pub by : (vertex_at vs child.0).by ≡ Some e

child_by : (vs : List Vertex) (cs : List VertexId) (es : List EdgeId) (e : EdgeId) → LedBy vs cs es → Among es e → ChildBy vs cs e
child_by vs [] [] e l a = absurd a
child_by vs [] (x ∷ es) e l a = absurd l
child_by vs (c ∷ cs) [] e l a = absurd l
child_by vs (c ∷ cs) (x ∷ es) e l a = elim a [
  | inl q ↦ record { at = 0; child = c; first = omega arith; is = refl; by = l.0 ∙ ap Some q }
  | inr b ↦ let r = child_by vs cs es e l.1 b in record { at = suc r.at; child = r.child; first = omega (arith, r.first); is = r.is; by = r.by }
]

target_at : (edges : List Edge) (k : ℕ) (edge : Edge) → slice_get edges k ≡ Some edge → target_of edges k ≡ edge.to
target_at [] k edge s = absurd cc
target_at (x ∷ edges) zero edge s = let q : x ≡ edge = cc in ap (λ (y : Edge). y.to) q
target_at (x ∷ edges) (suc k) edge s = target_at edges k edge s

-- pairs
pub record PairFrom (ps : List Pair) (x : ℕ) : Type 0 where
  pub at : ℕ
  pub pair : Pair
  pub first : at < length ps
  pub is : slice_index_or ps at pair ≡ pair
  pub left : pair.0.0 ≡ x

pair_from : (ps : List Pair) (x : ℕ) → is_left ps x ≡ true → PairFrom ps x
pair_from [] x h = absurd cc
pair_from (p ∷ ps) x h = elim (or_cases (nat_eq p.0.0 x) (is_left ps x) h) [
  | inl a ↦ record { at = 0; pair = p; first = omega arith; is = refl; left = eqb-true p.0.0 x a }
  | inr b ↦ let r = pair_from ps x b in record { at = suc r.at; pair = r.pair; first = omega (arith, r.first); is = r.is; left = r.left }
]

-- the root is on each path
root_above : {vs : List Vertex} {v : ℕ} {up : List ℕ} → ((k : ℕ) → k < length vs → (vertex_at vs k).parent ≡ None → k ≡ 0) → v < length vs → Path vs v up → has 0 up ≡ true
root_above {vs} {v} h lt (top e) = let q : v ≡ 0 = h v lt e in or_left (nat_eq v 0) false (eq-eqb v 0 q)
root_above {vs} {v} h lt (step {p = p} {up = up} e b q) = or_right (nat_eq v 0) (has 0 up) (root_above h (omega (arith, lt, b)) q)

module _ (g : Flow) (u : Unwound) (m : Formulas) (flow : IsFlow g) (table : IsTable u.terms) (legal : Legal g u) (complete : is_complete g u ≡ true) (map : IsMapOf g m) (says : SaysLabels g u m) where
  good : Good g u
  good = legal_good g u legal

  well : WellLabelled g u
  well = good.well

  standing : Stands g u.vertices
  standing = stands g u legal

  abbrev id : ℕ → VertexId
  id k = record { 0 = k }

  -- an uncovered vertex at a node counts
  counted : (k : ℕ) → (vertex_at u.vertices k).node.0 < length g.nodes → is_covered u (id k) ≡ false → counts u (length g.nodes) k ≡ true
  counted k lt e = let a : nat_lt (vertex_at u.vertices k).node.0 (length g.nodes) ≡ true = lt-ltb (vertex_at u.vertices k).node.0 (length g.nodes) lt in rw (a, e) refl

  uncovered : (k : ℕ) → counts u (length g.nodes) k ≡ true → is_covered u (id k) ≡ false
  uncovered k h = off (nat_lt (vertex_at u.vertices k).node.0 (length g.nodes)) (is_covered u (id k)) h
    where
      off : (a b : Bool) → a && not b ≡ true → b ≡ false
      off true true e = absurd cc
      off true false e = refl
      off false b e = absurd cc

  store_of : (store : List ℕ) → IsWhole (widths_of g.cells) store → IsStore m.terms.cells store
  store_of store w = subst (λ (cs : List ℕ). IsStore cs store) (sym map.cells) w.fits

  -- the root is uncovered
  root_path : path_of u.vertices (id 0) ≡ 0 ∷ []
  root_path = alone (vertex_at u.vertices 0).parent refl
    where
      none : (p : VertexId) → (vertex_at u.vertices 0).parent ≡ Some p → ⊥
      none p e = omega (arith, good.family.below 0 p good.family.some e)

      alone : (o : Option VertexId) → (vertex_at u.vertices 0).parent ≡ o → path_of u.vertices (id 0) ≡ 0 ∷ []
      alone (Some p) e = absurd (none p e)
      alone None e = path_runs (top e) (length u.vertices) good.family.some

  root_not_left : is_left u.pairs 0 ≡ true → ⊥
  root_not_left h =
      let f = pair_from u.pairs 0 h in
      let p = f.pair in
      let holds : PairHolds g u p.0 p.1 = subst (λ (q : Pair). PairHolds g u q.0 q.1) f.is (well.pairs f.at p f.first) in
      let inside = subst (λ (q : Pair). (q.0.0 < length u.vertices) × (q.1.0 < length u.vertices)) f.is (good.inside f.at p f.first) in
      let up : has 0 (path_of u.vertices p.1) ≡ true = root_above standing.top inside.1 (path_is u.vertices good.family (length u.vertices) p.1.0 inside.1 inside.1) in
      let above : is_above u.vertices p.0 p.1 ≡ true = subst (λ (k : ℕ). has k (path_of u.vertices p.1) ≡ true) (sym f.left) up in
      false≢true (sym holds.3 ∙ above)

  root_uncovered : is_covered u (id 0) ≡ false
  root_uncovered =
      ap (any_of (is_left u.pairs)) root_path ∙ off (is_left u.pairs 0) refl
    where
      off : (b : Bool) → is_left u.pairs 0 ≡ b → b || false ≡ false
      off true e = absurd (root_not_left e)
      off false e = refl

  entry_holds : (store : List ℕ) → IsWhole (widths_of g.cells) store → HoldsAt m g.entry store
  entry_holds store w =
      let at : (vertex_at u.vertices 0).node.0 ≡ g.entry.0 = ap (λ (v : NodeId). v.0) standing.root in
      let inside : (vertex_at u.vertices 0).node.0 < length g.nodes = omega (arith, flow.entry, at) in
      (says g.entry store flow.entry (store_of store w)).1 (record {
        at = 0;
        first = standing.some;
        counted = counted 0 inside root_uncovered;
        here = at;
        met = well.root store w;
      })

  -- a vertex that counts and whose label is met is at no error and has children
  has_children : (k : ℕ) (store : List ℕ) → k < length u.vertices → is_covered u (id k) ≡ false → Meets u.terms store (vertex_at u.vertices k).label
      → is_end (slice_get g.nodes (vertex_at u.vertices k).node.0) ≡ false
      → LedBy u.vertices (vertex_at u.vertices k).children (outs g (vertex_at u.vertices k).node) × (slice_get g.nodes (vertex_at u.vertices k).node.0 ≡ Some Plain)
  has_children k store lt un met not_end =
      let shut = not_open g u (length u.vertices) k complete lt in
      elim (closed_or_more (is_none (vertex_at u.vertices k).children) (is_closed g u (id k)) (is_covered u (id k)) shut un) [
        | inl c ↦ absurd (elim (or_cases (some_false u.terms (vertex_at u.vertices k).label) (is_end (slice_get g.nodes (vertex_at u.vertices k).node.0)) c) [
          | inl a ↦ unmet u.terms store (vertex_at u.vertices k).label table a met
          | inr b ↦ false≢true (sym not_end ∙ b)
        ])
        | inr n ↦ elim (well.families (id k) lt) [
          | inl e ↦ absurd (false≢true (sym n ∙ ap is_none e))
          | inr f ↦ f
        ]
      ]

  error_unmet : (v : NodeId) (kind : ErrorKind) (at : ℕ) (store : List ℕ) → slice_get g.nodes v.0 ≡ Some (Error kind at) → IsWhole (widths_of g.cells) store → HoldsAt m v store → ⊥
  error_unmet v kind at store is w h =
      let inside : v.0 < length g.nodes = there g.nodes v.0 (Error kind at) is in
      let s = (says v store inside (store_of store w)).0 h in
      let node : slice_get g.nodes (vertex_at u.vertices s.at).node.0 ≡ Some (Error kind at) = ap (slice_get g.nodes) s.here ∙ is in
      let f = has_children s.at store s.first (uncovered s.at s.counted) s.met (ap is_end node) in
      let q : Some Plain ≡ Some (Error kind at) = sym f.1 ∙ node in
      cc
    where
      there : (xs : List Node) (k : ℕ) (x : Node) → slice_get xs k ≡ Some x → k < length xs
      there [] k x e = absurd cc
      there (y ∷ xs) zero x e = omega arith
      there (y ∷ xs) (suc k) x e = omega (arith, there xs k x e)

  -- a child of an uncovered vertex is covered only by a pair of its own
  child_covered : (x : ℕ) (c : VertexId) → x < length u.vertices → c.0 < length u.vertices → (vertex_at u.vertices c.0).parent ≡ Some (id x) → is_covered u (id x) ≡ false → is_covered u c ≡ true → is_left u.pairs c.0 ≡ true
  child_covered x c lx lc e un cov =
      let q = path_is u.vertices good.family (length u.vertices) x lx lx in
      let below : x < c.0 = good.family.below c.0 (id x) lc e in
      let path : path_of u.vertices c ≡ c.0 ∷ path_of u.vertices (id x) = path_runs (step e below q) (length u.vertices) lc in
      let either : is_left u.pairs c.0 || is_covered u (id x) ≡ true = sym (ap (any_of (is_left u.pairs)) path) ∙ cov in
      elim (or_cases (is_left u.pairs c.0) (is_covered u (id x)) either) [
        | inl a ↦ a
        | inr b ↦ absurd (false≢true (sym un ∙ b))
      ]

  edge_holds : (e : ℕ) (edge : Edge) (store : List ℕ) (draws : List ℤ) (after : List ℕ) → slice_get g.edges e ≡ Some edge → IsWhole (widths_of g.cells) store → HoldsAt m edge.from store
      → Leads g.terms edge store draws after → HoldsAt m edge.to after
  edge_holds e edge store draws after get w h leads =
      let fits : EdgeFits g.nodes g.terms edge = edge-fits g e edge flow get in
      let inside : edge.from.0 < length g.nodes = there g.nodes edge.from.0 Plain fits.from in
      let s = (says edge.from store inside (store_of store w)).0 h in
      let x = s.at in
      let un = uncovered x s.counted in
      let plain : slice_get g.nodes (vertex_at u.vertices x).node.0 ≡ Some Plain = ap (slice_get g.nodes) s.here ∙ fits.from in
      let f = has_children x store s.first un s.met (ap is_end plain) in
      let F : ℕ → NodeId = λ k. record { 0 = k } in
      let from : edge.from ≡ (vertex_at u.vertices x).node = ap F (sym s.here) in
      let z : 0 + e ≡ e = omega arith in
      let among : Among (outs g (vertex_at u.vertices x).node) (record { 0 = e }) = subst (λ (i : ℕ). Among (outs g (vertex_at u.vertices x).node) (record { 0 = i })) z (among_outs 0 g.edges (vertex_at u.vertices x).node e edge get from) in
      let by = child_by u.vertices (vertex_at u.vertices x).children (outs g (vertex_at u.vertices x).node) (record { 0 = e }) f.0 among in
      let c = by.child in
      let kid = subst (λ (y : VertexId). (y.0 < length u.vertices) × ((vertex_at u.vertices y.0).parent ≡ Some (id x))) by.is (good.family.kids (id x) s.first by.at c by.first) in
      let follow : ChildFollows g u (id x) c = subst (ChildFollows g u (id x)) by.is (well.follows (id x) s.first by.at c by.first) in
      let same_edge : Some follow.0 ≡ Some (record { 0 = e }) = sym follow.1 ∙ by.by in
      let get2 : slice_get g.edges follow.0.0 ≡ Some edge = number follow.0 same_edge get in
      let met : Meets u.terms after (vertex_at u.vertices c.0).label = follow.2 edge store draws after get2 w s.met leads in
      let at : (vertex_at u.vertices c.0).node.0 ≡ edge.to.0 = ap (λ (v : NodeId). v.0) (standing.by c.0 (record { 0 = e }) by.by ∙ target_at g.edges e edge get) in
      let whole : IsWhole (widths_of g.cells) after = whole_after fits leads w in
      (says edge.to after fits.to (store_of after whole)).1 (arrived c kid.0 x s.first kid.1 un at met whole fits.to (is_covered u c) refl)
    where
      there : (xs : List Node) (k : ℕ) (x : Node) → slice_get xs k ≡ Some x → k < length xs
      there [] k x e = absurd cc
      there (y ∷ xs) zero x e = omega arith
      there (y ∷ xs) (suc k) x e = omega (arith, there xs k x e)

      number : (f : EdgeId) → Some f ≡ Some (record { 0 = e }) → slice_get g.edges e ≡ Some edge → slice_get g.edges f.0 ≡ Some edge
      number f q get = let s : f ≡ record { 0 = e } = cc in ap (λ (y : EdgeId). slice_get g.edges y.0) s ∙ get

      whole_after : EdgeFits g.nodes g.terms edge → Leads g.terms edge store draws after → IsWhole (widths_of g.cells) store → IsWhole (widths_of g.cells) after
      whole_after fits l w =
          let P : List ℕ → Type 0 = λ cs. IsWhole cs store in
          let Q : List ℕ → Type 0 = λ cs. IsWhole cs after in
          subst Q flow.cells (leads-whole g.terms edge store draws after flow.table fits.operations (subst P (sym flow.cells) w) l)

      arrived : (c : VertexId) → c.0 < length u.vertices → (x : ℕ) → x < length u.vertices → (vertex_at u.vertices c.0).parent ≡ Some (id x) → is_covered u (id x) ≡ false → (vertex_at u.vertices c.0).node.0 ≡ edge.to.0
          → Meets u.terms after (vertex_at u.vertices c.0).label → IsWhole (widths_of g.cells) after → edge.to.0 < length g.nodes → (b : Bool) → is_covered u c ≡ b → SomeMet u (length g.nodes) edge.to.0 (length u.vertices) after
      arrived c lc x lx parent un at met whole to false e = record { at = c.0; first = lc; counted = counted c.0 (omega (arith, at, to)) e; here = at; met = met }
      arrived c lc x lx parent un at met whole to true e =
          let f = pair_from u.pairs c.0 (child_covered x c lx lc parent un e) in
          let p = f.pair in
          let holds : PairHolds g u p.0 p.1 = subst (λ (q : Pair). PairHolds g u q.0 q.1) f.is (well.pairs f.at p f.first) in
          let inside = subst (λ (q : Pair). (q.0.0 < length u.vertices) × (q.1.0 < length u.vertices)) f.is (good.inside f.at p f.first) in
          let other : (vertex_at u.vertices p.1.0).node.0 ≡ edge.to.0 = ap (λ (v : NodeId). v.0) (sym holds.0) ∙ ap (λ (k : ℕ). (vertex_at u.vertices k).node.0) f.left ∙ at in
          let left : Meets u.terms after (vertex_at u.vertices p.0.0).label = subst (λ (k : ℕ). Meets u.terms after (vertex_at u.vertices k).label) (sym f.left) met in
          record { at = p.1.0; first = inside.1; counted = counted p.1.0 (omega (arith, other, to)) holds.2; here = other; met = holds.1 after whole left }

  pub inductive : IsInductive g m
  inductive = record { map = map; entry = entry_holds; edges = edge_holds; errors = error_unmet }

pub extracted_is_inductive : ExtractedIsInductive
extracted_is_inductive g u m flow table legal complete map says = inductive g u m flow table legal complete map says
