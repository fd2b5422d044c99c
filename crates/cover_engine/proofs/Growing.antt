-- A tree that got children, and what is kept of it.
use Rattle.std.proofs.Common.{◌≡◌, ◌≢◌, ℕ, ◌+◌, ◌-◌, ◌<◌, ◌≤◌, false, List, [], ◌∷◌, ◌++◌, length, Option, Some, None, inl, inr, refl, sym, ap, ◌∙◌, subst, arith, zero, suc, get_or, replicate, nat_eq, eq-eqb, length-append}
use Rattle.std.specs.List.{All}
use Rattle.std.proofs.lemmas.Bool.{ne_eqb, cases_eq, cases_lt}
use Rattle.std.proofs.lemmas.List.{length-set, get_or-set_same, get_or-set_other, get_or_append_left, get_or-append-add, length-replicate, get_or-replicate}
use Rattle.std.proofs.Math.ListN.{get_or-eq_default}
use Rattle.c_graph.specs.declared.graph.EdgeId.{EdgeId}
use Rattle.c_graph.specs.declared.graph.Edge.{Edge}
use Rattle.c_graph.specs.Shape.{Flow, outs}
use Rattle.reach_tree.specs.declared.vertex.VertexId.{VertexId}
use Rattle.reach_tree.specs.declared.vertex.Vertex.{Vertex}
use Rattle.reach_tree.specs.Trees.{vertex_at, changed, expanded, leaves_of, numbers_from, root_at, with_children}
use Rattle.cover_engine.specs.Unwindings.{Pair, has, path_up}
use Rattle.cover_engine.specs.Caches.{AreCovers, AreInside, IsFamily, above, bit, children_at, covers, parent_is, times, vertex_numbers}
use Rattle.cover_engine.proofs.Subtrees.{parent_cases, path_enough, path_none, path_some}

-- a tree with k more vertices, the children of v
pub record Grown (vs ws : List Vertex) (v : VertexId) (k : ℕ) : Type 0 where
  pub sized : length ws ≡ length vs + k
  pub parent : (j : ℕ) → j < length vs → (vertex_at ws j).parent ≡ (vertex_at vs j).parent
  pub other : (j : ℕ) → j < length vs → j ≢ v.0 → (vertex_at ws j).children ≡ (vertex_at vs j).children
  pub this : (vertex_at ws v.0).children ≡ numbers_from (length vs) k
  pub leaf : (j : ℕ) → length vs ≤ j → j < length ws → ((vertex_at ws j).parent ≡ Some v) × ((vertex_at ws j).children ≡ [])
  pub version : (j : ℕ) → (vertex_at ws j).version ≡ (vertex_at vs j).version
  pub node : (j : ℕ) → j < length vs → (vertex_at ws j).node ≡ (vertex_at vs j).node
  pub label : (j : ℕ) → j < length vs → (vertex_at ws j).label ≡ (vertex_at vs j).label

leaves_sized : (edges : List Edge) (v : VertexId) (es : List EdgeId) → length (leaves_of edges v es) ≡ length es
leaves_sized edges v [] = refl
leaves_sized edges v (e ∷ es) = ap suc (leaves_sized edges v es)

leaf_facts : (edges : List Edge) (v : VertexId) (es : List EdgeId) (i : ℕ) → i < length es
    → ((vertex_at (leaves_of edges v es) i).parent ≡ Some v) × ((vertex_at (leaves_of edges v es) i).children ≡ []) × ((vertex_at (leaves_of edges v es) i).version ≡ 0)
leaf_facts edges v [] i lt = absurd (omega (arith, lt))
leaf_facts edges v (e ∷ es) zero lt = (refl, refl, refl)
leaf_facts edges v (e ∷ es) (suc i) lt = leaf_facts edges v es i (omega (arith, lt))

-- what stands in front and behind, for any reading of a vertex
front : (vs ls : List Vertex) (v : VertexId) (cs : List VertexId) (j : ℕ) → j < length vs → j ≢ v.0 → vertex_at (changed vs v.0 (with_children cs) ++ ls) j ≡ vertex_at vs j
front vs ls v cs j lt ne =
    get_or_append_left (changed vs v.0 (with_children cs)) ls (root_at (record { 0 = 0 })) j (omega (arith, lt, length-set vs v.0 (with_children cs (vertex_at vs v.0))))
    ∙ get_or-set_other vs v.0 j (with_children cs (vertex_at vs v.0)) (root_at (record { 0 = 0 })) ne

here : (vs ls : List Vertex) (v : VertexId) (cs : List VertexId) → v.0 < length vs → vertex_at (changed vs v.0 (with_children cs) ++ ls) v.0 ≡ with_children cs (vertex_at vs v.0)
here vs ls v cs lt =
    get_or_append_left (changed vs v.0 (with_children cs)) ls (root_at (record { 0 = 0 })) v.0 (omega (arith, lt, length-set vs v.0 (with_children cs (vertex_at vs v.0))))
    ∙ get_or-set_same vs v.0 (with_children cs (vertex_at vs v.0)) (root_at (record { 0 = 0 })) lt

behind : (vs ls : List Vertex) (v : VertexId) (cs : List VertexId) (j : ℕ) → length vs ≤ j → vertex_at (changed vs v.0 (with_children cs) ++ ls) j ≡ vertex_at ls (j - length vs)
behind vs ls v cs j le =
    let l : length (changed vs v.0 (with_children cs)) ≡ length vs = length-set vs v.0 (with_children cs (vertex_at vs v.0)) in
    let s : j ≡ length (changed vs v.0 (with_children cs)) + (j - length vs) = omega (arith, le, l) in
    ap (vertex_at (changed vs v.0 (with_children cs) ++ ls)) s
    ∙ get_or-append-add (changed vs v.0 (with_children cs)) ls (j - length vs) (root_at (record { 0 = 0 }))

pub grown : (g : Flow) (vs : List Vertex) (v : VertexId) → v.0 < length vs → Grown vs (expanded g vs v) v (length (outs g (vertex_at vs v.0).node))
grown g vs v lt =
    let es : List EdgeId = outs g (vertex_at vs v.0).node in
    let cs : List VertexId = numbers_from (length vs) (length es) in
    let ls : List Vertex = leaves_of g.edges v es in
    let ws : List Vertex = expanded g vs v in
    let sized : length ws ≡ length vs + length es =
    length-append (changed vs v.0 (with_children cs)) ls ∙ omega (arith, length-set vs v.0 (with_children cs (vertex_at vs v.0)), leaves_sized g.edges v es) in
    record {
      sized = sized;
      parent = λ j lj. elim (cases_eq j v.0) [
        | inl is ↦ (let P : ℕ → Type 0 = λ i. (vertex_at ws i).parent ≡ (vertex_at vs i).parent in subst P (sym is) (ap (λ (x : Vertex). x.parent) (here vs ls v cs lt)))
        | inr ne ↦ ap (λ (x : Vertex). x.parent) (front vs ls v cs j lj ne)
      ];
      other = λ j lj ne. ap (λ (x : Vertex). x.children) (front vs ls v cs j lj ne);
      this = ap (λ (x : Vertex). x.children) (here vs ls v cs lt);
      leaf = λ j le lj.
          let f = leaf_facts g.edges v es (j - length vs) (omega (arith, le, lj, sized)) in
          (ap (λ (x : Vertex). x.parent) (behind vs ls v cs j le) ∙ f.0, ap (λ (x : Vertex). x.children) (behind vs ls v cs j le) ∙ f.1);
      version = λ j. elim (cases_lt j (length vs)) [
        | inl lj ↦ elim (cases_eq j v.0) [
          | inl is ↦ (let P : ℕ → Type 0 = λ i. (vertex_at ws i).version ≡ (vertex_at vs i).version in subst P (sym is) (ap (λ (x : Vertex). x.version) (here vs ls v cs lt)))
          | inr ne ↦ ap (λ (x : Vertex). x.version) (front vs ls v cs j lj ne)
        ]
        | inr le ↦
            let old : (vertex_at vs j).version ≡ 0 = ap (λ (x : Vertex). x.version) (get_or-eq_default vs (root_at (record { 0 = 0 })) le) in
            elim (cases_lt j (length ws)) [
              | inl lj ↦ ap (λ (x : Vertex). x.version) (behind vs ls v cs j le) ∙ (leaf_facts g.edges v es (j - length vs) (omega (arith, le, lj, sized))).2 ∙ sym old
              | inr past ↦ ap (λ (x : Vertex). x.version) (get_or-eq_default ws (root_at (record { 0 = 0 })) past) ∙ sym old
            ]
      ];
      node = λ j lj. elim (cases_eq j v.0) [
        | inl is ↦ (let P : ℕ → Type 0 = λ i. (vertex_at ws i).node ≡ (vertex_at vs i).node in subst P (sym is) (ap (λ (x : Vertex). x.node) (here vs ls v cs lt)))
        | inr ne ↦ ap (λ (x : Vertex). x.node) (front vs ls v cs j lj ne)
      ];
      label = λ j lj. elim (cases_eq j v.0) [
        | inl is ↦ (let P : ℕ → Type 0 = λ i. (vertex_at ws i).label ≡ (vertex_at vs i).label in subst P (sym is) (ap (λ (x : Vertex). x.label) (here vs ls v cs lt)))
        | inr ne ↦ ap (λ (x : Vertex). x.label) (front vs ls v cs j lj ne)
      ];
    }

-- the new numbers

times_before : (n k z : ℕ) → z < n → times z (vertex_numbers (numbers_from n k)) ≡ 0
times_before n zero z lt = refl
times_before n (suc k) z lt =
    let e : bit (nat_eq z n) ≡ 0 = ap bit (ne_eqb z n (λ is. omega (arith, lt, is))) in
    let ih : times z (vertex_numbers (numbers_from (n + 1) k)) ≡ 0 = times_before (n + 1) k z (omega (arith, lt)) in
    omega (arith, e, ih)

times_among : (n k z : ℕ) → n ≤ z → z < n + k → times z (vertex_numbers (numbers_from n k)) ≡ 1
times_among n zero z le lt = absurd (omega (arith, le, lt))
times_among n (suc k) z le lt = elim (cases_eq z n) [
  | inl is ↦
      let e : bit (nat_eq z n) ≡ 1 = ap bit (eq-eqb z n is) in
      let none : times z (vertex_numbers (numbers_from (n + 1) k)) ≡ 0 = times_before (n + 1) k z (omega (arith, is)) in
      omega (arith, e, none)
  | inr ne ↦
      let e : bit (nat_eq z n) ≡ 0 = ap bit (ne_eqb z n ne) in
      let ih : times z (vertex_numbers (numbers_from (n + 1) k)) ≡ 1 = times_among (n + 1) k z (omega (arith, le, ne)) (omega (arith, lt)) in
      omega (arith, e, ih)
]

from_inside : (n k : ℕ) → All (λ c. c < n + k) (vertex_numbers (numbers_from n k))
from_inside n zero = λ j d lt. absurd (omega (arith, lt))
from_inside n (suc k) =
    let rest : All (λ c. c < (n + 1) + k) (vertex_numbers (numbers_from (n + 1) k)) = from_inside (n + 1) k in
    λ j d lt. elim j as (λ i. i < suc (length (vertex_numbers (numbers_from (n + 1) k))) → get_or (n ∷ vertex_numbers (numbers_from (n + 1) k)) i d < n + suc k) [
      | zero ↦ (λ _. omega arith)
      | suc i ↦ (λ l. let r : get_or (vertex_numbers (numbers_from (n + 1) k)) i d < (n + 1) + k = rest i d (omega (arith, l)) in omega (arith, r))
    ] lt

times_none : (m z : ℕ) (xs : List ℕ) → All (λ c. c < m) xs → m ≤ z → times z xs ≡ 0
times_none m z [] all le = refl
times_none m z (x ∷ xs) all le =
    let lx : x < m = all 0 x (omega arith) in
    let e : bit (nat_eq z x) ≡ 0 = ap bit (ne_eqb z x (λ is. omega (arith, lx, le, is))) in
    let ih : times z xs ≡ 0 = times_none m z xs (λ k d lt. all (suc k) d (omega (arith, lt))) le in
    omega (arith, e, ih)

all_wider : (m n : ℕ) (xs : List ℕ) → m ≤ n → All (λ c. c < m) xs → All (λ c. c < n) xs
all_wider m n xs le all k d lt = let l : get_or xs k d < m = all k d lt in omega (arith, l, le)

not_parent : (o : Option VertexId) (x : ℕ) → ((p : VertexId) → o ≡ Some p → p.0 ≢ x) → parent_is o x ≡ 0
not_parent None x h = refl
not_parent (Some p) x h = ap bit (ne_eqb p.0 x (h p refl))

once_grown : (vs ws : List Vertex) (v : VertexId) (k : ℕ) → v.0 < length vs → (vertex_at vs v.0).children ≡ [] → Grown vs ws v k → IsFamily vs
    → (x z : ℕ) → x < length ws → z < length ws → times z (children_at ws x) ≡ parent_is (vertex_at ws z).parent x
once_grown vs ws v k lv none g f x z lx lz = elim (cases_lt x (length vs)) [
  | inl l ↦ elim (cases_eq x v.0) [
    | inl is ↦
        let list : times z (children_at ws x) ≡ times z (vertex_numbers (numbers_from (length vs) k)) = ap (λ (i : ℕ). times z (children_at ws i)) is ∙ ap (λ (cs : List VertexId). times z (vertex_numbers cs)) g.this in
        elim (cases_lt z (length vs)) [
          | inl old ↦
              let zero' : times z (children_at vs x) ≡ 0 = ap (λ (i : ℕ). times z (children_at vs i)) is ∙ ap (λ (cs : List VertexId). times z (vertex_numbers cs)) none in
              list ∙ times_before (length vs) k z old ∙ sym zero' ∙ f.once x z l old ∙ ap (λ (o : Option VertexId). parent_is o x) (sym (g.parent z old))
          | inr new ↦
              list ∙ times_among (length vs) k z new (omega (arith, lz, g.sized)) ∙ sym (ap bit (eq-eqb v.0 x (sym is))) ∙ ap (λ (o : Option VertexId). parent_is o x) (sym (g.leaf z new lz).0)
        ]
    | inr ne ↦
        let list : times z (children_at ws x) ≡ times z (children_at vs x) = ap (λ (cs : List VertexId). times z (vertex_numbers cs)) (g.other x l ne) in
        elim (cases_lt z (length vs)) [
          | inl old ↦ list ∙ f.once x z l old ∙ ap (λ (o : Option VertexId). parent_is o x) (sym (g.parent z old))
          | inr new ↦
              let off : parent_is (Some v) x ≡ 0 = ap bit (ne_eqb v.0 x (λ e. ne (sym e))) in
              list ∙ times_none (length vs) z (children_at vs x) (f.inside x l) new ∙ sym off ∙ ap (λ (o : Option VertexId). parent_is o x) (sym (g.leaf z new lz).0)
        ]
  ]
  | inr le ↦
      let list : times z (children_at ws x) ≡ 0 = ap (λ (cs : List VertexId). times z (vertex_numbers cs)) (g.leaf x le lx).1 in
      list ∙ sym (not_parent (vertex_at ws z).parent x (λ p e is. elim (cases_lt z (length vs)) [
        | inl old ↦ (let low : p.0 < z = f.lower z p old (sym (g.parent z old) ∙ e) in omega (arith, low, old, le, is))
        | inr new ↦ (let same : v ≡ p = (let q : Some v ≡ Some p = sym (g.leaf z new lz).0 ∙ e in cc) in let n : v.0 ≡ p.0 = ap (λ (y : VertexId). y.0) same in omega (arith, n, lv, le, is))
      ]))
]

pub family_grown : (vs ws : List Vertex) (v : VertexId) (k : ℕ) → v.0 < length vs → (vertex_at vs v.0).children ≡ [] → Grown vs ws v k → IsFamily vs → IsFamily ws
family_grown vs ws v k lv none g f = record {
  lower = λ j p lj e. elim (cases_lt j (length vs)) [
    | inl l ↦ f.lower j p l (sym (g.parent j l) ∙ e)
    | inr le ↦ (let same : v ≡ p = (let q : Some v ≡ Some p = sym (g.leaf j le lj).0 ∙ e in cc) in let n : v.0 ≡ p.0 = ap (λ (x : VertexId). x.0) same in omega (arith, n, lv, le))
  ];
  inside = λ j lj. elim (cases_lt j (length vs)) [
    | inl l ↦ elim (cases_eq j v.0) [
      | inl is ↦
          let P : ℕ → Type 0 = λ i. All (λ c. c < length ws) (children_at ws i) in
          let Q : List ℕ → Type 0 = λ xs. All (λ c. c < length ws) xs in
          let R : ℕ → Type 0 = λ n. All (λ c. c < n) (vertex_numbers (numbers_from (length vs) k)) in
          subst P (sym is) (subst Q (sym (ap vertex_numbers g.this)) (subst R (sym g.sized) (from_inside (length vs) k)))
      | inr ne ↦
          let Q : List ℕ → Type 0 = λ xs. All (λ c. c < length ws) xs in
          subst Q (sym (ap vertex_numbers (g.other j l ne))) (all_wider (length vs) (length ws) (children_at vs j) (omega (arith, g.sized)) (f.inside j l))
    ]
    | inr le ↦
        let Q : List ℕ → Type 0 = λ xs. All (λ c. c < length ws) xs in
        subst Q (sym (ap vertex_numbers (g.leaf j le lj).1)) (λ i d lt. absurd (omega (arith, lt)))
  ];
  once = λ x z lx lz. once_grown vs ws v k lv none g f x z lx lz;
}

-- paths and counts

pub path_grown : (vs ws : List Vertex) (v : VertexId) (k : ℕ) → Grown vs ws v k → IsFamily vs → (n z : ℕ) → z < length vs → path_up ws n z ≡ path_up vs n z
path_grown vs ws v k g f zero z lz = refl
path_grown vs ws v k g f (suc n) z lz = elim (parent_cases vs z) [
  | inl e ↦ path_none ws n z (g.parent z lz ∙ e) ∙ sym (path_none vs n z e)
  | inr w ↦
      let low : w.0.0 < z = f.lower z w.0 lz w.1 in
      path_some ws n z w.0 (g.parent z lz ∙ w.1)
      ∙ ap (λ (xs : List ℕ). z ∷ xs) (path_grown vs ws v k g f n w.0.0 (omega (arith, low, lz)))
      ∙ sym (path_some vs n z w.0 w.1)
]

covers_old : (vs ws : List Vertex) (v : VertexId) (k : ℕ) → Grown vs ws v k → IsFamily vs → (ps : List Pair) (z : ℕ) → z < length vs → covers ws ps z ≡ covers vs ps z
covers_old vs ws v k g f [] z lz = refl
covers_old vs ws v k g f (p ∷ ps) z lz =
    let path : path_up ws (length ws) z ≡ path_up vs (length vs) z = path_grown vs ws v k g f (length ws) z lz ∙ path_enough vs f (length ws) (length vs) z (omega (arith, lz, g.sized)) lz lz in
    let a : above ws p.0.0 z ≡ above vs p.0.0 z = ap (λ (xs : List ℕ). bit (has p.0.0 xs)) path in
    omega (arith, a, covers_old vs ws v k g f ps z lz)

covers_leaf : (vs ws : List Vertex) (v : VertexId) (k : ℕ) → Grown vs ws v k → IsFamily vs → v.0 < length vs → (ps : List Pair) → AreInside vs ps → (z : ℕ) → length vs ≤ z → z < length ws → covers ws ps z ≡ covers vs ps v.0
covers_leaf vs ws v k g f lv [] all z le lz = refl
covers_leaf vs ws v k g f lv (p ∷ ps) all z le lz =
    let m : ℕ = length ws - 1 in
    let s : length ws ≡ suc (length ws - 1) = omega (arith, lz) in
    let path : path_up ws (length ws) z ≡ z ∷ path_up vs (length vs) v.0 =
    ap (λ (n : ℕ). path_up ws n z) s
    ∙ path_some ws (length ws - 1) z v (g.leaf z le lz).0
    ∙ ap (λ (xs : List ℕ). z ∷ xs) (path_grown vs ws v k g f (length ws - 1) v.0 lv ∙ path_enough vs f (length ws - 1) (length vs) v.0 (omega (arith, lv, le, lz)) lv lv) in
    let lp : p.0.0 < length vs = (all 0 p (omega arith)).0 in
    let off : nat_eq z p.0.0 ≡ false = ne_eqb z p.0.0 (λ is. omega (arith, lp, le, is)) in
    let a : above ws p.0.0 z ≡ above vs p.0.0 v.0 = ap (λ (xs : List ℕ). bit (has p.0.0 xs)) path ∙ rw off refl in
    omega (arith, a, covers_leaf vs ws v k g f lv ps (λ i d lt. all (suc i) d (omega (arith, lt))) z le lz)

pub counts_grown : (vs ws : List Vertex) (v : VertexId) (k n : ℕ) → Grown vs ws v k → IsFamily vs → v.0 < length vs → (ps : List Pair) → AreInside vs ps → (counts new : List ℕ)
    → new ≡ counts ++ replicate k n → n ≡ get_or counts v.0 0 → AreCovers vs ps counts → AreCovers ws ps new
counts_grown vs ws v k n g f lv ps all counts new is at c =
    let tail : length (replicate k n) ≡ k = length-replicate k n in
    record {
      sized = ap length is ∙ length-append counts (replicate k n) ∙ omega (arith, tail, c.sized, g.sized);
      counted = λ z lz. elim (cases_lt z (length vs)) [
        | inl old ↦ ap (λ (xs : List ℕ). get_or xs z 0) is ∙ get_or_append_left counts (replicate k n) 0 z (omega (arith, old, c.sized)) ∙ c.counted z old ∙ sym (covers_old vs ws v k g f ps z old)
        | inr le ↦
            let e : z ≡ length counts + (z - length vs) = omega (arith, le, c.sized) in
            ap (λ (xs : List ℕ). get_or xs z 0) is ∙ ap (λ (i : ℕ). get_or (counts ++ replicate k n) i 0) e ∙ get_or-append-add counts (replicate k n) (z - length vs) 0
            ∙ get_or-replicate k (z - length vs) n 0 (omega (arith, le, lz, g.sized)) ∙ at ∙ c.counted v.0 lv ∙ sym (covers_leaf vs ws v k g f lv ps all z le lz)
      ];
    }

pub inside_grown : (vs ws : List Vertex) (ps : List Pair) → length vs ≤ length ws → AreInside vs ps → AreInside ws ps
inside_grown vs ws ps le all k d lt = let a = all k d lt in (omega (arith, a.0, le), omega (arith, a.1, le))
