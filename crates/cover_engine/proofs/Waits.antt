-- The vertices that may be open leaves, through each unit.
use Rattle.std.proofs.Common.{◌≡◌, ◌≢◌, ℕ, ◌+◌, ◌-◌, ◌<◌, ◌≤◌, Bool, true, false, not, cond, List, [], ◌∷◌, ◌++◌, length, Option, Some, None, ◌⊎◌, inl, inr, refl, sym, ap, ◌∙◌, subst, arith, zero, suc, get_or, slice_get, replicate, nat_eq, nat_lt, eq-eqb, ◌||◌, ◌&&◌, IsTrue, BTreeSet, if◌then◌else◌}
use Rattle.std.specs.BTreeSet.{Updates, btree_set_len}
use Rattle.std.specs.BTreeMap.{is_at}
use Rattle.std.specs.Ordering.{nat_cmp, is_lt}
use Rattle.std.specs.List.{list_any}
use Rattle.std.proofs.lemmas.Bool.{cases_Bool, cases_eq, cases_lt, and_parts, both_ways, eqb-true, le-ltb, lt-ltb, ltb-true, ne_eqb, or_cases, or_from, or_left, or_parts, or_right}
use Rattle.std.proofs.lemmas.List.{get_or_append_left, get_or-append-add, get_or_default}
use Rattle.std.specs.Prelude.{Result, Ok, Err, IfOk, OnErr}
use Rattle.bv_term.specs.declared.term.TermId.{TermId}
use Rattle.bv_term.specs.declared.term.Term.{Term}
use Rattle.bv_term.specs.Laws.{Extends, IsPut}
use Rattle.bv_term.specs.WellFormed.{Table}
use Rattle.c_graph.specs.declared.graph.Node.{Node}
use Rattle.c_graph.specs.declared.graph.NodeId.{NodeId}
use Rattle.c_graph.specs.Shape.{Flow, outs}
use Rattle.reach_tree.specs.declared.vertex.VertexId.{VertexId}
use Rattle.reach_tree.specs.declared.vertex.Vertex.{Vertex}
use Rattle.reach_tree.specs.Trees.{Branches, vertex_at, expanded, root_at}
use Rattle.cover_engine.specs.declared.unit.Apart.{Apart}
use Rattle.cover_engine.specs.declared.unit.UnitDone.{UnitDone}
use Rattle.needed_cells.specs.Formulas.{is_bit, is_false_term}
use Rattle.cover_engine.specs.Unwindings.{Unwound, Pair, has, is_complete, is_end, is_left, is_none, is_open_leaf, any_of, none_open, path_of, path_up, some_false}
use Rattle.cover_engine.specs.Caches.{AreCovers, covers, times}
use Rattle.cover_engine.specs.Openings.{AreWaiting, IsHighest, IsHighestLeaf, Widens, all_end, opens, waits}
use Rattle.cover_engine.proofs.Counting.{covers_say}
use Rattle.cover_engine.proofs.Growing.{Grown, grown}

-- sets of numbers

pub put_keeps : (old new : BTreeSet ℕ) (n : ℕ) → Updates nat_cmp old new n true → Widens old new
put_keeps old new n u k h = u.0 k ∙ by (is_at (nat_cmp n) k) (waits old k) h
  where
    by : (b c : Bool) → c ≡ true → cond b true c ≡ true
    by true c e = refl
    by false c e = e

same_keeps : (old new : BTreeSet ℕ) → new.keys ≡ old.keys → Widens old new
same_keeps old new e k h = ap (λ (ks : List ℕ). list_any (is_at (nat_cmp k)) ks) e ∙ h

not_at : (n k : ℕ) → k ≢ n → is_at (nat_cmp n) k ≡ false
not_at n k ne = elim (cases_Bool (nat_lt n k)) [
  | inl y ↦ rw y refl
  | inr x ↦ rw (x, ne_eqb n k (λ e. ne (sym e))) refl
]

pub drop_keeps : (old new : BTreeSet ℕ) (n k : ℕ) → Updates nat_cmp old new n false → k ≢ n → waits old k ≡ true → waits new k ≡ true
drop_keeps old new n k u ne h = u.2 k (not_at n k ne) ∙ h

none_any : {A : Type 0} (test : A → Bool) (xs : List A) → length xs ≡ 0 → list_any test xs ≡ false
none_any test [] e = refl
none_any test (x ∷ xs) e = absurd (omega (arith, e))

pub none_waits : (set : BTreeSet ℕ) → btree_set_len set ≡ 0 → (k : ℕ) → waits set k ≡ false
none_waits set e k = none_any (is_at (nat_cmp k)) set.keys e

pub not_below : (n k : ℕ) → is_lt (nat_cmp n k) ≡ false → k ≤ n
not_below n k h = elim (cases_lt n k) [
  | inl lt ↦ absurd (by (lt-ltb n k lt) h)
  | inr le ↦ le
]
  where
    by : nat_lt n k ≡ true → is_lt (nat_cmp n k) ≡ false → ⊥
    by y e = let e2 : true ≡ false = rw y at e in cc

-- what waits goes on waiting in a wider set
pub waiting_wider : (vs : List Vertex) (table : Table) (counts ends : List ℕ) (old new : BTreeSet ℕ) → Widens old new → AreWaiting vs table counts ends old → AreWaiting vs table counts ends new
waiting_wider vs table counts ends old new w a k lt none zero' no_false away = w k (a k lt none zero' no_false away)

-- nodes that are ends

pub ends_has : (nodes : List Node) (xs : List ℕ) (n : ℕ) → all_end nodes xs ≡ true → has n xs ≡ true → is_end (slice_get nodes n) ≡ true
ends_has nodes [] n e h = absurd cc
ends_has nodes (x ∷ xs) n e h =
    let p = and_parts (is_end (slice_get nodes x)) (all_end nodes xs) e in
    elim (or_cases (nat_eq x n) (has n xs) h) [
      | inl a ↦ (let P : ℕ → Type 0 = λ m. is_end (slice_get nodes m) ≡ true in subst P (eqb-true x n a) p.0)
      | inr b ↦ ends_has nodes xs n p.1 b
    ]

pub ends_push : (nodes : List Node) (xs : List ℕ) (n : ℕ) → all_end nodes xs ≡ true → is_end (slice_get nodes n) ≡ true → all_end nodes (xs ++ n ∷ []) ≡ true
ends_push nodes [] n e h = by (is_end (slice_get nodes n)) h
  where
    by : (b : Bool) → b ≡ true → b && true ≡ true
    by true p = refl
    by false p = absurd cc
ends_push nodes (x ∷ xs) n e h =
    let p = and_parts (is_end (slice_get nodes x)) (all_end nodes xs) e in
    by (is_end (slice_get nodes x)) (all_end nodes (xs ++ n ∷ [])) p.0 (ends_push nodes xs n p.1 h)
  where
    by : (a b : Bool) → a ≡ true → b ≡ true → a && b ≡ true
    by true b p q = q
    by false b p q = absurd cc

-- a node that is an end was noted, or there was no memory for it
pub ends_pushed : (nodes : List Node) (xs new : List ℕ) (n : ℕ) (b : Bool) → new ≡ (if b then xs ++ n ∷ [] else xs) → is_end (slice_get nodes n) ≡ true → all_end nodes xs ≡ true → all_end nodes new ≡ true
ends_pushed nodes xs new n true is e h = ap (all_end nodes) is ∙ ends_push nodes xs n h e
ends_pushed nodes xs new n false is e h = ap (all_end nodes) is ∙ h

pub has_push : (xs : List ℕ) (n m : ℕ) → has n xs ≡ true → has n (xs ++ m ∷ []) ≡ true
has_push [] n m h = absurd cc
has_push (x ∷ xs) n m h = elim (or_cases (nat_eq x n) (has n xs) h) [
  | inl a ↦ or_left (nat_eq x n) (has n (xs ++ m ∷ [])) a
  | inr b ↦ or_right (nat_eq x n) (has n (xs ++ m ∷ [])) (has_push xs n m b)
]

pub has_last : (xs : List ℕ) (n : ℕ) → has n (xs ++ n ∷ []) ≡ true
has_last [] n = or_left (nat_eq n n) false (eq-eqb n n refl)
has_last (x ∷ xs) n = or_right (nat_eq x n) (has n (xs ++ n ∷ [])) (has_last xs n)

-- a number is dropped that is no open leaf, its node being noted where that is an end

shut : (a b c d e : Bool) → a ≡ true → b ≡ true → c ≡ false → e ≡ true → a && (b && (not (c || d) && e)) ≡ false → d ≡ true
shut false b c d e pa pb pc pe h = absurd cc
shut true false c d e pa pb pc pe h = absurd cc
shut true true true d e pa pb pc pe h = absurd cc
shut true true false true e pa pb pc pe h = refl
shut true true false false false pa pb pc pe h = absurd cc
shut true true false false true pa pb pc pe h = absurd cc

childless : (vs : List Vertex) (k : ℕ) → (vertex_at vs k).children ≡ [] → is_none (vertex_at vs k).children ≡ true
childless vs k e = ap (λ (cs : List VertexId). is_none cs) e

pub waiting_drops : (nodes : List Node) (table : Table) (vs : List Vertex) (counts ends more : List ℕ) (old new : BTreeSet ℕ) (n : ℕ)
    → AreWaiting vs table counts ends old → (nat_lt n (length vs) && opens nodes table vs counts n) ≡ false
    → ((m : ℕ) → has m ends ≡ true → has m more ≡ true)
    → (n < length vs → is_end (slice_get nodes (vertex_at vs n).node.0) ≡ true → has (vertex_at vs n).node.0 more ≡ true)
    → ((k : ℕ) → k ≢ n → waits old k ≡ true → waits new k ≡ true)
    → AreWaiting vs table counts more new
waiting_drops nodes table vs counts ends more old new n a closed grows noted kept k lt none zero' no_false away =
    let apart : has (vertex_at vs k).node.0 ends ≡ false = elim (cases_Bool (has (vertex_at vs k).node.0 ends)) [
      | inl y ↦ (let e : has (vertex_at vs k).node.0 more ≡ true = grows (vertex_at vs k).node.0 y in let e2 : true ≡ false = sym e ∙ away in absurd cc)
      | inr x ↦ x
    ] in
    elim (cases_eq k n) [
      | inl is ↦
          let P : ℕ → Type 0 = λ m. (nat_lt m (length vs) && opens nodes table vs counts m) ≡ false in
          let Q : ℕ → Type 0 = λ m. m < length vs → is_end (slice_get nodes (vertex_at vs m).node.0) ≡ true → has (vertex_at vs m).node.0 more ≡ true in
          let at_end : is_end (slice_get nodes (vertex_at vs k).node.0) ≡ true =
          shut (nat_lt k (length vs)) (is_none (vertex_at vs k).children) (some_false table (vertex_at vs k).label) (is_end (slice_get nodes (vertex_at vs k).node.0)) (nat_eq (get_or counts k 0) 0)
          (lt-ltb k (length vs) lt) (childless vs k none) no_false (eq-eqb (get_or counts k 0) 0 zero') (subst P (sym is) closed) in
          let e : has (vertex_at vs k).node.0 more ≡ true = subst Q (sym is) noted lt at_end in
          let e2 : true ≡ false = sym e ∙ away in absurd cc
      | inr ne ↦ kept k ne (a k lt none zero' no_false apart)
    ]

-- an open leaf waits

open_parts : (a c d e : Bool) → a && (not (c || d) && e) ≡ true → (a ≡ true) × (c ≡ false) × (d ≡ false) × (e ≡ true)
open_parts false c d e h = absurd cc
open_parts true true d e h = absurd cc
open_parts true false true e h = absurd cc
open_parts true false false false h = absurd cc
open_parts true false false true h = (refl, refl, refl, refl)

none_nil : {A : Type 0} (xs : List A) → is_none xs ≡ true → xs ≡ []
none_nil [] h = refl
none_nil (x ∷ xs) h = absurd cc

pub open_waits : (nodes : List Node) (table : Table) (vs : List Vertex) (counts ends : List ℕ) (set : BTreeSet ℕ) (k : ℕ)
    → AreWaiting vs table counts ends set → all_end nodes ends ≡ true → k < length vs → opens nodes table vs counts k ≡ true → waits set k ≡ true
open_waits nodes table vs counts ends set k a known lt h =
    let p = open_parts (is_none (vertex_at vs k).children) (some_false table (vertex_at vs k).label) (is_end (slice_get nodes (vertex_at vs k).node.0)) (nat_eq (get_or counts k 0) 0) h in
    a k lt (none_nil (vertex_at vs k).children p.0) (eqb-true (get_or counts k 0) 0 p.3) p.1 (elim (cases_Bool (has (vertex_at vs k).node.0 ends)) [
      | inl y ↦ (let e : is_end (slice_get nodes (vertex_at vs k).node.0) ≡ true = ends_has nodes ends (vertex_at vs k).node.0 known y in let e2 : true ≡ false = sym e ∙ p.2 in absurd cc)
      | inr x ↦ x
    ])

-- the highest number that waits, if it is an open leaf
pub highest_known : (nodes : List Node) (table : Table) (vs : List Vertex) (counts ends : List ℕ) (set : BTreeSet ℕ) (n : ℕ)
    → AreWaiting vs table counts ends set → all_end nodes ends ≡ true → (nat_lt n (length vs) && opens nodes table vs counts n) ≡ true
    → ((k : ℕ) → waits set k ≡ true → k ≤ n) → IsHighest nodes table vs counts (Some (record { 0 = n }))
highest_known nodes table vs counts ends set n a known h top =
    let p = and_parts (nat_lt n (length vs)) (opens nodes table vs counts n) h in (
      ltb-true n (length vs) p.0,
      p.1,
      λ k above lt. elim (cases_Bool (opens nodes table vs counts k)) [
        | inl y ↦ (let le : k ≤ n = top k (open_waits nodes table vs counts ends set k a known lt y) in absurd (omega (arith, le, above)))
        | inr x ↦ x
      ],
    )

-- none waits
pub none_open_waits : (nodes : List Node) (table : Table) (vs : List Vertex) (counts ends : List ℕ) (set : BTreeSet ℕ)
    → AreWaiting vs table counts ends set → all_end nodes ends ≡ true → ((k : ℕ) → waits set k ≡ false) → IsHighest nodes table vs counts None
none_open_waits nodes table vs counts ends set a known empty k lt = elim (cases_Bool (opens nodes table vs counts k)) [
  | inl y ↦ (let e : waits set k ≡ true = open_waits nodes table vs counts ends set k a known lt y in let e2 : true ≡ false = sym e ∙ empty k in absurd cc)
  | inr x ↦ x
]

-- in the words of the unwinding

zero_not : (n : ℕ) → nat_eq n 0 ≡ not (nat_lt 0 n)
zero_not n = elim (cases_eq n 0) [
  | inl e ↦ eq-eqb n 0 e ∙ sym (ap not (le-ltb 0 n (omega (arith, e))))
  | inr ne ↦ ne_eqb n 0 ne ∙ sym (ap not (lt-ltb 0 n (omega (arith, ne))))
]

opens_is : (g : Flow) (u : Unwound) (counts : List ℕ) (k : ℕ) → AreCovers u.vertices u.pairs counts → k < length u.vertices
    → opens g.nodes u.terms u.vertices counts k ≡ is_open_leaf g u (record { 0 = k })
opens_is g u counts k c lt =
    ap (λ (b : Bool). is_none (vertex_at u.vertices k).children && (not (some_false u.terms (vertex_at u.vertices k).label || is_end (slice_get g.nodes (vertex_at u.vertices k).node.0)) && b))
    (zero_not (get_or counts k 0) ∙ ap not (covers_say u.vertices u.pairs k (get_or counts k 0) (c.counted k lt)))

none_open_is : (g : Flow) (u : Unwound) (n : ℕ) → ((k : ℕ) → k < n → is_open_leaf g u (record { 0 = k }) ≡ false) → none_open g u n ≡ true
none_open_is g u zero h = refl
none_open_is g u (suc n) h = rw (h n (omega arith)) (none_open_is g u n (λ k lt. h k (omega (arith, lt))))

pub highest_leaf : (g : Flow) (u : Unwound) (counts : List ℕ) (leaf : Option VertexId) → AreCovers u.vertices u.pairs counts → IsHighest g.nodes u.terms u.vertices counts leaf → IsHighestLeaf g u leaf
highest_leaf g u counts None c h = none_open_is g u (length u.vertices) (λ k lt. sym (opens_is g u counts k c lt) ∙ h k lt)
highest_leaf g u counts (Some v) c h = (h.0, (sym (opens_is g u counts v.0 c h.0) ∙ h.1, λ k above lt. sym (opens_is g u counts k.0 c lt) ∙ h.2 k.0 above lt))

-- the same in the names that the code has for the parts
pub highest_at : (g : Flow) (vs : List Vertex) (table : Table) (ps : List Pair) (js : List UnitDone) (others : List Apart) (old : Unwound) (nodes : List Node) (counts read : List ℕ) (leaf : Option VertexId)
    → record { vertices = vs; terms = table; pairs = ps; journal = js; apart = others } ≡ old → nodes ≡ g.nodes → read ≡ counts → AreCovers vs ps counts → IsHighest nodes table vs read leaf → IsHighestLeaf g old leaf
highest_at g vs table ps js others old nodes counts read leaf is at same c h =
    subst (λ (u : Unwound). IsHighestLeaf g u leaf) is (highest_leaf g (record { vertices = vs; terms = table; pairs = ps; journal = js; apart = others }) counts leaf c
    (subst (λ (cs : List ℕ). IsHighest g.nodes table vs cs leaf) same (subst (λ (ns : List Node). IsHighest ns table vs read leaf) at h)))

-- units

pub waiting_start : (g : Flow) (table : Table) (ends : List ℕ) (set : BTreeSet ℕ) → waits set 0 ≡ true → AreWaiting (root_at g.entry ∷ []) table (0 ∷ []) ends set
waiting_start g table ends set w zero lt none zero' no_false away = w
waiting_start g table ends set w (suc k) lt none zero' no_false away = absurd (omega (arith, lt))

-- children wait, and what waited
pub waiting_expanded : (g : Flow) (vs ws : List Vertex) (table : Table) (v : VertexId) (counts new ends : List ℕ) (old set : BTreeSet ℕ) (n k : ℕ)
    → ws ≡ expanded g vs v → v.0 < length vs → (vertex_at vs v.0).children ≡ [] → length counts ≡ length vs → new ≡ counts ++ replicate k n → k ≡ length (outs g (vertex_at vs v.0).node)
    → AreWaiting vs table counts ends old → Widens old set → ((j : ℕ) → length vs ≤ j → j < length vs + k → waits set j ≡ true) → AreWaiting ws table new ends set
waiting_expanded g vs ws table v counts new ends old set n k is lv childless' sized is_new ks a wide there =
    let gr : Grown vs (expanded g vs v) v k = subst (Grown vs (expanded g vs v) v) (sym ks) (grown g vs v lv) in
    subst (λ (us : List Vertex). AreWaiting us table new ends set) (sym is) (subst (λ (cs : List ℕ). AreWaiting (expanded g vs v) table cs ends set) (sym is_new) (λ j lt none zero' no_false away. elim (cases_lt j (length vs)) [
      | inl old' ↦
          let none' : (vertex_at vs j).children ≡ [] = elim (cases_eq j v.0) [
            | inl at ↦ (let P : ℕ → Type 0 = λ i. (vertex_at vs i).children ≡ [] in subst P (sym at) childless')
            | inr ne ↦ sym (gr.other j old' ne) ∙ none
          ] in
          let count : get_or counts j 0 ≡ 0 = sym (get_or_append_left counts (replicate k n) 0 j (omega (arith, old', sized))) ∙ zero' in
          let fine : some_false table (vertex_at vs j).label ≡ false = ap (some_false table) (sym (gr.label j old')) ∙ no_false in
          let far : has (vertex_at vs j).node.0 ends ≡ false = ap (λ (x : NodeId). has x.0 ends) (sym (gr.node j old')) ∙ away in
          wide j (a j old' none' count fine far)
      | inr new' ↦ there j new' (omega (arith, lt, gr.sized))
    ]))

-- counts fall, and the leaves among those whose counts fall wait
pub waiting_falls : (table : Table) (vs ws : List Vertex) (counts new drops ends : List ℕ) (old set : BTreeSet ℕ)
    → length ws ≡ length vs → length counts ≡ length vs → ((k : ℕ) → (vertex_at ws k).children ≡ (vertex_at vs k).children) → ((k : ℕ) → (vertex_at ws k).node ≡ (vertex_at vs k).node)
    → ((k : ℕ) → some_false table (vertex_at ws k).label ≡ false → some_false table (vertex_at vs k).label ≡ false)
    → ((z : ℕ) → z < length counts → get_or new z 0 + times z drops ≡ get_or counts z 0)
    → AreWaiting vs table counts ends old → Widens old set → ((k : ℕ) → 1 ≤ times k drops → (vertex_at vs k).children ≡ [] → waits set k ≡ true) → AreWaiting ws table new ends set
waiting_falls table vs ws counts new drops ends old set sized counted children nodes fine low a wide there k lt none zero' no_false away =
    let none' : (vertex_at vs k).children ≡ [] = sym (children k) ∙ none in
    let total : get_or new k 0 + times k drops ≡ get_or counts k 0 = low k (omega (arith, lt, sized, counted)) in
    elim (cases_lt 0 (times k drops)) [
      | inl some ↦ there k (omega (arith, some)) none'
      | inr nothing ↦ wide k (a k (omega (arith, lt, sized)) none' (omega (arith, total, zero', nothing)) (fine k no_false) (ap (λ (x : NodeId). has x.0 ends) (sym (nodes k)) ∙ away))
    ]

-- counts rise
pub waiting_rises : (table : Table) (vs : List Vertex) (counts new rises ends : List ℕ) (set : BTreeSet ℕ) → length counts ≡ length vs
    → ((z : ℕ) → z < length counts → get_or new z 0 ≡ get_or counts z 0 + times z rises) → AreWaiting vs table counts ends set → AreWaiting vs table new ends set
waiting_rises table vs counts new rises ends set sized high a k lt none zero' no_false away =
    a k lt none (omega (arith, high k (omega (arith, lt, sized)), zero')) no_false away

-- the table grows

get_front : {A : Type 0} (xs ys : List A) (k : ℕ) (x : A) → slice_get xs k ≡ Some x → slice_get (xs ++ ys) k ≡ Some x
get_front [] ys k x e = absurd cc
get_front (y ∷ xs) ys zero x e = e
get_front (y ∷ xs) ys (suc k) x e = get_front xs ys k x e

bit_stays : (b : ℕ) (old new : Option Term) → ((t : Term) → old ≡ Some t → new ≡ Some t) → is_bit b old ≡ true → is_bit b new ≡ true
bit_stays b None new h e = absurd cc
bit_stays b (Some t) new h e = ap (is_bit b) (h t refl) ∙ e

false_stays : (old new : Table) (t : Term) → IsPut old new t → (x : TermId) → is_false_term old x ≡ true → is_false_term new x ≡ true
false_stays old new t put x e = elim put [
  | inl same ↦ ap (λ (table : Table). is_false_term table x) same ∙ e
  | inr more ↦ bit_stays 0 (slice_get old.terms x.0) (slice_get new.terms x.0) (λ s is. ap (λ (table : Table). slice_get table.terms x.0) more.0 ∙ get_front old.terms (t ∷ []) x.0 s is) e
]

fine_before : (old new : Table) → ((x : TermId) → is_false_term old x ≡ true → is_false_term new x ≡ true) → (ts : List TermId) → some_false new ts ≡ false → some_false old ts ≡ false
fine_before old new h [] e = refl
fine_before old new h (t ∷ ts) e =
    let p = or_parts (is_false_term new t) (some_false new ts) e in
    or_from (is_false_term old t) (some_false old ts) (elim (cases_Bool (is_false_term old t)) [ inl y ↦ absurd (both_ways (is_false_term new t) p.0 (h t y)) | inr x ↦ x ]) (fine_before old new h ts p.1)

pub waiting_put : (vs : List Vertex) (old new : Table) (counts ends : List ℕ) (set : BTreeSet ℕ) (t : Term) → IsPut old new t → AreWaiting vs old counts ends set → AreWaiting vs new counts ends set
waiting_put vs old new counts ends set t put a k lt none zero' no_false away = a k lt none zero' (fine_before old new (false_stays old new t put) (vertex_at vs k).label no_false) away

pub put_or_same : {E : Type 0} (r : Result TermId E) (old new : Branches) (t : Term) → IfOk r (λ id. IsPut old.terms new.terms t) → OnErr r (new ≡ old) → IsPut old.terms new.terms t
put_or_same (Ok id) old new t a b = a
put_or_same (Err e) old new t a b = inl (ap (λ (x : Branches). x.terms) b)

false_kept : (old new : Table) → Extends old new → (x : TermId) → is_false_term old x ≡ true → is_false_term new x ≡ true
false_kept old new g x e =
    bit_stays 0 (slice_get old.terms x.0) (slice_get new.terms x.0) (λ s is. ap (λ (ts : List Term). slice_get ts x.0) g.1.1 ∙ get_front old.terms g.1.0 x.0 s is) e

pub waiting_stays : (vs : List Vertex) (old new : Table) (counts ends : List ℕ) (set : BTreeSet ℕ) → Extends old new → AreWaiting vs old counts ends set → AreWaiting vs new counts ends set
waiting_stays vs old new counts ends set g a k lt none zero' no_false away =
    a k lt none zero' (fine_before old new (false_kept old new g) (vertex_at vs k).label no_false) away
