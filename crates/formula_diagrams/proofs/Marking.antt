-- Marks of the nodes that a node stands on, and the terms of the marked nodes.
use Rattle.std.proofs.Common.{◌≡◌, ◌≢◌, ℕ, ◌+◌, ◌-◌, ◌<◌, ◌≤◌, ◌==◌, Bool, true, false, List, [], ◌∷◌, ◌++◌, length, refl, sym, ap, ◌∙◌, subst, zero, suc, arith, Some, slice_get, slice_index_or, ◌⊎◌, inl, inr, nat_lt, if◌then◌else◌, take}
use Rattle.std.specs.Prelude.{slice_set}
use Rattle.std.proofs.lemmas.Bool.{cases_eq, cases_lt, ltb-true, ltb-false, eqb-true, eqb-false, both_ways}
use Rattle.std.proofs.lemmas.List.{length-set, get_or-set_same, get_or-set_other, get_or_append_left, get_or-append-add, length-append}
use Rattle.std.proofs.lemmas.Option.{same_Some}
use Rattle.bv_term.specs.declared.term.TermId.{TermId}
use Rattle.bv_term.specs.WellFormed.{Table}
use Rattle.bv_term.specs.Laws.{Extends}
use Rattle.formula_diagrams.specs.declared.items.NodeId.{NodeId}
use Rattle.formula_diagrams.specs.declared.items.Node.{Node}
use Rattle.formula_diagrams.specs.declared.writing.Side.{Side}
use Rattle.formula_diagrams.specs.declared.writing.Side.TheVariants.{Never, Always, Written}
use Rattle.formula_diagrams.specs.Shape.{Arena, IsArena, FitsNode}
use Rattle.formula_diagrams.specs.Truths.{holds}
use Rattle.formula_diagrams.specs.Writings.{AreBelow, is_marked, IsNeeded, IsClosed, marked, AreWritten, side_of, IsTruth, IsSide, SideTells}
use Rattle.formula_diagrams.proofs.Truth.{holds-false, holds-true, node-fits}
use Rattle.formula_diagrams.proofs.Pairing.{split_if}
use Rattle.formula_diagrams.proofs.Putting.{truth-stays, tells-stays}

pub mark_read : (m : List Bool) (i : ℕ) (b : Bool) → i < length m → b ≡ slice_index_or m i b → is_marked m i ≡ b
mark_read [] i b lt e = absurd (omega (arith, lt))
mark_read (x ∷ m) zero b lt e = sym e
mark_read (x ∷ m) (suc i) b lt e = mark_read m i b (omega (arith, lt)) e

pub marked-length : (m : List Bool) (n : NodeId) → length (marked m n) ≡ length m
marked-length m n = split_if (nat_lt n.0 2) m (slice_set m (n.0 - 2) true) (λ w. length w ≡ length m) (λ e. refl) (λ e. length-set m (n.0 - 2) true)

set-keeps : (m : List Bool) (i j : ℕ) → is_marked m j ≡ true → is_marked (slice_set m i true) j ≡ true
set-keeps [] i j e = e
set-keeps (x ∷ m) zero zero e = refl
set-keeps (x ∷ m) zero (suc j) e = e
set-keeps (x ∷ m) (suc i) zero e = e
set-keeps (x ∷ m) (suc i) (suc j) e = set-keeps m i j e

marked-keeps : (m : List Bool) (n : NodeId) (j : ℕ) → is_marked m j ≡ true → is_marked (marked m n) j ≡ true
marked-keeps m n j e = split_if (nat_lt n.0 2) m (slice_set m (n.0 - 2) true) (λ w. is_marked w j ≡ true) (λ t. e) (λ t. set-keeps m (n.0 - 2) j e)

needed-keeps : (m : List Bool) (n i : NodeId) → IsNeeded m i → IsNeeded (marked m n) i
needed-keeps m n i h le = marked-keeps m n (i.0 - 2) (h le)

marked-needed : (m : List Bool) (n : NodeId) → n.0 < length m + 2 → IsNeeded (marked m n) n
marked-needed m n lt = split_if (nat_lt n.0 2) m (slice_set m (n.0 - 2) true) (λ w. IsNeeded w n)
    (λ t le. absurd (let q : n.0 < 2 = ltb-true n.0 2 t in omega (arith, q, le)))
    (λ t le. get_or-set_same m (n.0 - 2) true false (omega (arith, lt, le)))

marked-other : (m : List Bool) (n : NodeId) (j : ℕ) → n.0 < j + 2 → is_marked (marked m n) j ≡ is_marked m j
marked-other m n j lt = split_if (nat_lt n.0 2) m (slice_set m (n.0 - 2) true) (λ w. is_marked w j ≡ is_marked m j)
    (λ t. refl)
    (λ t. let q : 2 ≤ n.0 = ltb-false n.0 2 t in
    let d : j ≢ n.0 - 2 = λ e. (let z : j ≡ n.0 - 2 = e in omega (arith, lt, q, z)) in
    get_or-set_other m (n.0 - 2) j true false d)

-- a marked node marks its sides
pub closed-mark : (nodes : List Node) (m : List Bool) (at : ℕ) (x : Node) → slice_get nodes at ≡ Some x → x.low.0 < at + 2 → x.high.0 < at + 2 → at < length m
    → IsClosed nodes m (at + 1) → IsClosed nodes (marked (marked m x.low) x.high) at
closed-mark nodes m at x s l h lt c k node le sk e =
    let m1 : List Bool = marked m x.low in
    let m2 : List Bool = marked m1 x.high in
    let len : length m1 ≡ length m = marked-length m x.low in
    let here : IsNeeded m2 x.low × IsNeeded m2 x.high = (
      needed-keeps m1 x.high x.low (marked-needed m x.low (omega (arith, l, lt))),
      marked-needed m1 x.high (omega (arith, h, lt, len)),
    ) in
    elim (cases_eq k at) [
      | inl q ↦
          let P : Node → Type 0 = λ y. IsNeeded m2 y.low × IsNeeded m2 y.high in
          subst P (same_Some x node (sym s ∙ ap (slice_get nodes) (sym q) ∙ sk)) here
      | inr d ↦
          let up : at + 1 ≤ k = (let n : k ≢ at = d in omega (arith, le, n)) in
          let was : is_marked m k ≡ true =
          sym (marked-other m x.low k (omega (arith, l, up))) ∙ sym (marked-other m1 x.high k (omega (arith, h, up))) ∙ e in
          let r = c k node up sk was in
          (needed-keeps m1 x.high node.low (needed-keeps m x.low node.low r.0), needed-keeps m1 x.high node.high (needed-keeps m x.low node.high r.1))
    ]

pub closed-pass : (nodes : List Node) (m : List Bool) (at : ℕ) → is_marked m at ≡ false → IsClosed nodes m (at + 1) → IsClosed nodes m at
closed-pass nodes m at off c k node le s e =
    elim (cases_eq k at) [
      | inl q ↦ absurd (both_ways (is_marked m at) off (ap (is_marked m) (sym q) ∙ e))
      | inr d ↦ c k node (let n : k ≢ at = d in omega (arith, le, n)) s e
    ]

pub closed-start : (nodes : List Node) (m : List Bool) (n : ℕ) → n ≡ length m → IsClosed nodes m n
closed-start nodes m n e k node le s t =
    absurd (both_ways (is_marked m k) (past m k (omega (arith, e, le))) t)
  where
    past : (w : List Bool) (j : ℕ) → length w ≤ j → is_marked w j ≡ false
    past [] j le = refl
    past (x ∷ w) zero le = absurd (omega (arith, le))
    past (x ∷ w) (suc j) le = past w j (omega (arith, le))

pub marked-keep : (m : List Bool) (x : Node) (j : ℕ) → is_marked m j ≡ true → is_marked (marked (marked m x.low) x.high) j ≡ true
marked-keep m x j e = marked-keeps (marked m x.low) x.high j (marked-keeps m x.low j e)

pub marked-lengths : (m : List Bool) (x : Node) → length (marked (marked m x.low) x.high) ≡ length m
marked-lengths m x = marked-length (marked m x.low) x.high ∙ marked-length m x.low

-- one more mark at the end
pub mark_last : (m : List Bool) (k : ℕ) → k ≡ length m → is_marked (m ++ true ∷ []) k ≡ true
mark_last m k e =
    let z : k ≡ length m + 0 = omega (arith, e) in
    ap (is_marked (m ++ true ∷ [])) z ∙ get_or-append-add m (true ∷ []) 0 false

-- terms of marked nodes
pub written-stays : (a : Arena) (t u : Table) (m : List Bool) (ts : List TermId) → Extends t u → AreWritten a t m ts → AreWritten a u m ts
written-stays a t u m ts g h k d lt e = truth-stays t u (slice_index_or ts k d) (λ store. holds a store (k + 2)) g (h k d lt e)

pub written-push : (a : Arena) (t : Table) (m : List Bool) (ts : List TermId) (id : TermId) → (is_marked m (length ts) ≡ true → IsTruth t id (λ store. holds a store (length ts + 2)))
    → AreWritten a t m ts → AreWritten a t m (ts ++ id ∷ [])
written-push a t m ts id new h k d lt e =
    let P : TermId → Type 0 = λ i. IsTruth t i (λ store. holds a store (k + 2)) in
    elim (cases_lt k (length ts)) [
      | inl less ↦ subst P (sym (get_or_append_left ts (id ∷ []) d k less)) (h k d less e)
      | inr le ↦
          let q : length ts ≡ k = omega (arith, le, lt, length-append ts (id ∷ [])) in
          let z : length ts + 0 ≡ k = omega (arith, q) in
          let at : slice_index_or (ts ++ id ∷ []) k d ≡ id = ap (λ (j : ℕ). slice_index_or (ts ++ id ∷ []) j d) (sym z) ∙ get_or-append-add ts (id ∷ []) 0 d in
          subst P (sym at) (subst (λ (j : ℕ). IsTruth t id (λ store. holds a store (j + 2))) q (new (ap (is_marked m) q ∙ e)))
    ]

pub written-none : (a : Arena) (t : Table) (m : List Bool) → AreWritten a t m []
written-none a t m k d lt e = absurd (omega (arith, lt))

-- sides of nodes
pub tells-side : (t : Table) (s : Side) (f : List ℕ → Bool) → SideTells t s f → IsSide t s
tells-side t Never f h = tt
tells-side t Always f h = tt
tells-side t (Written i) f h = h.bit

pub side-tells : (a : Arena) (t : Table) (m : List Bool) (ts : List TermId) (n : NodeId) → n.0 < length ts + 2 → IsNeeded m n → AreWritten a t m ts
    → SideTells t (side_of ts n) (λ store. holds a store n.0)
side-tells a t m ts n lt need h =
    let P : Side → Type 0 = λ s. SideTells t s (λ store. holds a store n.0) in
    let id : TermId = slice_index_or ts (n.0 - 2) (record { 0 = 0 }) in
    split_if (n.0 == 0) Never (if n.0 == 1 then Always else Written id) P
    (λ e store. ap (holds a store) (eqb-true n.0 0 e) ∙ holds-false a store)
    (λ e0. split_if (n.0 == 1) Always (Written id) P
    (λ e store. ap (holds a store) (eqb-true n.0 1 e) ∙ holds-true a store)
    (λ e1.
    let x : n.0 ≢ 0 = eqb-false n.0 0 e0 in
    let y : n.0 ≢ 1 = eqb-false n.0 1 e1 in
    let two : 2 ≤ n.0 = omega (arith, x, y) in
    let q : n.0 - 2 + 2 ≡ n.0 = omega (arith, two) in
    subst (λ (j : ℕ). IsTruth t id (λ store. holds a store j)) q (h (n.0 - 2) (record { 0 = 0 }) (omega (arith, lt, two)) (need two))))

-- the sides of an arena's nodes
pub are-below : (a : Arena) → IsArena a → AreBelow a.nodes
are-below a is k x s = let f = node-fits a k x is s in (f.low, f.high)

-- the number of an end has its truth
pub end-holds : (a : Arena) (n : NodeId) → n.0 < 2 → (store : List ℕ) → (n.0 == 1) ≡ holds a store n.0
end-holds a n lt store = by-end n.0 lt
  where
    by-end : (k : ℕ) → k < 2 → (k == 1) ≡ holds a store k
    by-end zero le = sym (holds-false a store)
    by-end (suc zero) le = sym (holds-true a store)
    by-end (suc (suc k)) le = absurd (omega (arith, le))

pub closed-from : (nodes : List Node) (m : List Bool) (n : ℕ) → n ≡ 0 → IsClosed nodes m n → IsClosed nodes m 0
closed-from nodes m n e h = subst (λ (k : ℕ). IsClosed nodes m k) e h

-- the next node's sides, and its term
pub next-low : (a : Arena) (t u : Table) (m : List Bool) (ts : List TermId) (place : ℕ) (x : Node) (s : Side)
    → FitsNode a.cells (place + 2) x → slice_get a.nodes place ≡ Some x → IsClosed a.nodes m 0 → is_marked m place ≡ true → length ts ≡ place
    → AreWritten a t m ts → Extends t u → s ≡ side_of ts x.low → SideTells u s (λ store. holds a store x.low.0)
next-low a t u m ts place x s f at c e l w g q =
    let need : IsNeeded m x.low = (c place x (omega arith) at e).0 in
    let told : SideTells t (side_of ts x.low) (λ store. holds a store x.low.0) = side-tells a t m ts x.low (omega (arith, f.low, l)) need w in
    subst (λ (y : Side). SideTells u y (λ store. holds a store x.low.0)) (sym q) (tells-stays t u (side_of ts x.low) (λ store. holds a store x.low.0) g told)

pub next-high : (a : Arena) (t u : Table) (m : List Bool) (ts : List TermId) (place : ℕ) (x : Node) (s : Side)
    → FitsNode a.cells (place + 2) x → slice_get a.nodes place ≡ Some x → IsClosed a.nodes m 0 → is_marked m place ≡ true → length ts ≡ place
    → AreWritten a t m ts → Extends t u → s ≡ side_of ts x.high → SideTells u s (λ store. holds a store x.high.0)
next-high a t u m ts place x s f at c e l w g q =
    let need : IsNeeded m x.high = (c place x (omega arith) at e).1 in
    let told : SideTells t (side_of ts x.high) (λ store. holds a store x.high.0) = side-tells a t m ts x.high (omega (arith, f.high, l)) need w in
    subst (λ (y : Side). SideTells u y (λ store. holds a store x.high.0)) (sym q) (tells-stays t u (side_of ts x.high) (λ store. holds a store x.high.0) g told)

-- a list that is written back over its own length
take-front : (m ys : List Bool) → take (length m) (m ++ ys) ≡ m
take-front [] ys = refl
take-front (x ∷ m) ys = ap (λ (w : List Bool). x ∷ w) (take-front m ys)

pub whole-back : (n : ℕ) (m ys : List Bool) → n ≡ length m → take n (m ++ ys) ≡ m
whole-back n m ys q = ap (λ (k : ℕ). take k (m ++ ys)) q ∙ take-front m ys
