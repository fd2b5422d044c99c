-- The vertices of a node are found from the last one on.
use Rattle.std.proofs.Common.{◌≡◌, ◌∙◌, ℕ, ◌+◌, ◌-◌, ◌<◌, ◌≤◌, ◌==◌, ◌⊎◌, inl, inr, Bool, true, false, List, [], ◌∷◌, ◌++◌, length, zero, suc, refl, sym, ap, subst, arith, slice_index, slice_index_or, slice_set, if◌then◌else◌, length-append, append_assoc}
use Rattle.std.proofs.lemmas.Bool.{cases_eq, cases_lt, cond-true, cond-false, eq-eqb, eqb-false, eqb-true, ne_eqb}
use Rattle.std.proofs.lemmas.List.{get_or_default, length-set, get_or-set_same, get_or-set_other, get_or_append_left, get_or-append-add}
use Rattle.reach_tree.specs.declared.vertex.VertexId.{VertexId}
use Rattle.reach_tree.specs.declared.vertex.Vertex.{Vertex}
use Rattle.reach_tree.specs.Trees.{root_at, vertex_at}
use Rattle.explore.specs.Standing.{AreBeside, SameNodes, last_at, node_at, standing}
use Rattle.explore.specs.Settling.{AreFalling, IsOneOf}

-- the last one below a number
last-low : (vs : List Vertex) (x n : ℕ) → last_at vs x n ≤ n
last-low vs x zero = omega arith
last-low vs x (suc n) = by (node_at vs n == x) (last-low vs x n)
  where
    by : (b : Bool) → last_at vs x n ≤ n → (if b then suc n else last_at vs x n) ≤ suc n
    by true le = omega arith
    by false le = omega (arith, le)

last-there : (vs : List Vertex) (x n m : ℕ) → last_at vs x n ≡ suc m → node_at vs m ≡ x
last-there vs x zero m e = absurd (omega (arith, e))
last-there vs x (suc n) m e = by (node_at vs n == x) refl e (last-there vs x n m)
  where
    by : (b : Bool) → (node_at vs n == x) ≡ b → (if b then suc n else last_at vs x n) ≡ suc m → (last_at vs x n ≡ suc m → node_at vs m ≡ x) → node_at vs m ≡ x
    by true is e ih = let same : n ≡ m = omega (arith, e) in subst (λ (k : ℕ). node_at vs k ≡ x) same (eqb-true (node_at vs n) x is)
    by false is e ih = ih e

-- the vertices from the last one on
standing-last : (vs : List Vertex) (x n : ℕ) → standing vs x n ≡ standing vs x (last_at vs x n)
standing-last vs x zero = refl
standing-last vs x (suc n) = by (node_at vs n == x) refl (standing-last vs x n)
  where
    by : (b : Bool) → (node_at vs n == x) ≡ b → standing vs x n ≡ standing vs x (last_at vs x n)
        → (if b then record { 0 = n } ∷ standing vs x n else standing vs x n) ≡ standing vs x (if b then suc n else last_at vs x n)
    by true is ih = sym (cond-true (node_at vs n == x) (record { 0 = n } ∷ standing vs x n) (standing vs x n) is)
    by false is ih = ih

standing-more : (vs : List Vertex) (x m : ℕ) → node_at vs m ≡ x → standing vs x (suc m) ≡ record { 0 = m } ∷ standing vs x m
standing-more vs x m e = cond-true (node_at vs m == x) (record { 0 = m } ∷ standing vs x m) (standing vs x m) (eq-eqb (node_at vs m) x e)

-- a place is one more than the number of a vertex at the node, or 0
abbrev pub IsPlace : List Vertex → ℕ → ℕ → Type 0
IsPlace vs x place = (m : ℕ) → place ≡ suc m → node_at vs m ≡ x

-- one step of the walk from the last one on
pub record Walked (vs : List Vertex) (x place : ℕ) (found whole : List VertexId) : Type 0 where
  pub there : IsPlace vs x place
  pub rest : found ++ standing vs x place ≡ whole

pub walk-begins : (vs : List Vertex) (x n place : ℕ) (found : List VertexId) → found ≡ [] → place ≡ last_at vs x n
    → (place ≤ n) × Walked vs x place found (standing vs x n)
walk-begins vs x n place found none e =
    let low : last_at vs x n ≤ n = last-low vs x n in (
      omega (arith, low, e),
      record {
        there = λ m is. last-there vs x n m (sym e ∙ is);
        rest =
            ap (λ (ys : List VertexId). ys ++ standing vs x place) none ∙ ap (standing vs x) e ∙ sym (standing-last vs x n);
      },
    )

pub walk-goes-on : (vs : List Vertex) (x place next : ℕ) (found new whole : List VertexId) (w : VertexId) → 0 < place → w.0 ≡ place - 1
    → new ≡ found ++ w ∷ [] → next ≡ last_at vs (node_at vs (place - 1)) (place - 1) → Walked vs x place found whole
    → (next ≤ place - 1) × Walked vs x next new whole
walk-goes-on vs x zero next found new whole w pos at more is h = absurd (omega (arith, pos))
walk-goes-on vs x (suc m) next found new whole w pos at more is h =
    let one : suc m - 1 ≡ m = omega arith in
    let here : node_at vs m ≡ x = h.there m refl in
    let last : next ≡ last_at vs x m = is ∙ ap (λ (k : ℕ). last_at vs (node_at vs k) k) one ∙ ap (λ (y : ℕ). last_at vs y m) here in
    let low : last_at vs x m ≤ m = last-low vs x m in
    let same : w ≡ record { 0 = m } = ap (λ (k : ℕ). let v : VertexId = record { 0 = k } in v) (at ∙ one) in (
      omega (arith, low, last),
      record {
        there = λ k e. last-there vs x m k (sym last ∙ e);
        rest =
            ap (λ (ys : List VertexId). ys ++ standing vs x next) more
            ∙ append_assoc found (w ∷ []) (standing vs x next)
            ∙ ap (λ (v : VertexId). found ++ v ∷ standing vs x next) same
            ∙ ap (λ (ys : List VertexId). found ++ record { 0 = m } ∷ ys) (ap (standing vs x) last ∙ sym (standing-last vs x m))
            ∙ ap (λ (ys : List VertexId). found ++ ys) (sym (standing-more vs x m here))
            ∙ h.rest;
      },
    )

append-none : (xs : List VertexId) → xs ++ [] ≡ xs
append-none [] = refl
append-none (x ∷ xs) = ap (λ (ys : List VertexId). x ∷ ys) (append-none xs)

pub walk-ends : (vs : List Vertex) (x place : ℕ) (found whole : List VertexId) → place ≤ 0 → Walked vs x place found whole → found ≡ whole
walk-ends vs x place found whole le h =
    let z : place ≡ 0 = omega (arith, le) in
    sym (append-none found) ∙ ap (λ (k : ℕ). found ++ standing vs x k) (sym z) ∙ h.rest

-- the same, read off what is kept
pub place-first : (vs : List Vertex) (before last : List ℕ) (v place : ℕ) (found : List VertexId) → AreBeside vs before last → v < length before
    → place ≡ slice_index_or before v place → found ≡ [] → (place ≤ v) × Walked vs (node_at vs v) place found (standing vs (node_at vs v) v)
place-first vs before last v place found h lt is none =
    walk-begins vs (node_at vs v) v place found none (is ∙ get_or_default before v place 0 lt ∙ h.earlier v lt)

pub place-next : (vs : List Vertex) (before last : List ℕ) (x v place next : ℕ) (found new whole : List VertexId) (w : VertexId) → AreBeside vs before last → v < length before
    → place ≤ v → 0 < place → w.0 ≡ place - 1 → new ≡ found ++ w ∷ [] → next ≡ slice_index_or before (place - 1) next → Walked vs x place found whole
    → (next < place) × (next ≤ v) × Walked vs x next new whole
place-next vs before last x v place next found new whole w h lt low pos at more is walked =
    let less : place - 1 < length before = omega (arith, lt, low, pos) in
    let (down, on) = walk-goes-on vs x place next found new whole w pos at more (is ∙ get_or_default before (place - 1) next 0 less ∙ h.earlier (place - 1) less) walked in
    (omega (arith, down, pos), omega (arith, down, low), on)

-- nothing is kept at first
pub beside-begins : (vs : List Vertex) (before last : List ℕ) → before ≡ [] → ((x : ℕ) → slice_index last x ≡ 0) → AreBeside vs before last
beside-begins vs before last none zeros =
    let z : length before ≡ 0 = ap length none in
    record {
      few = omega (arith, z);
      earlier = λ k lt. absurd (omega (arith, lt, z));
      latest = λ x lt. zeros x ∙ ap (last_at vs x) (sym z);
    }

-- one vertex more
module _ (vs : List Vertex) (before last before' last' : List ℕ) (h : AreBeside vs before last) (lt : length before < length vs)
    (there : node_at vs (length before) < length last) (one : before' ≡ before ++ slice_index last (node_at vs (length before)) ∷ [])
    (put : last' ≡ slice_set last (node_at vs (length before)) (length before + 1)) where
  abbrev n : ℕ
  n = length before

  abbrev y : ℕ
  y = node_at vs n

  more : length before' ≡ n + 1
  more = ap length one ∙ length-append before (slice_index last y ∷ [])

  kept : (k : ℕ) → k < n + 1 → slice_index before' k ≡ last_at vs (node_at vs k) k
  kept k less = elim (cases_lt k n) [
    | inl a ↦ ap (λ (xs : List ℕ). slice_index xs k) one ∙ get_or_append_left before (slice_index last y ∷ []) 0 k a ∙ h.earlier k a
    | inr b ↦ (
        let e : k ≡ n + 0 = omega (arith, b, less) in
        let e' : n ≡ k = omega (arith, e) in
        ap (λ (xs : List ℕ). slice_index xs k) one ∙ ap (slice_index (before ++ slice_index last y ∷ [])) e
        ∙ get_or-append-add before (slice_index last y ∷ []) 0 0 ∙ h.latest y there ∙ ap (λ (i : ℕ). last_at vs (node_at vs i) i) e')
  ]

  noted : (x : ℕ) → x < length last' → slice_index last' x ≡ last_at vs x (length before')
  noted x less =
      let sized : length last' ≡ length last = ap length put ∙ length-set last y (n + 1) in
      let inside : x < length last = omega (arith, less, sized) in
      let next : length before' ≡ suc n = omega (arith, more) in
      ap (λ (xs : List ℕ). slice_index xs x) put ∙ way inside (cases_eq x y) ∙ ap (last_at vs x) (sym next)
    where
      way : x < length last → (x ≡ y) ⊎ (x ≡ y → ⊥) → slice_index (slice_set last y (n + 1)) x ≡ last_at vs x (suc n)
      way inside (inl e) =
          let s : n + 1 ≡ suc n = omega arith in
          ap (slice_index (slice_set last y (n + 1))) e ∙ get_or-set_same last y (n + 1) 0 there ∙ s
          ∙ sym (cond-true (node_at vs n == x) (suc n) (last_at vs x n) (eq-eqb (node_at vs n) x (sym e)))
      way inside (inr ne) =
          get_or-set_other last y x (n + 1) 0 ne ∙ h.latest x inside
          ∙ sym (cond-false (node_at vs n == x) (suc n) (last_at vs x n) (ne_eqb (node_at vs n) x (λ e. ne (sym e))))

  pub beside-more : AreBeside vs before' last'
  beside-more = record {
    few = omega (arith, more, lt);
    earlier = λ k less. kept k (omega (arith, less, more));
    latest = noted;
  }

-- the vertex of a number was noted
pub beside-noted : (vs ws : List Vertex) (before last before' last' : List ℕ) (k : ℕ) (x : Vertex) → ws ≡ vs → k ≡ length before → k < length vs
    → node_at vs k < length last → before' ≡ before ++ slice_index last (slice_index_or ws k x).node.0 ∷ [] → last' ≡ slice_set last (slice_index_or ws k x).node.0 (length before + 1) → AreBeside vs before last
    → (k + 1 ≡ length before') × (length last' ≡ length last) × AreBeside vs before' last'
beside-noted vs ws before last before' last' k x same at lt there one put h =
    let here : slice_index_or ws k x ≡ vertex_at vs k = ap (λ (us : List Vertex). slice_index_or us k x) same ∙ get_or_default vs k x (root_at (record { 0 = 0 })) lt in
    let node : (slice_index_or ws k x).node.0 ≡ node_at vs (length before) = ap (λ (v : Vertex). v.node.0) here ∙ ap (node_at vs) at in
    let one' : before' ≡ before ++ slice_index last (node_at vs (length before)) ∷ [] = one ∙ ap (λ (y : ℕ). before ++ slice_index last y ∷ []) node in
    let put' : last' ≡ slice_set last (node_at vs (length before)) (length before + 1) = put ∙ ap (λ (y : ℕ). slice_set last y (length before + 1)) node in
    let inside : node_at vs (length before) < length last = subst (λ (n : ℕ). node_at vs n < length last) at there in
    let more : length before' ≡ length before + 1 = ap length one' ∙ length-append before (slice_index last (node_at vs (length before)) ∷ []) in (
      omega (arith, more, at),
      ap length put' ∙ length-set last (node_at vs (length before)) (length before + 1),
      beside-more vs before last before' last' h (omega (arith, lt, at)) inside one' put',
    )

-- what is kept stays so where nodes do
last-same : (vs ws : List Vertex) → SameNodes vs ws → (x n : ℕ) → n ≤ length vs → last_at ws x n ≡ last_at vs x n
last-same vs ws s x zero le = refl
last-same vs ws s x (suc n) le =
    ap (λ (y : ℕ). if y == x then suc n else last_at ws x n) (s.nodes n (omega (arith, le)))
    ∙ ap (λ (m : ℕ). if node_at vs n == x then suc n else m) (last-same vs ws s x n (omega (arith, le)))

pub beside-stays : (vs ws : List Vertex) (before last : List ℕ) → SameNodes vs ws → AreBeside vs before last → AreBeside ws before last
beside-stays vs ws before last s h =
    let few = h.few in
    let sized = s.sized in
    record {
      few = omega (arith, few, sized);
      earlier = λ k lt.
          h.earlier k lt ∙ sym (last-same vs ws s (node_at vs k) k (omega (arith, lt, few)))
          ∙ ap (λ (y : ℕ). last_at ws y k) (sym (s.nodes k (omega (arith, lt, few))));
      latest = λ x lt. h.latest x lt ∙ sym (last-same vs ws s x (length before) few);
    }

-- the vertices at a node below a number
pub standing-low : (vs : List Vertex) (x n k : ℕ) → IsOneOf (standing vs x n) k → k < n
standing-low vs x zero k h = absurd h
standing-low vs x (suc n) k h = by (node_at vs n == x) h (standing-low vs x n k)
  where
    by : (b : Bool) → IsOneOf (if b then record { 0 = n } ∷ standing vs x n else standing vs x n) k → (IsOneOf (standing vs x n) k → k < n) → k < suc n
    by true (inl e) ih = omega (arith, e)
    by true (inr h) ih = let lt = ih h in omega (arith, lt)
    by false h ih = let lt = ih h in omega (arith, lt)

pub standing-all : (vs : List Vertex) (x n k : ℕ) → k < n → node_at vs k ≡ x → IsOneOf (standing vs x n) k
standing-all vs x zero k lt e = absurd (omega (arith, lt))
standing-all vs x (suc n) k lt e = by (node_at vs n == x) refl (cases_eq k n) (standing-all vs x n k)
  where
    by : (b : Bool) → (node_at vs n == x) ≡ b → (k ≡ n) ⊎ (k ≡ n → ⊥) → (k < n → node_at vs k ≡ x → IsOneOf (standing vs x n) k)
        → IsOneOf (if b then record { 0 = n } ∷ standing vs x n else standing vs x n) k
    by true is (inl a) ih = inl (sym a)
    by true is (inr ne) ih = inr (ih (omega (arith, lt, ne)) e)
    by false is (inl a) ih = absurd (eqb-false (node_at vs n) x is (ap (node_at vs) (sym a) ∙ e))
    by false is (inr ne) ih = ih (omega (arith, lt, ne)) e

pub standing-falls : (vs : List Vertex) (x n : ℕ) → AreFalling (standing vs x n)
standing-falls vs x zero = tt
standing-falls vs x (suc n) = by (node_at vs n == x) (standing-falls vs x n)
  where
    by : (b : Bool) → AreFalling (standing vs x n) → AreFalling (if b then record { 0 = n } ∷ standing vs x n else standing vs x n)
    by true ih = (λ k h. standing-low vs x n k h, ih)
    by false ih = ih
