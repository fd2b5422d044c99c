-- How many left sides stand on each path, and how that changes with pairs and vertices.
use Rattle.std.proofs.Common.{◌≡◌, ℕ, ◌+◌, ◌<◌, ◌≤◌, Bool, true, false, List, [], ◌∷◌, ◌++◌, length, Option, inl, inr, refl, sym, ap, ◌∙◌, subst, arith, zero, suc, get_or, nat_eq, nat_lt, eq-eqb, ◌||◌, if◌then◌else◌}
use Rattle.std.specs.List.{All}
use Rattle.std.proofs.lemmas.Bool.{ne_eqb, cases_eq, lt-ltb}
use Rattle.reach_tree.specs.declared.vertex.VertexId.{VertexId}
use Rattle.reach_tree.specs.declared.vertex.Vertex.{Vertex}
use Rattle.cover_engine.specs.Unwindings.{Pair, any_of, has, is_left, path_of, path_up}
use Rattle.cover_engine.specs.Units.{pairs_but_under, pairs_but_onto}
use Rattle.cover_engine.specs.Caches.{AreCovers, AreInside, IsFamily, SameShape, above, below, below_lefts, bit, children_at, covers, pairs_onto, pairs_under, parent_is, times, vertex_numbers}
use Rattle.cover_engine.proofs.Subtrees.{all_append, below_inside, below_times, bit_small, parent_cases, path_none, path_some}

-- covered vertices are those with a count

pub eq_turned : (a b : ℕ) → nat_eq a b ≡ nat_eq b a
eq_turned a b = elim (cases_eq a b) [
  | inl is ↦ eq-eqb a b is ∙ sym (eq-eqb b a (sym is))
  | inr ne ↦ ne_eqb a b ne ∙ sym (ne_eqb b a (λ e. ne (sym e)))
]

no_left : (xs : List ℕ) → any_of (is_left []) xs ≡ false
no_left [] = refl
no_left (x ∷ xs) = no_left xs

or_swap : (a b c d : Bool) → (a || b) || (c || d) ≡ (a || c) || (b || d)
or_swap true b c d = refl
or_swap false true true d = refl
or_swap false true false d = refl
or_swap false false c d = refl

left_or : (p : Pair) (ps : List Pair) (xs : List ℕ) → any_of (is_left (p ∷ ps)) xs ≡ has p.0.0 xs || any_of (is_left ps) xs
left_or p ps [] = refl
left_or p ps (x ∷ xs) =
    ap (λ (b : Bool). (nat_eq p.0.0 x || is_left ps x) || b) (left_or p ps xs)
    ∙ ap (λ (b : Bool). (b || is_left ps x) || (has p.0.0 xs || any_of (is_left ps) xs)) (eq_turned p.0.0 x)
    ∙ or_swap (nat_eq x p.0.0) (is_left ps x) (has p.0.0 xs) (any_of (is_left ps) xs)

pub covers_say : (vs : List Vertex) (ps : List Pair) (z n : ℕ) → n ≡ covers vs ps z → nat_lt 0 n ≡ any_of (is_left ps) (path_up vs (length vs) z)
covers_say vs ps z n e = ap (nat_lt 0) e ∙ says ps
  where
    lt_or : (b : Bool) (n : ℕ) → nat_lt 0 (bit b + n) ≡ b || nat_lt 0 n
    lt_or true n = lt-ltb 0 (1 + n) (omega arith)
    lt_or false n = let z : 0 + n ≡ n = omega arith in ap (nat_lt 0) z

    says : (qs : List Pair) → nat_lt 0 (covers vs qs z) ≡ any_of (is_left qs) (path_up vs (length vs) z)
    says [] = sym (no_left (path_up vs (length vs) z))
    says (q ∷ qs) =
        lt_or (has q.0.0 (path_up vs (length vs) z)) (covers vs qs z)
        ∙ ap (λ (b : Bool). has q.0.0 (path_up vs (length vs) z) || b) (says qs)
        ∙ sym (left_or q qs (path_up vs (length vs) z))

pub covers_append : (vs : List Vertex) (ps qs : List Pair) (z : ℕ) → covers vs (ps ++ qs) z ≡ covers vs ps z + covers vs qs z
covers_append vs [] qs z = omega arith
covers_append vs (p ∷ ps) qs z = omega (arith, covers_append vs ps qs z)

pub covers_few : (vs : List Vertex) (ps : List Pair) (z : ℕ) → covers vs ps z ≤ length ps
covers_few vs [] z = omega arith
covers_few vs (p ∷ ps) z = let s = bit_small (has p.0.0 (path_up vs (length vs) z)) in omega (arith, s, covers_few vs ps z)

-- the pairs that stay and those that fall
pub covers_under : (vs : List Vertex) (v : VertexId) (ps : List Pair) (z : ℕ) → covers vs ps z ≡ covers vs (pairs_but_under vs v ps) z + covers vs (pairs_under vs v ps) z
covers_under vs v [] z = refl
covers_under vs v (p ∷ ps) z = by (has v.0 (path_of vs p.1)) (covers_under vs v ps z)
  where
    by : (b : Bool) → covers vs ps z ≡ covers vs (pairs_but_under vs v ps) z + covers vs (pairs_under vs v ps) z → covers vs (p ∷ ps) z ≡ covers vs (if b then pairs_but_under vs v ps else p ∷ pairs_but_under vs v ps) z + covers vs (if b then p ∷ pairs_under vs v ps else pairs_under vs v ps) z
    by true ih = omega (arith, ih)
    by false ih = omega (arith, ih)

pub covers_onto : (vs : List Vertex) (ws : List ℕ) (ps : List Pair) (z : ℕ) → covers vs ps z ≡ covers vs (pairs_but_onto ws ps) z + covers vs (pairs_onto ws ps) z
covers_onto vs ws [] z = refl
covers_onto vs ws (p ∷ ps) z = by (has p.1.0 ws) (covers_onto vs ws ps z)
  where
    by : (b : Bool) → covers vs ps z ≡ covers vs (pairs_but_onto ws ps) z + covers vs (pairs_onto ws ps) z → covers vs (p ∷ ps) z ≡ covers vs (if b then pairs_but_onto ws ps else p ∷ pairs_but_onto ws ps) z + covers vs (if b then p ∷ pairs_onto ws ps else pairs_onto ws ps) z
    by true ih = omega (arith, ih)
    by false ih = omega (arith, ih)

-- what holds of each pair holds of those that stay, and of those that fall
all_cons : (P : Pair → Type 0) (p : Pair) (ps : List Pair) → P p → All P ps → All P (p ∷ ps)
all_cons P p ps h all k d lt = elim k as (λ j. j < suc (length ps) → P (get_or (p ∷ ps) j d)) [ zero ↦ (λ _. h) | suc j ↦ (λ l. all j d (omega (arith, l))) ] lt

all_rest : (P : Pair → Type 0) (p : Pair) (ps : List Pair) → All P (p ∷ ps) → All P ps
all_rest P p ps all k d lt = all (suc k) d (omega (arith, lt))

all_none : (P : Pair → Type 0) → All P []
all_none P k d lt = absurd (omega (arith, lt))

pub all_but_under : (P : Pair → Type 0) (vs : List Vertex) (v : VertexId) (ps : List Pair) → All P ps → All P (pairs_but_under vs v ps)
all_but_under P vs v [] all = all_none P
all_but_under P vs v (p ∷ ps) all = by (has v.0 (path_of vs p.1)) (all_but_under P vs v ps (all_rest P p ps all)) (all 0 p (omega arith))
  where
    by : (b : Bool) → All P (pairs_but_under vs v ps) → P p → All P (if b then pairs_but_under vs v ps else p ∷ pairs_but_under vs v ps)
    by true ih h = ih
    by false ih h = all_cons P p (pairs_but_under vs v ps) h ih

pub all_under : (P : Pair → Type 0) (vs : List Vertex) (v : VertexId) (ps : List Pair) → All P ps → All P (pairs_under vs v ps)
all_under P vs v [] all = all_none P
all_under P vs v (p ∷ ps) all = by (has v.0 (path_of vs p.1)) (all_under P vs v ps (all_rest P p ps all)) (all 0 p (omega arith))
  where
    by : (b : Bool) → All P (pairs_under vs v ps) → P p → All P (if b then p ∷ pairs_under vs v ps else pairs_under vs v ps)
    by true ih h = all_cons P p (pairs_under vs v ps) h ih
    by false ih h = ih

pub all_but_onto : (P : Pair → Type 0) (ws : List ℕ) (ps : List Pair) → All P ps → All P (pairs_but_onto ws ps)
all_but_onto P ws [] all = all_none P
all_but_onto P ws (p ∷ ps) all = by (has p.1.0 ws) (all_but_onto P ws ps (all_rest P p ps all)) (all 0 p (omega arith))
  where
    by : (b : Bool) → All P (pairs_but_onto ws ps) → P p → All P (if b then pairs_but_onto ws ps else p ∷ pairs_but_onto ws ps)
    by true ih h = ih
    by false ih h = all_cons P p (pairs_but_onto ws ps) h ih

pub all_onto : (P : Pair → Type 0) (ws : List ℕ) (ps : List Pair) → All P ps → All P (pairs_onto ws ps)
all_onto P ws [] all = all_none P
all_onto P ws (p ∷ ps) all = by (has p.1.0 ws) (all_onto P ws ps (all_rest P p ps all)) (all 0 p (omega arith))
  where
    by : (b : Bool) → All P (pairs_onto ws ps) → P p → All P (if b then p ∷ pairs_onto ws ps else pairs_onto ws ps)
    by true ih h = all_cons P p (pairs_onto ws ps) h ih
    by false ih h = ih

-- fewer pairs stay than there were
pub few_under : (vs : List Vertex) (v : VertexId) (ps : List Pair) → length (pairs_but_under vs v ps) ≤ length ps
few_under vs v [] = omega arith
few_under vs v (p ∷ ps) = by (has v.0 (path_of vs p.1)) (few_under vs v ps)
  where
    by : (b : Bool) → length (pairs_but_under vs v ps) ≤ length ps → length (if b then pairs_but_under vs v ps else p ∷ pairs_but_under vs v ps) ≤ suc (length ps)
    by true ih = omega (arith, ih)
    by false ih = omega (arith, ih)

pub few_onto : (ws : List ℕ) (ps : List Pair) → length (pairs_but_onto ws ps) ≤ length ps
few_onto ws [] = omega arith
few_onto ws (p ∷ ps) = by (has p.1.0 ws) (few_onto ws ps)
  where
    by : (b : Bool) → length (pairs_but_onto ws ps) ≤ length ps → length (if b then pairs_but_onto ws ps else p ∷ pairs_but_onto ws ps) ≤ suc (length ps)
    by true ih = omega (arith, ih)
    by false ih = omega (arith, ih)

times_append : (z : ℕ) (xs ys : List ℕ) → times z (xs ++ ys) ≡ times z xs + times z ys
times_append z [] ys = omega arith
times_append z (x ∷ xs) ys = omega (arith, times_append z xs ys)

-- what stands below left sides
pub lefts_times : (vs : List Vertex) → IsFamily vs → (ps : List Pair) → AreInside vs ps → (z : ℕ) → z < length vs → times z (below_lefts vs ps) ≡ covers vs ps z
lefts_times vs f [] all z lz = refl
lefts_times vs f (p ∷ ps) all z lz =
    let here : times z (below vs p.0.0) ≡ above vs p.0.0 z = below_times vs f p.0.0 z (all 0 p (omega arith)).0 lz in
    let ih : times z (below_lefts vs ps) ≡ covers vs ps z = lefts_times vs f ps (λ k d lt. all (suc k) d (omega (arith, lt))) z lz in
    omega (arith, here, ih, times_append z (below vs p.0.0) (below_lefts vs ps))

pub lefts_inside : (vs : List Vertex) → IsFamily vs → (ps : List Pair) → AreInside vs ps → All (λ d. d < length vs) (below_lefts vs ps)
lefts_inside vs f [] all = λ k d lt. absurd (omega (arith, lt))
lefts_inside vs f (p ∷ ps) all =
    all_append (length vs) (below vs p.0.0) (below_lefts vs ps) (below_inside vs f p.0.0 (all 0 p (omega arith)).0) (lefts_inside vs f ps (λ k d lt. all (suc k) d (omega (arith, lt))))

-- pairs fall, and one comes
pub lowered : (vs : List Vertex) → IsFamily vs → (ps kept fallen : List Pair) (counts new drops : List ℕ)
    → ((z : ℕ) → covers vs ps z ≡ covers vs kept z + covers vs fallen z) → AreInside vs fallen → drops ≡ below_lefts vs fallen
    → AreCovers vs ps counts → length new ≡ length counts → ((z : ℕ) → z < length counts → get_or new z 0 + times z drops ≡ get_or counts z 0) → AreCovers vs kept new
lowered vs f ps kept fallen counts new drops split inside is c sized low = record {
  sized = sized ∙ c.sized;
  counted = λ z lz.
      let l : get_or new z 0 + times z drops ≡ get_or counts z 0 = low z (omega (arith, lz, c.sized)) in
      let d : times z drops ≡ covers vs fallen z = ap (times z) is ∙ lefts_times vs f fallen inside z lz in
      omega (arith, l, d, c.counted z lz, split z);
}

-- there is enough to take away
pub enough : (vs : List Vertex) → IsFamily vs → (ps kept fallen : List Pair) (counts drops : List ℕ)
    → ((z : ℕ) → covers vs ps z ≡ covers vs kept z + covers vs fallen z) → AreInside vs fallen → drops ≡ below_lefts vs fallen
    → AreCovers vs ps counts → (z : ℕ) → z < length counts → times z drops ≤ get_or counts z 0
enough vs f ps kept fallen counts drops split inside is c z lz =
    let lv : z < length vs = omega (arith, lz, c.sized) in
    let d : times z drops ≡ covers vs fallen z = ap (times z) is ∙ lefts_times vs f fallen inside z lv in
    omega (arith, d, c.counted z lv, split z)

pub raised : (vs : List Vertex) → IsFamily vs → (ps : List Pair) (v w : VertexId) (counts new rises : List ℕ) → v.0 < length vs → rises ≡ below vs v.0
    → AreCovers vs ps counts → length new ≡ length counts → ((z : ℕ) → z < length counts → get_or new z 0 ≡ get_or counts z 0 + times z rises) → AreCovers vs (ps ++ (v, w) ∷ []) new
raised vs f ps v w counts new rises lv is c sized up = record {
  sized = sized ∙ c.sized;
  counted = λ z lz.
      let l : get_or new z 0 ≡ get_or counts z 0 + times z rises = up z (omega (arith, lz, c.sized)) in
      let d : times z rises ≡ above vs v.0 z = ap (times z) is ∙ below_times vs f v.0 z lv lz in
      omega (arith, l, d, c.counted z lz, covers_append vs ps ((v, w) ∷ []) z);
}

-- there is room for one more
pub room : (vs : List Vertex) → IsFamily vs → (ps : List Pair) (v : ℕ) (counts rises : List ℕ) (m : ℕ) → v < length vs → rises ≡ below vs v
    → AreCovers vs ps counts → length ps < m → (z : ℕ) → z < length counts → get_or counts z 0 + times z rises ≤ m
room vs f ps v counts rises m lv is c few z lz =
    let lvz : z < length vs = omega (arith, lz, c.sized) in
    let d : times z rises ≡ above vs v z = ap (times z) is ∙ below_times vs f v z lv lvz in
    let s = bit_small (has v (path_up vs (length vs) z)) in
    omega (arith, d, s, c.counted z lvz, covers_few vs ps z, few)

-- trees of one shape

pub path_shape : (vs ws : List Vertex) → SameShape vs ws → (n z : ℕ) → path_up ws n z ≡ path_up vs n z
path_shape vs ws s zero z = refl
path_shape vs ws s (suc n) z = elim (parent_cases vs z) [
  | inl e ↦ path_none ws n z (s.parents z ∙ e) ∙ sym (path_none vs n z e)
  | inr w ↦ path_some ws n z w.0 (s.parents z ∙ w.1) ∙ ap (λ (xs : List ℕ). z ∷ xs) (path_shape vs ws s n w.0.0) ∙ sym (path_some vs n z w.0 w.1)
]

pub path_of_shape : (vs ws : List Vertex) → SameShape vs ws → (z : ℕ) → path_up ws (length ws) z ≡ path_up vs (length vs) z
path_of_shape vs ws s z = ap (λ (n : ℕ). path_up ws n z) s.sized ∙ path_shape vs ws s (length vs) z

pub covers_shape : (vs ws : List Vertex) → SameShape vs ws → (ps : List Pair) (z : ℕ) → covers ws ps z ≡ covers vs ps z
covers_shape vs ws s [] z = refl
covers_shape vs ws s (p ∷ ps) z =
    let a : above ws p.0.0 z ≡ above vs p.0.0 z = ap (λ (xs : List ℕ). bit (has p.0.0 xs)) (path_of_shape vs ws s z) in
    omega (arith, a, covers_shape vs ws s ps z)

pub counts_shape : (vs ws : List Vertex) → SameShape vs ws → (ps : List Pair) (counts : List ℕ) → AreCovers vs ps counts → AreCovers ws ps counts
counts_shape vs ws s ps counts c = record {
  sized = c.sized ∙ sym s.sized;
  counted = λ z lz. c.counted z (omega (arith, lz, s.sized)) ∙ sym (covers_shape vs ws s ps z);
}

pub family_shape : (vs ws : List Vertex) → SameShape vs ws → IsFamily vs → IsFamily ws
family_shape vs ws s f = record {
  lower = λ k p lk e. f.lower k p (omega (arith, lk, s.sized)) (sym (s.parents k) ∙ e);
  inside = λ k lk.
      let P : List ℕ → Type 0 = λ xs. All (λ c. c < length vs) xs in
      let Q : ℕ → Type 0 = λ n. All (λ c. c < n) (children_at ws k) in
      subst Q (sym s.sized) (subst P (sym (ap vertex_numbers (s.children k))) (f.inside k (omega (arith, lk, s.sized))));
  once = λ x z lx lz.
      ap (λ (cs : List VertexId). times z (vertex_numbers cs)) (s.children x)
      ∙ f.once x z (omega (arith, lx, s.sized)) (omega (arith, lz, s.sized))
      ∙ ap (λ (o : Option VertexId). parent_is o x) (sym (s.parents z));
}
