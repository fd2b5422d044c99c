-- What stands below a vertex, as a walk over the children finds it.
use Rattle.std.proofs.Common.{◌≡◌, ℕ, ◌+◌, ◌<◌, ◌≤◌, Bool, true, false, List, [], ◌∷◌, ◌++◌, length, Option, Some, None, ◌⊎◌, inl, inr, refl, sym, ap, ◌∙◌, subst, arith, zero, suc, get_or, nat_eq, eq-eqb}
use Rattle.std.specs.List.{All}
use Rattle.std.proofs.lemmas.Bool.{eqb-true, ne_eqb, cases_Bool, cases_eq, or_cases}
use Rattle.reach_tree.specs.declared.vertex.VertexId.{VertexId}
use Rattle.reach_tree.specs.declared.vertex.Vertex.{Vertex}
use Rattle.reach_tree.specs.Trees.{vertex_at}
use Rattle.cover_engine.specs.Unwindings.{has, path_up}
use Rattle.cover_engine.specs.Caches.{IsFamily, above, below, bit, children_at, parent_is, spread, times}

-- paths

pub path_none : (vs : List Vertex) (n v : ℕ) → (vertex_at vs v).parent ≡ None → path_up vs (suc n) v ≡ v ∷ []
path_none vs n v e = rw e refl

pub path_some : (vs : List Vertex) (n v : ℕ) (p : VertexId) → (vertex_at vs v).parent ≡ Some p → path_up vs (suc n) v ≡ v ∷ path_up vs n p.0
path_some vs n v p e = rw e refl

-- a vertex has a parent or none
pub parent_cases : (vs : List Vertex) (z : ℕ) → ((vertex_at vs z).parent ≡ None) ⊎ ((p : VertexId) × ((vertex_at vs z).parent ≡ Some p))
parent_cases vs z = by (vertex_at vs z).parent refl
  where
    by : (r : Option VertexId) → (vertex_at vs z).parent ≡ r → ((vertex_at vs z).parent ≡ None) ⊎ ((p : VertexId) × ((vertex_at vs z).parent ≡ Some p))
    by None e = inl e
    by (Some p) e = inr (p, e)

has_cons : (c z : ℕ) (rest : List ℕ) → has c (z ∷ rest) ≡ true → (z ≡ c) ⊎ (has c rest ≡ true)
has_cons c z rest h = elim (or_cases (nat_eq z c) (has c rest) h) [ inl a ↦ inl (eqb-true z c a) | inr b ↦ inr b ]

-- what is on a path is not above its vertex in number
pub path_lower : (vs : List Vertex) → IsFamily vs → (n c z : ℕ) → z < length vs → has c (path_up vs n z) ≡ true → c ≤ z
path_lower vs f zero c z lt h = absurd cc
path_lower vs f (suc n) c z lt h = elim (parent_cases vs z) [
  | inl e ↦ (let P : List ℕ → Type 0 = λ xs. has c xs ≡ true in let k : has c (z ∷ []) ≡ true = subst P (path_none vs n z e) h in elim (has_cons c z [] k) [ inl is ↦ omega (arith, is) | inr none ↦ absurd cc ])
  | inr w ↦
      let P : List ℕ → Type 0 = λ xs. has c xs ≡ true in
      let k : has c (z ∷ path_up vs n w.0.0) ≡ true = subst P (path_some vs n z w.0 w.1) h in
      let low : w.0.0 < z = f.lower z w.0 lt w.1 in
      elim (has_cons c z (path_up vs n w.0.0) k) [ inl is ↦ omega (arith, is) | inr on ↦ (let ih : c ≤ w.0.0 = path_lower vs f n c w.0.0 (omega (arith, low, lt)) on in omega (arith, ih, low)) ]
]

pub not_on : (vs : List Vertex) → IsFamily vs → (n c z : ℕ) → z < length vs → z < c → has c (path_up vs n z) ≡ false
not_on vs f n c z lt less = elim (cases_Bool (has c (path_up vs n z))) [
  | inl h ↦ absurd (omega (arith, less, path_lower vs f n c z lt h))
  | inr h ↦ h
]

-- two numbers of steps that are both enough
pub path_enough : (vs : List Vertex) → IsFamily vs → (n m z : ℕ) → z < n → z < m → z < length vs → path_up vs n z ≡ path_up vs m z
path_enough vs f zero m z a b lt = absurd (omega (arith, a))
path_enough vs f (suc n) zero z a b lt = absurd (omega (arith, b))
path_enough vs f (suc n) (suc m) z a b lt = elim (parent_cases vs z) [
  | inl e ↦ path_none vs n z e ∙ sym (path_none vs m z e)
  | inr w ↦
      let low : w.0.0 < z = f.lower z w.0 lt w.1 in
      path_some vs n z w.0 w.1
      ∙ ap (λ (xs : List ℕ). z ∷ xs) (path_enough vs f n m w.0.0 (omega (arith, low, a)) (omega (arith, low, b)) (omega (arith, low, lt)))
      ∙ sym (path_some vs m z w.0 w.1)
]

-- counting

-- how many of these vertices are on the path of z
abbrev pub on_path : List Vertex → ℕ → List ℕ → ℕ → ℕ
on_path vs n [] z = 0
on_path vs n (c ∷ cs) z = bit (has c (path_up vs n z)) + on_path vs n cs z

pub on_path_append : (vs : List Vertex) (n : ℕ) (xs ys : List ℕ) (z : ℕ) → on_path vs n (xs ++ ys) z ≡ on_path vs n xs z + on_path vs n ys z
on_path_append vs n [] ys z = omega arith
on_path_append vs n (x ∷ xs) ys z = omega (arith, on_path_append vs n xs ys z)

bit_true : (b : Bool) → b ≡ true → bit b ≡ 1
bit_true b e = ap bit e

bit_false : (b : Bool) → b ≡ false → bit b ≡ 0
bit_false b e = ap bit e

has_first : (c : ℕ) (cs : List ℕ) → has c (c ∷ cs) ≡ true
has_first c cs = rw (eq-eqb c c refl) refl

has_later : (d c : ℕ) (cs : List ℕ) → has d cs ≡ true → has d (c ∷ cs) ≡ true
has_later d c cs on = elim (cases_Bool (nat_eq c d)) [ inl a ↦ rw a refl | inr b ↦ rw b on ]

-- none of several greater numbers is on the path
none_on : (vs : List Vertex) → IsFamily vs → (n z : ℕ) (cs : List ℕ) → z < length vs → ((c : ℕ) → has c cs ≡ true → z < c) → on_path vs n cs z ≡ 0
none_on vs f n z [] lt h = refl
none_on vs f n z (c ∷ cs) lt h =
    let first : bit (has c (path_up vs n z)) ≡ 0 = bit_false (has c (path_up vs n z)) (not_on vs f n c z lt (h c (has_first c cs))) in
    let ih : on_path vs n cs z ≡ 0 = none_on vs f n z cs lt (λ d on. h d (has_later d c cs on)) in
    omega (arith, first, ih)

-- a number of a list stands in it
times_has : (c : ℕ) (cs : List ℕ) → has c cs ≡ true → 1 ≤ times c cs
times_has c [] h = absurd cc
times_has c (x ∷ cs) h = elim (has_cons c x cs h) [
  | inl is ↦ (let e : bit (nat_eq c x) ≡ 1 = bit_true (nat_eq c x) (eq-eqb c x (sym is)) in omega (arith, e))
  | inr on ↦ (let ih : 1 ≤ times c cs = times_has c cs on in omega (arith, ih))
]

pub has_inside : (m c : ℕ) (cs : List ℕ) → All (λ d. d < m) cs → has c cs ≡ true → c < m
has_inside m c [] all h = absurd cc
has_inside m c (x ∷ cs) all h = elim (has_cons c x cs h) [
  | inl is ↦ (let lt : x < m = all 0 x (omega arith) in omega (arith, lt, is))
  | inr on ↦ has_inside m c cs (λ k d lt. all (suc k) d (omega (arith, lt))) on
]

-- a child has its parent, and a greater number
pub child_parent : (vs : List Vertex) → IsFamily vs → (x c : ℕ) → x < length vs → has c (children_at vs x) ≡ true → (c < length vs) × (x < c)
child_parent vs f x c lt h =
    let inside : c < length vs = has_inside (length vs) c (children_at vs x) (f.inside x lt) h in
    let one : times c (children_at vs x) ≡ parent_is (vertex_at vs c).parent x = f.once x c lt inside in
    let some : 1 ≤ times c (children_at vs x) = times_has c (children_at vs x) h in
    (inside, by (vertex_at vs c).parent refl (omega (arith, one, some)) inside)
  where
    by : (r : Option VertexId) → (vertex_at vs c).parent ≡ r → 1 ≤ parent_is r x → c < length vs → x < c
    by None e le inside = absurd (omega (arith, le))
    by (Some p) e le inside = elim (cases_Bool (nat_eq p.0 x)) [
      | inl a ↦ (let is : p.0 ≡ x = eqb-true p.0 x a in let low : p.0 < c = f.lower c p inside e in omega (arith, is, low))
      | inr b ↦ absurd (let z : bit (nat_eq p.0 x) ≡ 0 = bit_false (nat_eq p.0 x) b in omega (arith, le, z))
    ]

-- of several greater numbers: what is on a path is its vertex, or on the path of the parent
climb : (vs : List Vertex) → IsFamily vs → (n z : ℕ) (p : VertexId) (cs : List ℕ) → z < length vs → (vertex_at vs z).parent ≡ Some p
    → on_path vs (suc n) cs z ≡ times z cs + on_path vs n cs p.0
climb vs f n z p [] lt e = refl
climb vs f n z p (c ∷ cs) lt e =
    let low : p.0 < z = f.lower z p lt e in
    let ih : on_path vs (suc n) cs z ≡ times z cs + on_path vs n cs p.0 = climb vs f n z p cs lt e in
    let is : bit (has c (path_up vs (suc n) z)) ≡ bit (has c (z ∷ path_up vs n p.0)) = ap (λ (xs : List ℕ). bit (has c xs)) (path_some vs n z p e) in
    let parts : bit (has c (z ∷ path_up vs n p.0)) ≡ bit (nat_eq z c) + bit (has c (path_up vs n p.0)) = apart in
    omega (arith, ih, is, parts)
  where
    apart : bit (has c (z ∷ path_up vs n p.0)) ≡ bit (nat_eq z c) + bit (has c (path_up vs n p.0))
    apart = elim (cases_eq z c) [
      | inl is ↦
          let off : has c (path_up vs n p.0) ≡ false = not_on vs f n c p.0 (omega (arith, f.lower z p lt e, lt)) (omega (arith, f.lower z p lt e, is)) in
          let yes' : nat_eq z c ≡ true = eq-eqb z c is in
          rw (yes', off) refl
      | inr ne ↦ (let no' : nat_eq z c ≡ false = ne_eqb z c ne in rw no' (omega arith))
    ]

-- of a vertex without a parent
alone : (vs : List Vertex) (n z : ℕ) (cs : List ℕ) → (vertex_at vs z).parent ≡ None → on_path vs (suc n) cs z ≡ times z cs
alone vs n z [] e = refl
alone vs n z (c ∷ cs) e =
    let ih : on_path vs (suc n) cs z ≡ times z cs = alone vs n z cs e in
    let is : bit (has c (path_up vs (suc n) z)) ≡ bit (nat_eq z c) = ap (λ (xs : List ℕ). bit (has c xs)) (path_none vs n z e) ∙ apart in
    omega (arith, ih, is)
  where
    apart : bit (has c (z ∷ [])) ≡ bit (nat_eq z c)
    apart = elim (cases_Bool (nat_eq z c)) [ inl y ↦ rw y refl | inr n ↦ rw n refl ]

-- x is above z where x is z, or one child of x is above z
pub above_step : (vs : List Vertex) → IsFamily vs → (n x z : ℕ) → z < n → x < length vs → z < length vs
    → bit (has x (path_up vs n z)) ≡ bit (nat_eq z x) + on_path vs n (children_at vs x) z
above_step vs f zero x z a lx lz = absurd (omega (arith, a))
above_step vs f (suc n) x z a lx lz = elim (cases_eq z x) [
  | inl is ↦
      let none : on_path vs (suc n) (children_at vs x) z ≡ 0 = none_on vs f (suc n) z (children_at vs x) lz (λ c h. omega (arith, is, (child_parent vs f x c lx h).1)) in
      let same : nat_eq z x ≡ true = eq-eqb z x is in
      let here : has x (path_up vs (suc n) z) ≡ true = rw same refl in
      let l : bit (has x (path_up vs (suc n) z)) ≡ 1 = bit_true (has x (path_up vs (suc n) z)) here in
      let r : bit (nat_eq z x) ≡ 1 = bit_true (nat_eq z x) same in
      omega (arith, l, r, none)
  | inr ne ↦ elim (parent_cases vs z) [
    | inl e ↦
        let other : nat_eq z x ≡ false = ne_eqb z x ne in
        let l : bit (has x (path_up vs (suc n) z)) ≡ 0 = (ap (λ (xs : List ℕ). bit (has x xs)) (path_none vs n z e)) ∙ rw other refl in
        let r : bit (nat_eq z x) ≡ 0 = bit_false (nat_eq z x) other in
        let none : on_path vs (suc n) (children_at vs x) z ≡ times z (children_at vs x) = alone vs n z (children_at vs x) e in
        let zero' : times z (children_at vs x) ≡ 0 = f.once x z lx lz ∙ ap (λ (o : Option VertexId). parent_is o x) e in
        omega (arith, l, r, none, zero')
    | inr w ↦
        let low : w.0.0 < z = f.lower z w.0 lz w.1 in
        let other : nat_eq z x ≡ false = ne_eqb z x ne in
        let l : bit (has x (path_up vs (suc n) z)) ≡ bit (has x (path_up vs n w.0.0)) = (ap (λ (xs : List ℕ). bit (has x xs)) (path_some vs n z w.0 w.1)) ∙ rw other refl in
        let r : bit (nat_eq z x) ≡ 0 = bit_false (nat_eq z x) other in
        let ih : bit (has x (path_up vs n w.0.0)) ≡ bit (nat_eq w.0.0 x) + on_path vs n (children_at vs x) w.0.0 = above_step vs f n x w.0.0 (omega (arith, low, a)) lx (omega (arith, low, lz)) in
        let up : on_path vs (suc n) (children_at vs x) z ≡ times z (children_at vs x) + on_path vs n (children_at vs x) w.0.0 = climb vs f n z w.0 (children_at vs x) lz w.1 in
        let one : times z (children_at vs x) ≡ bit (nat_eq w.0.0 x) = f.once x z lx lz ∙ ap (λ (o : Option VertexId). parent_is o x) w.1 in
        omega (arith, l, r, ih, up, one)
  ]
]

-- the walk

-- over all vertices below a number
abbrev pub total : List Vertex → ℕ → List ℕ → ℕ
total vs zero q = 0
total vs (suc m) q = on_path vs (length vs) q m + total vs m q

abbrev ones : ℕ → ℕ → ℕ
ones zero x = 0
ones (suc m) x = bit (nat_eq m x) + ones m x

ones_none : (m x : ℕ) → m ≤ x → ones m x ≡ 0
ones_none zero x le = refl
ones_none (suc m) x le =
    let e : bit (nat_eq m x) ≡ 0 = bit_false (nat_eq m x) (ne_eqb m x (λ is. omega (arith, le, is))) in
    let ih : ones m x ≡ 0 = ones_none m x (omega (arith, le)) in
    omega (arith, e, ih)

ones_one : (m x : ℕ) → x < m → ones m x ≡ 1
ones_one zero x lt = absurd (omega (arith, lt))
ones_one (suc m) x lt = elim (cases_eq m x) [
  | inl is ↦ (let e : bit (nat_eq m x) ≡ 1 = bit_true (nat_eq m x) (eq-eqb m x is) in let none : ones m x ≡ 0 = ones_none m x (omega (arith, is)) in omega (arith, e, none))
  | inr ne ↦ (let e : bit (nat_eq m x) ≡ 0 = bit_false (nat_eq m x) (ne_eqb m x ne) in let ih : ones m x ≡ 1 = ones_one m x (omega (arith, lt, ne)) in omega (arith, e, ih))
]

total_step : (vs : List Vertex) → IsFamily vs → (m x : ℕ) (q : List ℕ) → m ≤ length vs → x < length vs
    → total vs m (x ∷ q) ≡ ones m x + total vs m (q ++ children_at vs x)
total_step vs f zero x q le lx = refl
total_step vs f (suc m) x q le lx =
    let ih : total vs m (x ∷ q) ≡ ones m x + total vs m (q ++ children_at vs x) = total_step vs f m x q (omega (arith, le)) lx in
    let one : bit (has x (path_up vs (length vs) m)) ≡ bit (nat_eq m x) + on_path vs (length vs) (children_at vs x) m = above_step vs f (length vs) x m (omega (arith, le)) lx (omega (arith, le)) in
    let two : on_path vs (length vs) (q ++ children_at vs x) m ≡ on_path vs (length vs) q m + on_path vs (length vs) (children_at vs x) m = on_path_append vs (length vs) q (children_at vs x) m in
    omega (arith, ih, one, two)

in_total : (vs : List Vertex) (m z : ℕ) (q : List ℕ) → z < m → on_path vs (length vs) q z ≤ total vs m q
in_total vs zero z q lt = absurd (omega (arith, lt))
in_total vs (suc m) z q lt = elim (cases_eq z m) [
  | inl is ↦ (let e : on_path vs (length vs) q z ≡ on_path vs (length vs) q m = ap (on_path vs (length vs) q) is in omega (arith, e))
  | inr ne ↦ (let ih : on_path vs (length vs) q z ≤ total vs m q = in_total vs m z q (omega (arith, lt, ne)) in omega (arith, ih))
]

pub all_append : (m : ℕ) (xs ys : List ℕ) → All (λ d. d < m) xs → All (λ d. d < m) ys → All (λ d. d < m) (xs ++ ys)
all_append m [] ys a b = b
all_append m (x ∷ xs) ys a b =
    let rest : All (λ d. d < m) (xs ++ ys) = all_append m xs ys (λ i e below. a (suc i) e (omega (arith, below))) b in
    λ k d lt. elim k as (λ j. j < suc (length (xs ++ ys)) → get_or (x ∷ (xs ++ ys)) j d < m) [
      | zero ↦ (λ _. a 0 x (omega arith))
      | suc j ↦ (λ l. rest j d (omega (arith, l)))
    ] lt

-- the walk meets each vertex as often as vertices of the queue are above it
pub spread_times : (vs : List Vertex) → IsFamily vs → (n : ℕ) (q : List ℕ) → All (λ d. d < length vs) q → total vs (length vs) q ≤ n
    → (z : ℕ) → z < length vs → times z (spread vs n q) ≡ on_path vs (length vs) q z
spread_times vs f zero q all le z lz = let i : on_path vs (length vs) q z ≤ total vs (length vs) q = in_total vs (length vs) z q lz in omega (arith, i, le)
spread_times vs f (suc n) [] all le z lz = refl
spread_times vs f (suc n) (x ∷ q) all le z lz =
    let lx : x < length vs = all 0 x (omega arith) in
    let one : ones (length vs) x ≡ 1 = ones_one (length vs) x lx in
    let t : total vs (length vs) (x ∷ q) ≡ ones (length vs) x + total vs (length vs) (q ++ children_at vs x) = total_step vs f (length vs) x q (omega arith) lx in
    let all' : All (λ d. d < length vs) (q ++ children_at vs x) = all_append (length vs) q (children_at vs x) (λ i e b. all (suc i) e (omega (arith, b))) (f.inside x lx) in
    let ih : times z (spread vs n (q ++ children_at vs x)) ≡ on_path vs (length vs) (q ++ children_at vs x) z = spread_times vs f n (q ++ children_at vs x) all' (omega (arith, one, t, le)) z lz in
    let s : bit (has x (path_up vs (length vs) z)) ≡ bit (nat_eq z x) + on_path vs (length vs) (children_at vs x) z = above_step vs f (length vs) x z lz lx lz in
    let two : on_path vs (length vs) (q ++ children_at vs x) z ≡ on_path vs (length vs) q z + on_path vs (length vs) (children_at vs x) z = on_path_append vs (length vs) q (children_at vs x) z in
    omega (arith, ih, s, two)

pub bit_small : (b : Bool) → bit b ≤ 1
bit_small true = omega arith
bit_small false = omega arith

total_single : (vs : List Vertex) (m x : ℕ) → total vs m (x ∷ []) ≤ m
total_single vs zero x = omega arith
total_single vs (suc m) x = let s = bit_small (has x (path_up vs (length vs) m)) in omega (arith, s, total_single vs m x)

-- each vertex stands once below those above it, and below no other
pub below_times : (vs : List Vertex) → IsFamily vs → (x z : ℕ) → x < length vs → z < length vs → times z (below vs x) ≡ above vs x z
below_times vs f x z lx lz =
    let all : All (λ d. d < length vs) (x ∷ []) = λ k d lt. elim k as (λ j. j < 1 → get_or (x ∷ []) j d < length vs) [ zero ↦ (λ _. lx) | suc j ↦ (λ l. absurd (omega (arith, l))) ] lt in
    let e : times z (below vs x) ≡ on_path vs (length vs) (x ∷ []) z = spread_times vs f (length vs) (x ∷ []) all (total_single vs (length vs) x) z lz in
    omega (arith, e)

-- the walk stays in the tree
pub spread_inside : (vs : List Vertex) → IsFamily vs → (n : ℕ) (q : List ℕ) → All (λ d. d < length vs) q → All (λ d. d < length vs) (spread vs n q)
spread_inside vs f zero q all = λ k d lt. absurd (omega (arith, lt))
spread_inside vs f (suc n) [] all = λ k d lt. absurd (omega (arith, lt))
spread_inside vs f (suc n) (x ∷ q) all =
    let lx : x < length vs = all 0 x (omega arith) in
    let rest : All (λ d. d < length vs) (spread vs n (q ++ children_at vs x)) = spread_inside vs f n (q ++ children_at vs x) (all_append (length vs) q (children_at vs x) (λ i e b. all (suc i) e (omega (arith, b))) (f.inside x lx)) in
    λ k d lt. elim k as (λ j. j < suc (length (spread vs n (q ++ children_at vs x))) → get_or (x ∷ spread vs n (q ++ children_at vs x)) j d < length vs) [
      | zero ↦ (λ _. lx)
      | suc j ↦ (λ l. rest j d (omega (arith, l)))
    ] lt

pub below_inside : (vs : List Vertex) → IsFamily vs → (x : ℕ) → x < length vs → All (λ d. d < length vs) (below vs x)
below_inside vs f x lx = spread_inside vs f (length vs) (x ∷ []) (λ k d lt. elim k as (λ j. j < 1 → get_or (x ∷ []) j d < length vs) [ zero ↦ (λ _. lx) | suc j ↦ (λ l. absurd (omega (arith, l))) ] lt)
