-- Variables' numbers and literals' codes.
use Rattle.std.proofs.Common.{◌≡◌, ℕ, ◌+◌, ◌-◌, ◌*◌, ◌/◌, ◌%◌, ◌<◌, ◌≤◌, length, List, [], ◌∷◌, ◌++◌, arith, ap, sym, ◌∙◌, refl, zero, suc, get_or, subst, Bool, true, false, not, ◌&&◌, ◌||◌, cond, nat_eq, ◌⊎◌, inl, inr, take, drop, Ok, Err, slice_get, Some, eqb, append_assoc, length-append}
use Rattle.std.proofs.lemmas.Bool.{and_parts, and_from, or_cases, or_left, or_right, both_ways, eqb-true, eq-eqb, false_from_ne_true, ne_eqb, cases_lt, cases_eq}
use Rattle.std.specs.List.Sorted.{IsStrictlyIncreasing, IsBinarySearchResult, IsPermutation}
use Rattle.std.specs.List.{Contains, dedup}
use Rattle.std.specs.Ordering.{nat_cmp}
use Rattle.std.proofs.lemmas.List.{get_or_default}
use Rattle.std.proofs.lemmas.List.Sorted.{searched}
use Rattle.std.proofs.lemmas.List.Kept.{Contains-dedup_nat}
use Rattle.prop.specs.Logic.{count}
use Rattle.prop.proofs.All.{drop_next}
use Rattle.prop.proofs.Trues.{listed_permuted}
use Rattle.prop.specs.declared.Lit.{Lit}
use Rattle.prop.specs.Trues.{listed}
use Rattle.prop.specs.Steps.{same, same_sign, has, Has}
use Rattle.prop.proofs.Sets.{lit_path, same-from, same-true}
use Rattle.resolution_log.specs.Codes.{vars_of, all_vars, place, code_of, codes_of, all_codes, Covers, CoversAll, AllBelow, RowsBelow, IsRow, AreRows, AreRows.none, AreRows.also}

pub listed_at : (xs : List ℕ) (v i : ℕ) → i < length xs → get_or xs i 0 ≡ v → listed xs v ≡ true
listed_at [] v i h e = absurd (omega arith)
listed_at (x ∷ xs) v zero h e = or_left _ _ (eq-eqb x v e)
listed_at (x ∷ xs) v (suc i) h e = let q : i < length xs = omega arith in or_right _ _ (listed_at xs v i q e)

pub listed_true : (xs : List ℕ) (v : ℕ) → listed xs v ≡ true → (i : ℕ) × (i < length xs) × (get_or xs i 0 ≡ v)
listed_true [] v h = absurd cc
listed_true (x ∷ xs) v h = elim (or_cases (nat_eq x v) (listed xs v) h) [
  | inl a ↦ (0, omega arith, eqb-true x v a)
  | inr b ↦ let (i, lt, e) = listed_true xs v b in (suc i, omega (arith, lt), e)
]

-- numbers that rise, by any two places
rising_far : (xs : List ℕ) → IsStrictlyIncreasing xs → (i d : ℕ) → i + suc d < length xs → get_or xs i 0 < get_or xs (i + suc d) 0
rising_far xs up i zero h =
    let e : i + suc zero ≡ i + 1 = omega arith in
    rw e (up i (omega arith))
rising_far xs up i (suc d) h =
    let e : i + suc (suc d) ≡ (i + suc d) + 1 = omega arith in
    let a = rising_far xs up i d (omega arith) in
    let b : get_or xs (i + suc d) 0 < get_or xs ((i + suc d) + 1) 0 = up (i + suc d) (omega arith) in
    rw e (omega (arith, a, b))

rising_tail : (x : ℕ) (xs : List ℕ) → IsStrictlyIncreasing (x ∷ xs) → IsStrictlyIncreasing xs
rising_tail x xs up k h = let e : suc k + 1 ≡ suc (k + 1) = omega arith in rw e at (up (suc k) (omega arith))

place_step : (x v : ℕ) (xs : List ℕ) → (x ≡ v → ⊥) → place (x ∷ xs) v ≡ suc (place xs v)
place_step x v xs n = ap (λ b. cond b 0 (suc (place xs v))) (false_from_ne_true (nat_eq x v) (λ t. n (eqb-true x v t)))

place_here : (x v : ℕ) (xs : List ℕ) → x ≡ v → place (x ∷ xs) v ≡ 0
place_here x v xs e = ap (λ b. cond b 0 (suc (place xs v))) (eq-eqb x v e)

-- in numbers that rise the place of a number is where it stands
pub place_at : (xs : List ℕ) → IsStrictlyIncreasing xs → (i v : ℕ) → i < length xs → get_or xs i 0 ≡ v → place xs v ≡ i
place_at [] up i v h e = absurd (omega arith)
place_at (x ∷ xs) up zero v h e = place_here x v xs e
place_at (x ∷ xs) up (suc i) v h e =
    let lt : i < length xs = omega arith in
    let ih = place_at xs (rising_tail x xs up) i v lt e in
    let far : get_or (x ∷ xs) 0 0 < get_or (x ∷ xs) (0 + suc i) 0 = rising_far (x ∷ xs) up 0 i (omega arith) in
    let far2 : x < get_or xs i 0 = subst (λ k. x < get_or (x ∷ xs) k 0) (let q : 0 + suc i ≡ suc i = omega arith in q) far in
    place_step x v xs (λ q. absurd (omega (arith, far2, e, q))) ∙ ap suc ih

pub place_below : (xs : List ℕ) (v : ℕ) → listed xs v ≡ true → place xs v < length xs
place_below [] v h = absurd cc
place_below (x ∷ xs) v h = elim (or_cases (nat_eq x v) (listed xs v) h) [
  | inl a ↦ (let e = place_here x v xs (eqb-true x v a) in omega (arith, e))
  | inr b ↦ go (cases_eq x v) (place_below xs v b)
]
  where
    go : (x ≡ v) ⊎ (x ≡ v → ⊥) → place xs v < length xs → place (x ∷ xs) v < suc (length xs)
    go (inl e) lt = let q = place_here x v xs e in omega (arith, q)
    go (inr n) lt = let q = place_step x v xs n in omega (arith, q, lt)

pub place_inj : (xs : List ℕ) (a b : ℕ) → place xs a ≡ place xs b → a ≡ b
place_inj [] a b e = e
place_inj (x ∷ xs) a b e = go (place_inj xs a b) (cases_eq x a) (cases_eq x b)
  where
    go : (place xs a ≡ place xs b → a ≡ b) → (x ≡ a) ⊎ (x ≡ a → ⊥) → (x ≡ b) ⊎ (x ≡ b → ⊥) → a ≡ b
    go ih (inl p) (inl q) = sym p ∙ q
    go ih (inl p) (inr q) = let m = place_here x a xs p in let n = place_step x b xs q in absurd (omega (arith, m, n, e))
    go ih (inr p) (inl q) = let m = place_step x a xs p in let n = place_here x b xs q in absurd (omega (arith, m, n, e))
    go ih (inr p) (inr q) = let m = place_step x a xs p in let n = place_step x b xs q in ih (omega (arith, m, n, e))

sign_of : (b d : Bool) → ◌≡◌ {A = ℕ} (cond b 0 1) (cond d 0 1) → b ≡ d
sign_of true true e = refl
sign_of false false e = refl
sign_of true false e = absurd (omega arith)
sign_of false true e = absurd (omega arith)

sign_small : (b : Bool) → cond {A = ℕ} b 0 1 ≤ 1
sign_small true = omega arith
sign_small false = omega arith

pub code_inj : (xs : List ℕ) (l m : Lit) → code_of xs l ≡ code_of xs m → l ≡ m
code_inj xs l m e =
    let a = sign_small l.positive in
    let b = sign_small m.positive in
    let p : place xs l.var ≡ place xs m.var = omega (arith, e, a, b) in
    lit_path l m (place_inj xs l.var m.var p) (sign_of l.positive m.positive (omega (arith, e, p)))

pub bool_same : (a b : Bool) → (a ≡ true → b ≡ true) → (b ≡ true → a ≡ true) → a ≡ b
bool_same true b f g = sym (f refl)
bool_same false true f g = g refl
bool_same false false f g = refl

pub code_same : (xs : List ℕ) (l m : Lit) → nat_eq (code_of xs l) (code_of xs m) ≡ same l m
code_same xs l m = bool_same (nat_eq (code_of xs l) (code_of xs m)) (same l m) (λ t. same-from l m (code_inj xs l m (eqb-true _ _ t))) (λ t. eq-eqb _ _ (ap (code_of xs) (same-true l m t)))

pub code_below : (xs : List ℕ) (l : Lit) → listed xs l.var ≡ true → code_of xs l < 2 * length xs
code_below xs l h = let a = sign_small l.positive in let b = place_below xs l.var h in omega (arith, a, b)

-- a clause's codes are its row
codes_listed : (xs : List ℕ) (c : List Lit) (l : Lit) → listed (codes_of xs c) (code_of xs l) ≡ has c l
codes_listed xs [] l = refl
codes_listed xs (m ∷ c) l = ap (λ b. b || listed (codes_of xs c) (code_of xs l)) (code_same xs m l) ∙ ap (λ b. same m l || b) (codes_listed xs c l)

codes_below : (xs : List ℕ) (c : List Lit) → Covers xs c → AllBelow (2 * length xs) (codes_of xs c)
codes_below xs [] h = tt
codes_below xs (l ∷ c) h = (code_below xs l h.0, codes_below xs c h.1)

pub coded_rows : (xs : List ℕ) (cs : List (List Lit)) → CoversAll xs cs → AreRows xs (all_codes xs cs) cs
coded_rows xs [] h = none
coded_rows xs (c ∷ cs) h = also ((λ l. codes_listed xs c l), codes_below xs c h.0) (coded_rows xs cs h.1)

-- each code below the end is a literal's
pub decoded : (xs : List ℕ) → IsStrictlyIncreasing xs → (k : ℕ) → k < 2 * length xs → (l : Lit) × (code_of xs l ≡ k)
decoded xs up k h = go (cases_eq (k % 2) 0)
  where
    i : ℕ
    i = k / 2

    parts : 2 * (k / 2) + k % 2 ≡ k
    parts = omega arith

    lt : k / 2 < length xs
    lt = omega arith

    at : place xs (get_or xs (k / 2) 0) ≡ k / 2
    at = place_at xs up (k / 2) (get_or xs (k / 2) 0) lt refl

    go : (k % 2 ≡ 0) ⊎ (k % 2 ≡ 0 → ⊥) → (l : Lit) × (code_of xs l ≡ k)
    go (inl e) = (record { var = get_or xs (k / 2) 0; positive = true }, omega (arith, at, parts, e))
    go (inr n) = (record { var = get_or xs (k / 2) 0; positive = false }, let q : k % 2 < 2 = omega arith in omega (arith, at, parts, n, q))

-- lists of variables
pub covers_from : (xs : List ℕ) (c : List Lit) → ((v : ℕ) → listed (vars_of c) v ≡ true → listed xs v ≡ true) → Covers xs c
covers_from xs [] h = tt
covers_from xs (l ∷ c) h = (h l.var (or_left _ _ (eq-eqb l.var l.var refl)), covers_from xs c (λ v t. h v (or_right _ _ t)))

listed_left : (xs ys : List ℕ) (v : ℕ) → listed xs v ≡ true → listed (xs ++ ys) v ≡ true
listed_left [] ys v h = absurd cc
listed_left (x ∷ xs) ys v h = elim (or_cases (nat_eq x v) (listed xs v) h) [ inl a ↦ or_left _ _ a | inr b ↦ or_right _ _ (listed_left xs ys v b) ]

listed_right : (xs ys : List ℕ) (v : ℕ) → listed ys v ≡ true → listed (xs ++ ys) v ≡ true
listed_right [] ys v h = h
listed_right (x ∷ xs) ys v h = or_right _ _ (listed_right xs ys v h)

pub covers_all_from : (xs : List ℕ) (cs : List (List Lit)) → ((v : ℕ) → listed (all_vars cs) v ≡ true → listed xs v ≡ true) → CoversAll xs cs
covers_all_from xs [] h = tt
covers_all_from xs (c ∷ cs) h = (covers_from xs c (λ v t. h v (listed_left (vars_of c) (all_vars cs) v t)), covers_all_from xs cs (λ v t. h v (listed_right (vars_of c) (all_vars cs) v t)))

rising_order : (xs : List ℕ) → IsStrictlyIncreasing xs → (i j : ℕ) → i ≤ j → j < length xs → get_or xs i 0 ≤ get_or xs j 0
rising_order xs up i j le lt = go (cases_eq i j)
  where
    go : (i ≡ j) ⊎ (i ≡ j → ⊥) → get_or xs i 0 ≤ get_or xs j 0
    go (inl e) = rw e (omega arith)
    go (inr n) = let e : i + suc (j - i - 1) ≡ j = omega (arith, n) in
        let h : get_or xs i 0 < get_or xs (i + suc (j - i - 1)) 0 = rising_far xs up i (j - i - 1) (omega (arith, e)) in
        let h2 : get_or xs i 0 < get_or xs j 0 = subst (λ k. get_or xs i 0 < get_or xs k 0) e h in omega arith

-- what a binary search in numbers that rise says
pub found_by : (xs : List ℕ) (v i : ℕ) → IsBinarySearchResult (λ y. nat_cmp y v) xs (Ok i) → IsStrictlyIncreasing xs → (i < length xs) × (get_or xs i 0 ≡ v)
found_by xs v i h up = searched xs v (Ok i) h (rising_order xs up)

pub missed_by : (xs : List ℕ) (v i : ℕ) → IsBinarySearchResult (λ y. nat_cmp y v) xs (Err i) → IsStrictlyIncreasing xs → listed xs v ≡ false
missed_by xs v i h up =
    let s = searched xs v (Err i) h (rising_order xs up) in
    false_from_ne_true (listed xs v) (λ t. lacks s.1 s.2 (listed_true xs v t))
  where
    lacks : ((k : ℕ) → k < i → get_or xs k 0 < v) → ((k : ℕ) → i ≤ k → k < length xs → v < get_or xs k 0) → ((k : ℕ) × (k < length xs) × (get_or xs k 0 ≡ v)) → ⊥
    lacks below above (k, lt, e) = elim (cases_lt k i) [ inl a ↦ (let q = below k a in omega (arith, q, e)) | inr b ↦ (let q = above k b lt in omega (arith, q, e)) ]

-- sorted and without repeats: the same variables, rising
pub sorted_covers : (xs ys zs : List ℕ) → IsPermutation xs ys → zs ≡ dedup eqb ys → (v : ℕ) → listed xs v ≡ true → listed zs v ≡ true
sorted_covers xs ys zs p e v h =
    let (i, lt, q) = listed_true ys v (listed_permuted xs ys p v ∙ h) in
    let (k, kl, kq) = Contains-dedup_nat ys v (i, lt, get_or_default ys i v 0 lt ∙ q) in
    rw e (listed_at (dedup eqb ys) v k kl (get_or_default (dedup eqb ys) k 0 v kl ∙ kq))

pub length-all_vars : (cs : List (List Lit)) → length (all_vars cs) ≡ count cs
length-all_vars [] = refl
length-all_vars (c ∷ cs) = length-append (vars_of c) (all_vars cs) ∙ ap (λ n. n + length (all_vars cs)) (length-vars c) ∙ ap (λ n. length c + n) (length-all_vars cs)
  where
    length-vars : (d : List Lit) → length (vars_of d) ≡ length d
    length-vars [] = refl
    length-vars (l ∷ d) = ap suc (length-vars d)

pub all_vars_next : (vars vars2 : List ℕ) (cs : List (List Lit)) (k : ℕ) (c : List Lit) (w : List ℕ) → slice_get cs k ≡ Some c → vars2 ≡ vars ++ vars_of c → vars ++ all_vars (drop k cs) ≡ w → vars2 ++ all_vars (drop (k + 1) cs) ≡ w
all_vars_next vars vars2 cs k c w h e g = rw e (append_assoc vars (vars_of c) (all_vars (drop (k + 1) cs)) ∙ ap (λ x. vars ++ all_vars x) (sym (drop_next cs k c h)) ∙ g)

pub all_codes_next : (xs : List ℕ) (rows rows2 : List (List ℕ)) (row : List ℕ) (cs : List (List Lit)) (k : ℕ) (c : List Lit) (w : List (List ℕ)) → slice_get cs k ≡ Some c → row ≡ codes_of xs c → rows2 ≡ rows ++ (row ∷ []) → rows ++ all_codes xs (drop k cs) ≡ w → rows2 ++ all_codes xs (drop (k + 1) cs) ≡ w
all_codes_next xs rows rows2 row cs k c w h r e g = rw (e, r) (append_assoc rows (codes_of xs c ∷ []) (all_codes xs (drop (k + 1) cs)) ∙ ap (λ x. rows ++ all_codes xs x) (sym (drop_next cs k c h)) ∙ g)

pub covers_next : (xs : List ℕ) (cs : List (List Lit)) (k : ℕ) (c : List Lit) → slice_get cs k ≡ Some c → CoversAll xs (drop k cs) → Covers xs c × CoversAll xs (drop (k + 1) cs)
covers_next xs cs k c h g = let p = subst (CoversAll xs) (drop_next cs k c h) g in (p.0, p.1)

-- a variable that does not occur is numbered past all that do
pub place_absent : (xs : List ℕ) (v : ℕ) → listed xs v ≡ false → length xs ≤ place xs v
place_absent [] v h = omega arith
place_absent (x ∷ xs) v h = go (nat_eq x v) refl h (λ g. place_absent xs v g)
  where
    go : (b : Bool) → nat_eq x v ≡ b → (b || listed xs v) ≡ false → (listed xs v ≡ false → length xs ≤ place xs v) → suc (length xs) ≤ cond b 0 (suc (place xs v))
    go true q z f = absurd (both_ways true z refl)
    go false q z f = let y = f z in omega arith
