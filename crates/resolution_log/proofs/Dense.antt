-- Numbers found by a mark for each.
use Rattle.std.proofs.Common.{◌≡◌, ℕ, ◌+◌, ◌<◌, ◌≤◌, length, List, [], ◌∷◌, ◌++◌, take, set, slice_index, slice_index_or, arith, ap, sym, ◌∙◌, refl, suc, zero, Bool, true, false, ◌||◌, subst, eqb, ◌⊎◌, inl, inr, length-append}
use Rattle.std.proofs.lemmas.Bool.{eqb-true, eq-eqb, false≢true, cases_eq}
use Rattle.std.proofs.lemmas.List.{get_or-set_same, get_or-set_other, length-set}
use Rattle.std.specs.List.Sorted.{IsStrictlyIncreasing}
use Rattle.prop.specs.Trues.{listed}
use Rattle.resolution_log.specs.Codes.{AllBelow}

either : (a b : Bool) → (a || b) ≡ true → (a ≡ true) ⊎ (b ≡ true)
either true b e = inl refl
either false b e = inr e

-- one of the first numbers is the last of them, or one before it
pub last-listed : (xs : List ℕ) (i v : ℕ) → i < length xs → listed (take (i + 1) xs) v ≡ true
    → (listed (take i xs) v ≡ true) ⊎ (slice_index xs i ≡ v)
last-listed xs i v lt h =
    let e : i + 1 ≡ suc i = omega arith in
    let P : ℕ → Type 0 = λ k. listed (take k xs) v ≡ true in
    walk xs i v lt (subst P e h)
  where
    or-true : (b c : Bool) → c ≡ true → (b || c) ≡ true
    or-true true c e = refl
    or-true false c e = e

    walk : (xs : List ℕ) (i v : ℕ) → i < length xs → listed (take (suc i) xs) v ≡ true → (listed (take i xs) v ≡ true) ⊎ (slice_index xs i ≡ v)
    walk [] i v lt h = absurd (omega arith)
    walk (x ∷ xs) zero v lt h = elim (either (eqb x v) false h) [ inl a ↦ inr (eqb-true x v a) | inr b ↦ absurd (false≢true b) ]
    walk (x ∷ xs) (suc i) v lt h =
        elim (either (eqb x v) (listed (take (suc i) xs) v) h) [
          | inl a ↦ inl (ap (λ (b : Bool). b || listed (take i xs) v) a)
          | inr b ↦ elim (walk xs i v (omega arith) b) [ inl a ↦ inl (or-true (eqb x v) (listed (take i xs) v) a) | inr e ↦ inr e ]
        ]

-- a mark more
pub marks-more : (marks : List Bool) (vars : List ℕ) (i : ℕ) → i < length vars
    → ((v : ℕ) → v < length marks → listed (take i vars) v ≡ true → slice_index_or marks v false ≡ true)
    → slice_index vars i < length marks
    → (v : ℕ) → v < length marks → listed (take (i + 1) vars) v ≡ true → slice_index_or (set marks (slice_index vars i) true) v false ≡ true
marks-more marks vars i lt h there v less l =
    elim (cases_eq v (slice_index vars i)) [
      | inl e ↦ subst (λ (k : ℕ). slice_index_or (set marks (slice_index vars i) true) k false ≡ true) (sym e) (get_or-set_same marks (slice_index vars i) true false there)
      | inr ne ↦ get_or-set_other marks (slice_index vars i) v true false ne ∙ elim (last-listed vars i v lt l) [ inl a ↦ h v less a | inr e ↦ absurd (ne (sym e)) ]
    ]

-- a number that has no mark
pub marks-same : (marks : List Bool) (vars : List ℕ) (i : ℕ) → i < length vars
    → ((v : ℕ) → v < length marks → listed (take i vars) v ≡ true → slice_index_or marks v false ≡ true)
    → length marks ≤ slice_index vars i
    → (v : ℕ) → v < length marks → listed (take (i + 1) vars) v ≡ true → slice_index_or marks v false ≡ true
marks-same marks vars i lt h past v less l =
    elim (last-listed vars i v lt l) [ inl a ↦ h v less a | inr e ↦ absurd (omega (arith, e, less, past)) ]

-- the numbers so far, and one more
pub listed-last : (xs : List ℕ) (x : ℕ) → listed (xs ++ x ∷ []) x ≡ true
listed-last [] x = ap (λ (b : Bool). b || false) (eq-eqb x x refl)
listed-last (y ∷ xs) x = or-true (eqb y x) (listed (xs ++ x ∷ []) x) (listed-last xs x)
  where
    or-true : (b c : Bool) → c ≡ true → (b || c) ≡ true
    or-true true c e = refl
    or-true false c e = e

pub listed-kept : (xs : List ℕ) (x v : ℕ) → listed xs v ≡ true → listed (xs ++ x ∷ []) v ≡ true
listed-kept [] x v h = absurd (false≢true h)
listed-kept (y ∷ xs) x v h =
    elim (either (eqb y v) (listed xs v) h) [
      | inl a ↦ ap (λ (b : Bool). b || listed (xs ++ x ∷ []) v) a
      | inr b ↦ or-true (eqb y v) (listed (xs ++ x ∷ []) v) (listed-kept xs x v b)
    ]
  where
    or-true : (b c : Bool) → c ≡ true → (b || c) ≡ true
    or-true true c e = refl
    or-true false c e = e

pub below-more : (n m : ℕ) (xs : List ℕ) → n ≤ m → AllBelow n xs → AllBelow m xs
below-more n m [] le h = tt
below-more n m (x ∷ xs) le h = (omega (arith, h.0), below-more n m xs le h.1)

pub below-last : (n : ℕ) (xs : List ℕ) (x : ℕ) → x < n → AllBelow n xs → AllBelow n (xs ++ x ∷ [])
below-last n [] x lt h = (lt, tt)
below-last n (y ∷ xs) x lt h = (h.0, below-last n xs x lt h.1)

pub rising-last : (xs : List ℕ) (n : ℕ) → IsStrictlyIncreasing xs → AllBelow n xs → IsStrictlyIncreasing (xs ++ n ∷ [])
rising-last xs n h b k lt =
    let e : k + 1 ≡ suc k = omega arith in
    let P : ℕ → Type 0 = λ j. slice_index (xs ++ n ∷ []) k < slice_index (xs ++ n ∷ []) j in
    subst P (sym e) (walk xs n (λ j less. let f : j + 1 ≡ suc j = omega arith in let Q : ℕ → Type 0 = λ i. slice_index xs j < slice_index xs i in subst Q f (h j (omega (arith, less)))) b k (omega (arith, lt)))
  where
    walk : (xs : List ℕ) (n : ℕ) → ((k : ℕ) → suc k < length xs → slice_index xs k < slice_index xs (suc k)) → AllBelow n xs
        → (k : ℕ) → suc k < length (xs ++ n ∷ []) → slice_index (xs ++ n ∷ []) k < slice_index (xs ++ n ∷ []) (suc k)
    walk [] n h b k lt = absurd (omega arith)
    walk (x ∷ []) n h b zero lt = b.0
    walk (x ∷ []) n h b (suc k) lt = absurd (omega (arith, lt))
    walk (x ∷ y ∷ xs) n h b zero lt = h 0 (omega arith)
    walk (x ∷ y ∷ xs) n h b (suc k) lt = walk (y ∷ xs) n (λ j less. h (suc j) (omega (arith, less))) b.1 k (omega (arith, lt))

-- a number above those so far and above one more
pub top-more : (vars : List ℕ) (i low top : ℕ) → i < length vars → ((v : ℕ) → listed (take i vars) v ≡ true → v < low) → low ≤ top
    → slice_index vars i < top → (v : ℕ) → listed (take (i + 1) vars) v ≡ true → v < top
top-more vars i low top lt h le above v l =
    elim (last-listed vars i v lt l) [ inl a ↦ omega (arith, h v a, le) | inr e ↦ omega (arith, e, above) ]

-- what is known of the marked numbers so far
pub record Found (marks : List Bool) (n : ℕ) (xs : List ℕ) : Type 0 where
  pub rising : IsStrictlyIncreasing xs
  pub below : AllBelow n xs
  pub few : length xs ≤ n
  pub all : (v : ℕ) → v < n → slice_index_or marks v false ≡ true → listed xs v ≡ true

pub found-more : (marks : List Bool) (n : ℕ) (xs : List ℕ) → Found marks n xs → Found marks (n + 1) (xs ++ n ∷ [])
found-more marks n xs f = record {
  rising = rising-last xs n f.rising f.below;
  below = below-last (n + 1) xs n (omega arith) (below-more n (n + 1) xs (omega arith) f.below);
  few = omega (arith, f.few, length-append xs (n ∷ []));
  all = λ v lt m.
      elim (cases_eq v n) [
        | inl e ↦ (let P : ℕ → Type 0 = λ k. listed (xs ++ n ∷ []) k ≡ true in subst P (sym e) (listed-last xs n))
        | inr ne ↦ listed-kept xs n v (f.all v (omega (arith, lt, ne)) m)
      ];
}

pub found-same : (marks : List Bool) (n : ℕ) (xs : List ℕ) → slice_index_or marks n false ≡ false → Found marks n xs → Found marks (n + 1) xs
found-same marks n xs u f = record {
  rising = f.rising;
  below = below-more n (n + 1) xs (omega arith) f.below;
  few = omega (arith, f.few);
  all = λ v lt m.
      elim (cases_eq v n) [
        | inl e ↦ absurd (false≢true (sym u ∙ (sym (ap (λ (k : ℕ). slice_index_or marks k false) e) ∙ m)))
        | inr ne ↦ f.all v (omega (arith, lt, ne)) m
      ];
}

pub marked-within : (marks : List Bool) (v : ℕ) → slice_index_or marks v false ≡ true → v < length marks
marked-within [] v m = absurd (false≢true m)
marked-within (b ∷ marks) zero m = omega arith
marked-within (b ∷ marks) (suc v) m = let h = marked-within marks v m in omega (arith, h)
