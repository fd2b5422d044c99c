-- How values come and go.
use Rattle.std.proofs.Common.{◌≡◌, ℕ, ◌+◌, ◌-◌, ◌*◌, ◌/◌, ◌<◌, ◌≤◌, Bool, true, false, not, cond, ◌&&◌, ◌||◌, List, [], ◌∷◌, ◌++◌, Option, Some, None, zero, suc, ◌⊎◌, inl, inr, refl, sym, ap, ◌∙◌, subst, arith, nat_eq, length, get_or, set, get_or-set_other, get_or-set_same, length-append, replicate}
use Rattle.std.proofs.lemmas.Bool.{cases_Bool, both_ways, eqb-true, eq-eqb, ne_eqb, false_from_ne_true, or_cases, or_left, or_right, cases_eq, cases_lt, and_parts, and_from, not-true}
use Rattle.std.proofs.lemmas.List.{get_or_past}
use Rattle.prop.specs.Trues.{listed}
use Rattle.resolution_log.proofs.Places.{bool_same}
use Rattle.dense_trail.specs.Dense.{negation, is_true, Valued, Quiet, distinct, falses}
use Rattle.dense_trail.proofs.CodeLaws.{negation_ne, negation_twice}

pub listed_append : (xs ys : List ℕ) (k : ℕ) → listed (xs ++ ys) k ≡ true → (listed xs k ≡ true) ⊎ (listed ys k ≡ true)
listed_append [] ys k h = inr h
listed_append (x ∷ xs) ys k h = elim (or_cases (nat_eq x k) (listed (xs ++ ys) k) h) [ inl a ↦ inl (or_left _ _ a) | inr b ↦ elim (listed_append xs ys k b) [ inl c ↦ inl (or_right _ _ c) | inr c ↦ inr c ] ]

pub listed_left : (xs ys : List ℕ) (k : ℕ) → listed xs k ≡ true → listed (xs ++ ys) k ≡ true
listed_left [] ys k h = absurd (both_ways false refl h)
listed_left (x ∷ xs) ys k h = elim (or_cases (nat_eq x k) (listed xs k) h) [ inl a ↦ or_left _ _ a | inr b ↦ or_right _ _ (listed_left xs ys k b) ]

pub listed_right : (xs ys : List ℕ) (k : ℕ) → listed ys k ≡ true → listed (xs ++ ys) k ≡ true
listed_right [] ys k h = h
listed_right (x ∷ xs) ys k h = or_right _ _ (listed_right xs ys k h)

pub listed_one : (x k : ℕ) → listed (x ∷ []) k ≡ true → x ≡ k
listed_one x k h = elim (or_cases (nat_eq x k) false h) [ inl a ↦ eqb-true x k a | inr b ↦ absurd (both_ways false refl b) ]

pub listed_head : (x : ℕ) (xs : List ℕ) → listed (x ∷ xs) x ≡ true
listed_head x xs = or_left _ _ (eq-eqb x x refl)

pub listed_last : (xs : List ℕ) (k : ℕ) → listed (xs ++ (k ∷ [])) k ≡ true
listed_last xs k = listed_right xs (k ∷ []) k (listed_head k [])

pub listed_push : (xs : List ℕ) (x k : ℕ) → (x ≡ k → ⊥) → listed (xs ++ (x ∷ [])) k ≡ listed xs k
listed_push xs x k n = bool_same _ _ (λ h. elim (listed_append xs (x ∷ []) k h) [ inl a ↦ a | inr b ↦ absurd (n (listed_one x k b)) ]) (λ h. listed_left xs (x ∷ []) k h)

pub truth_same : (truth : List Bool) (c : ℕ) (b : Bool) → c < length truth → is_true (set truth c b) c ≡ b
truth_same truth c b lt = get_or-set_same truth c b false lt

pub truth_other : (truth : List Bool) (c k : ℕ) (b : Bool) → (k ≡ c → ⊥) → is_true (set truth c b) k ≡ is_true truth k
truth_other truth c k b n = get_or-set_other truth c k b false n

-- what is true has a code of the table
pub true_below : (truth : List Bool) (k : ℕ) → is_true truth k ≡ true → k < length truth
true_below truth k h = elim (cases_lt k (length truth)) [ inl a ↦ a | inr b ↦ absurd (both_ways (is_true truth k) (get_or_past truth k false b) h) ]

-- what was true stays so
pub truth_grows : (truth : List Bool) (c k : ℕ) → c < length truth → is_true truth k ≡ true → is_true (set truth c true) k ≡ true
truth_grows truth c k lt h = elim (cases_eq k c) [ inl e ↦ subst (λ w. is_true (set truth c true) w ≡ true) (sym e) (truth_same truth c true lt) | inr n ↦ truth_other truth c k true n ∙ h ]

-- what became so is new
pub truth_new : (truth : List Bool) (c k : ℕ) → is_true (set truth c true) k ≡ true → (k ≡ c) ⊎ (is_true truth k ≡ true)
truth_new truth c k h = elim (cases_eq k c) [ inl e ↦ inl e | inr n ↦ inr (sym (truth_other truth c k true n) ∙ h) ]

pub valued_push : (truth : List Bool) (codes : List ℕ) (c : ℕ) → c < length truth → Valued truth codes → Valued (set truth c true) (codes ++ (c ∷ []))
valued_push truth codes c lt v k = elim (cases_eq k c) [
  | inl e ↦ subst (λ w. is_true (set truth c true) w ≡ listed (codes ++ (c ∷ [])) w) (sym e) (truth_same truth c true lt ∙ sym (listed_last codes c))
  | inr n ↦ truth_other truth c k true n ∙ v k ∙ sym (listed_push codes c k (λ q. n (sym q)))
]

pub quiet_push : (truth : List Bool) (c : ℕ) → c < length truth → is_true truth (negation c) ≡ false → Quiet truth → Quiet (set truth c true)
quiet_push truth c lt free q k h = elim (cases_eq k c) [
  | inl e ↦ subst (λ w. is_true (set truth c true) (negation w) ≡ false) (sym e) (truth_other truth c (negation c) true (λ p. negation_ne c p) ∙ free)
  | inr n ↦ (let old : is_true truth k ≡ true = sym (truth_other truth c k true n) ∙ h in
      truth_other truth c (negation k) true (λ p. both_ways (is_true truth (negation c)) free (subst (λ w. is_true truth w ≡ true) (sym (negation_twice k) ∙ ap negation p) old)) ∙ q k old)
]

distinct_parts : (x : ℕ) (codes : List ℕ) → distinct (x ∷ codes) ≡ true → (listed codes x ≡ false) × (distinct codes ≡ true)
distinct_parts x codes d = let p = and_parts (not (listed codes x)) (distinct codes) d in (not-true (listed codes x) p.0, p.1)

distinct_whole : (x : ℕ) (codes : List ℕ) → listed codes x ≡ false → distinct codes ≡ true → distinct (x ∷ codes) ≡ true
distinct_whole x codes f d = and_from (not (listed codes x)) (distinct codes) (ap not f) d

pub distinct_push : (codes : List ℕ) (c : ℕ) → listed codes c ≡ false → distinct codes ≡ true → distinct (codes ++ (c ∷ [])) ≡ true
distinct_push [] c f d = refl
distinct_push (x ∷ codes) c f d =
    let p = distinct_parts x codes d in
    let g : listed codes c ≡ false = false_from_ne_true _ (λ h. both_ways (listed (x ∷ codes) c) f (or_right _ _ h)) in
    let n : c ≡ x → ⊥ = λ e. both_ways (listed (x ∷ codes) c) f (or_left _ _ (eq-eqb x c (sym e))) in
    distinct_whole x (codes ++ (c ∷ [])) (listed_push codes c x n ∙ p.0) (distinct_push codes c g p.1)

pub distinct_pop : (codes : List ℕ) (c : ℕ) → distinct (codes ++ (c ∷ [])) ≡ true → (listed codes c ≡ false) × (distinct codes ≡ true)
distinct_pop [] c d = (refl, refl)
distinct_pop (x ∷ codes) c d =
    let p = distinct_parts x (codes ++ (c ∷ [])) d in
    let ih = distinct_pop codes c p.1 in
    let n : x ≡ c → ⊥ = λ e. both_ways (listed (codes ++ (c ∷ [])) x) p.0 (subst (λ w. listed (codes ++ (c ∷ [])) w ≡ true) (sym e) (listed_last codes c)) in (
      false_from_ne_true _ (λ h. elim (or_cases (nat_eq x c) (listed codes c) h) [ inl a ↦ n (eqb-true x c a) | inr b ↦ both_ways (listed codes c) ih.0 b ]),
      distinct_whole x codes (false_from_ne_true _ (λ h. both_ways (listed (codes ++ (c ∷ [])) x) p.0 (listed_left codes (c ∷ []) x h))) ih.1,
    )

pub valued_pop : (truth : List Bool) (codes : List ℕ) (c : ℕ) → c < length truth → listed codes c ≡ false → Valued truth (codes ++ (c ∷ [])) → Valued (set truth c false) codes
valued_pop truth codes c lt f v k = elim (cases_eq k c) [
  | inl e ↦ subst (λ w. is_true (set truth c false) w ≡ listed codes w) (sym e) (truth_same truth c false lt ∙ sym f)
  | inr n ↦ truth_other truth c k false n ∙ v k ∙ listed_push codes c k (λ q. n (sym q))
]

pub quiet_pop : (truth : List Bool) (c : ℕ) → c < length truth → Quiet truth → Quiet (set truth c false)
quiet_pop truth c lt q k h = elim (cases_eq k c) [
  | inl e ↦ absurd (both_ways (is_true (set truth c false) k) (subst (λ w. is_true (set truth c false) w ≡ false) (sym e) (truth_same truth c false lt)) h)
  | inr n ↦ (let f : is_true truth (negation k) ≡ false = q k (sym (truth_other truth c k false n) ∙ h) in
      elim (cases_eq (negation k) c) [ inl e ↦ subst (λ w. is_true (set truth c false) w ≡ false) (sym e) (truth_same truth c false lt) | inr m ↦ truth_other truth c (negation k) false m ∙ f ])
]

pub falses_set : (truth : List Bool) (c : ℕ) (b : Bool) → c < length truth → falses (set truth c b) + cond (is_true truth c) 0 1 ≡ falses truth + cond b 0 1
falses_set [] c b lt = absurd (omega arith)
falses_set (x ∷ truth) zero b lt = omega arith
falses_set (x ∷ truth) (suc c) b lt = let ih = falses_set truth c b (omega (arith, lt)) in omega (arith, ih)

one_of : (b : Bool) → b ≡ false → let n : ℕ = cond b 0 1 in let m : ℕ = 1 in n ≡ m
one_of false h = refl
one_of true h = absurd (both_ways true h refl)

none_of : (b : Bool) → b ≡ true → let n : ℕ = cond b 0 1 in let m : ℕ = 0 in n ≡ m
none_of true h = refl
none_of false h = absurd (both_ways false refl h)

pub counted_push : (truth : List Bool) (codes : List ℕ) (c : ℕ) → c < length truth → is_true truth c ≡ false → length codes + falses truth ≡ length truth → length (codes ++ (c ∷ [])) + falses (set truth c true) ≡ length truth
counted_push truth codes c lt f h =
    let p = falses_set truth c true lt in
    let q = one_of (is_true truth c) f in
    omega (arith, p, q, h, length-append codes (c ∷ []))

pub counted_pop : (truth : List Bool) (codes : List ℕ) (c : ℕ) → c < length truth → is_true truth c ≡ true → length (codes ++ (c ∷ [])) + falses truth ≡ length truth → length codes + falses (set truth c false) ≡ length truth
counted_pop truth codes c lt f h =
    let p = falses_set truth c false lt in
    let q = none_of (is_true truth c) f in
    omega (arith, p, q, h, length-append codes (c ∷ []))

-- no value at the start
pub blank : (n k : ℕ) → is_true (replicate n false) k ≡ false
blank zero k = refl
blank (suc n) zero = refl
blank (suc n) (suc k) = blank n k

pub blank_falses : (n : ℕ) → falses (replicate n false) ≡ n
blank_falses zero = refl
blank_falses (suc n) = let ih = blank_falses n in omega (arith, ih)
