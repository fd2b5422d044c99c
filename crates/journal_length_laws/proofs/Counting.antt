-- Numbers that are all different and all low are few.
use Rattle.std.proofs.Common.{◌≡◌, ◌∙◌, ℕ, ◌+◌, ◌*◌, ◌-◌, ◌/◌, ◌%◌, ◌<◌, ◌≤◌, ◌==◌, ◌⊎◌, inl, inr, Bool, true, false, List, [], ◌∷◌, ◌++◌, length, zero, suc, refl, sym, ap, arith, if◌then◌else◌}
use Rattle.std.proofs.lemmas.Bool.{eqb-false, eqb-true}
use Rattle.std.proofs.Math.Nat.{add-mul}
use Rattle.std.proofs.lemmas.Nat.{div-mul-add, mod-mul-add}
use Rattle.c_graph.specs.Shape.{Flow}
use Rattle.cover_engine.specs.declared.unit.UnitDone.{UnitDone}
use Rattle.cover_engine.specs.Unwindings.{Unwound}
use Rattle.cover_engine.specs.Units.{Can, CanAll, after}

abbrev pub In : List ℕ → ℕ → Type 0
In [] k = ⊥
In (x ∷ xs) k = (x ≡ k) ⊎ In xs k

abbrev pub Distinct : List ℕ → Type 0
Distinct [] = Unit {0}
Distinct (x ∷ xs) = (In xs x → ⊥) × Distinct xs

pub in-either : (xs ys : List ℕ) (k : ℕ) → In (xs ++ ys) k → In xs k ⊎ In ys k
in-either [] ys k h = inr h
in-either (x ∷ xs) ys k (inl e) = inl (inl e)
in-either (x ∷ xs) ys k (inr h) = elim (in-either xs ys k h) [ inl a ↦ inl (inr a) | inr b ↦ inr b ]

pub distinct-append : (xs ys : List ℕ) → Distinct xs → Distinct ys → ((k : ℕ) → In xs k → In ys k → ⊥) → Distinct (xs ++ ys)
distinct-append [] ys a b apart = b
distinct-append (x ∷ xs) ys a b apart = (
  λ h. elim (in-either xs ys x h) [ inl i ↦ a.0 i | inr j ↦ apart x (inl refl) j ],
  distinct-append xs ys a.1 b (λ k i j. apart k (inr i) j),
)

-- the others than a number
others : ℕ → List ℕ → List ℕ
others n [] = []
others n (x ∷ xs) = if x == n then others n xs else x ∷ others n xs

others-in : (n : ℕ) (xs : List ℕ) (k : ℕ) → In (others n xs) k → In xs k × (k ≡ n → ⊥)
unfolding others
others-in n [] k h = absurd h
others-in n (x ∷ xs) k h = by (x == n) refl h (others-in n xs k)
  where
    by : (b : Bool) → (x == n) ≡ b → In (if b then others n xs else x ∷ others n xs) k → (In (others n xs) k → In xs k × (k ≡ n → ⊥))
        → In (x ∷ xs) k × (k ≡ n → ⊥)
    by true e h f = let (i, ne) = f h in (inr i, ne)
    by false e (inl s) f = (inl s, λ t. eqb-false x n e (s ∙ t))
    by false e (inr h) f = let (i, ne) = f h in (inr i, ne)

others-distinct : (n : ℕ) (xs : List ℕ) → Distinct xs → Distinct (others n xs)
unfolding others
others-distinct n [] d = tt
others-distinct n (x ∷ xs) d = by (x == n) (others-distinct n xs d.1)
  where
    by : (b : Bool) → Distinct (others n xs) → Distinct (if b then others n xs else x ∷ others n xs)
    by true r = r
    by false r = (λ h. d.0 (others-in n xs x h).0, r)

others-all : (n : ℕ) (xs : List ℕ) → (In xs n → ⊥) → length (others n xs) ≡ length xs
unfolding others
others-all n [] none = refl
others-all n (x ∷ xs) none = by (x == n) refl (others-all n xs (λ h. none (inr h)))
  where
    by : (b : Bool) → (x == n) ≡ b → length (others n xs) ≡ length xs → length (if b then others n xs else x ∷ others n xs) ≡ suc (length xs)
    by true e r = absurd (none (inl (eqb-true x n e)))
    by false e r = ap suc r

in-moved : (ys : List ℕ) (a b : ℕ) → In ys a → a ≡ b → In ys b
in-moved [] a b h e = h
in-moved (y ∷ ys) a b (inl s) e = inl (s ∙ e)
in-moved (y ∷ ys) a b (inr h) e = inr (in-moved ys a b h e)

others-long : (n : ℕ) (xs : List ℕ) → Distinct xs → length xs ≤ suc (length (others n xs))
unfolding others
others-long n [] d = omega arith
others-long n (x ∷ xs) d = by (x == n) refl (others-long n xs d.1)
  where
    here : x ≡ n → length (others n xs) ≡ length xs
    here e = others-all n xs (λ h. d.0 (in-moved xs n x h (sym e)))

    by : (b : Bool) → (x == n) ≡ b → length xs ≤ suc (length (others n xs)) → suc (length xs) ≤ suc (length (if b then others n xs else x ∷ others n xs))
    by true e r = let s = here (eqb-true x n e) in omega (arith, s)
    by false e r = omega (arith, r)

pub few : (n : ℕ) (xs : List ℕ) → Distinct xs → ((k : ℕ) → In xs k → k < n) → length xs ≤ n
few zero [] d low = omega arith
few zero (x ∷ xs) d low = absurd (omega (arith, low x (inl refl)))
few (suc n) xs d low =
    let long = others-long n xs d in
    let rest = few n (others n xs) (others-distinct n xs d)
    (λ k h. (let i = others-in n xs k h in let lt = low k i.0 in let ne = i.1 in omega (arith, lt, ne))) in
    omega (arith, long, rest)

-- two digits to a base
pub digits-low : (a b p w : ℕ) → a < b → w < p → a * p + w < b * p
digits-low a b p w lt l =
    let c : ℕ = b - a - 1 in
    let e : b ≡ a + (1 + (b - a - 1)) = omega (arith, lt) in
    let m : b * p ≡ a * p + (1 + (b - a - 1)) * p = ap (λ n. n * p) e ∙ add-mul a (1 + (b - a - 1)) p in
    let k : (1 + (b - a - 1)) * p ≡ 1 * p + (b - a - 1) * p = add-mul 1 (b - a - 1) p in
    omega (arith, m, k, l)

pub digits-same : (a b p v w : ℕ) → v < p → w < p → a * p + v ≡ b * p + w → (a ≡ b) × (v ≡ w)
digits-same a b p v w lv lw e = (
  sym (div-mul-add a p v lv) ∙ ap (λ n. n / p) e ∙ div-mul-add b p w lw,
  sym (mod-mul-add a p v lv) ∙ ap (λ n. n % p) e ∙ mod-mul-add b p w lw,
)

-- the numbers of units
abbrev pub keys : Flow → (Unwound → UnitDone → List ℕ) → Unwound → List UnitDone → List ℕ
keys g key u [] = []
keys g key u (x ∷ xs) = key u x ++ keys g key (after g u x) xs

-- where each is that of something that is done once for good
module _ (g : Flow) (key : Unwound → UnitDone → List ℕ) (Kept : Unwound → Type 0) (Done : Unwound → ℕ → Type 0)
    (kept : (u : Unwound) (x : UnitDone) → Kept u → Can g u x → Kept (after g u x))
    (fresh : (u : Unwound) (x : UnitDone) (k : ℕ) → Kept u → Can g u x → In (key u x) k → Done u k → ⊥)
    (done : (u : Unwound) (x : UnitDone) (k : ℕ) → Kept u → Can g u x → In (key u x) k → Done (after g u x) k)
    (stays : (u : Unwound) (x : UnitDone) (k : ℕ) → Kept u → Can g u x → Done u k → Done (after g u x) k)
    (single : (u : Unwound) (x : UnitDone) → Distinct (key u x)) (most : ℕ)
    (low : (u : Unwound) (x : UnitDone) (k : ℕ) → Kept u → Can g u x → In (key u x) k → k < most) where
  not-done : (u : Unwound) (xs : List UnitDone) → Kept u → CanAll g u xs → (k : ℕ) → In (keys g key u xs) k → Done u k → ⊥
  not-done u [] i c k h d = absurd h
  not-done u (x ∷ xs) i c k h d = elim (in-either (key u x) (keys g key (after g u x) xs) k h) [
    | inl a ↦ fresh u x k i c.0 a d
    | inr b ↦ not-done (after g u x) xs (kept u x i c.0) c.1 k b (stays u x k i c.0 d)
  ]

  keys-distinct : (u : Unwound) (xs : List UnitDone) → Kept u → CanAll g u xs → Distinct (keys g key u xs)
  keys-distinct u [] i c = tt
  keys-distinct u (x ∷ xs) i c =
      distinct-append (key u x) (keys g key (after g u x) xs) (single u x) (keys-distinct (after g u x) xs (kept u x i c.0) c.1)
      (λ k a b. not-done (after g u x) xs (kept u x i c.0) c.1 k b (done u x k i c.0 a))

  keys-low : (u : Unwound) (xs : List UnitDone) → Kept u → CanAll g u xs → (k : ℕ) → In (keys g key u xs) k → k < most
  keys-low u [] i c k h = absurd h
  keys-low u (x ∷ xs) i c k h = elim (in-either (key u x) (keys g key (after g u x) xs) k h) [
    | inl a ↦ low u x k i c.0 a
    | inr b ↦ keys-low (after g u x) xs (kept u x i c.0) c.1 k b
  ]

  pub keys-few : (u : Unwound) (xs : List UnitDone) → Kept u → CanAll g u xs → length (keys g key u xs) ≤ most
  keys-few u xs i c = few most (keys g key u xs) (keys-distinct u xs i c) (keys-low u xs i c)
