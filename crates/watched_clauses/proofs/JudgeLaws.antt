-- What the search of a row gives.
use Rattle.std.proofs.Common.{◌≡◌, ℕ, ◌+◌, ◌<◌, ◌≤◌, Bool, true, false, ◌||◌, cond, List, Option, Some, ◌⊎◌, inl, inr, refl, sym, ◌∙◌, subst, arith, nat_eq, length, get_or}
use Rattle.std.proofs.lemmas.Bool.{both_ways, or_cases, or_left, or_right, eqb-true, eq-eqb, cases_eq, cases_lt, false_from_ne_true}
use Rattle.prop.specs.Trues.{listed}
use Rattle.resolution_log.proofs.Places.{listed_at, listed_true}
use Rattle.dense_trail.specs.Dense.{negation, is_true}
use Rattle.watched_clauses.specs.declared.looking.Watch.{Watch}
use Rattle.watched_clauses.specs.declared.looking.Finding.{Finding}
use Rattle.watched_clauses.specs.declared.looking.Finding.TheVariants.{Lone, Clash}
use Rattle.watched_clauses.specs.Judge.{is_closed, AllClosed, last_finding, first_of, second_of, pair_of, AreWatched, IsFinding, IsPair}

-- one more place
pub closed_more : (truth : List Bool) (other : ℕ) (r : List ℕ) (from at : ℕ) → AllClosed truth other r from at → is_closed truth other (get_or r at 0) ≡ true → AllClosed truth other r from (at + 1)
closed_more truth other r from at h e j ge lt = elim (cases_lt j at) [
  | inl a ↦ h j ge a
  | inr b ↦ (let q : at ≡ j = omega (arith, b, lt) in subst (λ w. is_closed truth other (get_or r w 0) ≡ true) q e)
]

pub closed_both : (truth : List Bool) (other : ℕ) (r : List ℕ) (from : ℕ) → AllClosed truth other r 0 from → AllClosed truth other r from (length r) → AllClosed truth other r 0 (length r)
closed_both truth other r from h k j ge lt = elim (cases_lt j from) [ inl a ↦ h j ge a | inr b ↦ k j b lt ]

pub all_closed : (truth : List Bool) (other : ℕ) (r : List ℕ) → AllClosed truth other r 0 (length r) → (k : ℕ) → listed r k ≡ true → (k ≡ other → ⊥) → is_true truth (negation k) ≡ true
all_closed truth other r h k hk n =
    let (j, lt, e) = listed_true r k hk in
    let c = subst (λ w. is_closed truth other w ≡ true) e (h j (omega arith) lt) in
    elim (or_cases (nat_eq k other) (is_true truth (negation k)) c) [ inl a ↦ absurd (n (eqb-true k other a)) | inr b ↦ b ]

pub open_there : (truth : List Bool) (other : ℕ) (r : List ℕ) (at : ℕ) → at < length r → is_closed truth other (get_or r at 0) ≡ false → (listed r (get_or r at 0) ≡ true) × (get_or r at 0 ≡ other → ⊥) × (is_true truth (negation (get_or r at 0)) ≡ false)
open_there truth other r at lt h =
    let k = get_or r at 0 in
    let z = is_true truth (negation k) in
    (listed_at r k at lt refl, (λ e. both_ways (nat_eq k other || z) h (or_left _ _ (eq-eqb k other e))), false_from_ne_true z (λ t. both_ways (nat_eq k other || z) h (or_right _ _ t)))

pub some_same : {X : Type 0} (o : Option X) (a b : X) → o ≡ Some a → o ≡ Some b → a ≡ b
some_same o a b p q = let e : Some a ≡ Some b = sym p ∙ q in cc

-- where all others are false, the last one decides
module _ (truth : List Bool) (falsified first second other : ℕ) (r : List ℕ) (aw : AreWatched first second falsified other) (free : is_true truth other ≡ false) (others : (k : ℕ) → listed r k ≡ true → (k ≡ other → ⊥) → is_true truth (negation k) ≡ true) where
  pub last_found : (f : Finding) → f ≡ last_finding truth other → IsFinding truth falsified first second r f
  last_found f is = subst (IsFinding truth falsified first second r) (sym is) (go (is_true truth (negation other)) refl)
    where
      go : (b : Bool) → is_true truth (negation other) ≡ b → IsFinding truth falsified first second r (cond b Clash (Lone other))
      go true e = λ k hk. elim (cases_eq k other) [ inl q ↦ subst (λ z. is_true truth (negation z) ≡ true) (sym q) e | inr n ↦ others k hk n ]
      go false e = (aw, free, e, others)

-- a clause of two literals
pub pair_others : (truth : List Bool) (falsified first second other : ℕ) (r : List ℕ) → AreWatched first second falsified other → is_true truth (negation falsified) ≡ true → ((z : ℕ) → listed r z ≡ true → (z ≡ first) ⊎ (z ≡ second)) → (k : ℕ) → listed r k ≡ true → (k ≡ other → ⊥) → is_true truth (negation k) ≡ true
pair_others truth falsified first second other r aw f all k hk n = elim (all k hk) [
  | inl a ↦ elim aw [ inl p ↦ here (a ∙ p.0) | inr p ↦ absurd (n (a ∙ p.1)) ]
  | inr b ↦ elim aw [ inl p ↦ absurd (n (b ∙ p.1)) | inr p ↦ here (b ∙ p.0) ]
]
  where
    here : k ≡ falsified → is_true truth (negation k) ≡ true
    here e = subst (λ z. is_true truth (negation z) ≡ true) (sym e) f

-- each literal of such a clause is one of the two
pub pair_cases : (watches : List Watch) (k : ℕ) (r : List ℕ) → IsPair watches k r → pair_of watches k ≡ true → (z : ℕ) → listed r z ≡ true → (z ≡ first_of watches k) ⊎ (z ≡ second_of watches k)
pair_cases watches k r p t z h = elim (cases_eq z (first_of watches k)) [ inl e ↦ inl e | inr n ↦ inr (p t z h n) ]

pub pair_from : (watches : List Watch) (k : ℕ) (r : List ℕ) → (pair_of watches k ≡ true → (z : ℕ) → listed r z ≡ true → (z ≡ first_of watches k) ⊎ (z ≡ second_of watches k)) → IsPair watches k r
pair_from watches k r p t z h n = elim (p t z h) [ inl e ↦ absurd (n e) | inr e ↦ e ]
