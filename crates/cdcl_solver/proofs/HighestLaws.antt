-- The literal of the highest level among the others, one literal after the other.
use Rattle.std.proofs.Common.{◌≡◌, ℕ, ◌+◌, ◌*◌, ◌/◌, ◌<◌, ◌≤◌, Bool, true, false, ◌||◌, List, [], ◌∷◌, zero, suc, ◌⊎◌, inl, inr, refl, sym, ap, ◌∙◌, subst, arith, nat_eq, nat_lt, length, get_or, take}
use Rattle.std.proofs.lemmas.Bool.{both_ways, eqb-true, eq-eqb, or_cases, or_left, or_right, or_parts, cases_eq, cases_lt, lt-ltb, ltb-true}
use Rattle.std.proofs.lemmas.Grind.{get_or_default_zero}
use Rattle.std.proofs.lemmas.List.{take_all}
use Rattle.prop.specs.Trues.{listed}
use Rattle.dense_trail.specs.Dense.{level_of}
use Rattle.cdcl_solver.specs.Learning.{IsHighest}

-- the first literals and the next
pub next_of : (xs : List ℕ) (i k : ℕ) → i < length xs → listed (take (i + 1) xs) k ≡ true → (get_or xs i 0 ≡ k) ⊎ (listed (take i xs) k ≡ true)
next_of [] i k lt h = absurd (omega arith)
next_of (x ∷ xs) zero k lt h = elim (or_cases (nat_eq x k) false h) [ inl a ↦ inl (eqb-true x k a) | inr b ↦ absurd (both_ways false refl b) ]
next_of (x ∷ xs) (suc i) k lt h =
    let q : suc i + 1 ≡ suc (i + 1) = omega arith in
    let h2 : listed (take (suc (i + 1)) (x ∷ xs)) k ≡ true = subst (λ w. listed (take w (x ∷ xs)) k ≡ true) q h in
    elim (or_cases (nat_eq x k) (listed (take (i + 1) xs) k) h2) [
      | inl a ↦ inr (or_left _ _ a)
      | inr b ↦ elim (next_of xs i k (omega (arith, lt)) b) [ inl c ↦ inl c | inr c ↦ inr (or_right _ _ c) ]
    ]

pub next_in : (xs : List ℕ) (i : ℕ) → i < length xs → listed (take (i + 1) xs) (get_or xs i 0) ≡ true
next_in [] i lt = absurd (omega arith)
next_in (x ∷ xs) zero lt = or_left _ _ (eq-eqb x x refl)
next_in (x ∷ xs) (suc i) lt = let q : suc i + 1 ≡ suc (i + 1) = omega arith in subst (λ w. listed (take w (x ∷ xs)) (get_or xs i 0) ≡ true) (sym q) (or_right _ _ (next_in xs i (omega (arith, lt))))

pub next_more : (xs : List ℕ) (i k : ℕ) → listed (take i xs) k ≡ true → listed (take (i + 1) xs) k ≡ true
next_more [] zero k h = absurd (both_ways false refl h)
next_more [] (suc i) k h = absurd (both_ways false refl h)
next_more (x ∷ xs) zero k h = absurd (both_ways false refl h)
next_more (x ∷ xs) (suc i) k h = let q : suc i + 1 ≡ suc (i + 1) = omega arith in subst (λ w. listed (take w (x ∷ xs)) k ≡ true) (sym q) (elim (or_cases (nat_eq x k) (listed (take i xs) k) h) [ inl a ↦ or_left _ _ a | inr b ↦ or_right _ _ (next_more xs i k b) ])

pub highest_none : (levels : List ℕ) (uip : ℕ) → IsHighest levels [] uip uip uip 0
highest_none levels uip = record { uip_first = refl; top = λ z h n. absurd (both_ways false refl h); there = inl (refl, refl, λ z h. absurd (both_ways false refl h)) }

module _ (levels clause : List ℕ) (i uip second low : ℕ) (lt : i < length clause) (h : IsHighest levels (take i clause) uip uip second low) where
  pub highest_skip : get_or clause i 0 ≡ uip → IsHighest levels (take (i + 1) clause) uip uip second low
  highest_skip e = record {
    uip_first = refl;
    top = λ z hz n. elim (next_of clause i z lt hz) [ inl q ↦ absurd (n (sym q ∙ e)) | inr b ↦ h.top z b n ];
    there = elim h.there [
      | inl a ↦ inl (a.0, a.1, λ z hz. elim (next_of clause i z lt hz) [ inl q ↦ sym q ∙ e | inr b ↦ a.2 z b ])
      | inr a ↦ inr (a.0, next_more clause i second a.1, a.2)
    ];
  }

  module _ (r : ℕ) (fits : get_or clause i 0 / 2 < length levels) (read : r ≡ get_or levels (get_or clause i 0 / 2) r) where
    level_is : level_of levels (get_or clause i 0) ≡ r
    level_is = sym (read ∙ get_or_default_zero levels (get_or clause i 0 / 2) r fits)

    pub highest_keep : (b : Bool) → b ≡ (nat_eq second uip || nat_lt low r) → b ≡ false → IsHighest levels (take (i + 1) clause) uip uip second low
    highest_keep b is no' =
        let p = or_parts (nat_eq second uip) (nat_lt low r) (sym is ∙ no') in
        let le : r ≤ low = elim (cases_lt low r) [ inl x ↦ absurd (both_ways (nat_lt low r) p.1 (lt-ltb low r x)) | inr x ↦ x ] in
        record {
          uip_first = refl;
          top = λ z hz n. elim (next_of clause i z lt hz) [ inl q ↦ subst (λ w. level_of levels w ≤ low) q (omega (arith, le, level_is)) | inr b ↦ h.top z b n ];
          there = elim h.there [
            | inl a ↦ absurd (both_ways (nat_eq second uip) p.0 (eq-eqb second uip a.0))
            | inr a ↦ inr (a.0, next_more clause i second a.1, a.2)
          ];
        }

    pub highest_take : (b : Bool) → b ≡ (nat_eq second uip || nat_lt low r) → b ≡ true → (get_or clause i 0 ≡ uip → ⊥) → IsHighest levels (take (i + 1) clause) uip uip (get_or clause i 0) r
    highest_take b is yes' ne = record {
      uip_first = refl;
      top = λ z hz n. elim (next_of clause i z lt hz) [
        | inl q ↦ subst (λ w. level_of levels w ≤ r) q (omega (arith, level_is))
        | inr b ↦ elim (or_cases (nat_eq second uip) (nat_lt low r) (sym is ∙ yes')) [
          | inl x ↦ elim h.there [ inl a ↦ absurd (n (a.2 z b)) | inr a ↦ absurd (a.0 (eqb-true second uip x)) ]
          | inr x ↦ (let t = h.top z b n in let y = ltb-true low r x in omega (arith, t, y))
        ]
      ];
      there = inr (ne, next_in clause i lt, level_is);
    }

pub highest_end : (levels clause : List ℕ) (i uip second low : ℕ) → length clause ≤ i → IsHighest levels (take i clause) uip uip second low → IsHighest levels clause uip uip second low
highest_end levels clause i uip second low le h = subst (λ w. IsHighest levels w uip uip second low) (take_all i clause le) h
