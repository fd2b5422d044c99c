-- The literals of a clause that still have marks.
use Rattle.std.proofs.Common.{◌≡◌, ℕ, ◌/◌, ◌<◌, Bool, true, false, cond, List, [], ◌∷◌, Option, Some, None, zero, suc, inl, inr, refl, sym, ap, ◌∙◌, subst, arith, nat_eq, length, get_or, set, slice_get, get_or-set_same, get_or-set_other}
use Rattle.std.proofs.lemmas.Bool.{both_ways, eqb-true, eq-eqb, or_cases, or_left, or_right, and_parts}
use Rattle.prop.specs.Trues.{listed}
use Rattle.resolution_log.specs.Codes.{AllBelow}
use Rattle.resolution_log.specs.Marks.{is_marked}
use Rattle.resolution_log.proofs.MarkLaws.{all_below_listed, all_below_from}
use Rattle.conflict_analysis.specs.Notes.{is_noted}
use Rattle.conflict_analysis.specs.Minimizing.{all_noted, reason_within, kept}

pub kept_to : (epoch : ℕ) (stamps xs : List ℕ) (z : ℕ) → listed (kept epoch stamps xs) z ≡ true → (listed xs z ≡ true) × (is_marked epoch stamps (z / 2) ≡ true)
kept_to epoch stamps [] z h = absurd (both_ways false refl h)
kept_to epoch stamps (x ∷ xs) z h = go (λ r. kept_to epoch stamps xs z r) (is_marked epoch stamps (x / 2)) refl h
  where
    go : (listed (kept epoch stamps xs) z ≡ true → (listed xs z ≡ true) × (is_marked epoch stamps (z / 2) ≡ true)) → (b : Bool) → is_marked epoch stamps (x / 2) ≡ b → listed (cond b (x ∷ kept epoch stamps xs) (kept epoch stamps xs)) z ≡ true → (listed (x ∷ xs) z ≡ true) × (is_marked epoch stamps (z / 2) ≡ true)
    go ih true m l = elim (or_cases (nat_eq x z) (listed (kept epoch stamps xs) z) l) [
      | inl e ↦ (or_left _ _ e, subst (λ w. is_marked epoch stamps (w / 2) ≡ true) (eqb-true x z e) m)
      | inr r ↦ (let p = ih r in (or_right _ _ p.0, p.1))
    ]
    go ih false m l = let p = ih l in (or_right _ _ p.0, p.1)

pub kept_from : (epoch : ℕ) (stamps xs : List ℕ) (z : ℕ) → listed xs z ≡ true → is_marked epoch stamps (z / 2) ≡ true → listed (kept epoch stamps xs) z ≡ true
kept_from epoch stamps [] z h m = h
kept_from epoch stamps (x ∷ xs) z h m = go (λ r. kept_from epoch stamps xs z r m) (is_marked epoch stamps (x / 2)) refl
  where
    go : (listed xs z ≡ true → listed (kept epoch stamps xs) z ≡ true) → (b : Bool) → is_marked epoch stamps (x / 2) ≡ b → listed (cond b (x ∷ kept epoch stamps xs) (kept epoch stamps xs)) z ≡ true
    go ih true e = elim (or_cases (nat_eq x z) (listed xs z) h) [ inl a ↦ or_left _ _ a | inr b ↦ or_right _ _ (ih b) ]
    go ih false e = elim (or_cases (nat_eq x z) (listed xs z) h) [
      | inl a ↦ absurd (both_ways (is_marked epoch stamps (x / 2)) e (subst (λ w. is_marked epoch stamps (w / 2) ≡ true) (sym (eqb-true x z a)) m))
      | inr b ↦ ih b
    ]

pub kept_all : (epoch : ℕ) (stamps xs : List ℕ) → ((z : ℕ) → listed xs z ≡ true → is_marked epoch stamps (z / 2) ≡ true) → kept epoch stamps xs ≡ xs
kept_all epoch stamps [] h = refl
kept_all epoch stamps (x ∷ xs) h = ap (λ b. cond b (x ∷ kept epoch stamps xs) (kept epoch stamps xs)) (h x (or_left _ _ (eq-eqb x x refl))) ∙ ap (λ w. x ∷ w) (kept_all epoch stamps xs (λ z l. h z (or_right _ _ l)))

pub kept_small : (n epoch : ℕ) (stamps xs : List ℕ) → AllBelow n xs → AllBelow n (kept epoch stamps xs)
kept_small n epoch stamps xs b = all_below_from n (kept epoch stamps xs) (λ z h. all_below_listed n xs b z (kept_to epoch stamps xs z h).0)

-- a mark that was taken away
pub still_marked : (epoch : ℕ) (stamps : List ℕ) (n m : ℕ) → 0 < epoch → n < length stamps → is_marked epoch (set stamps n 0) m ≡ true → (m ≡ n → ⊥) × (is_marked epoch stamps m ≡ true)
still_marked epoch stamps n m some lt h = (apart, sym (ap (λ w. nat_eq w epoch) (get_or-set_other stamps n m 0 0 apart)) ∙ h)
  where
    apart : m ≡ n → ⊥
    apart e =
        let q : get_or (set stamps n 0) m 0 ≡ 0 = ap (λ w. get_or (set stamps n 0) w 0) e ∙ get_or-set_same stamps n 0 0 lt in
        let r = eqb-true (get_or (set stamps n 0) m 0) epoch h in
        absurd (omega (arith, q, r, some))

pub marked_still : (epoch : ℕ) (stamps : List ℕ) (n m : ℕ) → (m ≡ n → ⊥) → is_marked epoch stamps m ≡ true → is_marked epoch (set stamps n 0) m ≡ true
marked_still epoch stamps n m apart h = ap (λ w. nat_eq w epoch) (get_or-set_other stamps n m 0 0 apart) ∙ h

pub all_noted_at : (epoch : ℕ) (stamps : List ℕ) (but : ℕ) (row : List ℕ) → all_noted epoch stamps but row ≡ true → (q : ℕ) → listed row q ≡ true → (q ≡ but → ⊥) → is_marked epoch stamps (q / 2) ≡ true
all_noted_at epoch stamps but [] h q l n = absurd (both_ways false refl l)
all_noted_at epoch stamps but (k ∷ row) h q l n =
    let p = and_parts (is_noted epoch stamps but k) (all_noted epoch stamps but row) h in
    elim (or_cases (nat_eq k q) (listed row q) l) [
      | inl e ↦ elim (or_cases (nat_eq k but) (is_marked epoch stamps (k / 2)) p.0) [
        | inl b ↦ absurd (n (sym (eqb-true k q e) ∙ eqb-true k but b))
        | inr m ↦ subst (λ w. is_marked epoch stamps (w / 2) ≡ true) (eqb-true k q e) m
      ]
      | inr r ↦ all_noted_at epoch stamps but row p.1 q r n
    ]

pub get_given : (xs : List (List ℕ)) (k : ℕ) → k < length xs → slice_get xs k ≡ Some (get_or xs k [])
get_given [] k lt = absurd (omega (arith, lt))
get_given (x ∷ xs) zero lt = refl
get_given (x ∷ xs) (suc k) lt = get_given xs k (omega (arith, lt))

pub within_some : (epoch : ℕ) (stamps : List ℕ) (rows : List (List ℕ)) (code : ℕ) (o : Option ℕ) (k : ℕ) → reason_within epoch stamps rows code o ≡ Some k → (o ≡ Some k) × (all_noted epoch stamps code (get_or rows k []) ≡ true)
within_some epoch stamps rows code None k h = absurd cc
within_some epoch stamps rows code (Some r) k h = go (all_noted epoch stamps code (get_or rows r [])) refl h
  where
    go : (b : Bool) → all_noted epoch stamps code (get_or rows r []) ≡ b → cond b (Some r) None ≡ Some k → (Some r ≡ Some k) × (all_noted epoch stamps code (get_or rows k []) ≡ true)
    go true a e = (e, (let q : r ≡ k = cc in subst (λ w. all_noted epoch stamps code (get_or rows w []) ≡ true) q a))
    go false a e = absurd cc
