-- Minimization ends where no literal is implied any more: marks only go, so that what is not implied stays so.
use Rattle.std.proofs.Common.{◌≡◌, ℕ, ◌+◌, ◌-◌, ◌/◌, ◌<◌, ◌≤◌, Bool, true, false, cond, not, ◌||◌, List, [], ◌∷◌, Option, Some, None, inl, inr, refl, sym, ap, ◌∙◌, subst, arith, nat_eq, length, get_or, get_or-take, length-take-le, set, take}
use Rattle.std.proofs.lemmas.Bool.{both_ways, cases_eq, eqb-true, eq-eqb, ne_eqb, false_from_ne_true, or_cases, or_left, or_right, and_parts, and_from}
use Rattle.prop.specs.Trues.{listed}
use Rattle.resolution_log.specs.Marks.{is_marked}
use Rattle.resolution_log.proofs.Places.{listed_true}
use Rattle.dense_trail.specs.Dense.{negation}
use Rattle.dense_trail.proofs.CodeLaws.{negation_half}
use Rattle.dense_trail.specs.declared.Trail.{Trail}
use Rattle.conflict_analysis.specs.Notes.{is_noted, counted}
use Rattle.conflict_analysis.specs.Minimizing.{all_noted, all_in, reason_within, is_some, is_implied, kept, IsMinimal, Minimizing}
use Rattle.conflict_analysis.proofs.KeptLaws.{kept_to, still_marked}
use Rattle.conflict_analysis.proofs.NoteLaws.{counted_none}

-- A clause whose literals all have marks, and of which none is implied by what has marks, is minimal.
module _ (epoch : ℕ) (stamps : List ℕ) (rows : List (List ℕ)) (reasons : List (Option ℕ)) (uip : ℕ) where
  pub implied_given : (z r : ℕ) → (z ≡ uip → ⊥) → get_or reasons (z / 2) None ≡ Some r → all_noted epoch stamps (negation z) (get_or rows r []) ≡ true → is_implied epoch stamps rows reasons uip z ≡ true
  implied_given z r ne h a =
      and_from (not (nat_eq z uip)) (is_some (reason_within epoch stamps rows (negation z) (get_or reasons (z / 2) None)))
      (ap not (ne_eqb z uip ne))
      (ap (λ o. is_some (reason_within epoch stamps rows (negation z) o)) h ∙ ap (λ b. is_some (cond b (Some r) None)) a)

  all_in_noted : (clause : List ℕ) → ((z : ℕ) → listed clause z ≡ true → is_marked epoch stamps (z / 2) ≡ true) → (but : ℕ) (row : List ℕ) → all_in clause but row ≡ true → all_noted epoch stamps but row ≡ true
  all_in_noted clause marks but [] h = refl
  all_in_noted clause marks but (k ∷ row) h =
      let p = and_parts (nat_eq k but || listed clause k) (all_in clause but row) h in
      and_from (is_noted epoch stamps but k) (all_noted epoch stamps but row)
      (elim (or_cases (nat_eq k but) (listed clause k) p.0) [ inl a ↦ or_left (nat_eq k but) (is_marked epoch stamps (k / 2)) a | inr b ↦ or_right (nat_eq k but) (is_marked epoch stamps (k / 2)) (marks k b) ])
      (all_in_noted clause marks but row p.1)

  pub minimal_from : (clause : List ℕ) → ((z : ℕ) → listed clause z ≡ true → is_marked epoch stamps (z / 2) ≡ true) → ((z : ℕ) → listed clause z ≡ true → is_implied epoch stamps rows reasons uip z ≡ false) → IsMinimal rows reasons uip clause
  minimal_from clause marks none z r l ne h = false_from_ne_true (all_in clause (negation z) (get_or rows r [])) (λ a. both_ways (is_implied epoch stamps rows reasons uip z) (none z l) (implied_given z r ne h (all_in_noted clause marks (negation z) (get_or rows r []) a)))

  -- none is counted
  pub minimal_none : (learnt : List ℕ) (n : ℕ) → n ≡ counted (is_implied epoch stamps rows reasons uip) (kept epoch stamps learnt) → n ≡ 0 → IsMinimal rows reasons uip (kept epoch stamps learnt)
  minimal_none learnt n e none = minimal_from (kept epoch stamps learnt) (λ z l. (kept_to epoch stamps learnt z l).1) (λ z l. counted_none (is_implied epoch stamps rows reasons uip) (kept epoch stamps learnt) z (sym e ∙ none) l)

  pub minimal_few : (learnt : List ℕ) (rest : ℕ) → counted (is_implied epoch stamps rows reasons uip) (kept epoch stamps learnt) ≤ rest → rest ≡ 0 → IsMinimal rows reasons uip (kept epoch stamps learnt)
  minimal_few learnt rest le none = minimal_none learnt (counted (is_implied epoch stamps rows reasons uip) (kept epoch stamps learnt)) refl (omega (arith, le, none))

-- what is counted at the start
pub counted_start : (epoch : ℕ) (stamps s2 : List ℕ) (rows : List (List ℕ)) (reasons r2 : List (Option ℕ)) (uip : ℕ) (learnt l2 : List ℕ) (n : ℕ) → n ≡ counted (is_implied epoch s2 rows r2 uip) l2 → s2 ≡ stamps → r2 ≡ reasons → l2 ≡ learnt → kept epoch stamps learnt ≡ learnt → n ≡ counted (is_implied epoch stamps rows reasons uip) (kept epoch stamps learnt)
counted_start epoch stamps s2 rows reasons r2 uip learnt l2 n c s r l k = c ∙ ap (λ w. counted (is_implied epoch w rows r2 uip) l2) s ∙ ap (λ w. counted (is_implied epoch stamps rows w uip) l2) r ∙ ap (counted (is_implied epoch stamps rows reasons uip)) (l ∙ sym k)

-- the literals of the trail from place `at` to `left` that have marks are not implied
abbrev pub Walked : ℕ → List ℕ → List (List ℕ) → List (Option ℕ) → List ℕ → ℕ → ℕ → Type 0
Walked epoch stamps rows reasons codes left at = (i : ℕ) → at ≤ i → i < left → is_marked epoch stamps (get_or codes i 0 / 2) ≡ true → is_some (reason_within epoch stamps rows (get_or codes i 0) (get_or reasons (get_or codes i 0 / 2) None)) ≡ false

pub walked_start : (epoch : ℕ) (stamps : List ℕ) (rows : List (List ℕ)) (reasons : List (Option ℕ)) (codes : List ℕ) (left : ℕ) → Walked epoch stamps rows reasons codes left left
walked_start epoch stamps rows reasons codes left = λ i le lt m. absurd (omega (arith, le, lt))

pub walked_on : (epoch : ℕ) (stamps : List ℕ) (rows : List (List ℕ)) (reasons : List (Option ℕ)) (codes : List ℕ) (left at : ℕ) → Walked epoch stamps rows reasons codes left at → (code : ℕ) → code ≡ get_or codes (at - 1) 0 → (is_marked epoch stamps (code / 2) ≡ true → is_some (reason_within epoch stamps rows code (get_or reasons (code / 2) None)) ≡ false) → Walked epoch stamps rows reasons codes left (at - 1)
walked_on epoch stamps rows reasons codes left at w code is h = λ i le lt m. elim (cases_eq i (at - 1)) [
  | inl e ↦ (let q : code ≡ get_or codes i 0 = is ∙ ap (λ n. get_or codes n 0) (sym e) in
      subst (λ k. is_some (reason_within epoch stamps rows k (get_or reasons (k / 2) None)) ≡ false) q (h (subst (λ k. is_marked epoch stamps (k / 2) ≡ true) (sym q) m)))
  | inr ne ↦ w i (omega (arith, le, ne)) lt m
]

-- all of the trail was walked
pub walked_all : (vars : List ℕ) (rows : List (List ℕ)) (t : Trail) (uip left epoch : ℕ) (stamps learnt : List ℕ) (pairs : List (ℕ × ℕ)) → Minimizing vars rows t uip left epoch stamps learnt pairs → (at : ℕ) → at ≡ 0 → Walked epoch stamps rows t.reasons.items t.codes.items left at → IsMinimal rows t.reasons.items uip (kept epoch stamps learnt)
walked_all vars rows t uip left epoch stamps learnt pairs w at none walked = minimal_from epoch stamps rows t.reasons.items uip (kept epoch stamps learnt) (λ z l. (kept_to epoch stamps learnt z l).1) (λ z l. false_from_ne_true (is_implied epoch stamps rows t.reasons.items uip z) (refuted z l))
  where
    refuted : (z : ℕ) → listed (kept epoch stamps learnt) z ≡ true → is_implied epoch stamps rows t.reasons.items uip z ≡ true → ⊥
    refuted z l h =
        let p = and_parts (not (nat_eq z uip)) (is_some (reason_within epoch stamps rows (negation z) (get_or t.reasons.items (z / 2) None))) h in
        let k = kept_to epoch stamps learnt z l in
        let f = w.falsified z k.0 (λ e. both_ways (not (nat_eq z uip)) (ap not (eq-eqb z uip e)) p.0) in
        let (j, lt, e) = listed_true (take left t.codes.items) (negation z) f in
        let in_left : j < left = omega (arith, lt, length-take-le left t.codes.items w.within) in
        let e2 : get_or t.codes.items j 0 ≡ negation z = sym (get_or-take left t.codes.items j 0 in_left) ∙ e in
        let half : get_or t.codes.items j 0 / 2 ≡ z / 2 = ap (λ n. n / 2) e2 ∙ negation_half z in
        let no' = walked j (omega (arith, none)) in_left (ap (is_marked epoch stamps) half ∙ k.1) in
        both_ways (is_some (reason_within epoch stamps rows (negation z) (get_or t.reasons.items (z / 2) None)))
        (ap (λ n. is_some (reason_within epoch stamps rows (negation z) (get_or t.reasons.items n None))) (sym half) ∙ ap (λ n. is_some (reason_within epoch stamps rows n (get_or t.reasons.items (get_or t.codes.items j 0 / 2) None))) (sym e2) ∙ no')
        p.1

-- A mark goes.
module _ (epoch : ℕ) (stamps : List ℕ) (n : ℕ) (some : 0 < epoch) (lt : n < length stamps) where
  abbrev fewer : List ℕ
  fewer = set stamps n 0

  all_noted_less : (but : ℕ) (row : List ℕ) → all_noted epoch fewer but row ≡ true → all_noted epoch stamps but row ≡ true
  all_noted_less but [] h = refl
  all_noted_less but (k ∷ row) h =
      let p = and_parts (is_noted epoch fewer but k) (all_noted epoch fewer but row) h in
      and_from (is_noted epoch stamps but k) (all_noted epoch stamps but row)
      (elim (or_cases (nat_eq k but) (is_marked epoch fewer (k / 2)) p.0) [ inl a ↦ or_left (nat_eq k but) (is_marked epoch stamps (k / 2)) a | inr b ↦ or_right (nat_eq k but) (is_marked epoch stamps (k / 2)) (still_marked epoch stamps n (k / 2) some lt b).1 ])
      (all_noted_less but row p.1)

  within_less : (rows : List (List ℕ)) (code : ℕ) (o : Option ℕ) → is_some (reason_within epoch fewer rows code o) ≡ true → is_some (reason_within epoch stamps rows code o) ≡ true
  within_less rows code None h = h
  within_less rows code (Some r) h = go (all_noted epoch fewer code (get_or rows r [])) refl h
    where
      go : (b : Bool) → all_noted epoch fewer code (get_or rows r []) ≡ b → is_some (cond b (Some r) None) ≡ true → is_some (reason_within epoch stamps rows code (Some r)) ≡ true
      go true a e = ap (λ b. is_some (cond b (Some r) None)) (all_noted_less code (get_or rows r []) a)
      go false a e = absurd (both_ways false refl e)

  implied_less : (rows : List (List ℕ)) (reasons : List (Option ℕ)) (uip z : ℕ) → is_implied epoch fewer rows reasons uip z ≡ true → is_implied epoch stamps rows reasons uip z ≡ true
  implied_less rows reasons uip z h =
      let p = and_parts (not (nat_eq z uip)) (is_some (reason_within epoch fewer rows (negation z) (get_or reasons (z / 2) None))) h in
      and_from (not (nat_eq z uip)) (is_some (reason_within epoch stamps rows (negation z) (get_or reasons (z / 2) None))) p.0 (within_less rows (negation z) (get_or reasons (z / 2) None) p.1)

  -- what was walked stays walked, and the literal whose mark goes was the next
  pub walked_less : (rows : List (List ℕ)) (reasons : List (Option ℕ)) (codes : List ℕ) (left at : ℕ) → Walked epoch stamps rows reasons codes left at → get_or codes (at - 1) 0 / 2 ≡ n → Walked epoch fewer rows reasons codes left (at - 1)
  walked_less rows reasons codes left at w is = λ i le lt m. (let p = still_marked epoch stamps n (get_or codes i 0 / 2) some lt2 m in
      false_from_ne_true (is_some (reason_within epoch fewer rows (get_or codes i 0) (get_or reasons (get_or codes i 0 / 2) None))) (λ h. both_ways (is_some (reason_within epoch stamps rows (get_or codes i 0) (get_or reasons (get_or codes i 0 / 2) None))) (later i le lt p) (within_less rows (get_or codes i 0) (get_or reasons (get_or codes i 0 / 2) None) h)))
    where
      lt2 : n < length stamps
      lt2 = lt

      later : (i : ℕ) → at - 1 ≤ i → i < left → (get_or codes i 0 / 2 ≡ n → ⊥) × (is_marked epoch stamps (get_or codes i 0 / 2) ≡ true) → is_some (reason_within epoch stamps rows (get_or codes i 0) (get_or reasons (get_or codes i 0 / 2) None)) ≡ false
      later i le l p = elim (cases_eq i (at - 1)) [
        | inl e ↦ absurd (p.0 (ap (λ k. get_or codes k 0 / 2) e ∙ is))
        | inr ne ↦ w i (omega (arith, le, ne)) l p.1
      ]

  ones : (a b : Bool) → (a ≡ true → b ≡ true) → cond a 1 0 ≤ cond b 1 0
  ones true true h = omega arith
  ones true false h = absurd (both_ways false refl (h refl))
  ones false true h = omega arith
  ones false false h = omega arith

  -- what is counted does not grow
  module _ (f2 f : ℕ → Bool) (less : (z : ℕ) → f2 z ≡ true → f z ≡ true) where
    counted_less : (xs : List ℕ) → counted f2 (kept epoch fewer xs) ≤ counted f (kept epoch stamps xs)
    counted_less [] = omega arith
    counted_less (x ∷ xs) = go (is_marked epoch fewer (x / 2)) (is_marked epoch stamps (x / 2)) (λ m. (still_marked epoch stamps n (x / 2) some lt m).1) (counted_less xs)
      where
        go : (m2 m : Bool) → (m2 ≡ true → m ≡ true) → counted f2 (kept epoch fewer xs) ≤ counted f (kept epoch stamps xs) → counted f2 (cond m2 (x ∷ kept epoch fewer xs) (kept epoch fewer xs)) ≤ counted f (cond m (x ∷ kept epoch stamps xs) (kept epoch stamps xs))
        go true true h ih = omega (arith, ih, ones (f2 x) (f x) (less x))
        go true false h ih = absurd (both_ways false refl (h refl))
        go false true h ih = omega (arith, ih)
        go false false h ih = ih

    -- where one is gone that was counted, it is less
    counted_fewer : (z : ℕ) → f z ≡ true → is_marked epoch stamps (z / 2) ≡ true → z / 2 ≡ n → (xs : List ℕ) → listed xs z ≡ true → counted f2 (kept epoch fewer xs) + 1 ≤ counted f (kept epoch stamps xs)
    counted_fewer z y m is [] l = absurd (both_ways false refl l)
    counted_fewer z y m is (x ∷ xs) l = elim (or_cases (nat_eq x z) (listed xs z) l) [
      | inl e ↦ (let q : x ≡ z = eqb-true x z e in
          let gone : is_marked epoch fewer (x / 2) ≡ false = false_from_ne_true (is_marked epoch fewer (x / 2)) (λ h. (still_marked epoch stamps n (x / 2) some lt h).0 (ap (λ k. k / 2) q ∙ is)) in
          let now : counted f2 (kept epoch fewer (x ∷ xs)) ≡ counted f2 (kept epoch fewer xs) = ap (λ b. counted f2 (cond b (x ∷ kept epoch fewer xs) (kept epoch fewer xs))) gone in
          let was : counted f (kept epoch stamps (x ∷ xs)) ≡ 1 + counted f (kept epoch stamps xs) = ap (λ b. counted f (cond b (x ∷ kept epoch stamps xs) (kept epoch stamps xs))) (ap (λ k. is_marked epoch stamps (k / 2)) q ∙ m) ∙ ap (λ b. cond b 1 0 + counted f (kept epoch stamps xs)) (ap f q ∙ y) in
          omega (arith, now, was, counted_less xs))
      | inr r ↦ go (is_marked epoch fewer (x / 2)) (is_marked epoch stamps (x / 2)) (λ h. (still_marked epoch stamps n (x / 2) some lt h).1) (counted_fewer z y m is xs r)
    ]
      where
        go : (m2 m : Bool) → (m2 ≡ true → m ≡ true) → counted f2 (kept epoch fewer xs) + 1 ≤ counted f (kept epoch stamps xs) → counted f2 (cond m2 (x ∷ kept epoch fewer xs) (kept epoch fewer xs)) + 1 ≤ counted f (cond m (x ∷ kept epoch stamps xs) (kept epoch stamps xs))
        go true true h ih = omega (arith, ih, ones (f2 x) (f x) (less x))
        go true false h ih = absurd (both_ways false refl (h refl))
        go false true h ih = omega (arith, ih)
        go false false h ih = ih

  pub enough_less : (rows : List (List ℕ)) (reasons : List (Option ℕ)) (uip : ℕ) (learnt : List ℕ) (z rest : ℕ) → is_implied epoch stamps rows reasons uip z ≡ true → is_marked epoch stamps (z / 2) ≡ true → z / 2 ≡ n → listed learnt z ≡ true → counted (is_implied epoch stamps rows reasons uip) (kept epoch stamps learnt) ≤ rest → counted (is_implied epoch fewer rows reasons uip) (kept epoch fewer learnt) ≤ rest - 1
  enough_less rows reasons uip learnt z rest y m is l le = omega (arith, le, counted_fewer (is_implied epoch fewer rows reasons uip) (is_implied epoch stamps rows reasons uip) (implied_less rows reasons uip) z y m is learnt l)
