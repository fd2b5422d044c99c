-- A step over marks is a step of resolution.
use Rattle.std.proofs.Common.{◌≡◌, ℕ, ◌+◌, ◌-◌, ◌*◌, ◌<◌, ◌≤◌, length, List, [], ◌∷◌, ◌++◌, arith, ap, ap₂, sym, ◌∙◌, refl, zero, suc, get_or, set, subst, Bool, true, false, not, ◌&&◌, ◌||◌, cond, nat_eq, ◌⊎◌, inl, inr, Option, Some, None, slice_get, length-set, drop, add-one, drop-cons}
use Rattle.std.proofs.lemmas.Bool.{and_parts, and_from, or_cases, or_left, or_right, both_ways, eqb-true, eq-eqb, false_from_ne_true, ne_eqb, cases_eq}
use Rattle.std.specs.List.Sorted.{IsStrictlyIncreasing}
use Rattle.prop.specs.declared.Lit.{Lit}
use Rattle.prop.specs.Logic.{negated, positive_of}
use Rattle.prop.specs.Trues.{listed}
use Rattle.prop.specs.Steps.{same, has, Has, negative_of, without, crosses, resolved, one_way, resolve}
use Rattle.prop.proofs.Sets.{same-true, same-from, same_refl, Has-append, Has-left, Has-right, Has-without, Has-kept, Has-head, negated_twice}
use Rattle.resolution_log.specs.declared.Chain.{Chain}
use Rattle.resolution_log.specs.Chains.{then_with, chain_from, chain_result}
use Rattle.resolution_log.specs.Codes.{place, code_of, AllBelow, RowsBelow, IsRow, AreRows, AreRows.none, AreRows.also}
use Rattle.resolution_log.specs.Marks.{is_marked, mark_all, note_all, gather, gathered, meets, same_bool, ways_differ, gone_code, kept_code, AtMost, Sofar, IsStep}
use Rattle.resolution_log.proofs.Places.{code_same, code_inj, bool_same, decoded}
use Rattle.resolution_log.proofs.MarkLaws.{marked_zero, length_all, all_to, all_from, kept_all, within_all, most_all, most_set, all_below_listed, below_moved, load, read_set}

not-true : (b : Bool) → not b ≡ true → b ≡ false
not-true true h = sym h
not-true false h = refl

-- the marks lose a literal, and gain a row without the complement
resolved_marks : (vars : List ℕ) (e : ℕ) (s m row : List ℕ) (c d : List Lit) (l : Lit) → 0 < e → code_of vars l < length s → length s ≡ 2 * length vars → Sofar vars e s m c → IsRow vars row d
    → Sofar vars e (mark_all e (code_of vars (negated l)) (set s (code_of vars l) 0) row) (note_all e (code_of vars (negated l)) (set s (code_of vars l) 0) m row) (resolved l c d)
resolved_marks vars e s m row c d l p lt size so r = record {
  shows = λ x. bool_same _ _ (to x) (from x);
  kept = kept_all e b s2 m row below (λ k t. so.kept k (and_parts (is_marked e s k) (not (nat_eq a k)) (sym (marked_zero e s a k p lt) ∙ t)).0);
  within = λ k t. subst (λ w. k < w) (sym (length_all e b s2 row)) (within_all e b (length s2) s2 m row below (λ j h. subst (λ w. j < w) (sym same_length) (so.within j h)) k t);
  most = most_all e b s2 row below (most_set e 0 s a lt (omega arith) so.most);
}
  where
    a : ℕ
    a = code_of vars l

    b : ℕ
    b = code_of vars (negated l)

    s2 : List ℕ
    s2 = set s (code_of vars l) 0

    same_length : length (set s (code_of vars l) 0) ≡ length s
    same_length = length-set s (code_of vars l) 0

    below : AllBelow (length (set s (code_of vars l) 0)) row
    below = below_moved _ _ row (sym (same_length ∙ size)) r.1

    to : (x : Lit) → is_marked e (mark_all e (code_of vars (negated l)) (set s (code_of vars l) 0) row) (code_of vars x) ≡ true → has (resolved l c d) x ≡ true
    to x t = elim (all_to e (code_of vars (negated l)) (set s (code_of vars l) 0) row (code_of vars x) below t) [
      | inl y ↦ (let q = and_parts (is_marked e s (code_of vars x)) (not (nat_eq (code_of vars l) (code_of vars x))) (sym (marked_zero e s (code_of vars l) (code_of vars x) p lt) ∙ y) in
          Has-left (without l c) (without (negated l) d) x (Has-kept l c x (sym (so.shows x) ∙ q.0) (λ z. both_ways (nat_eq (code_of vars l) (code_of vars x)) (not-true _ q.1) (eq-eqb _ _ (ap (code_of vars) (sym z))))))
      | inr y ↦ Has-right (without l c) (without (negated l) d) x (Has-kept (negated l) d x (sym (r.0 x) ∙ y.0) (λ z. y.1 (ap (code_of vars) z)))
    ]

    from : (x : Lit) → has (resolved l c d) x ≡ true → is_marked e (mark_all e (code_of vars (negated l)) (set s (code_of vars l) 0) row) (code_of vars x) ≡ true
    from x h = all_from e (code_of vars (negated l)) (set s (code_of vars l) 0) row (code_of vars x) below (elim (Has-append (without l c) (without (negated l) d) x h) [
      | inl y ↦ (let q = Has-without l c x y in
          inl (marked_zero e s (code_of vars l) (code_of vars x) p lt ∙ and_from (is_marked e s (code_of vars x)) (not (nat_eq (code_of vars l) (code_of vars x))) (so.shows x ∙ q.0) (ap not (ne_eqb _ _ (λ z. q.1 (sym (code_inj vars l x z)))))))
      | inr y ↦ (let q = Has-without (negated l) d x y in inr (r.0 x ∙ q.0, λ z. q.1 (code_inj vars x (negated l) z)))
    ])

up_code : (vars : List ℕ) (v number : ℕ) → number ≡ place vars v → code_of vars (positive_of v) ≡ 2 * number
up_code vars v number e = omega (arith, e)

down_code : (vars : List ℕ) (v number : ℕ) → number ≡ place vars v → code_of vars (negative_of v) ≡ 2 * number + 1
down_code vars v number e = omega (arith, e)

meets_up : (vars : List ℕ) (e : ℕ) (s m row : List ℕ) (c d : List Lit) (v number : ℕ) → number ≡ place vars v → Sofar vars e s m c → IsRow vars row d → meets e s row (2 * number) (2 * number + 1) ≡ crosses (positive_of v) c d
meets_up vars e s m row c d v number q so r = ap₂ (λ x y. x && y)
    (ap (is_marked e s) (sym (up_code vars v number q)) ∙ so.shows (positive_of v))
    (ap (listed row) (sym (down_code vars v number q)) ∙ r.0 (negative_of v))

meets_down : (vars : List ℕ) (e : ℕ) (s m row : List ℕ) (c d : List Lit) (v number : ℕ) → number ≡ place vars v → Sofar vars e s m c → IsRow vars row d → meets e s row (2 * number + 1) (2 * number) ≡ crosses (negative_of v) c d
meets_down vars e s m row c d v number q so r = ap₂ (λ x y. x && y)
    (ap (is_marked e s) (sym (down_code vars v number q)) ∙ so.shows (negative_of v))
    (ap (listed row) (sym (up_code vars v number q)) ∙ r.0 (positive_of v))

-- a step that is answered as not valid
pub step_bad : (vars : List ℕ) (e : ℕ) (s m row : List ℕ) (c d : List Lit) (v number : ℕ) → number ≡ place vars v → Sofar vars e s m c → IsRow vars row d → ways_differ e s row (2 * number) (2 * number + 1) ≡ false → resolve v c d ≡ None
step_bad vars e s m row c d v number q so r h =
    go (crosses (positive_of v) c d) (crosses (negative_of v) c d) (sym (ap₂ (λ x y. not (same_bool x y)) (meets_up vars e s m row c d v number q so r) (meets_down vars e s m row c d v number q so r)) ∙ h)
  where
    go : (x y : Bool) → not (same_bool x y) ≡ false → one_way x y v c d ≡ None
    go true true g = refl
    go false false g = refl
    go true false g = absurd (both_ways true g refl)
    go false true g = absurd (both_ways true g refl)

-- a valid step
pub step_good : (vars : List ℕ) (e : ℕ) (s m row s2 m2 : List ℕ) (c d : List Lit) (v number : ℕ) → 0 < e → number < length vars → length s ≡ 2 * length vars → number ≡ place vars v → Sofar vars e s m c → IsRow vars row d → ways_differ e s row (2 * number) (2 * number + 1) ≡ true
    → s2 ≡ mark_all e (kept_code e s row number) (set s (gone_code e s row number) 0) row → m2 ≡ note_all e (kept_code e s row number) (set s (gone_code e s row number) 0) m row
    → (r : List Lit) × (resolve v c d ≡ Some r) × Sofar vars e s2 m2 r
step_good vars e s m row s2 m2 c d v number p lt size q so r h es em =
    go (crosses (positive_of v) c d) (crosses (negative_of v) c d) (meets_up vars e s m row c d v number q so r) (sym (ap₂ (λ x y. not (same_bool x y)) (meets_up vars e s m row c d v number q so r) (meets_down vars e s m row c d v number q so r)) ∙ h)
  where
    done : (l : Lit) (x y : ℕ) → code_of vars l ≡ x → code_of vars (negated l) ≡ y → x < length s → gone_code e s row number ≡ x → kept_code e s row number ≡ y → Sofar vars e s2 m2 (resolved l c d)
    done l x y ex ey below eg ek =
        let h0 = resolved_marks vars e s m row c d l p (subst (λ w. w < length s) (sym ex) below) size so r in
        let g : gone_code e s row number ≡ code_of vars l = eg ∙ sym ex in
        let k : kept_code e s row number ≡ code_of vars (negated l) = ek ∙ sym ey in
        let es2 : s2 ≡ mark_all e (code_of vars (negated l)) (set s (code_of vars l) 0) row = es ∙ ap₂ (λ a b. mark_all e a (set s b 0) row) k g in
        let em2 : m2 ≡ note_all e (code_of vars (negated l)) (set s (code_of vars l) 0) m row = em ∙ ap₂ (λ a b. note_all e a (set s b 0) m row) k g in
        subst (λ w. Sofar vars e s2 w (resolved l c d)) (sym em2) (subst (λ w. Sofar vars e w (note_all e (code_of vars (negated l)) (set s (code_of vars l) 0) m row) (resolved l c d)) (sym es2) h0)

    go : (x y : Bool) → meets e s row (2 * number) (2 * number + 1) ≡ x → not (same_bool x y) ≡ true → (r : List Lit) × (one_way x y v c d ≡ Some r) × Sofar vars e s2 m2 r
    go true true f g = absurd (both_ways false refl g)
    go false false f g = absurd (both_ways false refl g)
    go true false f g = (resolved (positive_of v) c d, refl, done (positive_of v) (2 * number) (2 * number + 1) (up_code vars v number q) (down_code vars v number q) (omega (arith, lt, size)) (ap (λ b. cond b (2 * number) (2 * number + 1)) f) (ap (λ b. cond b (2 * number + 1) (2 * number)) f))
    go false true f g = (resolved (negative_of v) c d, refl, done (negative_of v) (2 * number + 1) (2 * number) (down_code vars v number q) (up_code vars v number q) (omega (arith, lt, size)) (ap (λ b. cond b (2 * number) (2 * number + 1)) f) (ap (λ b. cond b (2 * number + 1) (2 * number)) f))
