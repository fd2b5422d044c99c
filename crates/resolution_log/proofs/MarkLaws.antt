-- What marks say of the clause so far.
use Rattle.std.proofs.Common.{◌≡◌, ℕ, ◌+◌, ◌-◌, ◌*◌, ◌<◌, ◌≤◌, length, List, [], ◌∷◌, ◌++◌, arith, ap, sym, ◌∙◌, refl, zero, suc, get_or, set, subst, Bool, true, false, not, ◌&&◌, ◌||◌, cond, nat_eq, ◌⊎◌, inl, inr, Option, Some, None, slice_get, length-set, get_or-set_same, get_or-set_other, drop}
use Rattle.std.proofs.lemmas.Bool.{and_parts, and_from, or_cases, or_left, or_right, both_ways, eqb-true, eq-eqb, false_from_ne_true, ne_eqb, cases_lt, cases_eq, cases_Bool}
use Rattle.std.proofs.lemmas.List.{get_or_past}
use Rattle.prop.specs.declared.Lit.{Lit}
use Rattle.prop.specs.Logic.{negated, positive_of}
use Rattle.prop.specs.Trues.{listed}
use Rattle.prop.specs.Steps.{same, has, Has, negative_of, without, crosses, resolved, one_way, resolve}
use Rattle.prop.proofs.Sets.{same-true, same-from, same_refl}
use Rattle.resolution_log.specs.Codes.{code_of, AllBelow, RowsBelow, IsRow, AreRows, AreRows.none, AreRows.also}
use Rattle.resolution_log.specs.Marks.{is_marked, skips, mark_one, note_one, mark_all, note_all, gather, gathered, meets, same_bool, ways_differ, gone_code, kept_code, AtMost, Sofar, IsStep}
use Rattle.resolution_log.proofs.Places.{code_same, bool_same, listed_true, listed_at}

-- tests of numbers
same_number : (a b : ℕ) → nat_eq a b ≡ nat_eq b a
same_number a b = bool_same (nat_eq a b) (nat_eq b a) (λ t. eq-eqb b a (sym (eqb-true a b t))) (λ t. eq-eqb a b (sym (eqb-true b a t)))

pub read_set : (xs : List ℕ) (i k v : ℕ) → i < length xs → get_or (set xs i v) k 0 ≡ cond (nat_eq i k) v (get_or xs k 0)
read_set xs i k v h = go (cases_eq i k)
  where
    go : (i ≡ k) ⊎ (i ≡ k → ⊥) → get_or (set xs i v) k 0 ≡ cond (nat_eq i k) v (get_or xs k 0)
    go (inl e) = subst (λ w. get_or (set xs i v) w 0 ≡ v) e (get_or-set_same xs i v 0 h) ∙ sym (ap (λ b. cond b v (get_or xs k 0)) (eq-eqb i k e))
    go (inr n) = get_or-set_other xs i k v 0 (λ q. n (sym q)) ∙ sym (ap (λ b. cond b v (get_or xs k 0)) (ne_eqb i k n))

marked_set : (e : ℕ) (xs : List ℕ) (i k : ℕ) → i < length xs → is_marked e (set xs i e) k ≡ (nat_eq i k || is_marked e xs k)
marked_set e xs i k h = ap (λ w. nat_eq w e) (read_set xs i k e h) ∙ go (nat_eq i k)
  where
    go : (b : Bool) → nat_eq (cond b e (get_or xs k 0)) e ≡ (b || is_marked e xs k)
    go true = eq-eqb e e refl
    go false = refl

pub marked_zero : (e : ℕ) (xs : List ℕ) (i k : ℕ) → 0 < e → i < length xs → is_marked e (set xs i 0) k ≡ (is_marked e xs k && not (nat_eq i k))
marked_zero e xs i k p h = ap (λ w. nat_eq w e) (read_set xs i k 0 h) ∙ go (nat_eq i k) (is_marked e xs k)
  where
    zero_not : nat_eq 0 e ≡ false
    zero_not = ne_eqb 0 e (λ q. absurd (omega (arith, p, q)))

    go : (b d : Bool) → nat_eq (cond b 0 (get_or xs k 0)) e ≡ (is_marked e xs k && not b)
    go true d = zero_not ∙ sym (and_false (is_marked e xs k))
      where
        and_false : (x : Bool) → (x && false) ≡ false
        and_false true = refl
        and_false false = refl
    go false d = sym (and_true (is_marked e xs k))
      where
        and_true : (x : Bool) → (x && true) ≡ x
        and_true true = refl
        and_true false = refl

pub all_below_listed : (n : ℕ) (ks : List ℕ) → AllBelow n ks → (k : ℕ) → listed ks k ≡ true → k < n
all_below_listed n [] h k t = absurd cc
all_below_listed n (i ∷ ks) h k t = elim (or_cases (nat_eq i k) (listed ks k) t) [ inl a ↦ subst (λ w. w < n) (eqb-true i k a) h.0 | inr b ↦ all_below_listed n ks h.1 k b ]

-- one mark
length_one : (e but : ℕ) (xs : List ℕ) (i : ℕ) → length (mark_one e but xs i) ≡ length xs
length_one e but xs i = go (skips e but xs i)
  where
    go : (b : Bool) → length (cond b xs (set xs i e)) ≡ length xs
    go true = refl
    go false = length-set xs i e

one_to : (e but : ℕ) (xs : List ℕ) (i k : ℕ) → i < length xs → is_marked e (mark_one e but xs i) k ≡ true → (is_marked e xs k ≡ true) ⊎ ((i ≡ k) × (k ≡ but → ⊥))
one_to e but xs i k h t = go (skips e but xs i) refl t
  where
    go : (b : Bool) → skips e but xs i ≡ b → is_marked e (cond b xs (set xs i e)) k ≡ true → (is_marked e xs k ≡ true) ⊎ ((i ≡ k) × (k ≡ but → ⊥))
    go true q m = inl m
    go false q m = elim (or_cases (nat_eq i k) (is_marked e xs k) (sym (marked_set e xs i k h) ∙ m)) [
      | inl a ↦ inr (eqb-true i k a, λ z. both_ways (skips e but xs i) q (or_left _ _ (eq-eqb i but (eqb-true i k a ∙ z))))
      | inr b ↦ inl b
    ]

one_from : (e but : ℕ) (xs : List ℕ) (i k : ℕ) → i < length xs → (is_marked e xs k ≡ true) ⊎ ((i ≡ k) × (k ≡ but → ⊥)) → is_marked e (mark_one e but xs i) k ≡ true
one_from e but xs i k h t = go (skips e but xs i) refl t
  where
    go : (b : Bool) → skips e but xs i ≡ b → (is_marked e xs k ≡ true) ⊎ ((i ≡ k) × (k ≡ but → ⊥)) → is_marked e (cond b xs (set xs i e)) k ≡ true
    go true q (inl m) = m
    go true q (inr r) = elim (or_cases (nat_eq i but) (is_marked e xs i) q) [
      | inl a ↦ absurd (r.1 (sym r.0 ∙ eqb-true i but a))
      | inr b ↦ subst (λ w. is_marked e xs w ≡ true) r.0 b
    ]
    go false q (inl m) = marked_set e xs i k h ∙ or_right (nat_eq i k) (is_marked e xs k) m
    go false q (inr r) = marked_set e xs i k h ∙ or_left (nat_eq i k) (is_marked e xs k) (eq-eqb i k r.0)

pub below_moved : (n m : ℕ) (ks : List ℕ) → n ≡ m → AllBelow n ks → AllBelow m ks
below_moved n m ks e h = subst (λ w. AllBelow w ks) e h

pub length_all : (e but : ℕ) (xs ks : List ℕ) → length (mark_all e but xs ks) ≡ length xs
length_all e but xs [] = refl
length_all e but xs (i ∷ ks) = length_all e but (mark_one e but xs i) ks ∙ length_one e but xs i

pub all_to : (e but : ℕ) (xs ks : List ℕ) (k : ℕ) → AllBelow (length xs) ks → is_marked e (mark_all e but xs ks) k ≡ true → (is_marked e xs k ≡ true) ⊎ ((listed ks k ≡ true) × (k ≡ but → ⊥))
all_to e but xs [] k h t = inl t
all_to e but xs (i ∷ ks) k h t = elim (all_to e but (mark_one e but xs i) ks k (below_moved _ _ ks (sym (length_one e but xs i)) h.1) t) [
  | inl a ↦ elim (one_to e but xs i k h.0 a) [ inl m ↦ inl m | inr r ↦ inr (or_left (nat_eq i k) (listed ks k) (eq-eqb i k r.0), r.1) ]
  | inr b ↦ inr (or_right (nat_eq i k) (listed ks k) b.0, b.1)
]

pub all_from : (e but : ℕ) (xs ks : List ℕ) (k : ℕ) → AllBelow (length xs) ks → (is_marked e xs k ≡ true) ⊎ ((listed ks k ≡ true) × (k ≡ but → ⊥)) → is_marked e (mark_all e but xs ks) k ≡ true
all_from e but xs [] k h (inl t) = t
all_from e but xs [] k h (inr t) = absurd (both_ways false refl t.0)
all_from e but xs (i ∷ ks) k h (inl t) = all_from e but (mark_one e but xs i) ks k (below_moved _ _ ks (sym (length_one e but xs i)) h.1) (inl (one_from e but xs i k h.0 (inl t)))
all_from e but xs (i ∷ ks) k h (inr t) = all_from e but (mark_one e but xs i) ks k (below_moved _ _ ks (sym (length_one e but xs i)) h.1) (elim (or_cases (nat_eq i k) (listed ks k) t.0) [
  | inl a ↦ inl (one_from e but xs i k h.0 (inr (eqb-true i k a, t.1)))
  | inr b ↦ inr (b, t.1)
])

abbrev pub Kept : ℕ → List ℕ → List ℕ → Type 0
Kept e xs m = (k : ℕ) → is_marked e xs k ≡ true → listed m k ≡ true

abbrev pub Within : ℕ → List ℕ → Type 0
Within n m = (k : ℕ) → listed m k ≡ true → k < n

listed_left : (xs ys : List ℕ) (v : ℕ) → listed xs v ≡ true → listed (xs ++ ys) v ≡ true
listed_left [] ys v h = absurd cc
listed_left (x ∷ xs) ys v h = elim (or_cases (nat_eq x v) (listed xs v) h) [ inl a ↦ or_left _ _ a | inr b ↦ or_right _ _ (listed_left xs ys v b) ]

listed_push : (xs : List ℕ) (i k : ℕ) → listed (xs ++ (i ∷ [])) k ≡ true → (listed xs k ≡ true) ⊎ (i ≡ k)
listed_push [] i k h = elim (or_cases (nat_eq i k) false h) [ inl a ↦ inr (eqb-true i k a) | inr b ↦ absurd (both_ways false refl b) ]
listed_push (x ∷ xs) i k h = elim (or_cases (nat_eq x k) (listed (xs ++ (i ∷ [])) k) h) [
  | inl a ↦ inl (or_left _ _ a)
  | inr b ↦ elim (listed_push xs i k b) [ inl c ↦ inl (or_right _ _ c) | inr c ↦ inr c ]
]

listed_last : (xs : List ℕ) (i : ℕ) → listed (xs ++ (i ∷ [])) i ≡ true
listed_last [] i = or_left _ _ (eq-eqb i i refl)
listed_last (x ∷ xs) i = or_right _ _ (listed_last xs i)

kept_one : (e but : ℕ) (xs m : List ℕ) (i : ℕ) → i < length xs → Kept e xs m → Kept e (mark_one e but xs i) (note_one e but xs m i)
kept_one e but xs m i h f k t = go (skips e but xs i) refl t
  where
    go : (b : Bool) → skips e but xs i ≡ b → is_marked e (cond b xs (set xs i e)) k ≡ true → listed (cond b m (m ++ (i ∷ []))) k ≡ true
    go true q z = f k z
    go false q z = elim (or_cases (nat_eq i k) (is_marked e xs k) (sym (marked_set e xs i k h) ∙ z)) [
      | inl a ↦ subst (λ w. listed (m ++ (i ∷ [])) w ≡ true) (eqb-true i k a) (listed_last m i)
      | inr b ↦ listed_left m (i ∷ []) k (f k b)
    ]

pub kept_all : (e but : ℕ) (xs m ks : List ℕ) → AllBelow (length xs) ks → Kept e xs m → Kept e (mark_all e but xs ks) (note_all e but xs m ks)
kept_all e but xs m [] h f = f
kept_all e but xs m (i ∷ ks) h f = kept_all e but (mark_one e but xs i) (note_one e but xs m i) ks (below_moved _ _ ks (sym (length_one e but xs i)) h.1) (kept_one e but xs m i h.0 f)

within_one : (e but n : ℕ) (xs m : List ℕ) (i : ℕ) → i < n → Within n m → Within n (note_one e but xs m i)
within_one e but n xs m i h f k t = go (skips e but xs i) t
  where
    go : (b : Bool) → listed (cond b m (m ++ (i ∷ []))) k ≡ true → k < n
    go true z = f k z
    go false z = elim (listed_push m i k z) [ inl a ↦ f k a | inr b ↦ subst (λ w. w < n) b h ]

pub within_all : (e but n : ℕ) (xs m ks : List ℕ) → AllBelow n ks → Within n m → Within n (note_all e but xs m ks)
within_all e but n xs m [] h f = f
within_all e but n xs m (i ∷ ks) h f = within_all e but n (mark_one e but xs i) (note_one e but xs m i) ks h.1 (within_one e but n xs m i h.0 f)

pub most_set : (e v : ℕ) (xs : List ℕ) (i : ℕ) → i < length xs → v ≤ e → AtMost e xs → AtMost e (set xs i v)
most_set e v xs i h le f k = subst (λ w. w ≤ e) (sym (read_set xs i k v h)) (go (nat_eq i k))
  where
    go : (b : Bool) → cond b v (get_or xs k 0) ≤ e
    go true = le
    go false = f k

most_one : (e but : ℕ) (xs : List ℕ) (i : ℕ) → i < length xs → AtMost e xs → AtMost e (mark_one e but xs i)
most_one e but xs i h f = go (skips e but xs i)
  where
    go : (b : Bool) → AtMost e (cond b xs (set xs i e))
    go true = f
    go false = most_set e e xs i h (omega arith) f

pub most_all : (e but : ℕ) (xs ks : List ℕ) → AllBelow (length xs) ks → AtMost e xs → AtMost e (mark_all e but xs ks)
most_all e but xs [] h f = f
most_all e but xs (i ∷ ks) h f = most_all e but (mark_one e but xs i) ks (below_moved _ _ ks (sym (length_one e but xs i)) h.1) (most_one e but xs i h.0 f)

-- a fresh epoch with the marks of one row
pub load : (vars : List ℕ) (e but : ℕ) (xs m row : List ℕ) (c : List Lit) → 0 < e → AtMost (e - 1) xs → m ≡ [] → length xs ≡ 2 * length vars → length xs ≤ but → IsRow vars row c → Sofar vars e (mark_all e but xs row) (note_all e but xs m row) c
load vars e but xs m row c p most nil size big r = record {
  shows = λ l. bool_same _ _ (λ t. sym (r.0 l) ∙ to (code_of vars l) t) (λ t. all_from e but xs row (code_of vars l) below (inr (r.0 l ∙ t, λ q. past (code_of vars l) (r.0 l ∙ t) q)));
  kept = kept_all e but xs m row below (λ k t. absurd (unmarked k t));
  within = λ k t. subst (λ w. k < w) (sym (length_all e but xs row)) (within_all e but (length xs) xs m row below (λ j h. absurd (both_ways false refl (sym (ap (λ w. listed w j) nil) ∙ h))) k t);
  most = most_all e but xs row below (λ k. let q = most k in omega (arith, q));
}
  where
    below : AllBelow (length xs) row
    below = below_moved _ _ row (sym size) r.1

    unmarked : (k : ℕ) → is_marked e xs k ≡ true → ⊥
    unmarked k t = let q = most k in let g = eqb-true (get_or xs k 0) e t in absurd (omega (arith, p, q, g))

    to : (k : ℕ) → is_marked e (mark_all e but xs row) k ≡ true → listed row k ≡ true
    to k t = elim (all_to e but xs row k below t) [ inl a ↦ absurd (unmarked k a) | inr b ↦ b.0 ]

    past : (k : ℕ) → listed row k ≡ true → k ≡ but → ⊥
    past k t q = let g = all_below_listed (length xs) row below k t in absurd (omega (arith, g, big, q))

pub all_below_from : (n : ℕ) (ks : List ℕ) → Within n ks → AllBelow n ks
all_below_from n [] f = tt
all_below_from n (k ∷ ks) f = (f k (or_left _ _ (eq-eqb k k refl)), all_below_from n ks (λ j t. f j (or_right _ _ t)))
