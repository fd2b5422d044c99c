-- How the watched literals stay right while the list of a literal that became false is gone through.
use Rattle.std.proofs.Common.{◌≡◌, ℕ, ◌+◌, ◌-◌, ◌*◌, ◌/◌, ◌<◌, ◌≤◌, Bool, true, false, cond, not, ◌&&◌, ◌||◌, List, [], ◌∷◌, ◌++◌, Option, Some, None, zero, suc, ◌⊎◌, inl, inr, refl, sym, ap, ◌∙◌, subst, arith, nat_eq, nat_le, length, get_or, set, take, drop, slice_get, length-set, get_or-set_same, get_or-set_other, get_or-take, drop_at, take_all}
use Rattle.std.proofs.lemmas.Bool.{cases_Bool, both_ways, eqb-true, eq-eqb, ne_eqb, false_from_ne_true, or_cases, or_left, or_right, and_parts, and_from, cases_eq, cases_lt, le-leb, leb-true}
use Rattle.std.specs.List.{swap_remove}
use Rattle.prop.specs.Trues.{listed}
use Rattle.resolution_log.proofs.Places.{listed_at, listed_true}
use Rattle.dense_trail.specs.Dense.{negation, is_true, level_of, Quiet}
use Rattle.dense_trail.proofs.CodeLaws.{negation_half, negation_twice, negation_ne, negation_swap, same_half}
use Rattle.dense_trail.proofs.ValueLaws.{listed_append, listed_left, listed_right, listed_last, listed_one, truth_same, truth_other, truth_grows, truth_new, true_below}
use Rattle.watched_clauses.specs.declared.looking.Watch.{Watch}
use Rattle.watched_clauses.specs.Judge.{first_of, second_of, pair_of, none_watched, AreWatched, IsPair}
use Rattle.watched_clauses.proofs.JudgeLaws.{pair_cases, pair_from}
use Rattle.watched_clauses.specs.Watching.{lists_in, waits_in, Excused, Watched, Alone, Watching, lists_but, waits_but}

pub excused_waits : (waits : ℕ → ℕ → Bool) (truth : List Bool) (levels : List ℕ) (k x y : ℕ) → waits x k ≡ true → Excused waits truth levels k x y
excused_waits waits truth levels k x y h f = or_left _ _ h

pub excused_true : (waits : ℕ → ℕ → Bool) (truth : List Bool) (levels : List ℕ) (k x y : ℕ) → is_true truth y ≡ true → level_of levels y ≤ level_of levels x → Excused waits truth levels k x y
excused_true waits truth levels k x y h le f = or_right _ _ (and_from _ _ h (le-leb _ _ le))

pub excused_cases : (waits : ℕ → ℕ → Bool) (truth : List Bool) (levels : List ℕ) (k x y : ℕ) → Excused waits truth levels k x y → is_true truth (negation x) ≡ true → (waits x k ≡ true) ⊎ ((is_true truth y ≡ true) × (level_of levels y ≤ level_of levels x))
excused_cases waits truth levels k x y e f = elim (or_cases (waits x k) (is_true truth y && nat_le (level_of levels y) (level_of levels x)) (e f)) [
  | inl a ↦ inl a
  | inr b ↦ (let p = and_parts (is_true truth y) (nat_le (level_of levels y) (level_of levels x)) b in inr (p.0, leb-true (level_of levels y) (level_of levels x) p.1))
]

pub excused_by : (W V : ℕ → ℕ → Bool) (truth : List Bool) (levels : List ℕ) (k x y : ℕ) → (W x k ≡ true → V x k ≡ true) → Excused W truth levels k x y → Excused V truth levels k x y
excused_by W V truth levels k x y g e f = elim (excused_cases W truth levels k x y e f) [ inl a ↦ excused_waits V truth levels k x y (g a) f | inr b ↦ excused_true V truth levels k x y b.0 b.1 f ]

pub watched_by : (A B W V : ℕ → ℕ → Bool) (truth : List Bool) (levels r : List ℕ) (k x y : ℕ) → ((z : ℕ) → A z k ≡ true → B z k ≡ true) → ((z : ℕ) → A z k ≡ true → W z k ≡ true → V z k ≡ true) → Watched A W truth levels r k x y → Watched B V truth levels r k x y
watched_by A B W V truth levels r k x y f g w = record {
  in_first = w.in_first;
  in_second = w.in_second;
  at_first = f x w.at_first;
  at_second = f y w.at_second;
  first = excused_by W V truth levels k x y (g x w.at_first) w.first;
  second = excused_by W V truth levels k y x (g y w.at_second) w.second;
}

-- one clause changes what it watches, and the lists and what waits change for it alone
pub watching_at : (rows : List (List ℕ)) (watches watches2 : List Watch) (A B W V : ℕ → ℕ → Bool) (truth : List Bool) (levels : List ℕ) (level : ℕ) (queue : List ℕ) (k0 : ℕ) → length watches2 ≡ length watches → ((k : ℕ) → (k ≡ k0 → ⊥) → (first_of watches2 k ≡ first_of watches k) × (second_of watches2 k ≡ second_of watches k) × (pair_of watches2 k ≡ pair_of watches k)) → ((r : List ℕ) → slice_get rows k0 ≡ Some r → IsPair watches2 k0 r) → (first_of watches2 k0 < length truth) × (second_of watches2 k0 < length truth) → ((k : ℕ) → (k ≡ k0 → ⊥) → (x : ℕ) → A x k ≡ true → B x k ≡ true) → ((k : ℕ) → (k ≡ k0 → ⊥) → (x : ℕ) → A x k ≡ true → W x k ≡ true → V x k ≡ true) → ((x k : ℕ) → B x k ≡ true → k < length rows) → ((r : List ℕ) → slice_get rows k0 ≡ Some r → nat_eq (first_of watches2 k0) (second_of watches2 k0) ≡ false → Watched B V truth levels r k0 (first_of watches2 k0) (second_of watches2 k0)) → ((r : List ℕ) → slice_get rows k0 ≡ Some r → nat_eq (first_of watches2 k0) (second_of watches2 k0) ≡ true → Alone truth levels r (first_of watches2 k0)) → Watching rows watches A W truth levels level queue → Watching rows watches2 B V truth levels level queue
watching_at rows watches watches2 A B W V truth levels level queue k0 len same pair0 small f g numbers two0 one0 s = record {
  paired = len ∙ s.paired;
  below = s.below;
  firsts = λ k lt. elim (cases_eq k k0) [ inl e ↦ subst (λ w. first_of watches2 w < length truth) (sym e) small.0 | inr n ↦ subst (λ w. w < length truth) (sym (same k n).0) (s.firsts k (omega (arith, lt, len))) ];
  seconds = λ k lt. elim (cases_eq k k0) [ inl e ↦ subst (λ w. second_of watches2 w < length truth) (sym e) small.1 | inr n ↦ subst (λ w. w < length truth) (sym (same k n).1) (s.seconds k (omega (arith, lt, len))) ];
  numbers = numbers;
  pairs = λ k r h. elim (cases_eq k k0) [
    | inl e ↦ subst (λ w. IsPair watches2 w r) (sym e) (pair0 r (subst (λ w. slice_get rows w ≡ Some r) e h))
    | inr n ↦ (let p = same k n in pair_from watches2 k r (λ t z l. elim (pair_cases watches k r (s.pairs k r h) (sym p.2 ∙ t) z l) [ inl a ↦ inl (a ∙ sym p.0) | inr b ↦ inr (b ∙ sym p.1) ]))
  ];
  two = λ k r h n. elim (cases_eq k k0) [
    | inl e ↦ subst (λ w. Watched B V truth levels r w (first_of watches2 w) (second_of watches2 w)) (sym e) (two0 r (subst (λ w. slice_get rows w ≡ Some r) e h) (subst (λ w. nat_eq (first_of watches2 w) (second_of watches2 w) ≡ false) e n))
    | inr ne ↦ (let p = same k ne in
        let n1 = subst (λ w. nat_eq w (second_of watches2 k) ≡ false) p.0 n in
        let n2 = subst (λ w. nat_eq (first_of watches k) w ≡ false) p.1 n1 in
        let old = watched_by A B W V truth levels r k (first_of watches k) (second_of watches k) (f k ne) (g k ne) (s.two k r h n2) in
        let new1 = subst (λ w. Watched B V truth levels r k w (second_of watches k)) (sym p.0) old in
        subst (λ w. Watched B V truth levels r k (first_of watches2 k) w) (sym p.1) new1)
  ];
  one = λ k r h n. elim (cases_eq k k0) [
    | inl e ↦ subst (λ w. Alone truth levels r (first_of watches2 w)) (sym e) (one0 r (subst (λ w. slice_get rows w ≡ Some r) e h) (subst (λ w. nat_eq (first_of watches2 w) (second_of watches2 w) ≡ true) e n))
    | inr ne ↦ (let p = same k ne in
        let n1 = subst (λ w. nat_eq w (second_of watches2 k) ≡ true) p.0 n in
        let n2 = subst (λ w. nat_eq (first_of watches k) w ≡ true) p.1 n1 in
        subst (Alone truth levels r) (sym p.0) (s.one k r h n2))
  ];
  top = s.top;
  queued = s.queued;
}

-- the clauses watch what they did
pub watching_by : (rows : List (List ℕ)) (watches : List Watch) (A B W V : ℕ → ℕ → Bool) (truth : List Bool) (levels : List ℕ) (level : ℕ) (queue : List ℕ) (k0 : ℕ) → k0 < length rows → ((k : ℕ) → (k ≡ k0 → ⊥) → (x : ℕ) → A x k ≡ true → B x k ≡ true) → ((k : ℕ) → (k ≡ k0 → ⊥) → (x : ℕ) → A x k ≡ true → W x k ≡ true → V x k ≡ true) → ((x k : ℕ) → B x k ≡ true → k < length rows) → ((r : List ℕ) → slice_get rows k0 ≡ Some r → nat_eq (first_of watches k0) (second_of watches k0) ≡ false → Watched A W truth levels r k0 (first_of watches k0) (second_of watches k0) → Watched B V truth levels r k0 (first_of watches k0) (second_of watches k0)) → Watching rows watches A W truth levels level queue → Watching rows watches B V truth levels level queue
watching_by rows watches A B W V truth levels level queue k0 lt f g numbers two0 s =
    let lt2 : k0 < length watches = omega (arith, lt, s.paired) in
    watching_at rows watches watches A B W V truth levels level queue k0 refl (λ k n. (refl, refl, refl)) (λ r h. s.pairs k0 r h) (s.firsts k0 lt2, s.seconds k0 lt2) f g numbers (λ r h n. two0 r h n (s.two k0 r h n)) (λ r h n. s.one k0 r h n) s

-- lists
pub but_here : (lists : List (List ℕ)) (a : ℕ) (list : List ℕ) (k : ℕ) → lists_but lists a list a k ≡ listed list k
but_here lists a list k = ap (λ b. cond b (listed list k) (lists_in lists a k)) (eq-eqb a a refl)

pub but_there : (lists : List (List ℕ)) (a : ℕ) (list : List ℕ) (x k : ℕ) → (x ≡ a → ⊥) → lists_but lists a list x k ≡ lists_in lists x k
but_there lists a list x k n = ap (λ b. cond b (listed list k) (lists_in lists x k)) (ne_eqb x a n)

pub but_more : (lists : List (List ℕ)) (a : ℕ) (list list2 : List ℕ) (x k : ℕ) → (listed list k ≡ true → listed list2 k ≡ true) → lists_but lists a list x k ≡ true → lists_but lists a list2 x k ≡ true
but_more lists a list list2 x k f h = elim (cases_eq x a) [
  | inl e ↦ subst (λ w. lists_but lists a list2 w k ≡ true) (sym e) (but_here lists a list2 k ∙ f (sym (but_here lists a list k) ∙ subst (λ w. lists_but lists a list w k ≡ true) e h))
  | inr n ↦ but_there lists a list2 x k n ∙ sym (but_there lists a list x k n) ∙ h
]

pub waits_more : (rest : List ℕ) (a : ℕ) (left left2 : List ℕ) (x k : ℕ) → (x ≡ a → listed left k ≡ true → listed left2 k ≡ true) → waits_but rest a left x k ≡ true → waits_but rest a left2 x k ≡ true
waits_more rest a left left2 x k f h = elim (or_cases (listed rest (negation x)) (nat_eq x a && listed left k) h) [
  | inl b ↦ or_left _ _ b
  | inr b ↦ (let p = and_parts (nat_eq x a) (listed left k) b in or_right _ _ (and_from _ _ p.0 (f (eqb-true x a p.0) p.1)))
]

pub waits_rest : (rest : List ℕ) (a : ℕ) (left : List ℕ) (x k : ℕ) → (x ≡ a → ⊥) → waits_but rest a left x k ≡ true → listed rest (negation x) ≡ true
waits_rest rest a left x k n h = elim (or_cases (listed rest (negation x)) (nat_eq x a && listed left k) h) [ inl b ↦ b | inr b ↦ absurd (n (eqb-true x a (and_parts (nat_eq x a) (listed left k) b).0)) ]

-- the next of the list is looked at
pub take_next : (xs : List ℕ) (i k : ℕ) → i < length xs → listed (take (i + 1) xs) k ≡ true → (get_or xs i 0 ≡ k) ⊎ (listed (take i xs) k ≡ true)
take_next [] i k lt h = absurd (omega arith)
take_next (x ∷ xs) zero k lt h = elim (or_cases (nat_eq x k) false h) [ inl a ↦ inl (eqb-true x k a) | inr b ↦ absurd (both_ways false refl b) ]
take_next (x ∷ xs) (suc i) k lt h =
    let q : suc i + 1 ≡ suc (i + 1) = omega arith in
    let h2 : listed (take (suc (i + 1)) (x ∷ xs)) k ≡ true = subst (λ w. listed (take w (x ∷ xs)) k ≡ true) q h in
    elim (or_cases (nat_eq x k) (listed (take (i + 1) xs) k) h2) [
      | inl a ↦ inr (or_left _ _ a)
      | inr b ↦ elim (take_next xs i k (omega (arith, lt)) b) [ inl c ↦ inl c | inr c ↦ inr (or_right _ _ c) ]
    ]

pub take_some : (xs : List ℕ) (i k : ℕ) → listed (take i xs) k ≡ true → listed xs k ≡ true
take_some [] zero k h = h
take_some [] (suc i) k h = h
take_some (x ∷ xs) zero k h = absurd (both_ways false refl h)
take_some (x ∷ xs) (suc i) k h = elim (or_cases (nat_eq x k) (listed (take i xs) k) h) [ inl a ↦ or_left _ _ a | inr b ↦ or_right _ _ (take_some xs i k b) ]
