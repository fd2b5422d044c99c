-- The literals of a clause join, one after the other.
use Rattle.std.proofs.Common.{◌≡◌, ℕ, ◌+◌, ◌*◌, ◌/◌, ◌<◌, ◌≤◌, Bool, true, false, cond, not, ◌&&◌, ◌||◌, List, [], ◌∷◌, ◌++◌, inl, inr, refl, sym, ap, ◌∙◌, subst, arith, nat_eq, length, get_or, set, get_or-set_same, get_or-set_other, length-set}
use Rattle.std.proofs.lemmas.Bool.{cases_Bool, both_ways, eqb-true, eq-eqb, ne_eqb, false_from_ne_true, or_cases, or_left, or_right, and_parts, and_from, cases_eq, cases_lt, not-true}
use Rattle.prop.specs.Trues.{listed}
use Rattle.resolution_log.specs.Marks.{is_marked}
use Rattle.resolution_log.proofs.Places.{bool_same}
use Rattle.dense_trail.specs.Dense.{negation, level_of, distinct}
use Rattle.dense_trail.proofs.CodeLaws.{negation_half, negation_twice, negation_swap, same_half}
use Rattle.dense_trail.proofs.ValueLaws.{listed_append, listed_left, listed_last, listed_one}
use Rattle.conflict_analysis.specs.Notes.{is_noted, stamp_one, learn_one, count_one, note_stamps, note_learnt, note_here, is_here, counted, Noted}

pub counted_push : (f : ℕ → Bool) (xs : List ℕ) (k : ℕ) → counted f (xs ++ (k ∷ [])) ≡ counted f xs + cond (f k) 1 0
counted_push f [] k = omega arith
counted_push f (x ∷ xs) k = let ih = counted_push f xs k in omega (arith, ih)

pub one_or : (b : Bool) → (b ≡ true → ⊥) → let n : ℕ = cond b 1 0 in let m : ℕ = 0 in n ≡ m
one_or true h = absurd (h refl)
one_or false h = refl

pub count_yes : (b : Bool) → b ≡ true → let n : ℕ = cond b 1 0 in let m : ℕ = 1 in n ≡ m
count_yes true h = refl
count_yes false h = absurd (both_ways false refl h)

count_path : (a b : Bool) → a ≡ b → let n : ℕ = cond a 1 0 in let m : ℕ = cond b 1 0 in n ≡ m
count_path a b e = ap (λ w. let n : ℕ = cond w 1 0 in n) e

pub counted_none : (f : ℕ → Bool) (xs : List ℕ) (k : ℕ) → counted f xs ≡ 0 → listed xs k ≡ true → f k ≡ false
counted_none f [] k h l = absurd (both_ways false refl l)
counted_none f (x ∷ xs) k h l = elim (or_cases (nat_eq x k) (listed xs k) l) [
  | inl e ↦ false_from_ne_true (f k) (λ t. let q : f x ≡ true = subst (λ w. f w ≡ true) (sym (eqb-true x k e)) t in let one = count_yes (f x) q in absurd (omega (arith, h, one)))
  | inr r ↦ counted_none f xs k (omega (arith, h)) r
]

pub counted_some : (f : ℕ → Bool) (xs : List ℕ) → 0 < counted f xs → (k : ℕ) × (listed xs k ≡ true) × (f k ≡ true)
counted_some f [] h = absurd (omega arith)
counted_some f (x ∷ xs) h = elim (cases_Bool (f x)) [
  | inl t ↦ (x, or_left _ _ (eq-eqb x x refl), t)
  | inr n ↦ (let z = one_or (f x) (λ t. both_ways (f x) n t) in let (k, l, t) = counted_some f xs (omega (arith, h, z)) in (k, or_right _ _ l, t))
]

pub counted_same : (f g : ℕ → Bool) (xs : List ℕ) → ((k : ℕ) → listed xs k ≡ true → f k ≡ g k) → counted f xs ≡ counted g xs
counted_same f g [] h = refl
counted_same f g (x ∷ xs) h =
    let e = count_path (f x) (g x) (h x (or_left _ _ (eq-eqb x x refl))) in
    let ih = counted_same f g xs (λ k l. h k (or_right _ _ l)) in
    omega (arith, e, ih)

-- one more is counted
pub counted_more : (f g : ℕ → Bool) (xs : List ℕ) (c : ℕ) → distinct xs ≡ true → listed xs c ≡ true → f c ≡ false → g c ≡ true → ((k : ℕ) → listed xs k ≡ true → (k ≡ c → ⊥) → f k ≡ g k) → counted g xs ≡ counted f xs + 1
counted_more f g [] c d l fc gc h = absurd (both_ways false refl l)
counted_more f g (x ∷ xs) c d l fc gc h = elim (cases_eq x c) [
  | inl e ↦ (let p = and_parts (not (listed xs x)) (distinct xs) d in
      let away : (k : ℕ) → listed xs k ≡ true → k ≡ c → ⊥ = λ k lk q. both_ways (listed xs x) (not-true (listed xs x) p.0) (subst (λ w. listed xs w ≡ true) (q ∙ sym e) lk) in
      let same' = counted_same f g xs (λ k lk. h k (or_right _ _ lk) (away k lk)) in
      let a = one_or (f x) (λ t. both_ways (f c) fc (sym (ap f e) ∙ t)) in
      let b = count_yes (g x) (ap g e ∙ gc) in
      omega (arith, a, b, same'))
  | inr n ↦ (let p = and_parts (not (listed xs x)) (distinct xs) d in
      let l2 : listed xs c ≡ true = elim (or_cases (nat_eq x c) (listed xs c) l) [ inl t ↦ absurd (n (eqb-true x c t)) | inr r ↦ r ] in
      let ih = counted_more f g xs c p.1 l2 fc gc (λ k lk m. h k (or_right _ _ lk) m) in
      let e = count_path (f x) (g x) (h x (or_left _ _ (eq-eqb x x refl)) n) in
      omega (arith, e, ih))
]

pub noted_same : (prefix levels : List ℕ) (level epoch : ℕ) (stamps learnt : List ℕ) (here' n : ℕ) (f g : ℕ → Bool) → ((z : ℕ) → z < n → f z ≡ g z) → ((k : ℕ) → listed prefix k ≡ true → negation k < n) → Noted prefix levels level epoch stamps learnt here' n f → Noted prefix levels level epoch stamps learnt here' n g
noted_same prefix levels level epoch stamps learnt here' n f g e below s = record {
  marks = λ k h. s.marks k h ∙ e (negation k) (below k h);
  low_to = λ z h. (let p = s.low_to z h in (p.0, sym (e z p.0) ∙ p.1, p.2));
  low_from = λ z lt h l. s.low_from z lt (e z lt ∙ h) l;
  falsified = λ z lt h. s.falsified z lt (e z lt ∙ h);
  count = s.count;
}

module _ (prefix levels : List ℕ) (level epoch : ℕ) (n : ℕ) (d : distinct prefix ≡ true) (quiet : (k : ℕ) → listed prefix k ≡ true → listed prefix (negation k) ≡ true → ⊥) (top : (k : ℕ) → listed prefix k ≡ true → level_of levels k ≤ level) (below : (k : ℕ) → listed prefix k ≡ true → negation k < n) where
  -- one literal joins
  pub noted_one : (stamps learnt : List ℕ) (here' but q : ℕ) (has : ℕ → Bool) → q < n → q / 2 < length stamps → (q ≡ but → ⊥) → listed prefix (negation q) ≡ true → Noted prefix levels level epoch stamps learnt here' n has → Noted prefix levels level epoch (stamp_one epoch but stamps q) (learn_one epoch but level levels stamps learnt q) (count_one epoch but level levels stamps here' q) n (λ z. has z || nat_eq q z)
  noted_one stamps learnt here' but q has lt half ne here s = go (is_marked epoch stamps (q / 2)) (nat_eq (level_of levels q) level) refl refl
    where
      off : nat_eq q but ≡ false
      off = ne_eqb q but ne

      old_mark : is_marked epoch stamps (q / 2) ≡ has q
      old_mark = ap (is_marked epoch stamps) (sym (negation_half q)) ∙ s.marks (negation q) here ∙ ap has (negation_twice q)

      -- the literal is there
      there : has q ≡ true → (z : ℕ) → has z ≡ (has z || nat_eq q z)
      there t z = bool_same (has z) (has z || nat_eq q z) (λ h. or_left _ _ h) (λ h. elim (or_cases (has z) (nat_eq q z) h) [ inl a ↦ a | inr b ↦ subst (λ w. has w ≡ true) (eqb-true q z b) t ])

      stamped : (k : ℕ) → listed prefix k ≡ true → is_marked epoch (set stamps (q / 2) epoch) (k / 2) ≡ (has (negation k) || nat_eq q (negation k))
      stamped k lk = elim (cases_eq (k / 2) (q / 2)) [
        | inl e ↦ (let at : k ≡ negation q = elim (same_half k q e) [ inl a ↦ absurd (quiet k lk (subst (λ w. listed prefix (negation w) ≡ true) (sym a) here)) | inr b ↦ b ] in
            let one : is_marked epoch (set stamps (q / 2) epoch) (k / 2) ≡ true = ap (is_marked epoch (set stamps (q / 2) epoch)) e ∙ ap (λ w. nat_eq w epoch) (get_or-set_same stamps (q / 2) epoch 0 half) ∙ eq-eqb epoch epoch refl in
            one ∙ sym (or_right (has (negation k)) (nat_eq q (negation k)) (eq-eqb q (negation k) (negation_swap q k (sym at)))))
        | inr m ↦ ap (λ w. nat_eq w epoch) (get_or-set_other stamps (q / 2) (k / 2) epoch 0 m) ∙ s.marks k lk ∙ keep k (λ e. m (sym (negation_half k) ∙ ap (λ w. w / 2) (sym e)))
      ]
        where
          keep : (k : ℕ) → (q ≡ negation k → ⊥) → has (negation k) ≡ (has (negation k) || nat_eq q (negation k))
          keep k m = bool_same (has (negation k)) (has (negation k) || nat_eq q (negation k)) (λ h. or_left _ _ h) (λ h. elim (or_cases (has (negation k)) (nat_eq q (negation k)) h) [ inl a ↦ a | inr b ↦ absurd (m (eqb-true q (negation k) b)) ])

      false_too : (z : ℕ) → z < n → (has z || nat_eq q z) ≡ true → listed prefix (negation z) ≡ true
      false_too z l h = elim (or_cases (has z) (nat_eq q z) h) [ inl a ↦ s.falsified z l a | inr b ↦ subst (λ w. listed prefix (negation w) ≡ true) (eqb-true q z b) here ]

      level_q : level_of levels (negation q) ≡ level_of levels q
      level_q = ap (λ w. get_or levels w 0) (negation_half q)

      others : (k : ℕ) → listed prefix k ≡ true → (k ≡ negation q → ⊥) → is_here level levels epoch stamps k ≡ is_here level levels epoch (set stamps (q / 2) epoch) k
      others k lk m = ap (λ w. w && nat_eq (level_of levels k) level) (sym (ap (λ w. nat_eq w epoch) (get_or-set_other stamps (q / 2) (k / 2) epoch 0 (λ e. elim (same_half k q e) [ inl a ↦ quiet k lk (subst (λ w. listed prefix (negation w) ≡ true) (sym a) here) | inr b ↦ m b ]))))

      marked_now : is_marked epoch (set stamps (q / 2) epoch) (negation q / 2) ≡ true
      marked_now = ap (is_marked epoch (set stamps (q / 2) epoch)) (negation_half q) ∙ ap (λ w. nat_eq w epoch) (get_or-set_same stamps (q / 2) epoch 0 half) ∙ eq-eqb epoch epoch refl

      was_not : is_marked epoch stamps (q / 2) ≡ false → is_marked epoch stamps (negation q / 2) ≡ false
      was_not f = ap (is_marked epoch stamps) (negation_half q) ∙ f

      go : (m b : Bool) → is_marked epoch stamps (q / 2) ≡ m → nat_eq (level_of levels q) level ≡ b → Noted prefix levels level epoch (cond (nat_eq q but || m) stamps (set stamps (q / 2) epoch)) (cond (nat_eq q but || m) learnt (cond b learnt (learnt ++ (q ∷ [])))) (cond (nat_eq q but || m) here' (cond b (here' + 1) here')) n (λ z. has z || nat_eq q z)
      go true b mm bb = rw off (noted_same prefix levels level epoch stamps learnt here' n has (λ z. has z || nat_eq q z) (λ z l. there (sym old_mark ∙ mm) z) below s)
      go false true mm bb = rw off (record {
        marks = stamped;
        low_to = λ z h. (let p = s.low_to z h in (p.0, or_left _ _ p.1, p.2));
        low_from = λ z l h low. elim (or_cases (has z) (nat_eq q z) h) [ inl a ↦ s.low_from z l a low | inr e ↦ (let q_is : q ≡ z = eqb-true q z e in let at : level_of levels q ≡ level = eqb-true (level_of levels q) level bb in absurd (omega (arith, low, at, ap (level_of levels) q_is))) ];
        falsified = false_too;
        count = (let more = counted_more (is_here level levels epoch stamps) (is_here level levels epoch (set stamps (q / 2) epoch)) prefix (negation q) d here (ap (λ w. w && nat_eq (level_of levels (negation q)) level) (was_not mm)) (and_from _ _ marked_now (ap (λ w. nat_eq w level) level_q ∙ bb)) others in omega (arith, more, s.count));
      })
      go false false mm bb = rw off (record {
        marks = stamped;
        low_to = λ z h. elim (listed_append learnt (q ∷ []) z h) [
          | inl a ↦ (let p = s.low_to z a in (p.0, or_left _ _ p.1, p.2))
          | inr b ↦ (let e : q ≡ z = listed_one q z b in (subst (λ w. w < n) e lt, or_right _ _ (eq-eqb q z e), subst (λ w. level_of levels w < level) e low_q))
        ];
        low_from = λ z l h low. elim (or_cases (has z) (nat_eq q z) h) [ inl a ↦ listed_left learnt (q ∷ []) z (s.low_from z l a low) | inr e ↦ subst (λ w. listed (learnt ++ (q ∷ [])) w ≡ true) (eqb-true q z e) (listed_last learnt q) ];
        falsified = false_too;
        count = s.count ∙ counted_same (is_here level levels epoch stamps) (is_here level levels epoch (set stamps (q / 2) epoch)) prefix (λ k lk. elim (cases_eq k (negation q)) [
          | inl e ↦ low_here k (ap (level_of levels) e ∙ level_q)
          | inr m ↦ others k lk m
        ]);
      })
        where
          low_q : level_of levels q < level
          low_q = let t = top (negation q) here in less (level_of levels q) level (omega (arith, t, level_q)) bb
            where
              less : (a b : ℕ) → a ≤ b → nat_eq a b ≡ false → a < b
              less a b le f = elim (cases_lt a b) [ inl x ↦ x | inr x ↦ absurd (both_ways (nat_eq a b) f (eq-eqb a b (omega (arith, le, x)))) ]

          low_here : (k : ℕ) → level_of levels k ≡ level_of levels q → is_here level levels epoch stamps k ≡ is_here level levels epoch (set stamps (q / 2) epoch) k
          low_here k e =
              let f : nat_eq (level_of levels k) level ≡ false = ap (λ w. nat_eq w level) e ∙ bb in
              none (is_marked epoch stamps (k / 2)) (nat_eq (level_of levels k) level) f ∙ sym (none (is_marked epoch (set stamps (q / 2) epoch) (k / 2)) (nat_eq (level_of levels k) level) f)
            where
              none : (a b : Bool) → b ≡ false → (a && b) ≡ false
              none true b h = h
              none false b h = refl

  stamp_length : (stamps : List ℕ) (but q : ℕ) → length (stamp_one epoch but stamps q) ≡ length stamps
  stamp_length stamps but q = go (is_noted epoch stamps but q)
    where
      go : (b : Bool) → length (cond b stamps (set stamps (q / 2) epoch)) ≡ length stamps
      go true = refl
      go false = length-set stamps (q / 2) epoch

  -- all literals of a row but one
  pub noted_all : (stamps learnt : List ℕ) (here' but : ℕ) (has : ℕ → Bool) (row : List ℕ) → n ≡ 2 * length stamps → ((q : ℕ) → listed row q ≡ true → q < n) → ((q : ℕ) → listed row q ≡ true → (q ≡ but → ⊥) → listed prefix (negation q) ≡ true) → Noted prefix levels level epoch stamps learnt here' n has → Noted prefix levels level epoch (note_stamps epoch but stamps row) (note_learnt epoch but level levels stamps learnt row) (note_here epoch but level levels stamps here' row) n (λ z. has z || (not (nat_eq z but) && listed row z))
  noted_all stamps learnt here' but has [] wide small false_in s = noted_same prefix levels level epoch stamps learnt here' n has (λ z. has z || (not (nat_eq z but) && false)) (λ z l. nothing (has z) (nat_eq z but)) below s
    where
      nothing : (a b : Bool) → a ≡ (a || (not b && false))
      nothing true b = refl
      nothing false true = refl
      nothing false false = refl
  noted_all stamps learnt here' but has (q ∷ row) wide small false_in s = elim (cases_eq q but) [
    | inl e ↦ (let off : is_noted epoch stamps but q ≡ true = or_left _ _ (eq-eqb q but e) in
        let r = noted_all stamps learnt here' but has row wide (λ z h. small z (or_right _ _ h)) (λ z h m. false_in z (or_right _ _ h) m) s in
        noted_same prefix levels level epoch _ _ _ n (λ z. has z || (not (nat_eq z but) && listed row z)) (λ z. has z || (not (nat_eq z but) && (nat_eq q z || listed row z))) (λ z l. skip (has z) (nat_eq z but) (nat_eq q z) (listed row z) (λ t. eq-eqb z but (sym (eqb-true q z t) ∙ e))) below (rw off r))
    | inr m ↦ (let one = noted_one stamps learnt here' but q has (small q (or_left _ _ (eq-eqb q q refl))) (let lt = small q (or_left _ _ (eq-eqb q q refl)) in omega (arith, lt, wide)) m (false_in q (or_left _ _ (eq-eqb q q refl)) m) s in
        let r = noted_all (stamp_one epoch but stamps q) (learn_one epoch but level levels stamps learnt q) (count_one epoch but level levels stamps here' q) but (λ z. has z || nat_eq q z) row (omega (arith, wide, stamp_length stamps but q)) (λ z h. small z (or_right _ _ h)) (λ z h m. false_in z (or_right _ _ h) m) one in
        noted_same prefix levels level epoch _ _ _ n (λ z. (has z || nat_eq q z) || (not (nat_eq z but) && listed row z)) (λ z. has z || (not (nat_eq z but) && (nat_eq q z || listed row z))) (λ z l. joined (has z) (nat_eq z but) (nat_eq q z) (listed row z) (λ t. ne_eqb z but (λ e. m (eqb-true q z t ∙ e)))) below r)
  ]
    where
      skip : (a b c r : Bool) → (c ≡ true → b ≡ true) → (a || (not b && r)) ≡ (a || (not b && (c || r)))
      skip true b c r h = refl
      skip false true c r h = refl
      skip false false true r h = absurd (both_ways false refl (h refl))
      skip false false false r h = refl

      joined : (a b c r : Bool) → (c ≡ true → b ≡ false) → ((a || c) || (not b && r)) ≡ (a || (not b && (c || r)))
      joined true b c r h = refl
      joined false b false r h = refl
      joined false true true r h = absurd (both_ways true (h refl) refl)
      joined false false true r h = refl
