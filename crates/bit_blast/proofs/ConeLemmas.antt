-- A heap of pending terms, popped from the greatest down, finds the terms of the cone.
use Rattle.std.proofs.Common.{◌≡◌, ℕ, ◌+◌, ◌-◌, ◌≤◌, ◌<◌, length, List, [], ◌∷◌, ◌++◌, arith, ap, sym, ◌∙◌, refl, suc, zero, Bool, true, false, not, ◌&&◌, ◌||◌, cond, subst, ltb, eqb, ◌⊎◌, inl, inr, append_assoc, append-nil}
use Rattle.std.specs.Prelude.{slice_get, Some}
use Rattle.std.specs.List.Sorted.{IsPermutation}
use Rattle.std.specs.Ordering.{nat_cmp, is_lt}
use Rattle.std.specs.BinaryHeap.{IsUpperBound}
use Rattle.std.proofs.lemmas.List.Sums.{sum_by-cons}
use Rattle.std.proofs.lemmas.List.Sorted.{sum_by-IsPermutation}
use Rattle.std.proofs.lemmas.Bool.{lt-ltb, ltb-false, eqb-true, eq-eqb, ne_eqb, false≢true}
use Rattle.prop.specs.Trues.{listed}
use Rattle.bv_term.specs.declared.term.Term.{Term}
use Rattle.bit_blast.specs.Done.{Known, is_done}
use Rattle.bit_blast.proofs.Steps.{none-some, some-inj}
use Rattle.bit_blast.specs.Cone.{numbers, uses_of, operands_at, wants, falling, cone_of, hits, pending, Wanted, AllWanted}

pub pending-permutation : (xs ys : List ℕ) (j : ℕ) → IsPermutation xs ys → pending ys j ≡ pending xs j
pending-permutation xs ys j h = ap (ltb 0) (sum_by-IsPermutation (λ x. cond (eqb x j) 1 0) xs ys h)

pub pending-cons : (k : ℕ) (xs : List ℕ) (j : ℕ) → pending (k ∷ xs) j ≡ (eqb k j || pending xs j)
pending-cons k xs j = ap (ltb 0) (sum_by-cons (λ x. cond (eqb x j) 1 0) k xs) ∙ by (eqb k j) (hits xs j)
  where
    by : (b : Bool) (h : ℕ) → ltb 0 (cond b 1 0 + h) ≡ (b || ltb 0 h)
    by true h = lt-ltb 0 (1 + h) (omega arith)
    by false h = ap (ltb 0) e
      where
        e : 0 + h ≡ h
        e = omega arith

below-top : (k y : ℕ) → is_lt (nat_cmp k y) ≡ false → y ≤ k
below-top k y e = by (ltb k y) (eqb k y) e refl
  where
    by : (s t : Bool) → is_lt (nat_cmp k y) ≡ false → ltb k y ≡ ltb k y → y ≤ k
    by s t h r = elim (split (ltb k y)) [ inl q ↦ absurd (false≢true (sym h ∙ top q)) | inr q ↦ ltb-false k y q ]
      where
        split : (b : Bool) → (b ≡ true) ⊎ (b ≡ false)
        split true = inl refl
        split false = inr refl

        top : ltb k y ≡ true → is_lt (nat_cmp k y) ≡ true
        top q = rw q refl

pub pending-above : (k : ℕ) (xs : List ℕ) → IsUpperBound nat_cmp k xs → (j : ℕ) → k < j → pending xs j ≡ false
pending-above k [] h j lt = refl
pending-above k (x ∷ xs) h j lt =
    let le : x ≤ k = below-top k x h.0 in
    pending-cons x xs j ∙ (ap (λ b. b || pending xs j) (ne_eqb x j (λ e. omega (arith, e, le, lt))) ∙ pending-above k xs h.1 j lt)

falling-cong : (ts : List Term) (done : ℕ → Bool) (n : ℕ) (p q : ℕ → Bool) → ((j : ℕ) → j < n → p j ≡ q j) → falling ts done n p ≡ falling ts done n q
falling-cong ts done zero p q h = refl
falling-cong ts done (suc k) p q h =
    let P : ℕ → Bool = λ j. p j || wants ts done k j in
    let Q : ℕ → Bool = λ j. q j || wants ts done k j in
    let a : falling ts done k P ≡ falling ts done k Q = falling-cong ts done k P Q (λ j lt. ap (λ b. b || wants ts done k j) (h j (omega arith))) in
    let b : falling ts done k p ≡ falling ts done k q = falling-cong ts done k p q (λ j lt. h j (omega arith)) in
    ap (λ t. cond t (k ∷ falling ts done k P) (falling ts done k p)) (h k (omega arith))
    ∙ (ap (λ xs. cond (q k) (k ∷ xs) (falling ts done k p)) a ∙ ap (λ xs. cond (q k) (k ∷ falling ts done k Q) xs) b)

falling-skip : (ts : List Term) (done : ℕ → Bool) (k d : ℕ) (p : ℕ → Bool) → p k ≡ true → ((j : ℕ) → k < j → p j ≡ false)
    → falling ts done (suc (k + d)) p ≡ k ∷ falling ts done k (λ j. p j || wants ts done k j)
falling-skip ts done k zero p y h =
    let e : k + 0 ≡ k = omega arith in
    ap (λ t. falling ts done (suc t) p) e ∙ ap (λ t. cond t (k ∷ falling ts done k (λ j. p j || wants ts done k j)) (falling ts done k p)) y
falling-skip ts done k (suc d) p y h =
    let e : k + suc d ≡ suc (k + d) = omega arith in
    let m = suc (k + d) in
    ap (λ t. falling ts done (suc t) p) e
    ∙ (ap (λ t. cond t (m ∷ falling ts done m (λ j. p j || wants ts done m j)) (falling ts done m p)) (h m (omega arith))
    ∙ falling-skip ts done k d p y h)

-- the greatest pending number below the bound is the next
pub falling-next : (ts : List Term) (done : ℕ → Bool) (below k : ℕ) (old rest new : List ℕ)
    → IsPermutation old (k ∷ rest) → IsUpperBound nat_cmp k rest → k < below
    → AllWanted rest new done (operands_at ts k)
    → falling ts done below (pending old) ≡ k ∷ falling ts done k (pending new)
falling-next ts done below k old rest new h u lt w =
    let at : (j : ℕ) → pending old j ≡ (eqb k j || pending rest j)
    = λ j. sym (pending-permutation old (k ∷ rest) j h) ∙ pending-cons k rest j in
    let here : pending old k ≡ true = at k ∙ ap (λ b. b || pending rest k) (eq-eqb k k refl) in
    let over : (j : ℕ) → k < j → pending old j ≡ false
    = λ j less. at j ∙ (ap (λ b. b || pending rest j) (ne_eqb k j (λ e. omega (arith, e, less))) ∙ pending-above k rest u j less) in
    let e : suc (k + (below - suc k)) ≡ below = omega arith in
    let same : (j : ℕ) → j < k → (pending old j || wants ts done k j) ≡ pending new j
    = λ j less. ap (λ b. b || wants ts done k j) (at j ∙ ap (λ b. b || pending rest j) (ne_eqb k j (λ e. omega (arith, e, less)))) ∙ sym (w j) in
    ap (λ t. falling ts done t (pending old)) (sym e)
    ∙ (falling-skip ts done k (below - suc k) (pending old) here over
    ∙ ap (λ xs. k ∷ xs) (falling-cong ts done k (λ j. pending old j || wants ts done k j) (pending new) same))

-- a number that is not below the bound was there before
pub falling-again : (ts : List Term) (done : ℕ → Bool) (below k : ℕ) (old rest : List ℕ)
    → IsPermutation old (k ∷ rest) → below ≤ k → falling ts done below (pending old) ≡ falling ts done below (pending rest)
falling-again ts done below k old rest h le =
    falling-cong ts done below (pending old) (pending rest)
    (λ j less. sym (pending-permutation old (k ∷ rest) j h) ∙ (pending-cons k rest j ∙ ap (λ b. b || pending rest j) (ne_eqb k j (λ e. omega (arith, e, less, le)))))

falling-none : (ts : List Term) (done : ℕ → Bool) (n : ℕ) (p : ℕ → Bool) → ((j : ℕ) → p j ≡ false) → falling ts done n p ≡ []
falling-none ts done zero p h = refl
falling-none ts done (suc k) p h =
    ap (λ t. cond t (k ∷ falling ts done k (λ j. p j || wants ts done k j)) (falling ts done k p)) (h k) ∙ falling-none ts done k p h

pub falling-end : (ts : List Term) (done : ℕ → Bool) (n : ℕ) (xs : List ℕ) → length xs ≡ 0 → falling ts done n (pending xs) ≡ []
falling-end ts done n [] e = falling-none ts done n (pending []) (λ j. refl)
falling-end ts done n (x ∷ xs) e = absurd (omega arith)

-- the beginning
pub falling-start : (ts : List Term) (done : List Known) (t : ℕ) (new : List ℕ) → Wanted [] new (is_done done) t
    → cone_of ts done t ≡ falling ts (is_done done) (suc t) (pending new)
falling-start ts done t new w =
    falling-cong ts (is_done done) (suc t) (λ j. eqb t j && not (is_done done j)) (pending new) (λ j lt. sym (w j))

pub operands-at : (ts : List Term) (k : ℕ) (t : Term) → slice_get ts k ≡ Some t → operands_at ts k ≡ numbers (uses_of t)
operands-at [] k t e = absurd (none-some t e)
operands-at (x ∷ ts) zero t e = ap (λ s. numbers (uses_of s)) (some-inj x x t e)
operands-at (x ∷ ts) (suc k) t e = operands-at ts k t e

-- want
pub wanted-done : (xs : List ℕ) (done : ℕ → Bool) (k : ℕ) → done k ≡ true → Wanted xs xs done k
wanted-done xs done k e j = by (split (eqb k j))
  where
    split : (b : Bool) → (b ≡ true) ⊎ (b ≡ false)
    split true = inl refl
    split false = inr refl

    right-false : (b : Bool) → b ≡ (b || false)
    right-false true = refl
    right-false false = refl

    by : (eqb k j ≡ true) ⊎ (eqb k j ≡ false) → pending xs j ≡ (pending xs j || (eqb k j && not (done j)))
    by (inl q) =
        let d : done j ≡ true = subst (λ i. done i ≡ true) (eqb-true k j q) e in
        right-false (pending xs j) ∙ sym (ap (λ b. pending xs j || (b && not (done j))) q ∙ ap (λ b. pending xs j || not b) d)
    by (inr q) = right-false (pending xs j) ∙ sym (ap (λ b. pending xs j || (b && not (done j))) q)

pub wanted-push : (xs ys : List ℕ) (done : ℕ → Bool) (k : ℕ) → done k ≡ false → IsPermutation (k ∷ xs) ys → Wanted xs ys done k
wanted-push xs ys done k e h j = pending-permutation (k ∷ xs) ys j h ∙ (pending-cons k xs j ∙ by (split (eqb k j)))
  where
    split : (b : Bool) → (b ≡ true) ⊎ (b ≡ false)
    split true = inl refl
    split false = inr refl

    swap : (a b : Bool) → (a || b) ≡ (b || a)
    swap true true = refl
    swap true false = refl
    swap false true = refl
    swap false false = refl

    by : (eqb k j ≡ true) ⊎ (eqb k j ≡ false) → (eqb k j || pending xs j) ≡ (pending xs j || (eqb k j && not (done j)))
    by (inl q) =
        let d : done j ≡ false = subst (λ i. done i ≡ false) (eqb-true k j q) e in
        swap (eqb k j) (pending xs j) ∙ ap (λ b. pending xs j || b) (q ∙ sym (ap (λ b. b && not (done j)) q ∙ ap not d))
    by (inr q) = swap (eqb k j) (pending xs j) ∙ ap (λ b. pending xs j || b) (q ∙ sym (ap (λ b. b && not (done j)) q))

-- one after another
pub wanted-none : (xs : List ℕ) (done : ℕ → Bool) → AllWanted xs xs done []
wanted-none xs done j = by (pending xs j)
  where
    by : (b : Bool) → b ≡ (b || false)
    by true = refl
    by false = refl

pub wanted-more : (xs ys zs : List ℕ) (done : ℕ → Bool) (k : ℕ) (ks : List ℕ) → Wanted xs ys done k → AllWanted ys zs done ks → AllWanted xs zs done (k ∷ ks)
wanted-more xs ys zs done k ks h g j =
    g j ∙ (ap (λ b. b || (listed ks j && not (done j))) (h j) ∙ by (pending xs j) (eqb k j) (listed ks j) (not (done j)))
  where
    by : (p a b d : Bool) → ((p || (a && d)) || (b && d)) ≡ (p || ((a || b) && d))
    by true a b d = refl
    by false true true true = refl
    by false true true false = refl
    by false true false true = refl
    by false true false false = refl
    by false false b d = refl

pub wanted-one : (xs ys : List ℕ) (done : ℕ → Bool) (k : ℕ) → Wanted xs ys done k → AllWanted xs ys done (k ∷ [])
wanted-one xs ys done k h = wanted-more xs ys ys done k [] h (wanted-none ys done)

-- one turn of the loop
pub cone-step : (ts : List Term) (done : ℕ → Bool) (below k : ℕ) (old rest new ks whole found more : List ℕ)
    → whole ≡ found ++ falling ts done below (pending old) → IsPermutation old (k ∷ rest) → IsUpperBound nat_cmp k rest → k < below
    → AllWanted rest new done ks → ks ≡ operands_at ts k → more ≡ found ++ k ∷ [] → whole ≡ more ++ falling ts done k (pending new)
cone-step ts done below k old rest new ks whole found more e h u lt w o m =
    let w2 : AllWanted rest new done (operands_at ts k) = subst (λ (t : List ℕ). AllWanted rest new done t) o w in
    e ∙ (ap (λ (t : List ℕ). found ++ t) (falling-next ts done below k old rest new h u lt w2)
    ∙ (sym (append_assoc found (k ∷ []) (falling ts done k (pending new))) ∙ ap (λ (t : List ℕ). t ++ falling ts done k (pending new)) (sym m)))

pub cone-again : (ts : List Term) (done : ℕ → Bool) (below k : ℕ) (old rest whole found : List ℕ)
    → whole ≡ found ++ falling ts done below (pending old) → IsPermutation old (k ∷ rest) → below ≤ k → whole ≡ found ++ falling ts done below (pending rest)
cone-again ts done below k old rest whole found e h le =
    e ∙ ap (λ (t : List ℕ). found ++ t) (falling-again ts done below k old rest h le)

pub cone-end : (ts : List Term) (done : ℕ → Bool) (below : ℕ) (old whole found : List ℕ)
    → whole ≡ found ++ falling ts done below (pending old) → length old ≡ 0 → found ≡ whole
cone-end ts done below old whole found e l = sym (e ∙ (ap (λ (t : List ℕ). found ++ t) (falling-end ts done below old l) ∙ append-nil found))
