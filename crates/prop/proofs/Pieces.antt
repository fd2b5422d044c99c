-- Lists that lie in one flat list.
use Rattle.std.proofs.Common.{◌≡◌, ℕ, ◌+◌, ◌-◌, ◌<◌, ◌≤◌, length, List, [], ◌∷◌, ◌++◌, take, drop, arith, ap, sym, ◌∙◌, refl, zero, suc, slice_get, get_or, Some, subst}
use Rattle.std.proofs.lemmas.List.{length-drop, length-take-le, length-append, take-append-le, drop-append-le, take_all, drop_all}
use Rattle.prop.specs.Pieces.{pieces, Rising, start_of}
use Rattle.prop.specs.Logic.{count}
use Rattle.prop.specs.declared.Lit.{Lit}

pub rising_le : (from : ℕ) (es : List ℕ) (n : ℕ) → Rising from es n → from ≤ n
rising_le from [] n r = omega arith
rising_le from (e ∷ es) n r = let h = rising_le e es n r.1 in omega (arith, r.0)

start-more : (from e : ℕ) (es : List ℕ) (k : ℕ) → start_of from (e ∷ es) (suc k) ≡ start_of e es k
start-more from e es zero = refl
start-more from e es (suc k) = refl

pub rising_at : (from : ℕ) (es : List ℕ) (n : ℕ) → Rising from es n → (k : ℕ) → k < length es → (start_of from es k ≤ get_or es k 0) × (get_or es k 0 ≤ n)
rising_at from [] n r k h = absurd (omega arith)
rising_at from (e ∷ es) n r zero h = (r.0, rising_le e es n r.1)
rising_at from (e ∷ es) n r (suc k) h =
    let q : k < length es = omega arith in
    let ih = rising_at e es n r.1 k q in
    (subst (λ x. x ≤ get_or es k 0) (sym (start-more from e es k)) ih.0, ih.1)

pub piece_at : {A : Type 0} (from : ℕ) (es : List ℕ) (xs : List A) (k : ℕ) → k < length es → slice_get (pieces from es xs) k ≡ Some (take (get_or es k 0 - start_of from es k) (drop (start_of from es k) xs))
piece_at from [] xs k h = absurd (omega arith)
piece_at from (e ∷ es) xs zero h = refl
piece_at from (e ∷ es) xs (suc k) h =
    let q : k < length es = omega arith in
    subst (λ x. slice_get (pieces e es xs) k ≡ Some (take (get_or es k 0 - x) (drop x xs))) (sym (start-more from e es k)) (piece_at e es xs k q)

pub length-pieces : {A : Type 0} (from : ℕ) (es : List ℕ) (xs : List A) → length (pieces from es xs) ≡ length es
length-pieces from [] xs = refl
length-pieces from (e ∷ es) xs = ap suc (length-pieces e es xs)

pub count-pieces : (from : ℕ) (es : List ℕ) (xs : List Lit) → Rising from es (length xs) → from + count (pieces from es xs) ≡ length xs
count-pieces from [] xs r = omega (arith, r)
count-pieces from (e ∷ es) xs r =
    let h = count-pieces e es xs r.1 in
    let le : e ≤ length xs = rising_le e es (length xs) r.1 in
    let d : length (drop from xs) ≡ length xs - from = length-drop from xs in
    let fits : e - from ≤ length (drop from xs) = omega arith in
    let t : length (take (e - from) (drop from xs)) ≡ e - from = length-take-le (e - from) (drop from xs) fits in
    omega (arith, r.0)

pub rising-push : (from : ℕ) (es : List ℕ) (n m : ℕ) → Rising from es n → n ≤ m → Rising from (es ++ m ∷ []) m
rising-push from [] n m r le = (omega (arith, r), refl)
rising-push from (e ∷ es) n m r le = (r.0, rising-push e es n m r.1 le)

pub pieces-push : {A : Type 0} (from : ℕ) (es : List ℕ) (xs c : List A) (m : ℕ) → Rising from es (length xs) → m ≡ length xs + length c
    → pieces from (es ++ m ∷ []) (xs ++ c) ≡ pieces from es xs ++ c ∷ []
pieces-push from [] xs c m r e =
    let a : drop from (xs ++ c) ≡ drop from xs ++ c = drop-append-le from xs c (omega (arith, r)) in
    let b : drop from xs ≡ [] = drop_all from xs (omega (arith, r)) in
    let p : drop from (xs ++ c) ≡ c = a ∙ ap (λ z. z ++ c) b in
    let q : take (m - from) c ≡ c = take_all (m - from) c (omega (arith, r, e)) in
    ap (λ z. z ∷ []) (ap (take (m - from)) p ∙ q)
pieces-push from (f ∷ es) xs c m r e =
    let le : f ≤ length xs = rising_le f es (length xs) r.1 in
    let a : drop from (xs ++ c) ≡ drop from xs ++ c = drop-append-le from xs c (omega (arith, r.0, le)) in
    let d : length (drop from xs) ≡ length xs - from = length-drop from xs in
    let b : take (f - from) (drop from xs ++ c) ≡ take (f - from) (drop from xs) = take-append-le (f - from) (drop from xs) c (omega (arith, le)) in
    let h = pieces-push f es xs c m r.1 e in
    let g : take (f - from) (drop from (xs ++ c)) ≡ take (f - from) (drop from xs) = ap (take (f - from)) a ∙ b in
    ap (λ z. z ∷ pieces f (es ++ m ∷ []) (xs ++ c)) g ∙ ap (λ z. take (f - from) (drop from xs) ∷ z) h

-- what a push leaves
pub rows_keep : {A : Type 0} (es es2 : List ℕ) (xs c xs2 : List A) (m : ℕ) → xs2 ≡ xs ++ c → es2 ≡ es ++ m ∷ [] → m ≡ length xs + length c → Rising 0 es (length xs) → Rising 0 es2 (length xs2)
rows_keep es es2 xs c xs2 m a b e r =
    let n : length xs2 ≡ m = ap length a ∙ length-append xs c ∙ sym e in
    let r2 : Rising 0 es2 m = subst (λ w. Rising 0 w m) (sym b) (rising-push 0 es (length xs) m r (omega (arith, e))) in
    subst (Rising 0 es2) (sym n) r2

pub push_keeps : (es es2 : List ℕ) (xs c xs2 : List Lit) (m : ℕ) → xs2 ≡ xs ++ c → es2 ≡ es ++ m ∷ [] → m ≡ length xs + length c → Rising 0 es (length xs) → m ≤ 67108864 → length es < 4294967295
    → Rising 0 es2 (length xs2) × (length xs2 ≤ 67108864) × (length es2 < 4294967296)
push_keeps es es2 xs c xs2 m a b e r le few =
    let n : length xs2 ≡ m = ap length a ∙ length-append xs c ∙ sym e in
    let k : length es2 ≡ length es + 1 = ap length b ∙ length-append es (m ∷ []) in
    (rows_keep es es2 xs c xs2 m a b e r, omega (arith, n, le), omega (arith, k, few))

pub push_view : {A : Type 0} (es es2 : List ℕ) (xs c xs2 : List A) (m : ℕ) (view : List (List A)) → xs2 ≡ xs ++ c → es2 ≡ es ++ m ∷ [] → m ≡ length xs + length c → Rising 0 es (length xs) → pieces 0 es xs ≡ view
    → pieces 0 es2 xs2 ≡ view ++ c ∷ []
push_view es es2 xs c xs2 m view a b e r v = rw (a, b) (pieces-push 0 es xs c m r e ∙ ap (λ w. w ++ c ∷ []) v)
