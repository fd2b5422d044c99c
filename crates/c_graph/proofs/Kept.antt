-- The values of a store that keeps some cells.
use Rattle.std.proofs.Common.{◌≡◌, ℕ, ◌+◌, ◌-◌, ◌<◌, length, List, [], ◌∷◌, ◌++◌, arith, ap, sym, ◌∙◌, refl, suc, zero, subst, slice_index, append_assoc}
use Rattle.c_graph.specs.declared.store.Named.{Named}
use Rattle.c_graph.specs.Stores.{kept_for, values_from}

-- one value a cell
pub length-values_from : (named : List Named) (c n : ℕ) → length (values_from named c n) ≡ n
length-values_from named c zero = refl
length-values_from named c (suc n) = ap suc (length-values_from named (c + 1) n)

-- the value at a place is that of its cell
pub values_from-at : (named : List Named) (c n k : ℕ) → k < n → slice_index (values_from named c n) k ≡ kept_for named (c + k)
values_from-at named c zero k lt = absurd (omega arith)
values_from-at named c (suc n) zero lt = let e : c ≡ c + 0 = omega arith in ap (kept_for named) e
values_from-at named c (suc n) (suc k) lt =
    let e : (c + 1) + k ≡ c + suc k = omega arith in
    values_from-at named (c + 1) n k (omega arith) ∙ ap (kept_for named) e

-- the first of several values, and the others
pub values_from-cons : (named : List Named) (c n : ℕ) → c < n → values_from named c (n - c) ≡ kept_for named c ∷ values_from named (c + 1) (n - (c + 1))
values_from-cons named c n lt =
    let e : n - c ≡ suc (n - (c + 1)) = omega arith in
    let P : ℕ → Type 0 = λ m. values_from named c m ≡ kept_for named c ∷ values_from named (c + 1) (n - (c + 1)) in
    subst P (sym e) refl

-- one value more
pub values-more : (named : List Named) (acc new whole : List ℕ) (c n k : ℕ) → c < n → new ≡ acc ++ k ∷ [] → k ≡ kept_for named c
    → acc ++ values_from named c (n - c) ≡ whole → new ++ values_from named (c + 1) (n - (c + 1)) ≡ whole
values-more named acc new whole c n k lt e is h =
    ap (λ (z : List ℕ). z ++ values_from named (c + 1) (n - (c + 1))) e
    ∙ append_assoc acc (k ∷ []) (values_from named (c + 1) (n - (c + 1)))
    ∙ ap (λ (z : ℕ). acc ++ z ∷ values_from named (c + 1) (n - (c + 1))) is
    ∙ ap (λ (z : List ℕ). acc ++ z) (sym (values_from-cons named c n lt))
    ∙ h

-- the value of a cell in a store that is seen as its list
pub value-of : (named : List Named) (n c k : ℕ) (store : List ℕ) → values_from named 0 n ≡ store → c < length store → k ≡ kept_for named c → k ≡ slice_index store c
value-of named n c k store view lt is =
    let l : length store ≡ n = sym (ap length view) ∙ length-values_from named 0 n in
    let z : 0 + c ≡ c = omega arith in
    is ∙ sym (ap (kept_for named) z) ∙ sym (values_from-at named 0 n c (omega arith)) ∙ ap (λ (s : List ℕ). slice_index s c) view
