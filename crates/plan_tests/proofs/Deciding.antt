-- Passes that end at the first answer: what they answer by the elements and numbers so far.
use Rattle.std.proofs.Common.{◌≡◌, ℕ, zero, suc, ◌+◌, ◌<◌, ◌≤◌, ◌-◌, ◌&&◌, ◌||◌, Bool, true, false, List, [], ◌∷◌, length, take, None, Some, refl, sym, ap, ◌∙◌, subst, arith, slice_get}
use Rattle.std.proofs.lemmas.Bool.{and_parts, true≢false}
use Rattle.std.proofs.lemmas.Option.{same_Some, slice_get_within}
use Rattle.std.specs.List.{list_all, list_any}
use Rattle.plan_tables.specs.Tables.{UnitTable, unit_at}
use Rattle.plan_tests.specs.Passes.{all_at, all_from}
use Rattle.plan_tests.specs.Made as made

pub both : (a b : Bool) → a ≡ true → b ≡ true → (a && b) ≡ true
both a b p q = ap (λ (x : Bool). x && b) p ∙ q

pub second-not : (a b : Bool) → b ≡ false → false ≡ (a && b)
second-not true b e = sym e
second-not false b e = refl

-- ---- Elements of lists

all-suc : {X : Type 0} → (p : X → Bool) (xs : List X) (n : ℕ) (x : X) → slice_get xs n ≡ Some x → p x ≡ true
    → list_all p (take n xs) ≡ true → list_all p (take (suc n) xs) ≡ true
all-suc p [] n x s e h = refl
all-suc p (y ∷ ys) zero x s e h =
    let same : y ≡ x = same_Some y x s in
    both (p y) true (ap p same ∙ e) refl
all-suc p (y ∷ ys) (suc n) x s e h =
    let (first, rest) = and_parts (p y) (list_all p (take n ys)) h in
    both (p y) (list_all p (take (suc n) ys)) first (all-suc p ys n x s e rest)

pub all-more : {X : Type 0} → (p : X → Bool) (xs : List X) (n : ℕ) (x : X) → slice_get xs n ≡ Some x → p x ≡ true
    → list_all p (take n xs) ≡ true → list_all p (take (n + 1) xs) ≡ true
all-more p xs n x s e h =
    let next : suc n ≡ n + 1 = omega arith in
    subst (λ (m : ℕ). list_all p (take m xs) ≡ true) next (all-suc p xs n x s e h)

pub all-end : {X : Type 0} → (p : X → Bool) (xs : List X) (n : ℕ) → length xs ≤ n → list_all p (take n xs) ≡ true → true ≡ list_all p xs
all-end p [] n le h = refl
all-end p (y ∷ ys) zero le h = absurd (omega (arith, le))
all-end p (y ∷ ys) (suc n) le h =
    let (first, rest) = and_parts (p y) (list_all p (take n ys)) h in
    sym (both (p y) (list_all p ys) first (sym (all-end p ys n (omega (arith, le)) rest)))

-- ---- Elements with their numbers

at-suc : {X : Type 0} → (p : ℕ → X → Bool) (k : ℕ) (xs : List X) (n : ℕ) (x : X) → slice_get xs n ≡ Some x → p (k + n) x ≡ true
    → all_at p k (take n xs) ≡ true → all_at p k (take (suc n) xs) ≡ true
at-suc p k [] n x s e h = refl
at-suc p k (y ∷ ys) zero x s e h =
    let same : y ≡ x = same_Some y x s in
    let here : k ≡ k + 0 = omega arith in
    both (p k y) true (ap (p k) same ∙ (ap (λ (i : ℕ). p i x) here ∙ e)) refl
at-suc p k (y ∷ ys) (suc n) x s e h =
    let (first, rest) = and_parts (p k y) (all_at p (k + 1) (take n ys)) h in
    let same : k + 1 + n ≡ k + suc n = omega arith in
    both (p k y) (all_at p (k + 1) (take (suc n) ys)) first (at-suc p (k + 1) ys n x s (ap (λ (i : ℕ). p i x) same ∙ e) rest)

at-more : {X : Type 0} → (p : ℕ → X → Bool) (k : ℕ) (xs : List X) (n : ℕ) (x : X) → slice_get xs n ≡ Some x → p (k + n) x ≡ true
    → all_at p k (take n xs) ≡ true → all_at p k (take (n + 1) xs) ≡ true
at-more p k xs n x s e h =
    let next : suc n ≡ n + 1 = omega arith in
    subst (λ (m : ℕ). all_at p k (take m xs) ≡ true) next (at-suc p k xs n x s e h)

pub at-end : {X : Type 0} → (p : ℕ → X → Bool) (k : ℕ) (xs : List X) (n : ℕ) → length xs ≤ n → all_at p k (take n xs) ≡ true → true ≡ all_at p k xs
at-end p k [] n le h = refl
at-end p k (y ∷ ys) zero le h = absurd (omega (arith, le))
at-end p k (y ∷ ys) (suc n) le h =
    let (first, rest) = and_parts (p k y) (all_at p (k + 1) (take n ys)) h in
    sym (both (p k y) (all_at p (k + 1) ys) first (sym (at-end p (k + 1) ys n (omega (arith, le)) rest)))

at-not : {X : Type 0} → (p : ℕ → X → Bool) (k : ℕ) (xs : List X) (n : ℕ) (x : X) → slice_get xs n ≡ Some x → p (k + n) x ≡ false → false ≡ all_at p k xs
at-not p k [] n x s e =
    let lt : n < 0 = slice_get_within [] n x s in
    absurd (omega (arith, lt))
at-not p k (y ∷ ys) zero x s e =
    let same : y ≡ x = same_Some y x s in
    let here : k ≡ k + 0 = omega arith in
    sym (ap (λ (b : Bool). b && all_at p (k + 1) ys) (ap (p k) same ∙ (ap (λ (i : ℕ). p i x) here ∙ e)))
at-not p k (y ∷ ys) (suc n) x s e =
    let same : k + 1 + n ≡ k + suc n = omega arith in
    second-not (p k y) (all_at p (k + 1) ys) (sym (at-not p (k + 1) ys n x s (ap (λ (i : ℕ). p i x) same ∙ e)))

-- ---- Numbers

pub from-none : (p : ℕ → Bool) (k : ℕ) → all_from p 0 k ≡ true
unfolding all_from
from-none p k = refl

from-suc : (p : ℕ → Bool) (n k : ℕ) → p (k + n) ≡ true → all_from p n k ≡ true → all_from p (suc n) k ≡ true
unfolding all_from
from-suc p zero k e h =
    let same : k ≡ k + 0 = omega arith in
    both (p k) true (ap p same ∙ e) refl
from-suc p (suc n) k e h =
    let (first, rest) = and_parts (p k) (all_from p n (k + 1)) h in
    let same : k + 1 + n ≡ k + suc n = omega arith in
    both (p k) (all_from p (suc n) (k + 1)) first (from-suc p n (k + 1) (ap p same ∙ e) rest)

from-more : (p : ℕ → Bool) (n k : ℕ) → p (k + n) ≡ true → all_from p n k ≡ true → all_from p (n + 1) k ≡ true
from-more p n k e h =
    let next : suc n ≡ n + 1 = omega arith in
    subst (λ (m : ℕ). all_from p m k ≡ true) next (from-suc p n k e h)

from-not : (p : ℕ → Bool) (count n k : ℕ) → n < count → p (k + n) ≡ false → false ≡ all_from p count k
unfolding all_from
from-not p zero n k lt e = absurd (omega (arith, lt))
from-not p (suc count) zero k lt e =
    let same : k ≡ k + 0 = omega arith in
    sym (ap (λ (b : Bool). b && all_from p count (k + 1)) (ap p same ∙ e))
from-not p (suc count) (suc n) k lt e =
    let same : k + 1 + n ≡ k + suc n = omega arith in
    second-not (p k) (all_from p count (k + 1)) (sym (from-not p count n (k + 1) (omega (arith, lt)) (ap p same ∙ e)))

-- ---- From the first on

pub first-more : {X : Type 0} → (p : ℕ → X → Bool) (xs : List X) (n : ℕ) (x : X) → slice_get xs n ≡ Some x → p n x ≡ true
    → all_at p 0 (take n xs) ≡ true → all_at p 0 (take (n + 1) xs) ≡ true
first-more p xs n x s e h =
    let same : 0 + n ≡ n = omega arith in
    at-more p 0 xs n x s (ap (λ (i : ℕ). p i x) same ∙ e) h

pub first-not : {X : Type 0} → (p : ℕ → X → Bool) (xs : List X) (n : ℕ) (x : X) → slice_get xs n ≡ Some x → p n x ≡ false → false ≡ all_at p 0 xs
first-not p xs n x s e =
    let same : 0 + n ≡ n = omega arith in
    at-not p 0 xs n x s (ap (λ (i : ℕ). p i x) same ∙ e)

pub below-more : (p : ℕ → Bool) (n : ℕ) → p n ≡ true → all_from p n 0 ≡ true → all_from p (n + 1) 0 ≡ true
below-more p n e h =
    let same : 0 + n ≡ n = omega arith in
    from-more p n 0 (ap p same ∙ e) h

pub below-not : (p : ℕ → Bool) (count n : ℕ) → n < count → p n ≡ false → false ≡ all_from p count 0
below-not p count n lt e =
    let same : 0 + n ≡ n = omega arith in
    from-not p count n 0 lt (ap p same ∙ e)

pub below-all : (p : ℕ → Bool) (count n : ℕ) → n ≡ count → all_from p n 0 ≡ true → true ≡ all_from p count 0
below-all p count n e h = sym (sym (ap (λ (m : ℕ). all_from p m 0) e) ∙ h)

-- ---- An element that passes

neither : (a b : Bool) → a ≡ false → b ≡ false → (a || b) ≡ false
neither a b p q = ap (λ (x : Bool). x || b) p ∙ q

second-yes : (a b : Bool) → b ≡ true → true ≡ (a || b)
second-yes true b e = refl
second-yes false b e = sym e

first-no : (a b : Bool) → (a || b) ≡ false → a ≡ false
first-no true b e = e
first-no false b e = refl

second-no : (a b : Bool) → (a || b) ≡ false → b ≡ false
second-no true b e = absurd (true≢false e)
second-no false b e = e

any-suc : {X : Type 0} → (p : X → Bool) (xs : List X) (n : ℕ) (x : X) → slice_get xs n ≡ Some x → p x ≡ false
    → list_any p (take n xs) ≡ false → list_any p (take (suc n) xs) ≡ false
any-suc p [] n x s e h = refl
any-suc p (y ∷ ys) zero x s e h =
    let same : y ≡ x = same_Some y x s in
    neither (p y) false (ap p same ∙ e) refl
any-suc p (y ∷ ys) (suc n) x s e h =
    neither (p y) (list_any p (take (suc n) ys)) (first-no (p y) (list_any p (take n ys)) h)
    (any-suc p ys n x s e (second-no (p y) (list_any p (take n ys)) h))

pub any-more : {X : Type 0} → (p : X → Bool) (xs : List X) (n : ℕ) (x : X) → slice_get xs n ≡ Some x → p x ≡ false
    → list_any p (take n xs) ≡ false → list_any p (take (n + 1) xs) ≡ false
any-more p xs n x s e h =
    let next : suc n ≡ n + 1 = omega arith in
    subst (λ (m : ℕ). list_any p (take m xs) ≡ false) next (any-suc p xs n x s e h)

pub any-end : {X : Type 0} → (p : X → Bool) (xs : List X) (n : ℕ) → length xs ≤ n → list_any p (take n xs) ≡ false → false ≡ list_any p xs
any-end p [] n le h = refl
any-end p (y ∷ ys) zero le h = absurd (omega (arith, le))
any-end p (y ∷ ys) (suc n) le h =
    sym (neither (p y) (list_any p ys) (first-no (p y) (list_any p (take n ys)) h)
    (sym (any-end p ys n (omega (arith, le)) (second-no (p y) (list_any p (take n ys)) h))))

pub any-yes : {X : Type 0} → (p : X → Bool) (xs : List X) (n : ℕ) (x : X) → slice_get xs n ≡ Some x → p x ≡ true → true ≡ list_any p xs
any-yes p [] n x s e =
    let lt : n < 0 = slice_get_within [] n x s in
    absurd (omega (arith, lt))
any-yes p (y ∷ ys) zero x s e =
    let same : y ≡ x = same_Some y x s in
    sym (ap (λ (b : Bool). b || list_any p ys) (ap p same ∙ e))
any-yes p (y ∷ ys) (suc n) x s e = second-yes (p y) (list_any p ys) (sym (any-yes p ys n x s e))

-- ---- Units of cells

unfolded : (units : UnitTable) (count cells cell last : ℕ) → cell < cells
    → made.units_from units count (cells - cell) cell last
    ≡ made.units_behind (made.units_from units count (cells - (cell + 1)) (cell + 1)) (made.next_unit units cell last count)
unfolded units count cells cell last lt =
    let left : cells - cell ≡ suc (cells - (cell + 1)) = omega (arith, lt) in
    ap (λ (n : ℕ). made.units_from units count n cell last) left

pub units-more : (units : UnitTable) (count cells cell last u : ℕ) (whole : Bool) → cell < cells → made.next_unit units cell last count ≡ Some u
    → whole ≡ made.units_from units count (cells - cell) cell last → whole ≡ made.units_from units count (cells - (cell + 1)) (cell + 1) u
units-more units count cells cell last u whole lt e h =
    h ∙ unfolded units count cells cell last lt ∙ ap (made.units_behind (made.units_from units count (cells - (cell + 1)) (cell + 1))) e

pub units-not : (units : UnitTable) (count cells cell last : ℕ) (whole : Bool) → cell < cells → made.next_unit units cell last count ≡ None
    → whole ≡ made.units_from units count (cells - cell) cell last → false ≡ whole
units-not units count cells cell last whole lt e h =
    sym (h ∙ unfolded units count cells cell last lt ∙ ap (made.units_behind (made.units_from units count (cells - (cell + 1)) (cell + 1))) e)

pub units-end : (units : UnitTable) (count cells cell last : ℕ) (whole : Bool) → cell ≡ cells
    → whole ≡ made.units_from units count (cells - cell) cell last → made.has_none (unit_at units cells) ≡ whole
units-end units count cells cell last whole e h =
    let none : cells - cell ≡ 0 = omega (arith, e) in
    sym (h ∙ ap (λ (n : ℕ). made.units_from units count n cell last) none ∙ ap (λ (n : ℕ). made.has_none (unit_at units n)) e)
