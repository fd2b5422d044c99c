-- The bits that terms stand for, by what the terms are.
use Rattle.std.proofs.Common.{◌≡◌, ℕ, ◌<◌, ◌^◌, ◌==◌, ◌&&◌, ◌||◌, Bool, true, false, not, List, length, refl, ap, ◌∙◌, subst, zero, suc, arith, slice_index, slice_get, Some, bit_and, bit_or, if◌then◌else◌}
use Rattle.bv_term.specs.declared.term.TermId.{TermId}
use Rattle.bv_term.specs.declared.term.Term.TheVariants.{Constant, Cell, And, Or, Not, Select}
use Rattle.bv_term.specs.Numbers.{truth, complement_in}
use Rattle.bv_term.specs.WellFormed.{Table, IsTable}
use Rattle.bv_term.specs.Values.{value}
use Rattle.bv_term.proofs.Staying.{values_fit}
use Rattle.c_graph.specs.Steps.{IsWhole}
use Rattle.term_laws.proofs.Made.{made}
use Rattle.truth_terms.specs.Truths.{Grew, IsBit, Means, is_one, IsOneWide}
use Rattle.truth_terms.proofs.Growth.{stays}

bit-is : (n : ℕ) → n < 2 → n ≡ truth (n == 1)
bit-is zero lt = refl
bit-is (suc zero) lt = refl
bit-is (suc (suc n)) lt = absurd (omega (arith, lt))

bit-both : (a b : Bool) → bit_and (truth a) (truth b) ≡ truth (a && b)
bit-both true true = refl
bit-both true false = refl
bit-both false true = refl
bit-both false false = refl

bit-either : (a b : Bool) → bit_or (truth a) (truth b) ≡ truth (a || b)
bit-either true true = refl
bit-either true false = refl
bit-either false true = refl
bit-either false false = refl

bit-not : (a : Bool) → complement_in 1 (truth a) ≡ truth (not a)
bit-not true = refl
bit-not false = refl

truth-is : (b : Bool) → (truth b == 1) ≡ b
truth-is true = refl
truth-is false = refl

two : (f : ℕ → ℕ → ℕ) (a b c d : ℕ) → a ≡ b → c ≡ d → f a c ≡ f b d
two f a b c d p q = ap (λ (x : ℕ). f x c) p ∙ ap (f b) q

small : (table : Table) (s : List ℕ) (t : TermId) → IsTable table → IsWhole table.cells s → IsOneWide table t → value table s t < 2
small table s t is w one = subst (λ (k : ℕ). value table s t < 2 ^ k) one.1 (values_fit table s t is w.fits one.0)

pub test-is : (table : Table) (t : TermId) (p : List ℕ → Bool) (s : List ℕ) → IsBit table t p → IsWhole table.cells s → (value table s t == 1) ≡ p s
test-is table t p s h w = ap (λ (x : ℕ). x == 1) (h s w) ∙ truth-is (p s)

pub cell-bit : (table : Table) (t : TermId) (c : ℕ) → IsTable table → slice_get table.terms t.0 ≡ Some (Cell c) → IsOneWide table t → IsBit table t (is_one c)
cell-bit table t c is get one = λ s w.
    let m = made table s t (Cell c) is get in
    let lt : slice_index s c < 2 = subst (λ (x : ℕ). x < 2) m.value (small table s t is w one) in
    m.value ∙ bit-is (slice_index s c) lt

pub old-bit : (g h : Table) (t : TermId) → IsTable g → IsTable h → Grew g h → t.0 < length g.terms → IsOneWide h t → IsBit h t (λ s. value g s t == 1)
old-bit g h t isg ish grew lt one = λ s w.
    bit-is (value h s t) (small h s t ish w one) ∙ ap (λ (x : ℕ). truth (x == 1)) (stays g h s t isg grew lt)

pub one-bit : (table : Table) (t : TermId) (width : ℕ) → IsTable table → slice_get table.terms t.0 ≡ Some (Constant width 1) → IsBit table t (λ s. true)
one-bit table t width is get = λ s w. (made table s t (Constant width 1) is get).value

pub both-bit : (table : Table) (t a b : TermId) (p q : List ℕ → Bool) → IsTable table → slice_get table.terms t.0 ≡ Some (And a b)
    → IsBit table a p → IsBit table b q → IsBit table t (λ s. p s && q s)
both-bit table t a b p q is get h k = λ s w. (made table s t (And a b) is get).value ∙ two bit_and _ _ _ _ (h s w) (k s w) ∙ bit-both (p s) (q s)

pub either-bit : (table : Table) (t a b : TermId) (p q : List ℕ → Bool) → IsTable table → slice_get table.terms t.0 ≡ Some (Or a b)
    → IsBit table a p → IsBit table b q → IsBit table t (λ s. p s || q s)
either-bit table t a b p q is get h k = λ s w. (made table s t (Or a b) is get).value ∙ two bit_or _ _ _ _ (h s w) (k s w) ∙ bit-either (p s) (q s)

pub not-bit : (table : Table) (t a : TermId) (p : List ℕ → Bool) → IsTable table → slice_get table.terms t.0 ≡ Some (Not a)
    → IsOneWide table a → IsBit table a p → IsBit table t (λ s. not (p s))
not-bit table t a p is get one h = λ s w.
    (made table s t (Not a) is get).value ∙ ap (λ (k : ℕ). complement_in k (value table s a)) one.1 ∙ ap (complement_in 1) (h s w) ∙ bit-not (p s)

choose : (b c : Bool) (x y z u : ℕ) → b ≡ c → x ≡ z → y ≡ u → (if b then x else y) ≡ (if c then z else u)
choose b c x y z u e p q = ap (λ (k : Bool). if k then x else y) e ∙ two (λ (m n : ℕ). if c then m else n) _ _ _ _ p q

pub choice-means : (table : Table) (t a b e : TermId) (p : List ℕ → Bool) (f k : List ℕ → ℕ) → IsTable table → slice_get table.terms t.0 ≡ Some (Select a b e)
    → IsBit table a p → Means table b f → Means table e k → Means table t (λ s. if p s then f s else k s)
choice-means table t a b e p f k is get h mb me = λ s w.
    (made table s t (Select a b e) is get).value ∙ choose _ _ _ _ _ _ (test-is table a p s h w) (mb s w) (me s w)

pub old-means : (g h : Table) (t : TermId) → IsTable g → Grew g h → t.0 < length g.terms → Means h t (λ s. value g s t)
old-means g h t is grew lt = λ s w. stays g h s t is grew lt

pub cell-means : (table : Table) (t : TermId) (c : ℕ) → IsTable table → slice_get table.terms t.0 ≡ Some (Cell c) → Means table t (λ s. slice_index s c)
cell-means table t c is get = λ s w. (made table s t (Cell c) is get).value

pub constant-means : (table : Table) (t : TermId) (width n : ℕ) → IsTable table → slice_get table.terms t.0 ≡ Some (Constant width n) → Means table t (λ s. n)
constant-means table t width n is get = λ s w. (made table s t (Constant width n) is get).value
