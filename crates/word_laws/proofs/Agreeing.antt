-- Each operation of C on two values of its kind, and its term on their low bits.
use Rattle.std.proofs.Common.{◌≡◌, ℕ, ◌+◌, ◌-◌, ◌*◌, ◌<◌, ◌≤◌, ◌^◌, ◌%◌, ◌==◌, ◌&&◌, ◌⊎◌, inl, inr, refl, sym, ap, ◌∙◌, subst, arith, Bool, true, false, not, if◌then◌else◌, [], ◌∷◌, Ok, ℤ, pos, negsuc, ◌+ℤ◌, ◌-ℤ◌, ◌*ℤ◌}
use Rattle.std.specs.Prelude.{int_le, int_lt}
use Rattle.std.proofs.Math.Nat.{mod-lt, mod-eq_of_lt}
use Rattle.std.proofs.lemmas.Int.{ints}
use Rattle.std.proofs.lemmas.Nat.{pow_pos}
use Rattle.lv_base.specs.declared.kind.Kind.{Kind}
use Rattle.lv_base.specs.declared.kind.Model.{Model}
use Rattle.lv_base.specs.declared.fault.ErrorKind.TheVariants as error
use Rattle.lv_base.specs.Integers as int
use Rattle.lv_base.specs.Integers.{width_of, is_signed, is_promoted, residue, signed_of, wrapped, converted, held, exact, InAny}
use Rattle.bv_term.specs.Numbers.{sum_in, difference_in, product_in, complement_in, truth}
use Rattle.c_terms.specs.Numbers.{widened, product, less, sum_overflows, difference_overflows, product_overflows, exact_product}
use Rattle.c_terms.specs.Operations.{Failure, failure, if_signed}
use Rattle.word_laws.proofs.Sums.{Fits, signed, sum_fits}
use Rattle.word_laws.proofs.Differences.{difference_fits, difference_low}
use Rattle.word_laws.proofs.Products.{product_fits}
use Rattle.word_laws.proofs.Orders.{less_signed, equal_signed, eq_test, le_is_not_lt}
use Rattle.word_laws.proofs.Wrapping.{width_some, wrapped_signed, wrapped_unsigned, wrapped_back}
use Rattle.word_laws.proofs.Answering.{Answer, answer-by, held_answer, wrapped_answer, converted_answer, truth_answer, turned_truth}

two : (g : ℤ → ℤ → ℤ) (a b c d : ℤ) → a ≡ b → c ≡ d → g a c ≡ g b d
two g a b c d p q = ap (λ x. g x c) p ∙ ap (g b) q

exact_signed : (kind : Kind) (model : Model) (z : ℤ) → is_signed kind ≡ true → exact kind model z ≡ held kind model error.Overflow z
exact_signed kind model z e = ap (λ (b : Bool). if b then held kind model error.Overflow z else Ok (converted kind model z)) e

exact_unsigned : (kind : Kind) (model : Model) (z : ℤ) → is_signed kind ≡ false → exact kind model z ≡ Ok (converted kind model z)
exact_unsigned kind model z e = ap (λ (b : Bool). if b then held kind model error.Overflow z else Ok (converted kind model z)) e

tests_signed : (kind : Kind) (f : Failure) → is_signed kind ≡ true → if_signed kind f ≡ f ∷ []
tests_signed kind f e = ap (λ (b : Bool). if b then f ∷ [] else []) e

tests_unsigned : (kind : Kind) (f : Failure) → is_signed kind ≡ false → if_signed kind f ≡ []
tests_unsigned kind f e = ap (λ (b : Bool). if b then f ∷ [] else []) e

-- an exact operation, by the sign of its kind
by_sign : (kind : Kind) (model : Model) (g : ℤ → ℤ → ℤ) (x y r t : ℕ) → is_promoted kind ≡ true → r < 2 ^ width_of kind model
    → (is_signed kind ≡ true → Fits (width_of kind model) (g (signed_of (width_of kind model) x) (signed_of (width_of kind model) y)) r t)
    → (is_signed kind ≡ false → residue (width_of kind model) (g (pos x) (pos y)) ≡ r)
    → Answer (exact kind model (g (wrapped kind model x) (wrapped kind model y))) (widened kind model r) (if_signed kind (failure error.Overflow t))
by_sign kind model g x y r t promoted lr f h = go (is_signed kind) refl
  where
    go : (b : Bool) → is_signed kind ≡ b → Answer (exact kind model (g (wrapped kind model x) (wrapped kind model y))) (widened kind model r) (if_signed kind (failure error.Overflow t))
    go true e = answer-by _ _ _ _ _ _
        (exact_signed kind model _ e ∙ ap (held kind model error.Overflow) (two g _ _ _ _ (wrapped_signed kind model x e) (wrapped_signed kind model y e)))
        refl (tests_signed kind _ e) (held_answer kind model error.Overflow _ r t e lr (f e))
    go false e = answer-by _ _ _ _ _ _
        (exact_unsigned kind model _ e ∙ ap (λ z. Ok (converted kind model z)) (two g _ _ _ _ (wrapped_unsigned kind model x e) (wrapped_unsigned kind model y e)))
        refl (tests_unsigned kind _ e) (converted_answer kind model _ r promoted (h e))

pub add_agrees : (kind : Kind) (model : Model) (x y : ℕ) → is_promoted kind ≡ true → x < 2 ^ width_of kind model → y < 2 ^ width_of kind model
    → Answer (exact kind model (wrapped kind model x +ℤ wrapped kind model y)) (widened kind model (sum_in (width_of kind model) x y)) (if_signed kind (failure error.Overflow (sum_overflows (width_of kind model) x y)))
add_agrees kind model x y promoted lx ly =
    by_sign kind model ◌+ℤ◌ x y _ _ promoted (mod-lt (x + y) (pow_pos (width_of kind model)))
    (λ e. sum_fits (width_of kind model) x y (width_some kind model) lx ly) (λ e. refl)

unsigned_difference : (w x y : ℕ) → x < 2 ^ w → y < 2 ^ w → residue w (pos x -ℤ pos y) ≡ difference_in w x y
unsigned_difference w x y lx ly = go (difference_low w x y lx ly)
  where
    go : ((difference_in w x y + y ≡ x) × (y ≤ x)) ⊎ ((difference_in w x y + y ≡ x + 2 ^ w) × (x < y)) → residue w (pos x -ℤ pos y) ≡ difference_in w x y
    go (inl h) =
        let z : pos x -ℤ pos y ≡ pos (x - y) = omega (arith, ints, h.1) in
        let s : (x - y) % 2 ^ w ≡ x - y = mod-eq_of_lt (omega (arith, lx)) in
        ap (residue w) z ∙ s ∙ omega (arith, h.0, h.1)
    go (inr h) =
        let z : pos x -ℤ pos y ≡ negsuc (y - x - 1) = omega (arith, ints, h.1) in
        let s : (y - x - 1) % 2 ^ w ≡ y - x - 1 = mod-eq_of_lt (omega (arith, ly, h.1)) in
        ap (residue w) z ∙ ap (λ (n : ℕ). 2 ^ w - 1 - n) s ∙ omega (arith, h.0, h.1, ly)

pub subtract_agrees : (kind : Kind) (model : Model) (x y : ℕ) → is_promoted kind ≡ true → x < 2 ^ width_of kind model → y < 2 ^ width_of kind model
    → Answer (exact kind model (wrapped kind model x -ℤ wrapped kind model y)) (widened kind model (difference_in (width_of kind model) x y)) (if_signed kind (failure error.Overflow (difference_overflows (width_of kind model) x y)))
subtract_agrees kind model x y promoted lx ly =
    by_sign kind model ◌-ℤ◌ x y _ _ promoted (mod-lt (x + (2 ^ width_of kind model - y)) (pow_pos (width_of kind model)))
    (λ e. difference_fits (width_of kind model) x y (width_some kind model) lx ly) (λ e. unsigned_difference (width_of kind model) x y lx ly)

product_signed : (signed : Bool) (w x y : ℕ) → signed ≡ true → product signed w x y ≡ exact_product w x y % 2 ^ w
product_signed signed w x y e = ap (λ (b : Bool). if b then exact_product w x y % 2 ^ w else product_in w x y) e

product_unsigned : (signed : Bool) (w x y : ℕ) → signed ≡ false → product signed w x y ≡ product_in w x y
product_unsigned signed w x y e = ap (λ (b : Bool). if b then exact_product w x y % 2 ^ w else product_in w x y) e

product_below : (signed : Bool) (w x y : ℕ) → product signed w x y < 2 ^ w
product_below true w x y = mod-lt (exact_product w x y) (pow_pos w)
product_below false w x y = mod-lt (x * y) (pow_pos w)

pub multiply_agrees : (kind : Kind) (model : Model) (x y : ℕ) → is_promoted kind ≡ true → x < 2 ^ width_of kind model → y < 2 ^ width_of kind model
    → Answer (exact kind model (wrapped kind model x *ℤ wrapped kind model y)) (widened kind model (product (is_signed kind) (width_of kind model) x y)) (if_signed kind (failure error.Overflow (product_overflows (width_of kind model) x y)))
multiply_agrees kind model x y promoted lx ly =
    by_sign kind model ◌*ℤ◌ x y _ _ promoted (product_below (is_signed kind) (width_of kind model) x y)
    (λ e. subst (λ (n : ℕ). Fits (width_of kind model) (signed_of (width_of kind model) x *ℤ signed_of (width_of kind model) y) n (product_overflows (width_of kind model) x y))
    (sym (product_signed (is_signed kind) (width_of kind model) x y e))
    (product_fits (width_of kind model) x y (width_some kind model) lx ly (exact_product (width_of kind model) x y) refl))
    (λ e. sym (product_unsigned (is_signed kind) (width_of kind model) x y e))

-- ---- Comparisons

less_is : (kind : Kind) (model : Model) (x y : ℕ) → x < 2 ^ width_of kind model → y < 2 ^ width_of kind model
    → less (is_signed kind) (width_of kind model) x y ≡ truth (int_lt (wrapped kind model x) (wrapped kind model y))
less_is kind model x y lx ly = go (is_signed kind) refl
  where
    order : (a b c d : ℤ) → a ≡ c → b ≡ d → int_lt a b ≡ int_lt c d
    order a b c d p q = ap (λ z. int_lt z b) p ∙ ap (int_lt c) q

    go : (b : Bool) → is_signed kind ≡ b → less (is_signed kind) (width_of kind model) x y ≡ truth (int_lt (wrapped kind model x) (wrapped kind model y))
    go true e = ap (λ (b : Bool). less b (width_of kind model) x y) e
        ∙ ap truth (sym (order _ _ _ _ (wrapped_signed kind model x e) (wrapped_signed kind model y e) ∙ less_signed (width_of kind model) x y (width_some kind model) lx ly))
    go false e = ap (λ (b : Bool). less b (width_of kind model) x y) e
        ∙ ap truth (sym (order _ _ _ _ (wrapped_unsigned kind model x e) (wrapped_unsigned kind model y e)))

pub less_agrees : (kind : Kind) (model : Model) (x y : ℕ) → x < 2 ^ width_of kind model → y < 2 ^ width_of kind model
    → Answer (Ok (int.truth (int_lt (wrapped kind model x) (wrapped kind model y)))) (less (is_signed kind) (width_of kind model) x y) []
less_agrees kind model x y lx ly = answer-by _ _ _ _ [] [] refl (less_is kind model x y lx ly) refl (truth_answer _)

pub at_most_agrees : (kind : Kind) (model : Model) (x y : ℕ) → x < 2 ^ width_of kind model → y < 2 ^ width_of kind model
    → Answer (Ok (int.truth (int_le (wrapped kind model x) (wrapped kind model y)))) (complement_in 1 (less (is_signed kind) (width_of kind model) y x)) []
at_most_agrees kind model x y lx ly = answer-by _ _ _ _ [] [] (ap (λ b. Ok (int.truth b)) (le_is_not_lt (wrapped kind model x) (wrapped kind model y)))
    (ap (complement_in 1) (less_is kind model y x ly lx) ∙ turned_truth _) refl (truth_answer _)

equal_is : (kind : Kind) (model : Model) (x y : ℕ) → x < 2 ^ width_of kind model → y < 2 ^ width_of kind model
    → (int_le (wrapped kind model x) (wrapped kind model y) && int_le (wrapped kind model y) (wrapped kind model x)) ≡ (x == y)
equal_is kind model x y lx ly = go (is_signed kind) refl
  where
    at : (a b c d : ℤ) → a ≡ c → b ≡ d → (int_le a b && int_le b a) ≡ (int_le c d && int_le d c)
    at a b c d p q = ap (λ z. int_le z b && int_le b z) p ∙ ap (λ z. int_le c z && int_le z c) q

    go : (b : Bool) → is_signed kind ≡ b → (int_le (wrapped kind model x) (wrapped kind model y) && int_le (wrapped kind model y) (wrapped kind model x)) ≡ (x == y)
    go true e = at _ _ _ _ (wrapped_signed kind model x e) (wrapped_signed kind model y e) ∙ equal_signed (width_of kind model) x y (width_some kind model) lx ly
    go false e = at _ _ _ _ (wrapped_unsigned kind model x e) (wrapped_unsigned kind model y e) ∙ eq_test x y

pub equal_agrees : (kind : Kind) (model : Model) (x y : ℕ) → x < 2 ^ width_of kind model → y < 2 ^ width_of kind model
    → Answer (Ok (int.truth (int_le (wrapped kind model x) (wrapped kind model y) && int_le (wrapped kind model y) (wrapped kind model x)))) (truth (x == y)) []
equal_agrees kind model x y lx ly = answer-by _ _ _ _ [] [] (ap (λ b. Ok (int.truth b)) (equal_is kind model x y lx ly)) refl refl (truth_answer (x == y))

pub unequal_agrees : (kind : Kind) (model : Model) (x y : ℕ) → x < 2 ^ width_of kind model → y < 2 ^ width_of kind model
    → Answer (Ok (int.truth (int.is_zero (int.truth (int_le (wrapped kind model x) (wrapped kind model y) && int_le (wrapped kind model y) (wrapped kind model x)))))) (complement_in 1 (truth (x == y))) []
unequal_agrees kind model x y lx ly = answer-by _ _ _ _ [] []
    (ap (λ b. Ok (int.truth (int.is_zero (int.truth b)))) (equal_is kind model x y lx ly) ∙ ap (λ b. Ok (int.truth b)) (is_not (x == y))) (turned_truth (x == y)) refl (truth_answer (not (x == y)))
  where
    is_not : (p : Bool) → int.is_zero (int.truth p) ≡ not p
    is_not true = refl
    is_not false = refl

-- ---- Bit by bit

pub bits_agree : (kind : Kind) (model : Model) (f : ℕ → ℕ → ℕ) (x y : ℕ) → x < 2 ^ width_of kind model → y < 2 ^ width_of kind model → f x y < 2 ^ width_of kind model
    → Answer (Ok (int.bitwise f kind model (wrapped kind model x) (wrapped kind model y))) (widened kind model (f x y)) []
bits_agree kind model f x y lx ly lf = answer-by _ _ _ _ [] []
    (ap (λ (n : ℕ). Ok (wrapped kind model (f n (residue (width_of kind model) (wrapped kind model y))))) (wrapped_back kind model x lx) ∙ ap (λ (n : ℕ). Ok (wrapped kind model (f x n))) (wrapped_back kind model y ly))
    refl refl (wrapped_answer kind model (f x y) lf)
