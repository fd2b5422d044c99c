-- Quotients and remainders of values of a kind, and their terms.
use Rattle.std.proofs.Common.{◌≡◌, ℕ, zero, suc, ◌+◌, ◌-◌, ◌/◌, ◌<◌, ◌≤◌, ◌^◌, ◌%◌, ◌==◌, ◌&&◌, ◌⊎◌, inl, inr, refl, sym, ap, ◌∙◌, arith, Bool, true, false, if◌then◌else◌, nat_le, le-leb, eq-eqb, [], ◌∷◌, Result, Ok, Err, ℤ, pos, negsuc, neg_ℤ, bit_and, bit_xor}
use Rattle.std.specs.Prelude.{int_le, int_div, int_rem}
use Rattle.std.proofs.Math.Nat.{mod-lt, mod-le, div-le_self, zero-mod}
use Rattle.std.proofs.lemmas.Bool.{cases_eq, ne_eqb, lt-leb}
use Rattle.std.proofs.lemmas.Nat.{pow_pos}
use Rattle.lv_base.specs.declared.kind.Kind.{Kind}
use Rattle.lv_base.specs.declared.kind.Model.{Model}
use Rattle.lv_base.specs.declared.fault.ErrorKind.{ErrorKind}
use Rattle.lv_base.specs.declared.fault.ErrorKind.TheVariants as error
use Rattle.lv_base.specs.Integers as int
use Rattle.lv_base.specs.Integers.{width_of, is_signed, residue, signed_of, wrapped, held, is_in_range, is_zero}
use Rattle.bv_term.specs.Numbers.{difference_in, truth, bit_of, quotient_of, remainder_of}
use Rattle.c_terms.specs.Numbers.{widened, quotient, remainder, quotient_overflows, magnitude, with_sign}
use Rattle.c_terms.specs.Operations.{failure, division_fails}
use Rattle.word_laws.proofs.Residues.{halves, signed_low}
use Rattle.word_laws.proofs.Sums.{Fits, fits-by, Signed, plus, minus, signed}
use Rattle.word_laws.proofs.Quotients.{test, magnitude_low, quotient_pp, quotient_pm, quotient_mp, quotient_mm, rest_plus, rest_minus, size_minus}
use Rattle.word_laws.proofs.Wrapping.{width_some, wrapped_signed, wrapped_unsigned}
use Rattle.word_laws.proofs.Answering.{Answer, answered, failed, answer-by, held_answer, wrapped_answer}
use Rattle.word_laws.proofs.Shifting.{skip, meets}

-- ---- Sizes

size_plus : (w x : ℕ) → bit_of (w - 1) x ≡ 0 → magnitude w x ≡ x
size_plus w x e = ap (λ (n : ℕ). if n == 1 then difference_in w 0 x else x) e

size_of_minus : (w x : ℕ) → 1 ≤ w → 2 ^ (w - 1) ≤ x → x < 2 ^ w → bit_of (w - 1) x ≡ 1 → magnitude w x ≡ 2 ^ w - x
size_of_minus w x some h lt e = ap (λ (n : ℕ). if n == 1 then difference_in w 0 x else x) e ∙ magnitude_low w x some h lt

quotient_some : (m n : ℕ) → (n ≡ 0 → ⊥) → quotient_of m n ≡ m / n
quotient_some m n h = ap (λ (b : Bool). if b then 0 else m / n) (ne_eqb n 0 h)

remainder_some : (m n : ℕ) → (n ≡ 0 → ⊥) → remainder_of m n ≡ m % n
remainder_some m n h = ap (λ (b : Bool). if b then 0 else m % n) (ne_eqb n 0 h)

four : (w a b c d m n : ℕ) → a ≡ b → c ≡ d → m ≡ n → with_sign w (bit_xor a c) m ≡ with_sign w (bit_xor b d) n
four w a b c d m n p q r = ap (λ (k : ℕ). with_sign w (bit_xor k c) m) p ∙ (ap (λ (k : ℕ). with_sign w (bit_xor b k) m) q ∙ ap (with_sign w (bit_xor b d)) r)

sizes : (a b m n : ℕ) → a ≡ b → m ≡ n → (n ≡ 0 → ⊥) → quotient_of a m ≡ b / n
sizes a b m n p q h = ap (λ (k : ℕ). quotient_of k m) p ∙ (ap (quotient_of b) q ∙ quotient_some b n h)

rests : (a b m n : ℕ) → a ≡ b → m ≡ n → (n ≡ 0 → ⊥) → remainder_of a m ≡ b % n
rests a b m n p q h = ap (λ (k : ℕ). remainder_of k m) p ∙ (ap (remainder_of b) q ∙ remainder_some b n h)

overflow_is : (w x y : ℕ) → quotient_overflows w x y ≡ test w x y
overflow_is w x y = ap (λ (n : ℕ). bit_and (truth (x == 2 ^ (w - 1))) (truth (y == 2 ^ w - 1 - n))) (zero-mod (2 ^ w)) ∙ ap (λ (n : ℕ). bit_and (truth (x == 2 ^ (w - 1))) (truth (y == n))) (omega arith)

divided : (a b c d : ℤ) → a ≡ c → b ≡ d → int_div a b ≡ int_div c d
divided a b c d p q = ap (λ z. int_div z b) p ∙ ap (int_div c) q

left_over : (a b c d : ℤ) → a ≡ c → b ≡ d → int_rem a b ≡ int_rem c d
left_over a b c d p q = ap (λ z. int_rem z b) p ∙ ap (int_rem c) q

-- what a signed quotient and its test are, and its rest
pub record Divides (w x y : ℕ) : Type 0 where
  pub fits : Fits w (int_div (signed_of w x) (signed_of w y)) (quotient true w x y) (quotient_overflows w x y)
  pub rest : int_rem (signed_of w x) (signed_of w y) ≡ signed_of w (remainder true w x y)

pub divides : (w x y : ℕ) → 1 ≤ w → x < 2 ^ w → y < 2 ^ w → (y ≡ 0 → ⊥) → Divides w x y
divides w x y some tx ty nz = go (signed w x some tx) (signed w y some ty)
  where
    left : (m n : ℕ) → m ≡ n → with_sign w 0 m ≡ n
    left m n e = e

    over : (k m n : ℕ) → k ≡ 0 → m ≡ n → with_sign w k m ≡ n
    over k m n p e = ap (λ (j : ℕ). with_sign w j m) p ∙ e

    under : (k m n : ℕ) → k ≡ 1 → m ≡ n → with_sign w k m ≡ difference_in w 0 n
    under k m n p e = ap (λ (j : ℕ). with_sign w j m) p ∙ ap (difference_in w 0) e

    go : Signed w x → Signed w y → Divides w x y
    go (plus hx vx bx) (plus hy vy by) = record {
      fits = fits-by w _ _ _ _ _ _ (divided _ _ _ _ vx vy) (four w _ 0 _ 0 _ _ bx by (sizes _ x _ y (size_plus w x bx) (size_plus w y by) nz)) (overflow_is w x y) (quotient_pp w x y some hx);
      rest = left_over _ _ _ _ vx vy ∙ rest_plus w x y some hx ∙ ap (signed_of w) (sym (over _ _ _ bx (rests _ x _ y (size_plus w x bx) (size_plus w y by) nz)));
    }
    go (plus hx vx bx) (minus hy vy by) =
        let n : 2 ^ w - y ≡ 0 → ⊥ = λ e. omega (arith, e, ty) in
        let my : magnitude w y ≡ 2 ^ w - y = size_of_minus w y some hy ty by in record {
          fits = fits-by w _ _ _ _ _ _ (divided _ _ _ _ vx vy) (four w _ 0 _ 1 _ _ bx by (sizes _ x _ (2 ^ w - y) (size_plus w x bx) my n)) (overflow_is w x y) (quotient_pm w x y some hx ty);
          rest = left_over _ _ _ _ vx vy ∙ ap (λ (k : ℕ). pos (x % k)) (size_minus w y ty) ∙ rest_plus w x (2 ^ w - y) some hx
              ∙ ap (signed_of w) (sym (over _ _ _ bx (rests _ x _ (2 ^ w - y) (size_plus w x bx) my n)));
        }
    go (minus hx vx bx) (plus hy vy by) =
        let mx : magnitude w x ≡ 2 ^ w - x = size_of_minus w x some hx tx bx in record {
          fits = fits-by w _ _ _ _ _ _ (divided _ _ _ _ vx vy) (four w _ 1 _ 0 _ _ bx by (sizes _ (2 ^ w - x) _ y mx (size_plus w y by) nz)) (overflow_is w x y) (quotient_mp w x y some hx tx hy);
          rest = left_over _ _ _ _ vx vy ∙ ap (λ (k : ℕ). neg_ℤ (pos (k % y))) (size_minus w x tx) ∙ rest_minus w (2 ^ w - x) y some (omega (arith, hx, halves w some))
              ∙ ap (signed_of w) (sym (under _ _ _ bx (rests _ (2 ^ w - x) _ y mx (size_plus w y by) nz)));
        }
    go (minus hx vx bx) (minus hy vy by) =
        let n : 2 ^ w - y ≡ 0 → ⊥ = λ e. omega (arith, e, ty) in
        let my : magnitude w y ≡ 2 ^ w - y = size_of_minus w y some hy ty by in
        let mx : magnitude w x ≡ 2 ^ w - x = size_of_minus w x some hx tx bx in record {
          fits = fits-by w _ _ _ _ _ _ (divided _ _ _ _ vx vy) (four w _ 1 _ 1 _ _ bx by (sizes _ (2 ^ w - x) _ (2 ^ w - y) mx my n)) (overflow_is w x y) (quotient_mm w x y some hx tx hy ty);
          rest = left_over _ _ _ _ vx vy ∙ ap (λ (k : ℕ). neg_ℤ (pos (k % suc (2 ^ w - 1 - y)))) (size_minus w x tx) ∙ ap (λ (k : ℕ). neg_ℤ (pos ((2 ^ w - x) % k))) (size_minus w y ty)
              ∙ rest_minus w (2 ^ w - x) (2 ^ w - y) some (omega (arith, hx, halves w some)) ∙ ap (signed_of w) (sym (under _ _ _ bx (rests _ (2 ^ w - x) _ (2 ^ w - y) mx my n)));
        }

-- ---- Bounds

with_sign_below : (w s m : ℕ) → m < 2 ^ w → with_sign w s m < 2 ^ w
with_sign_below w s m lt = go (s == 1)
  where
    go : (b : Bool) → (if b then difference_in w 0 m else m) < 2 ^ w
    go true = mod-lt (0 + (2 ^ w - m)) (pow_pos w)
    go false = lt

magnitude_below : (w x : ℕ) → x < 2 ^ w → magnitude w x < 2 ^ w
magnitude_below w x lt = with_sign_below w (bit_of (w - 1) x) x lt

quotient_of_below : (m n k : ℕ) → m < k → quotient_of m n < k
quotient_of_below m n k lt = go (n == 0)
  where
    go : (b : Bool) → (if b then 0 else m / n) < k
    go true = omega (arith, lt)
    go false = omega (arith, lt, div-le_self m n)

remainder_of_below : (m n k : ℕ) → m < k → remainder_of m n < k
remainder_of_below m n k lt = go (n == 0)
  where
    go : (b : Bool) → (if b then 0 else m % n) < k
    go true = omega (arith, lt)
    go false = omega (arith, lt, mod-le m n)

quotient_below : (signed : Bool) (w x y : ℕ) → x < 2 ^ w → quotient signed w x y < 2 ^ w
quotient_below true w x y lt = with_sign_below w (bit_xor (bit_of (w - 1) x) (bit_of (w - 1) y)) (quotient_of (magnitude w x) (magnitude w y)) (quotient_of_below (magnitude w x) (magnitude w y) (2 ^ w) (magnitude_below w x lt))
quotient_below false w x y lt = quotient_of_below x y _ lt

remainder_below : (signed : Bool) (w x y : ℕ) → x < 2 ^ w → remainder signed w x y < 2 ^ w
remainder_below true w x y lt = with_sign_below w (bit_of (w - 1) x) (remainder_of (magnitude w x) (magnitude w y)) (remainder_of_below (magnitude w x) (magnitude w y) (2 ^ w) (magnitude_below w x lt))
remainder_below false w x y lt = remainder_of_below x y _ lt

-- ---- Divisors

nonzero_pos : (y : ℕ) → (y ≡ 0 → ⊥) → is_zero (pos y) ≡ false
nonzero_pos zero h = absurd (h refl)
nonzero_pos (suc y) h = ap (λ b. b && nat_le 0 (suc y)) (lt-leb (suc y) 0 (omega arith))

nonzero : (kind : Kind) (model : Model) (y : ℕ) → y < 2 ^ width_of kind model → (y ≡ 0 → ⊥) → is_zero (wrapped kind model y) ≡ false
nonzero kind model y lt h = go (is_signed kind) refl
  where
    by_top : is_signed kind ≡ true → Signed (width_of kind model) y → is_zero (wrapped kind model y) ≡ false
    by_top e (plus l v b) = ap is_zero (wrapped_signed kind model y e ∙ v) ∙ nonzero_pos y h
    by_top e (minus l v b) = ap is_zero (wrapped_signed kind model y e ∙ v)

    go : (b : Bool) → is_signed kind ≡ b → is_zero (wrapped kind model y) ≡ false
    go true e = by_top e (signed (width_of kind model) y (width_some kind model) lt)
    go false e = ap is_zero (wrapped_unsigned kind model y e) ∙ nonzero_pos y h

zero_divisor : (kind : Kind) (model : Model) → is_zero (wrapped kind model 0) ≡ true
zero_divisor kind model = go (is_signed kind) refl
  where
    go : (b : Bool) → is_signed kind ≡ b → is_zero (wrapped kind model 0) ≡ true
    go true e = ap is_zero (wrapped_signed kind model 0 e ∙ signed_low (width_of kind model) 0 (pow_pos (width_of kind model - 1)))
    go false e = ap is_zero (wrapped_unsigned kind model 0 e)

fails_signed : (kind : Kind) (model : Model) (x y : ℕ) → is_signed kind ≡ true
    → division_fails kind model x y ≡ failure error.Zero (truth (y == 0)) ∷ failure error.Overflow (quotient_overflows (width_of kind model) x y) ∷ []
fails_signed kind model x y e = ap (λ (b : Bool). if b then failure error.Zero (truth (y == 0)) ∷ failure error.Overflow (quotient_overflows (width_of kind model) x y) ∷ [] else failure error.Zero (truth (y == 0)) ∷ []) e

fails_unsigned : (kind : Kind) (model : Model) (x y : ℕ) → is_signed kind ≡ false → division_fails kind model x y ≡ failure error.Zero (truth (y == 0)) ∷ []
fails_unsigned kind model x y e = ap (λ (b : Bool). if b then failure error.Zero (truth (y == 0)) ∷ failure error.Overflow (quotient_overflows (width_of kind model) x y) ∷ [] else failure error.Zero (truth (y == 0)) ∷ []) e

-- a divisor of 0 is met first
by_zero : (kind : Kind) (model : Model) (x y word : ℕ) (r : Result ℤ ErrorKind) → y ≡ 0 → r ≡ Err error.Zero → Answer r word (division_fails kind model x y)
by_zero kind model x y word r z e = go (is_signed kind) refl
  where
    go : (b : Bool) → is_signed kind ≡ b → Answer r word (division_fails kind model x y)
    go true s = answer-by _ _ _ _ _ _ refl refl (fails_signed kind model x y s) (meets r word error.Zero _ _ e (ap truth (eq-eqb y 0 z)))
    go false s = answer-by _ _ _ _ _ _ refl refl (fails_unsigned kind model x y s) (meets r word error.Zero _ _ e (ap truth (eq-eqb y 0 z)))

-- an unsigned quotient is held
unsigned_held : (kind : Kind) (model : Model) (q : ℕ) → is_signed kind ≡ false → q < 2 ^ width_of kind model → is_in_range kind model (pos q) ≡ true
unsigned_held kind model q e lt =
    ap (λ (l : ℤ). int_le l (pos q) && int_le (pos q) (int.greatest_of kind model)) (ap (λ (b : Bool). if b then negsuc (2 ^ (width_of kind model - 1) - 1) else pos 0) e)
    ∙ ap (λ (g : ℤ). int_le (pos 0) (pos q) && int_le (pos q) g) (ap (λ (b : Bool). if b then pos (2 ^ (width_of kind model - 1) - 1) else pos (2 ^ width_of kind model - 1)) e)
    ∙ ap (λ b. b && nat_le q (2 ^ width_of kind model - 1)) (le-leb 0 q (omega arith)) ∙ le-leb q (2 ^ width_of kind model - 1) (omega (arith, lt))

quotient_at : (kind : Kind) (model : Model) (x y : ℕ) → x < 2 ^ width_of kind model → y < 2 ^ width_of kind model → (y ≡ 0 → ⊥) → (b : Bool) → is_signed kind ≡ b
    → Answer (held kind model error.Overflow (int_div (wrapped kind model x) (wrapped kind model y))) (widened kind model (quotient (is_signed kind) (width_of kind model) x y)) (division_fails kind model x y)
quotient_at kind model x y lx ly nz true e = answer-by _ _ _ _ _ _
    (ap (held kind model error.Overflow) (divided _ _ _ _ (wrapped_signed kind model x e) (wrapped_signed kind model y e)))
    (ap (λ (b : Bool). widened kind model (quotient b (width_of kind model) x y)) e) (fails_signed kind model x y e)
    (skip _ _ error.Zero _ _ (ap truth (ne_eqb y 0 nz))
    (held_answer kind model error.Overflow _ _ _ e (quotient_below true (width_of kind model) x y lx) (divides (width_of kind model) x y (width_some kind model) lx ly nz).fits))
quotient_at kind model x y lx ly nz false e =
    let q : quotient_of x y ≡ x / y = quotient_some x y nz in
    let lq : x / y < 2 ^ width_of kind model = omega (arith, lx, div-le_self x y) in
    answer-by _ _ _ _ _ _
    (ap (held kind model error.Overflow) (divided _ _ _ _ (wrapped_unsigned kind model x e) (wrapped_unsigned kind model y e))
    ∙ ap (λ (b : Bool). if b then Ok (pos (x / y)) else Err error.Overflow) (unsigned_held kind model (x / y) e lq) ∙ ap Ok (sym (wrapped_unsigned kind model (x / y) e)))
    (ap (λ (b : Bool). widened kind model (quotient b (width_of kind model) x y)) e ∙ ap (widened kind model) q) (fails_unsigned kind model x y e)
    (skip _ _ error.Zero _ _ (ap truth (ne_eqb y 0 nz)) (wrapped_answer kind model (x / y) lq))

pub quotient_agrees : (kind : Kind) (model : Model) (x y : ℕ) → x < 2 ^ width_of kind model → y < 2 ^ width_of kind model
    → Answer (int.quotient kind model (wrapped kind model x) (wrapped kind model y)) (widened kind model (quotient (is_signed kind) (width_of kind model) x y)) (division_fails kind model x y)
quotient_agrees kind model x y lx ly = go (cases_eq y 0)
  where
    go : (y ≡ 0) ⊎ (y ≡ 0 → ⊥) → Answer (int.quotient kind model (wrapped kind model x) (wrapped kind model y)) (widened kind model (quotient (is_signed kind) (width_of kind model) x y)) (division_fails kind model x y)
    go (inl z) = by_zero kind model x y _ _ z
        (ap (λ (b : Bool). if b then Err error.Zero else held kind model error.Overflow (int_div (wrapped kind model x) (wrapped kind model y))) (ap (λ (n : ℕ). is_zero (wrapped kind model n)) z ∙ zero_divisor kind model))
    go (inr nz) = answer-by _ _ _ _ _ _
        (ap (λ (b : Bool). if b then Err error.Zero else held kind model error.Overflow (int_div (wrapped kind model x) (wrapped kind model y))) (nonzero kind model y ly nz))
        refl refl (quotient_at kind model x y lx ly nz (is_signed kind) refl)

-- a rest stands where the quotient is held
rest_of : (kind : Kind) (model : Model) (z v : ℤ) (m n t : ℕ) (b : Bool) → is_in_range kind model z ≡ b → Answer (held kind model error.Overflow z) m (failure error.Overflow t ∷ []) → Answer (Ok v) n []
    → Answer (if is_in_range kind model z then Ok v else Err error.Overflow) n (failure error.Overflow t ∷ [])
rest_of kind model z v m n t true e (answered u a b c) (answered y p q s) = answered y (ap (λ (b : Bool). if b then Ok v else Err error.Overflow) e ∙ p) q c
rest_of kind model z v m n t true e (answered u a b c) (failed f p q) = absurd cc
rest_of kind model z v m n t true e (failed f a b) g = let bad : Ok z ≡ Err f = sym (ap (λ (b : Bool). if b then Ok z else Err error.Overflow) e) ∙ a in absurd cc
rest_of kind model z v m n t false e (answered u a b c) g = let bad : Err error.Overflow ≡ Ok u = sym (ap (λ (b : Bool). if b then Ok z else Err error.Overflow) e) ∙ a in absurd cc
rest_of kind model z v m n t false e (failed f a b) g =
    let same : Err error.Overflow ≡ Err f = sym (ap (λ (b : Bool). if b then Ok z else Err error.Overflow) e) ∙ a in
    let kinds : error.Overflow ≡ f = cc in
    failed f (ap (λ (b : Bool). if b then Ok v else Err error.Overflow) e ∙ ap Err kinds) b

remainder_at : (kind : Kind) (model : Model) (x y : ℕ) → x < 2 ^ width_of kind model → y < 2 ^ width_of kind model → (y ≡ 0 → ⊥) → (b : Bool) → is_signed kind ≡ b
    → Answer (if is_in_range kind model (int_div (wrapped kind model x) (wrapped kind model y)) then Ok (int_rem (wrapped kind model x) (wrapped kind model y)) else Err error.Overflow)
    (widened kind model (remainder (is_signed kind) (width_of kind model) x y)) (division_fails kind model x y)
remainder_at kind model x y lx ly nz true e =
    let d = divides (width_of kind model) x y (width_some kind model) lx ly nz in
    answer-by _ _ _ _ _ _
    (ap (λ (z : ℤ). if is_in_range kind model z then Ok (int_rem (wrapped kind model x) (wrapped kind model y)) else Err error.Overflow) (divided _ _ _ _ (wrapped_signed kind model x e) (wrapped_signed kind model y e))
    ∙ ap (λ (z : ℤ). if is_in_range kind model (int_div (signed_of (width_of kind model) x) (signed_of (width_of kind model) y)) then Ok z else Err error.Overflow)
    (left_over _ _ _ _ (wrapped_signed kind model x e) (wrapped_signed kind model y e) ∙ d.rest ∙ sym (wrapped_signed kind model _ e)))
    (ap (λ (b : Bool). widened kind model (remainder b (width_of kind model) x y)) e) (fails_signed kind model x y e)
    (skip _ _ error.Zero _ _ (ap truth (ne_eqb y 0 nz))
    (rest_of kind model _ _ _ _ _ _ refl (held_answer kind model error.Overflow _ _ _ e (quotient_below true (width_of kind model) x y lx) d.fits)
    (wrapped_answer kind model _ (remainder_below true (width_of kind model) x y lx))))
remainder_at kind model x y lx ly nz false e =
    let q : remainder_of x y ≡ x % y = remainder_some x y nz in
    let lq : x / y < 2 ^ width_of kind model = omega (arith, lx, div-le_self x y) in
    let lr : x % y < 2 ^ width_of kind model = omega (arith, lx, mod-le x y) in
    answer-by _ _ _ _ _ _
    (ap (λ (z : ℤ). if is_in_range kind model z then Ok (int_rem (wrapped kind model x) (wrapped kind model y)) else Err error.Overflow) (divided _ _ _ _ (wrapped_unsigned kind model x e) (wrapped_unsigned kind model y e))
    ∙ ap (λ (b : Bool). if b then Ok (int_rem (wrapped kind model x) (wrapped kind model y)) else Err error.Overflow) (unsigned_held kind model (x / y) e lq)
    ∙ ap Ok (left_over _ _ _ _ (wrapped_unsigned kind model x e) (wrapped_unsigned kind model y e) ∙ sym (wrapped_unsigned kind model (x % y) e)))
    (ap (λ (b : Bool). widened kind model (remainder b (width_of kind model) x y)) e ∙ ap (widened kind model) q) (fails_unsigned kind model x y e)
    (skip _ _ error.Zero _ _ (ap truth (ne_eqb y 0 nz)) (wrapped_answer kind model (x % y) lr))

pub remainder_agrees : (kind : Kind) (model : Model) (x y : ℕ) → x < 2 ^ width_of kind model → y < 2 ^ width_of kind model
    → Answer (int.remainder kind model (wrapped kind model x) (wrapped kind model y)) (widened kind model (remainder (is_signed kind) (width_of kind model) x y)) (division_fails kind model x y)
remainder_agrees kind model x y lx ly = go (cases_eq y 0)
  where
    go : (y ≡ 0) ⊎ (y ≡ 0 → ⊥) → Answer (int.remainder kind model (wrapped kind model x) (wrapped kind model y)) (widened kind model (remainder (is_signed kind) (width_of kind model) x y)) (division_fails kind model x y)
    go (inl z) = by_zero kind model x y _ _ z
        (ap (λ (b : Bool). if b then Err error.Zero else (if is_in_range kind model (int_div (wrapped kind model x) (wrapped kind model y)) then Ok (int_rem (wrapped kind model x) (wrapped kind model y)) else Err error.Overflow))
        (ap (λ (n : ℕ). is_zero (wrapped kind model n)) z ∙ zero_divisor kind model))
    go (inr nz) = answer-by _ _ _ _ _ _
        (ap (λ (b : Bool). if b then Err error.Zero else (if is_in_range kind model (int_div (wrapped kind model x) (wrapped kind model y)) then Ok (int_rem (wrapped kind model x) (wrapped kind model y)) else Err error.Overflow))
        (nonzero kind model y ly nz)) refl refl (remainder_at kind model x y lx ly nz (is_signed kind) refl)
