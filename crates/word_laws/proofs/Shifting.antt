-- Shifts of values of a kind, and their terms.
use Rattle.std.proofs.Common.{◌≡◌, ℕ, ◌-◌, ◌*◌, ◌<◌, ◌≤◌, ◌^◌, ◌==◌, ◌&&◌, refl, sym, ap, ◌∙◌, subst, arith, Bool, true, false, if◌then◌else◌, nat_lt, nat_le, lt-ltb, le-ltb, le-leb, List, [], ◌∷◌, Some, Result, Ok, Err, ℤ, pos, negsuc, ◌*ℤ◌, bit_or}
use Rattle.std.specs.Prelude.{int_lt, unsigned_abs}
use Rattle.std.specs.Int.{int_div_euclid}
use Rattle.std.proofs.Math.Nat.{mod-lt, mod-eq_of_lt, div-le_self}
use Rattle.std.proofs.Math.IntN.{pos-*ℤ-pos}
use Rattle.std.proofs.lemmas.Int.{ints}
use Rattle.std.proofs.lemmas.Nat.{pow_pos}
use Rattle.lv_base.specs.declared.kind.Kind.{Kind}
use Rattle.lv_base.specs.declared.kind.Model.{Model}
use Rattle.lv_base.specs.declared.kind.Op.TheVariants as op
use Rattle.lv_base.specs.declared.fault.ErrorKind.{ErrorKind}
use Rattle.lv_base.specs.declared.fault.ErrorKind.TheVariants as error
use Rattle.lv_base.specs.Integers as int
use Rattle.lv_base.specs.Integers.{width_of, is_signed, is_promoted, residue, signed_of, wrapped, converted, held, InAny, is_amount, arith_of, left_shift}
use Rattle.bv_term.specs.Numbers.{complement_in, truth, right_in, signed_right_in, left_in, bit_of}
use Rattle.c_terms.specs.Numbers.{widened, is_far, right_shift, shift_loses, left_shift_fails}
use Rattle.c_terms.specs.Operations.{Failure, failure}
use Rattle.word_laws.specs.Laws.{slot, first_met}
use Rattle.word_laws.proofs.Sums.{Fits, within, above, Signed, plus, minus, signed}
use Rattle.word_laws.proofs.Shifts.{right_is, left_is, right_shifted, Kept, kept, lost, left_shifted}
use Rattle.word_laws.proofs.Residues.{signed_low}
use Rattle.word_laws.proofs.Wrapping.{width_some, width_most, wrapped_signed, wrapped_unsigned}
use Rattle.word_laws.proofs.Answering.{Answer, answered, failed, answer-by, held_answer, wrapped_answer, converted_answer, Amount, near, far, amount, below_power}

-- a test before that is 0
pub skip : (r : Result ℤ ErrorKind) (word : ℕ) (e : ErrorKind) (t : ℕ) (fs : List Failure) → t ≡ 0 → Answer r word fs → Answer r word (failure e t ∷ fs)
skip r word e t fs z (answered v a b c) = answered v a b (ap (λ (n : ℕ). if n == 1 then Some e else first_met fs) z ∙ c)
skip r word e t fs z (failed f a b) = failed f a (ap (λ (n : ℕ). if n == 1 then Some e else first_met fs) z ∙ b)

-- the first test is 1
pub meets : (r : Result ℤ ErrorKind) (word : ℕ) (e : ErrorKind) (t : ℕ) (fs : List Failure) → r ≡ Err e → t ≡ 1 → Answer r word (failure e t ∷ fs)
meets r word e t fs a z = failed e a (ap (λ (n : ℕ). if n == 1 then Some e else first_met fs) z)

-- ---- Amounts

is_far_as : (w c : ℕ) (b : Bool) → w ≤ 64 → nat_lt c w ≡ b → is_far w c ≡ complement_in 1 (truth b)
is_far_as w c b le e = ap (λ p. complement_in 1 (truth p)) e

near_slot : (w k : ℕ) → w ≤ 64 → k < w → slot (pos k) ≡ k
near_slot w k le lt = mod-eq_of_lt (omega (arith, le, lt))

near_bits : (w k : ℕ) → k < w → residue w (pos k) ≡ k
near_bits w k lt = mod-eq_of_lt (omega (arith, lt, below_power w))

near_test : (w k : ℕ) → w ≤ 64 → k < w → is_far w (slot (pos k)) ≡ 0
near_test w k le lt = ap (is_far w) (near_slot w k le lt) ∙ is_far_as w k true le (lt-ltb k w lt)

far_test : (w : ℕ) (b : ℤ) → w ≤ 64 → w ≤ slot b → is_far w (slot b) ≡ 1
far_test w b le ge = is_far_as w (slot b) false le (le-ltb (slot b) w ge)

near_amount : (kind : Kind) (model : Model) (k : ℕ) → k < width_of kind model → is_amount kind model (pos k) ≡ true
near_amount kind model k lt = ap (λ b. b && nat_lt k (width_of kind model)) (le-leb 0 k (omega arith)) ∙ lt-ltb k (width_of kind model) lt

-- ---- To the right

right_of : (kind : Kind) (model : Model) (x k : ℕ) → x < 2 ^ width_of kind model → k < width_of kind model
    → int_div_euclid (wrapped kind model x) (pos (2 ^ k)) ≡ wrapped kind model (right_shift (is_signed kind) (width_of kind model) x k)
right_of kind model x k lx lt = go (is_signed kind) refl
  where
    go : (b : Bool) → is_signed kind ≡ b → int_div_euclid (wrapped kind model x) (pos (2 ^ k)) ≡ wrapped kind model (right_shift (is_signed kind) (width_of kind model) x k)
    go true e =
        ap (λ z. int_div_euclid z (pos (2 ^ k))) (wrapped_signed kind model x e) ∙ right_shifted (width_of kind model) x k (width_some kind model) lt lx
        ∙ sym (ap (λ (b : Bool). wrapped kind model (right_shift b (width_of kind model) x k)) e ∙ wrapped_signed kind model (signed_right_in (width_of kind model) x k) e)
    go false e =
        ap (λ z. int_div_euclid z (pos (2 ^ k))) (wrapped_unsigned kind model x e) ∙ ap pos (sym (right_is (width_of kind model) x k lt))
        ∙ sym (ap (λ (b : Bool). wrapped kind model (right_shift b (width_of kind model) x k)) e ∙ wrapped_unsigned kind model (right_in (width_of kind model) x k) e)

right_below : (signed : Bool) (w x k : ℕ) → k < w → x < 2 ^ w → right_shift signed w x k < 2 ^ w
right_below true w x k lt lx = by_test (nat_le (2 ^ (w - 1)) x)
  where
    by_test : (b : Bool) → (if b then complement_in w (right_in w (complement_in w x) k) else right_in w x k) < 2 ^ w
    by_test true = omega (arith, pow_pos w)
    by_test false = omega (arith, right_is w x k lt, div-le_self x (2 ^ k), lx)
right_below false w x k lt lx = omega (arith, right_is w x k lt, div-le_self x (2 ^ k), lx)

pub right_shift_agrees : (kind : Kind) (model : Model) (x : ℕ) (b : ℤ) → x < 2 ^ width_of kind model → InAny b
    → Answer (arith_of op.Shr kind model (wrapped kind model x) b) (widened kind model (right_shift (is_signed kind) (width_of kind model) x (residue (width_of kind model) b)))
    (failure error.Shift (is_far (width_of kind model) (slot b)) ∷ [])
right_shift_agrees kind model x b lx any = go (amount (width_of kind model) b (width_most kind model) any)
  where
    go : Amount (width_of kind model) b → Answer (arith_of op.Shr kind model (wrapped kind model x) b) (widened kind model (right_shift (is_signed kind) (width_of kind model) x (residue (width_of kind model) b)))
        (failure error.Shift (is_far (width_of kind model) (slot b)) ∷ [])
    go (near k lt e) = subst (λ (z : ℤ). Answer (arith_of op.Shr kind model (wrapped kind model x) z) (widened kind model (right_shift (is_signed kind) (width_of kind model) x (residue (width_of kind model) z)))
        (failure error.Shift (is_far (width_of kind model) (slot z)) ∷ [])) (sym e)
        (skip _ _ error.Shift _ [] (near_test (width_of kind model) k (width_most kind model) lt)
        (answer-by _ _ _ _ [] []
        (ap (λ (b : Bool). if b then Ok (int.right_shift (wrapped kind model x) k) else Err error.Shift) (near_amount kind model k lt) ∙ ap Ok (right_of kind model x k lx lt))
        (ap (λ (n : ℕ). widened kind model (right_shift (is_signed kind) (width_of kind model) x n)) (near_bits (width_of kind model) k lt)) refl
        (wrapped_answer kind model _ (right_below (is_signed kind) (width_of kind model) x k lt lx))))
    go (far f ge) = meets _ _ error.Shift _ [] (ap (λ (t : Bool). if t then Ok (int.right_shift (wrapped kind model x) (unsigned_abs b)) else Err error.Shift) f) (far_test (width_of kind model) b (width_most kind model) ge)

-- ---- To the left

one_or : (p : Bool) → bit_or 1 (complement_in 1 (truth p)) ≡ 1
one_or true = refl
one_or false = refl

loses_bit : (w x k : ℕ) → Signed w x → bit_or 1 (shift_loses w x k) ≡ 1
loses_bit w x k (plus h v b) = ap (λ (n : ℕ). bit_or 1 (bit_or n (complement_in 1 (truth (signed_right_in w (left_in w x k) k == x))))) b ∙ cases (signed_right_in w (left_in w x k) k == x)
  where
    cases : (p : Bool) → bit_or 1 (bit_or 0 (complement_in 1 (truth p))) ≡ 1
    cases true = refl
    cases false = refl
loses_bit w x k (minus h v b) = ap (λ (n : ℕ). bit_or 1 (bit_or n (complement_in 1 (truth (signed_right_in w (left_in w x k) k == x))))) b ∙ cases (signed_right_in w (left_in w x k) k == x)
  where
    cases : (p : Bool) → bit_or 1 (bit_or 1 (complement_in 1 (truth p))) ≡ 1
    cases true = refl
    cases false = refl

-- the test of a left side that is not negative
plus_test : (w x k : ℕ) (b : Bool) (f : ℕ) → f ≡ 0 → bit_of (w - 1) x ≡ 0 → (signed_right_in w (left_in w x k) k == x) ≡ b → bit_or f (shift_loses w x k) ≡ bit_or 0 (bit_or 0 (complement_in 1 (truth b)))
plus_test w x k b f ef et eb = ap (λ (n : ℕ). bit_or n (shift_loses w x k)) ef ∙ ap (λ (n : ℕ). bit_or 0 (bit_or n (complement_in 1 (truth (signed_right_in w (left_in w x k) k == x))))) et
    ∙ ap (λ p. bit_or 0 (bit_or 0 (complement_in 1 (truth p)))) eb

minus_test : (w x k f : ℕ) → f ≡ 0 → bit_of (w - 1) x ≡ 1 → bit_or f (shift_loses w x k) ≡ 1
minus_test w x k f ef et = ap (λ (n : ℕ). bit_or n (shift_loses w x k)) ef ∙ ap (λ (n : ℕ). bit_or 0 (bit_or n (complement_in 1 (truth (signed_right_in w (left_in w x k) k == x))))) et
    ∙ cases (signed_right_in w (left_in w x k) k == x)
  where
    cases : (p : Bool) → bit_or 0 (bit_or 1 (complement_in 1 (truth p))) ≡ 1
    cases true = refl
    cases false = refl

left_fits : (w x k f : ℕ) → 1 ≤ w → k < w → f ≡ 0 → bit_of (w - 1) x ≡ 0 → Kept w x k → Fits w (pos (x * 2 ^ k)) (left_in w x k) (bit_or f (shift_loses w x k))
left_fits w x k f some lt ef et (kept small e back) = within (omega (arith, ints)) (omega (arith, ints, small))
    (sym (ap (signed_of w) e ∙ signed_low w (x * 2 ^ k) small)) (plus_test w x k true f ef et back)
left_fits w x k f some lt ef et (lost great back) = above (omega (arith, ints, great, pow_pos (w - 1))) (plus_test w x k false f ef et back)

fails_signed : (signed : Bool) (w x k c : ℕ) → signed ≡ true → left_shift_fails signed w x k c ≡ bit_or (is_far w c) (shift_loses w x k)
fails_signed signed w x k c e = ap (λ (b : Bool). if b then bit_or (is_far w c) (shift_loses w x k) else is_far w c) e

fails_unsigned : (signed : Bool) (w x k c : ℕ) → signed ≡ false → left_shift_fails signed w x k c ≡ is_far w c
fails_unsigned signed w x k c e = ap (λ (b : Bool). if b then bit_or (is_far w c) (shift_loses w x k) else is_far w c) e

left_below : (w x k : ℕ) → k < w → left_in w x k < 2 ^ w
left_below w x k lt = subst (λ (n : ℕ). n < 2 ^ w) (sym (left_is w x k lt)) (mod-lt (x * 2 ^ k) (pow_pos w))

shifted_answer : (kind : Kind) (model : Model) (x k f : ℕ) → is_promoted kind ≡ true → x < 2 ^ width_of kind model → k < width_of kind model → f ≡ 0
    → Answer (left_shift kind model (wrapped kind model x) k) (widened kind model (left_in (width_of kind model) x k))
    (failure error.Shift (if is_signed kind then bit_or f (shift_loses (width_of kind model) x k) else f) ∷ [])
shifted_answer kind model x k f promoted lx lt ef = go (is_signed kind) refl
  where
    outer : (b : Bool) → is_signed kind ≡ b → left_shift kind model (wrapped kind model x) k
        ≡ (if b then (if int_lt (wrapped kind model x) (pos 0) then Err error.Shift else held kind model error.Shift (wrapped kind model x *ℤ pos (2 ^ k))) else Ok (converted kind model (wrapped kind model x *ℤ pos (2 ^ k))))
    outer b e = ap (λ (b : Bool). if b then (if int_lt (wrapped kind model x) (pos 0) then Err error.Shift else held kind model error.Shift (wrapped kind model x *ℤ pos (2 ^ k))) else Ok (converted kind model (wrapped kind model x *ℤ pos (2 ^ k)))) e

    by_top : is_signed kind ≡ true → Signed (width_of kind model) x → Answer (left_shift kind model (wrapped kind model x) k) (widened kind model (left_in (width_of kind model) x k)) (failure error.Shift (bit_or f (shift_loses (width_of kind model) x k)) ∷ [])
    by_top e (plus h v b) =
        let z : wrapped kind model x ≡ pos x = wrapped_signed kind model x e ∙ v in
        let r : left_shift kind model (wrapped kind model x) k ≡ held kind model error.Shift (pos (x * 2 ^ k)) =
        outer true e ∙ ap (λ (y : ℤ). if int_lt y (pos 0) then Err error.Shift else held kind model error.Shift (y *ℤ pos (2 ^ k))) z
        ∙ ap (λ (b : Bool). if b then Err error.Shift else held kind model error.Shift (pos x *ℤ pos (2 ^ k))) (le-ltb x 0 (omega arith))
        ∙ ap (held kind model error.Shift) (pos-*ℤ-pos x (2 ^ k)) in
        answer-by _ _ _ _ _ _ r refl refl (held_answer kind model error.Shift (pos (x * 2 ^ k)) (left_in (width_of kind model) x k) _ e (left_below (width_of kind model) x k lt)
        (left_fits (width_of kind model) x k f (width_some kind model) lt ef b (left_shifted (width_of kind model) x k (width_some kind model) lt h)))
    by_top e (minus h v b) =
        let z : wrapped kind model x ≡ negsuc (2 ^ width_of kind model - 1 - x) = wrapped_signed kind model x e ∙ v in
        meets _ _ error.Shift _ [] (outer true e ∙ ap (λ (y : ℤ). if int_lt y (pos 0) then Err error.Shift else held kind model error.Shift (y *ℤ pos (2 ^ k))) z)
        (minus_test (width_of kind model) x k f ef b)

    go : (b : Bool) → is_signed kind ≡ b → Answer (left_shift kind model (wrapped kind model x) k) (widened kind model (left_in (width_of kind model) x k))
        (failure error.Shift (if is_signed kind then bit_or f (shift_loses (width_of kind model) x k) else f) ∷ [])
    go true e = answer-by _ _ _ _ _ _ refl refl (ap (λ (b : Bool). failure error.Shift (if b then bit_or f (shift_loses (width_of kind model) x k) else f) ∷ []) e)
        (by_top e (signed (width_of kind model) x (width_some kind model) lx))
    go false e = answer-by _ _ _ _ _ _
        (outer false e ∙ ap (λ (y : ℤ). Ok (converted kind model (y *ℤ pos (2 ^ k)))) (wrapped_unsigned kind model x e) ∙ ap (λ (y : ℤ). Ok (converted kind model y)) (pos-*ℤ-pos x (2 ^ k)))
        refl (ap (λ (b : Bool). failure error.Shift (if b then bit_or f (shift_loses (width_of kind model) x k) else f) ∷ []) e)
        (skip _ _ error.Shift f [] ef (converted_answer kind model (pos (x * 2 ^ k)) (left_in (width_of kind model) x k) promoted (sym (left_is (width_of kind model) x k lt))))

far_fails : (signed : Bool) (w x k f : ℕ) → f ≡ 1 → Signed w x → (if signed then bit_or f (shift_loses w x k) else f) ≡ 1
far_fails true w x k f e s = ap (λ (n : ℕ). bit_or n (shift_loses w x k)) e ∙ loses_bit w x k s
far_fails false w x k f e s = e

pub left_shift_agrees : (kind : Kind) (model : Model) (x : ℕ) (b : ℤ) → is_promoted kind ≡ true → x < 2 ^ width_of kind model → InAny b
    → Answer (arith_of op.Shl kind model (wrapped kind model x) b) (widened kind model (left_in (width_of kind model) x (residue (width_of kind model) b)))
    (failure error.Shift (left_shift_fails (is_signed kind) (width_of kind model) x (residue (width_of kind model) b) (slot b)) ∷ [])
left_shift_agrees kind model x b promoted lx any = go (amount (width_of kind model) b (width_most kind model) any)
  where
    go : Amount (width_of kind model) b → Answer (arith_of op.Shl kind model (wrapped kind model x) b) (widened kind model (left_in (width_of kind model) x (residue (width_of kind model) b)))
        (failure error.Shift (left_shift_fails (is_signed kind) (width_of kind model) x (residue (width_of kind model) b) (slot b)) ∷ [])
    go (near k lt e) = subst (λ (z : ℤ). Answer (arith_of op.Shl kind model (wrapped kind model x) z) (widened kind model (left_in (width_of kind model) x (residue (width_of kind model) z)))
        (failure error.Shift (left_shift_fails (is_signed kind) (width_of kind model) x (residue (width_of kind model) z) (slot z)) ∷ [])) (sym e)
        (answer-by _ _ _ _ _ _
        (ap (λ (b : Bool). if b then left_shift kind model (wrapped kind model x) k else Err error.Shift) (near_amount kind model k lt))
        (ap (λ (n : ℕ). widened kind model (left_in (width_of kind model) x n)) (near_bits (width_of kind model) k lt))
        (ap (λ (n : ℕ). failure error.Shift (left_shift_fails (is_signed kind) (width_of kind model) x n (slot (pos k))) ∷ []) (near_bits (width_of kind model) k lt))
        (shifted_answer kind model x k (is_far (width_of kind model) (slot (pos k))) promoted lx lt (near_test (width_of kind model) k (width_most kind model) lt)))
    go (far f ge) = meets _ _ error.Shift _ [] (ap (λ (t : Bool). if t then left_shift kind model (wrapped kind model x) (unsigned_abs b) else Err error.Shift) f)
        (far_fails (is_signed kind) (width_of kind model) x (residue (width_of kind model) b) _ (far_test (width_of kind model) b (width_most kind model) ge) (signed (width_of kind model) x (width_some kind model) lx))
