-- The laws, operator by operator.
use Rattle.std.proofs.Common.{◌≡◌, ℕ, ◌<◌, ◌≤◌, ◌^◌, ◌%◌, ◌==◌, ◌&&◌, refl, sym, ap, ◌∙◌, arith, zero, suc, Bool, true, false, if◌then◌else◌, nat_le, List, Result, Ok, Err, ℤ, pos, negsuc, bit_and, bit_or, bit_xor}
use Rattle.std.proofs.Math.Nat.{mod-eq_of_lt, zero-mod}
use Rattle.std.proofs.lemmas.Int.{ints}
use Rattle.std.proofs.lemmas.Bool.{ne_eqb, lt-leb}
use Rattle.std.proofs.lemmas.Nat.{or_lt, xor_lt, and_le_l}
use Rattle.lv_base.specs.declared.kind.Kind.{Kind}
use Rattle.lv_base.specs.declared.kind.Kind.TheVariants.{Bool as ABool, Char, UChar, Short, UShort, Int, UInt, Long, ULong, LongLong, ULongLong}
use Rattle.lv_base.specs.declared.kind.Model.{Model}
use Rattle.lv_base.specs.declared.kind.Op.TheVariants as arithmetic
use Rattle.lv_base.specs.declared.fault.ErrorKind.{ErrorKind}
use Rattle.lv_base.specs.declared.fault.ErrorKind.TheVariants as error
use Rattle.lv_base.specs.Integers.{width_of, is_promoted, residue, wrapped, converted, InAny, is_zero, arith_of}
use Rattle.bv_term.specs.Numbers.{truth, complement_in}
use Rattle.c_tree.specs.declared.symbol.BinaryOp.{BinaryOp}
use Rattle.c_tree.specs.declared.symbol.BinaryOp.TheVariants as op
use Rattle.c_run.specs.Operators.{op_of, is_negated, is_logical}
use Rattle.c_terms.specs.Numbers.{narrowed, widened, converted as word_converted}
use Rattle.c_terms.specs.Operations.{Failure, failure, if_signed, operation, failures, negation, negation_overflows}
use Rattle.word_laws.specs.Laws.{slot, done, turned_over, meant, error_of, first_met, ConversionsAgree, ZerosAgree, OperationsAgree, FailuresAgree, NegationsAgree}
use Rattle.word_laws.proofs.Residues.{residue_below}
use Rattle.word_laws.proofs.Wrapping.{converted_promoted}
use Rattle.word_laws.proofs.Answering.{Answer, answered, failed, answer-by, narrow_slot, widen_slot}
use Rattle.word_laws.proofs.Agreeing.{add_agrees, subtract_agrees, multiply_agrees, less_agrees, at_most_agrees, equal_agrees, unequal_agrees, bits_agree}
use Rattle.word_laws.proofs.Shifting.{left_shift_agrees, right_shift_agrees}
use Rattle.word_laws.proofs.Dividing.{quotient_agrees, remainder_agrees}

-- ---- Zeros and conversions

pub zeros : ZerosAgree
zeros (pos zero) h = refl
zeros (pos (suc n)) h =
    let s : suc n % 2 ^ 64 ≡ suc n = mod-eq_of_lt (omega (arith, ints, h.1)) in
    ap truth (ap (λ (k : ℕ). k == 0) s ∙ ne_eqb (suc n) 0 (λ e. omega (arith, e)) ∙ sym (ap (λ b. b && nat_le 0 (suc n)) (lt-leb (suc n) 0 (omega arith))))
zeros (negsuc n) h =
    let s : n % 2 ^ 64 ≡ n = mod-eq_of_lt (omega (arith, ints, h.0)) in
    ap truth (ne_eqb (slot (negsuc n)) 0 (λ e. omega (arith, ints, e, s, h.0)))

nonzero_is : (a : ℤ) (b : Bool) → is_zero a ≡ b → complement_in 1 (truth b) ≡ slot (if b then pos 0 else pos 1)
nonzero_is a true e = refl
nonzero_is a false e = refl

to_bool : (model : Model) (a : ℤ) → InAny a → word_converted ABool model (slot a) ≡ slot (converted ABool model a)
to_bool model a h = ap (complement_in 1) (zeros a h) ∙ nonzero_is a (is_zero a) refl

to_other : (kind : Kind) (model : Model) (a : ℤ) → widened kind model (narrowed kind model (slot a)) ≡ slot (wrapped kind model (residue (width_of kind model) a))
to_other kind model a = ap (widened kind model) (narrow_slot kind model a) ∙ widen_slot kind model (residue (width_of kind model) a) (residue_below (width_of kind model) a)

pub conversions : ConversionsAgree
conversions ABool model a h = to_bool model a h
conversions Char model a h = to_other Char model a
conversions UChar model a h = to_other UChar model a
conversions Short model a h = to_other Short model a
conversions UShort model a h = to_other UShort model a
conversions Int model a h = to_other Int model a
conversions UInt model a h = to_other UInt model a
conversions Long model a h = to_other Long model a
conversions ULong model a h = to_other ULong model a
conversions LongLong model a h = to_other LongLong model a
conversions ULongLong model a h = to_other ULongLong model a

-- ---- Operations

plain : (r : Result ℤ ErrorKind) → turned_over false r ≡ r
plain (Ok v) = refl
plain (Err e) = refl

two : (g : ℤ → ℤ → Result ℤ ErrorKind) (a b c d : ℤ) → a ≡ c → b ≡ d → g a b ≡ g c d
two g a b c d p q = ap (λ z. g z b) p ∙ ap (g c) q

-- on converted operands, as on their low bits
at_bits : (o : BinaryOp) (kind : Kind) (model : Model) (a b : ℤ) → is_promoted kind ≡ true
    → Answer (turned_over (is_negated o) (arith_of (op_of o) kind model (wrapped kind model (residue (width_of kind model) a)) (wrapped kind model (residue (width_of kind model) b))))
    (operation o kind model (residue (width_of kind model) a) (residue (width_of kind model) b)) (failures o kind model (residue (width_of kind model) a) (residue (width_of kind model) b) (slot b))
    → Answer (turned_over (is_negated o) (arith_of (op_of o) kind model (converted kind model a) (converted kind model b)))
    (operation o kind model (narrowed kind model (slot a)) (narrowed kind model (slot b))) (failures o kind model (narrowed kind model (slot a)) (narrowed kind model (slot b)) (slot b))
at_bits o kind model a b promoted h = answer-by _ _ _ _ _ _
    (two (λ z y. turned_over (is_negated o) (arith_of (op_of o) kind model z y)) _ _ _ _ (converted_promoted kind model a promoted) (converted_promoted kind model b promoted))
    (ap (λ (m : ℕ). operation o kind model m (narrowed kind model (slot b))) (narrow_slot kind model a) ∙ ap (operation o kind model (residue (width_of kind model) a)) (narrow_slot kind model b))
    (ap (λ (m : ℕ). failures o kind model m (narrowed kind model (slot b)) (slot b)) (narrow_slot kind model a) ∙ ap (λ (m : ℕ). failures o kind model (residue (width_of kind model) a) m (slot b)) (narrow_slot kind model b)) h

at_turned : (o : BinaryOp) (kind : Kind) (model : Model) (a b : ℤ) → is_promoted kind ≡ true
    → Answer (turned_over (is_negated o) (arith_of (op_of o) kind model (wrapped kind model (residue (width_of kind model) b)) (wrapped kind model (residue (width_of kind model) a))))
    (operation o kind model (residue (width_of kind model) a) (residue (width_of kind model) b)) (failures o kind model (residue (width_of kind model) a) (residue (width_of kind model) b) (slot b))
    → Answer (turned_over (is_negated o) (arith_of (op_of o) kind model (converted kind model b) (converted kind model a)))
    (operation o kind model (narrowed kind model (slot a)) (narrowed kind model (slot b))) (failures o kind model (narrowed kind model (slot a)) (narrowed kind model (slot b)) (slot b))
at_turned o kind model a b promoted h = answer-by _ _ _ _ _ _
    (two (λ z y. turned_over (is_negated o) (arith_of (op_of o) kind model z y)) _ _ _ _ (converted_promoted kind model b promoted) (converted_promoted kind model a promoted))
    (ap (λ (m : ℕ). operation o kind model m (narrowed kind model (slot b))) (narrow_slot kind model a) ∙ ap (operation o kind model (residue (width_of kind model) a)) (narrow_slot kind model b))
    (ap (λ (m : ℕ). failures o kind model m (narrowed kind model (slot b)) (slot b)) (narrow_slot kind model a) ∙ ap (λ (m : ℕ). failures o kind model (residue (width_of kind model) a) m (slot b)) (narrow_slot kind model b)) h

-- the right operand of a shift is not converted
at_amount : (o : BinaryOp) (kind : Kind) (model : Model) (a b : ℤ) → is_promoted kind ≡ true
    → Answer (turned_over (is_negated o) (arith_of (op_of o) kind model (wrapped kind model (residue (width_of kind model) a)) b))
    (operation o kind model (residue (width_of kind model) a) (residue (width_of kind model) b)) (failures o kind model (residue (width_of kind model) a) (residue (width_of kind model) b) (slot b))
    → Answer (turned_over (is_negated o) (arith_of (op_of o) kind model (converted kind model a) b))
    (operation o kind model (narrowed kind model (slot a)) (narrowed kind model (slot b))) (failures o kind model (narrowed kind model (slot a)) (narrowed kind model (slot b)) (slot b))
at_amount o kind model a b promoted h = answer-by _ _ _ _ _ _
    (ap (λ (z : ℤ). turned_over (is_negated o) (arith_of (op_of o) kind model z b)) (converted_promoted kind model a promoted))
    (ap (λ (m : ℕ). operation o kind model m (narrowed kind model (slot b))) (narrow_slot kind model a) ∙ ap (operation o kind model (residue (width_of kind model) a)) (narrow_slot kind model b))
    (ap (λ (m : ℕ). failures o kind model m (narrowed kind model (slot b)) (slot b)) (narrow_slot kind model a) ∙ ap (λ (m : ℕ). failures o kind model (residue (width_of kind model) a) m (slot b)) (narrow_slot kind model b)) h

straight : (r : Result ℤ ErrorKind) (m : ℕ) (fs : List Failure) → Answer r m fs → Answer (turned_over false r) m fs
straight r m fs h = answer-by (turned_over false r) r m m fs fs (plain r) refl refl h

below : (kind : Kind) (model : Model) (a : ℤ) → residue (width_of kind model) a < 2 ^ width_of kind model
below kind model a = residue_below (width_of kind model) a

and_below : (k m n : ℕ) → m < 2 ^ k → bit_and m n < 2 ^ k
and_below k m n h = let le : bit_and m n ≤ m = and_le_l m n in omega (arith, le, h)

pub whole : (o : BinaryOp) (kind : Kind) (model : Model) (a b : ℤ) → is_promoted kind ≡ true → is_logical o ≡ false → InAny a → InAny b
    → Answer (meant o kind model a b) (operation o kind model (narrowed kind model (slot a)) (narrowed kind model (slot b))) (failures o kind model (narrowed kind model (slot a)) (narrowed kind model (slot b)) (slot b))
whole op.OrElse k m a b p l h g = absurd cc
whole op.AndAlso k m a b p l h g = absurd cc
whole op.BitOr k m a b p l h g = at_bits op.BitOr k m a b p (bits_agree k m bit_or _ _ (below k m a) (below k m b) (or_lt (width_of k m) _ _ (below k m a) (below k m b)))
whole op.BitXor k m a b p l h g = at_bits op.BitXor k m a b p (bits_agree k m bit_xor _ _ (below k m a) (below k m b) (xor_lt (width_of k m) _ _ (below k m a) (below k m b)))
whole op.BitAnd k m a b p l h g = at_bits op.BitAnd k m a b p (bits_agree k m bit_and _ _ (below k m a) (below k m b) (and_below (width_of k m) _ _ (below k m a)))
whole op.Equal k m a b p l h g = at_bits op.Equal k m a b p (equal_agrees k m _ _ (below k m a) (below k m b))
whole op.NotEqual k m a b p l h g = at_bits op.NotEqual k m a b p (unequal_agrees k m _ _ (below k m a) (below k m b))
whole op.Less k m a b p l h g = at_bits op.Less k m a b p (less_agrees k m _ _ (below k m a) (below k m b))
whole op.Greater k m a b p l h g = at_turned op.Greater k m a b p (less_agrees k m _ _ (below k m b) (below k m a))
whole op.LessEqual k m a b p l h g = at_bits op.LessEqual k m a b p (at_most_agrees k m _ _ (below k m a) (below k m b))
whole op.GreaterEqual k m a b p l h g = at_turned op.GreaterEqual k m a b p (at_most_agrees k m _ _ (below k m b) (below k m a))
whole op.ShiftLeft k m a b p l h g = at_amount op.ShiftLeft k m a b p (straight _ _ _ (left_shift_agrees k m _ b p (below k m a) g))
whole op.ShiftRight k m a b p l h g = at_amount op.ShiftRight k m a b p (straight _ _ _ (right_shift_agrees k m _ b (below k m a) g))
whole op.Add k m a b p l h g = at_bits op.Add k m a b p (straight _ _ _ (add_agrees k m _ _ p (below k m a) (below k m b)))
whole op.Subtract k m a b p l h g = at_bits op.Subtract k m a b p (straight _ _ _ (subtract_agrees k m _ _ p (below k m a) (below k m b)))
whole op.Multiply k m a b p l h g = at_bits op.Multiply k m a b p (straight _ _ _ (multiply_agrees k m _ _ p (below k m a) (below k m b)))
whole op.Divide k m a b p l h g = at_bits op.Divide k m a b p (straight _ _ _ (quotient_agrees k m _ _ (below k m a) (below k m b)))
whole op.Remainder k m a b p l h g = at_bits op.Remainder k m a b p (straight _ _ _ (remainder_agrees k m _ _ (below k m a) (below k m b)))

result_is : (r : Result ℤ ErrorKind) (word : ℕ) (fs : List Failure) (v : ℤ) → Answer r word fs → r ≡ Ok v → word ≡ slot v
result_is r word fs v (answered u e f g) h = let same : Ok u ≡ Ok v = sym e ∙ h in let is : u ≡ v = cc in f ∙ ap slot is
result_is r word fs v (failed e f g) h = let bad : Err e ≡ Ok v = sym f ∙ h in absurd cc

error_is : (r : Result ℤ ErrorKind) (word : ℕ) (fs : List Failure) → Answer r word fs → first_met fs ≡ error_of r
error_is r word fs (answered u e f g) = g ∙ sym (ap error_of e)
error_is r word fs (failed e f g) = g ∙ sym (ap error_of f)

pub operations : OperationsAgree
operations o kind model a b v p l h g e = result_is _ _ _ v (whole o kind model a b p l h g) e

pub all_failures : FailuresAgree
all_failures o kind model a b p l h g = error_is _ _ _ (whole o kind model a b p l h g)

-- ---- A minus

zero_bits : (kind : Kind) (model : Model) → narrowed kind model (slot (pos 0)) ≡ 0
zero_bits kind model = narrow_slot kind model (pos 0) ∙ zero-mod (2 ^ width_of kind model)

pub negations : NegationsAgree
negations kind model a p h = (value, test)
  where
    any : InAny (pos 0)
    any = (omega (arith, ints), omega (arith, ints))

    answer : Answer (meant op.Subtract kind model (pos 0) a) (operation op.Subtract kind model (narrowed kind model (slot (pos 0))) (narrowed kind model (slot a)))
        (failures op.Subtract kind model (narrowed kind model (slot (pos 0))) (narrowed kind model (slot a)) (slot a))
    answer = whole op.Subtract kind model (pos 0) a p refl any h

    value : (v : ℤ) → done arithmetic.Sub kind model (pos 0) a ≡ Ok v → negation kind model (slot a) ≡ slot v
    value v e = ap (λ (n : ℕ). operation op.Subtract kind model n (narrowed kind model (slot a))) (sym (zero_bits kind model)) ∙ result_is _ _ _ v answer (plain (done arithmetic.Sub kind model (pos 0) a) ∙ e)

    test : first_met (if_signed kind (failure error.Overflow (negation_overflows kind model (slot a)))) ≡ error_of (done arithmetic.Sub kind model (pos 0) a)
    test = error_is _ _ _ answer ∙ ap error_of (plain (done arithmetic.Sub kind model (pos 0) a))
