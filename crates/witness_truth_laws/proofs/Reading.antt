-- A bit of an object's value, as C reads it.
use Rattle.std.proofs.Common.{◌≡◌, ◌∙◌, ap, sym, refl, ℕ, zero, suc, ◌%◌, ◌<◌, ◌≤◌, ◌^◌, ◌-◌, List, [], ◌∷◌, ℤ, pos, Bool, true, false, Ok, arith, if◌then◌else◌, Result, Err}
use Rattle.std.specs.Prelude.{int_le, int_lt, ◌&&◌, bit_and}
use Rattle.std.specs.Int.{int_div_euclid}
use Rattle.std.proofs.lemmas.Int.{ints}
use Rattle.std.proofs.lemmas.Nat.{and_mask, pow_pos}
use Rattle.std.proofs.Math.Nat.{mod-lt, mod-eq_of_lt}
use Rattle.lv_base.specs.declared.kind.Kind.{Kind}
use Rattle.lv_base.specs.declared.kind.Kind.TheVariants.{Int, Long, LongLong}
use Rattle.lv_base.specs.declared.kind.Model.{Model}
use Rattle.lv_base.specs.declared.kind.Op.TheVariants as arith_op
use Rattle.lv_base.specs.declared.fault.ErrorKind.{ErrorKind}
use Rattle.lv_base.specs.declared.fault.ErrorKind.TheVariants.{Shift}
use Rattle.lv_base.specs.Integers.{InRange, is_promoted, is_amount, width_of, residue, wrapped, converted, bitwise, right_shift, arith_of}
use Rattle.bv_term.specs.Numbers.{bit_of}
use Rattle.word_laws.proofs.Residues.{halves}
use Rattle.word_laws.proofs.Wrapping.{width_some, width_most, converted_promoted}
use Rattle.typed_range_laws.proofs.Bounds.{shr_in_range, truth_in_range}
use Rattle.typed_range_laws.proofs.Ranging.{in_range_test}
use Rattle.c_tree.specs.declared.symbol.BinaryOp.TheVariants as op
use Rattle.c_tree.specs.Tree.{Ex, eParen, eBinary}
use Rattle.c_run.specs.Run.{State, Got, Value, after, give, computed}
use Rattle.c_run.specs.Operators.{negated}
use Rattle.c_run.specs.Loops.{Calls}
use Rattle.c_meaning.specs.Kinds.{CType, tKind, promoted, number_kind, first_holding, kind_of}
use Rattle.c_meaning.specs.Bindings.{Env}
use Rattle.c_meaning.specs.Types.{type_of, binary_type}
use Rattle.c_meaning.specs.Value.{Context, applied}
use Rattle.c_meaning.specs.Program.{Function, context, trapping}
use Rattle.witness_truth_laws.specs.Trees.{number, plain_form}
use Rattle.witness_truth_laws.specs.Telling.{meant}
use Rattle.witness_truth_laws.specs.Laws.{BitsAreRead}
use Rattle.witness_truth_laws.proofs.Promoting.{same, promoted-is, promoted-wide, common-int, promoted-range}
use Rattle.witness_truth_laws.proofs.Bits.{parity, shifted-bit}

-- ---- Constants

int-holds : (model : Model) (k : ℕ) → k < 64 → InRange Int model (pos k)
int-holds model k lt = (omega (arith, ints), omega (arith, ints, lt))

-- a constant below 64 is an `int`
pub small-kind : (model : Model) (k : ℕ) → k < 64 → number_kind model k (plain_form k) ≡ Int
small-kind model zero lt = refl
small-kind model (suc k) lt = ap (λ (b : Bool). if b then Int else first_holding model (suc k) (Long ∷ []) LongLong) (in_range_test Int model (pos (suc k)) (int-holds model (suc k) lt))

-- ---- Arithmetic

amount-fits : (kind : Kind) (model : Model) (k : ℕ) → k < width_of kind model → is_amount kind model (pos k) ≡ true
amount-fits kind model k lt = let h : (int_le (pos 0) (pos k) && int_lt (pos k) (pos (width_of kind model))) ≡ true = grind (arith, lt) in h

shifts : (kind : Kind) (model : Model) (x : ℤ) (k : ℕ) → k < width_of kind model → arith_of arith_op.Shr kind model x (pos k) ≡ Ok (int_div_euclid x (pos (2 ^ k)))
shifts kind model x k lt = ap (λ (b : Bool). if b then Ok (right_shift x k) else Err Shift) (amount-fits kind model k lt)

wrapped-bit : (kind : Kind) (model : Model) (n : ℕ) → is_promoted kind ≡ true → n < 2 → 2 ≤ 2 ^ width_of kind model → wrapped kind model n ≡ pos n
wrapped-bit kind model zero p lt wide =
    let h : InRange kind model (pos 0) = truth_in_range kind model false in
    ap (wrapped kind model) (sym (mod-eq_of_lt (omega (arith, wide)))) ∙ sym (converted_promoted kind model (pos 0) p) ∙ same kind model (pos 0) p h
wrapped-bit kind model (suc zero) p lt wide =
    let h : InRange kind model (pos 1) = truth_in_range kind model true in
    ap (wrapped kind model) (sym (mod-eq_of_lt (omega (arith, wide)))) ∙ sym (converted_promoted kind model (pos 1) p) ∙ same kind model (pos 1) p h
wrapped-bit kind model (suc (suc n)) p lt wide = absurd (omega (arith, lt))

wide-enough : (kind : Kind) (model : Model) → 2 ≤ 2 ^ width_of kind model
wide-enough kind model = omega (arith, halves (width_of kind model) (width_some kind model), pow_pos (width_of kind model - 1))

anded : (kind : Kind) (model : Model) (v : ℤ) → is_promoted kind ≡ true → InRange kind model v
    → arith_of arith_op.And kind model (converted kind model v) (converted kind model (pos 1)) ≡ Ok (pos (residue (width_of kind model) v % 2))
anded kind model v p h =
    let w : ℕ = width_of kind model in
    let one : residue w (pos 1) ≡ 1 = mod-eq_of_lt (omega (arith, wide-enough kind model)) in
    ap (λ (l : ℤ). Ok (bitwise bit_and kind model l (converted kind model (pos 1)))) (same kind model v p h)
    ∙ ap (λ (r : ℤ). Ok (bitwise bit_and kind model v r)) (same kind model (pos 1) p (truth_in_range kind model true))
    ∙ ap (λ (n : ℕ). Ok (wrapped kind model (bit_and (residue w v) n))) one
    ∙ ap (λ (n : ℕ). Ok (wrapped kind model n)) (and_mask (residue w v) 1)
    ∙ ap Ok (wrapped-bit kind model (residue w v % 2) p (mod-lt (residue w v) (omega arith)) (wide-enough kind model))

-- ---- Operators

abbrev finish : ℕ → State → Result ℤ ErrorKind → Got ℤ
finish at st r = after (computed at r st) (λ v. give (negated false v))

module _ (env : Env) (model : Model) (inputs : List ℤ) (functions : List Function) (call : Calls) where
  abbrev c : Context
  c = context env model (trapping model) inputs functions call

  shift-applied : (at : ℕ) (kind : Kind) (x : ℤ) (k : ℕ) (st : State) → InRange kind model x → k < width_of kind model
      → applied c at op.ShiftRight kind Int x (pos k) st ≡ Value (int_div_euclid x (pos (2 ^ k))) st
  shift-applied at kind x k st h lt =
      let P : Kind = promoted kind in
      ap (λ (l : ℤ). finish at st (arith_of arith_op.Shr P model l (converted Int model (pos k)))) (same P model x (promoted-is kind) (promoted-range kind model x h))
      ∙ ap (λ (r : ℤ). finish at st (arith_of arith_op.Shr P model x r)) (same Int model (pos k) refl (int-holds model k (omega (arith, lt, width_most kind model))))
      ∙ ap (finish at st) (shifts P model x k (omega (arith, lt, promoted-wide kind model)))

  mask-applied : (at : ℕ) (kind : Kind) (v : ℤ) (st : State) → InRange (promoted kind) model v
      → applied c at op.BitAnd (promoted kind) Int v (pos 1) st ≡ Value (pos (residue (width_of (promoted kind) model) v % 2)) st
  mask-applied at kind v st h =
      ap (λ (K : Kind). finish at st (arith_of arith_op.And K model (converted K model v) (converted K model (pos 1)))) (common-int kind model)
      ∙ ap (finish at st) (anded (promoted kind) model v (promoted-is kind) h)

  shift-read : (st : State) (at : ℕ) (e : Ex) (kind : Kind) (x : ℤ) (k : ℕ) → type_of env model e ≡ tKind kind → meant env model inputs functions call e st ≡ Value x st
      → InRange kind model x → k < width_of kind model
      → meant env model inputs functions call (eParen at (eBinary e op.ShiftRight at (number at k)) at) st ≡ Value (int_div_euclid x (pos (2 ^ k))) st
  shift-read st at e kind x k t v h lt =
      let n : Kind = number_kind model k (plain_form k) in
      ap (λ (g : Got ℤ). after g (λ (y : ℤ) (now : State). applied c at op.ShiftRight (kind_of (type_of env model e)) n y (pos k) now)) v
      ∙ ap (λ (y : CType). applied c at op.ShiftRight (kind_of y) n x (pos k) st) t
      ∙ ap (λ (l : Kind). applied c at op.ShiftRight kind l x (pos k) st) (small-kind model k (omega (arith, lt, width_most kind model)))
      ∙ shift-applied at kind x k st h lt

  bit-read : (st : State) (at : ℕ) (e : Ex) (kind : Kind) (x : ℤ) (k : ℕ) → type_of env model e ≡ tKind kind → meant env model inputs functions call e st ≡ Value x st
      → InRange kind model x → k < width_of kind model
      → meant env model inputs functions call (eParen at (eBinary (eParen at (eBinary e op.ShiftRight at (number at k)) at) op.BitAnd at (number at 1)) at) st
      ≡ Value (pos (bit_of k (residue (width_of kind model) x))) st
  bit-read st at e kind x k t v h lt =
      let n : Kind = number_kind model k (plain_form k) in
      let P : Kind = promoted kind in
      let y : ℤ = int_div_euclid x (pos (2 ^ k)) in
      let inside : InRange P model y = shr_in_range P model x k (promoted-range kind model x h) in
      ap (λ (g : Got ℤ). after g (λ (z : ℤ) (now : State). applied c at op.BitAnd (kind_of (binary_type model op.ShiftRight (type_of env model e) (tKind n))) Int z (pos 1) now))
      (shift-read st at e kind x k t v h lt)
      ∙ ap (λ (z : CType). applied c at op.BitAnd (kind_of (binary_type model op.ShiftRight z (tKind n))) Int y (pos 1) st) t
      ∙ mask-applied at kind y st inside
      ∙ ap (λ (m : ℕ). Value (pos m) st)
      (parity (width_of P model) y (width_some P model) (width_most P model) ∙ sym (parity (width_of kind model) y (width_some kind model) (width_most kind model))
      ∙ shifted-bit (width_of kind model) k x lt)

pub bits-are-read : BitsAreRead
bits-are-read env model inputs functions call st at e kind x k t v h lt = bit-read env model inputs functions call st at e kind x k t v h lt
