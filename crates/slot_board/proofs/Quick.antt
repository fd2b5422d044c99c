-- What an operation gives where the value is one of the kind's own.
use Rattle.std.proofs.Common.{◌≡◌, ◌∙◌, ap, sym, subst, refl, ℕ, zero, suc, ◌%◌, ◌<◌, ◌^◌, ◌-◌, ◌+◌, if◌then◌else◌, ℤ, pos, negsuc, ◌*ℤ◌, ◌≤ℤ◌, ◌<ℤ◌, FitsSigned, Bool, true, false, Result, Ok, Err, arith, lit<, to_z, of_z}
use Rattle.std.specs.Int.{w128}
use Rattle.std.specs.Prelude.{MatchBool, Option, IfSome, int_div, int_rem}
use Rattle.std.proofs.lemmas.Int.{ints}
use Rattle.std.proofs.lemmas.Bool.{lt-ltb, le-ltb}
use Rattle.std.proofs.Math.Nat.{mod-eq_of_lt}
use Rattle.lv_base.specs.declared.kind.Kind.{Kind}
use Rattle.lv_base.specs.declared.kind.Kind.TheVariants.{Bool as ABool, Char, UChar, Short, UShort, Int, UInt, Long, ULong, LongLong, ULongLong}
use Rattle.lv_base.specs.declared.kind.Model.{Model}
use Rattle.lv_base.specs.declared.kind.Model.TheVariants.{Ilp32, Lp64}
use Rattle.lv_base.specs.declared.kind.Op.{Op}
use Rattle.lv_base.specs.declared.fault.ErrorKind.{ErrorKind}
use Rattle.lv_base.specs.declared.fault.ErrorKind.TheVariants.{Overflow, Zero}
use Rattle.lv_base.specs.Integers.{InRange, InAny, IsRight, is_in_range, is_shift, is_signed, is_promoted, is_zero, least_of, greatest_of, residue, signed_of, converted, held, exact, quotient, remainder}
use Rattle.typed_range_laws.proofs.Ranging.{in_range_test, guard_open}
use Rattle.quick_integers.proofs.Fits.{in_any, signed_in_any, product_fits, product_is, quotient_within}
use Rattle.c_tree.specs.declared.symbol.BinaryOp.{BinaryOp}
use Rattle.c_run.specs.Operators.{op_of, is_turned, is_negated}
use Rattle.slot_board.specs.Seen.{finished, applied_value, plain_value}

pub finished_plain : (r : Result ℤ ErrorKind) → finished false r ≡ r
finished_plain (Ok v) = refl
finished_plain (Err e) = refl

-- ---- Conversions

unsigned_same : (bits a : ℕ) → a < 2 ^ bits → pos (a % 2 ^ bits) ≡ pos a
unsigned_same bits a h = ap pos (mod-eq_of_lt h)

above_same : (bits a : ℕ) → a < 2 ^ (bits - 1) → a < 2 ^ bits → signed_of bits (residue bits (pos a)) ≡ pos a
above_same bits a h k =
    ap (signed_of bits) (mod-eq_of_lt k) ∙ ap (λ b. if b then pos a else negsuc (2 ^ bits - 1 - a)) (lt-ltb a (2 ^ (bits - 1)) h)

below_same : (bits a : ℕ) → a < 2 ^ (bits - 1) → 2 ^ bits ≡ 2 ^ (bits - 1) + 2 ^ (bits - 1) → signed_of bits (residue bits (negsuc a)) ≡ negsuc a
below_same bits a h k =
    let low : ℕ = 2 ^ bits - 1 - a in
    ap (λ r. signed_of bits (2 ^ bits - 1 - r)) (mod-eq_of_lt (omega (arith, h, k)))
    ∙ ap (λ b. if b then pos low else negsuc (2 ^ bits - 1 - low)) (le-ltb low (2 ^ (bits - 1)) (omega (arith, h, k)))
    ∙ ap negsuc (omega (arith, h, k))

signed_same : (bits : ℕ) (v : ℤ) → negsuc (2 ^ (bits - 1) - 1) ≤ℤ v → v ≤ℤ pos (2 ^ (bits - 1) - 1) → 0 < 2 ^ (bits - 1) → 2 ^ bits ≡ 2 ^ (bits - 1) + 2 ^ (bits - 1) → signed_of bits (residue bits v) ≡ v
signed_same bits (pos a) low high some k = above_same bits a (omega (arith, ints)) (omega (arith, ints))
signed_same bits (negsuc a) low high some k = below_same bits a (omega (arith, ints)) k

plain_same : (bits : ℕ) (v : ℤ) → pos 0 ≤ℤ v → v ≤ℤ pos (2 ^ bits - 1) → 0 < 2 ^ bits → pos (residue bits v) ≡ v
plain_same bits (pos a) low high some = unsigned_same bits a (omega (arith, ints))
plain_same bits (negsuc a) low high some = absurd (omega (arith, ints))

truth_same : (v : ℤ) → pos 0 ≤ℤ v → v ≤ℤ pos 1 → converted ABool Lp64 v ≡ v
truth_same (pos zero) low high = refl
truth_same (pos (suc zero)) low high = refl
truth_same (pos (suc (suc a))) low high = absurd (omega (arith, ints))
truth_same (negsuc a) low high = absurd (omega (arith, ints))

within : (kind : Kind) (model : Model) (v : ℤ) → InRange kind model v → converted kind model v ≡ v
within ABool model v h = truth_same v h.0 h.1
within Char model v h = signed_same 8 v h.0 h.1 (lit< tt) refl
within UChar model v h = plain_same 8 v h.0 h.1 (lit< tt)
within Short model v h = signed_same 16 v h.0 h.1 (lit< tt) refl
within UShort model v h = plain_same 16 v h.0 h.1 (lit< tt)
within Int model v h = signed_same 32 v h.0 h.1 (lit< tt) refl
within UInt model v h = plain_same 32 v h.0 h.1 (lit< tt)
within Long Ilp32 v h = signed_same 32 v h.0 h.1 (lit< tt) refl
within Long Lp64 v h = signed_same 64 v h.0 h.1 (lit< tt) refl
within ULong Ilp32 v h = plain_same 32 v h.0 h.1 (lit< tt)
within ULong Lp64 v h = plain_same 64 v h.0 h.1 (lit< tt)
within LongLong model v h = signed_same 64 v h.0 h.1 (lit< tt) refl
within ULongLong model v h = plain_same 64 v h.0 h.1 (lit< tt)

pub converted_same : (kind : Kind) (model : Model) (v : ℤ) → InRange kind model v → v ≡ converted kind model v
converted_same kind model v h = sym (within kind model v h)

-- ---- Sums, differences and products

exact_by : (b : Bool) (kind : Kind) (model : Model) (v : ℤ) → InRange kind model v → Ok v ≡ (if b then held kind model Overflow v else Ok (converted kind model v))
exact_by true kind model v h = sym (ap (λ t. if t then Ok v else Err Overflow) (in_range_test kind model v h))
exact_by false kind model v h = ap Ok (converted_same kind model v h)

pub exact_same : (kind : Kind) (model : Model) (v : ℤ) → InRange kind model v → Ok v ≡ exact kind model v
exact_same kind model v h = exact_by (is_signed kind) kind model v h

-- a value between the ends of a kind is one of the kind
pub in_kind : (low : ℤ) (high : ℕ) (kind : Kind) (model : Model) (v : ℤ) → low ≡ least_of kind model → pos high ≡ greatest_of kind model → (low ≤ℤ v) × (v ≤ℤ pos high) → InRange kind model v
in_kind low high kind model v l h b = (subst (λ (z : ℤ). z ≤ℤ v) l b.0, subst (λ (z : ℤ). v ≤ℤ z) h b.1)

pub exact_between : (low : ℤ) (high : ℕ) (kind : Kind) (model : Model) (v : ℤ) → low ≡ least_of kind model → pos high ≡ greatest_of kind model → (low ≤ℤ v) × (v ≤ℤ pos high) → Ok v ≡ exact kind model v
exact_between low high kind model v l h b = exact_same kind model v (in_kind low high kind model v l h b)

-- ---- Operands of a kind

-- a value of the kind may be the right operand of any operation
pub right_of : (op : Op) (kind : Kind) (model : Model) (v : ℤ) → InRange kind model v → IsRight op kind model v
right_of op kind model v h = by_shift (is_shift op)
  where
    by_shift : (b : Bool) → MatchBool b (InAny v) (InRange kind model v)
    by_shift true = in_any kind model v h
    by_shift false = h

pub opened : (o : BinaryOp) (kind : Kind) (model : Model) (x y : ℤ) → is_promoted kind ≡ true → InRange kind model x → InRange kind model y → plain_value model o kind x y ≡ applied_value model o kind x y
opened o kind model x y p hx hy =
    let straight = guard_open (op_of o) kind model x y p hx (right_of (op_of o) kind model y hy) in
    let turned = guard_open (op_of o) kind model y x p hy (right_of (op_of o) kind model x hx) in
    ap (finished (is_negated o)) (by_turn (is_turned o) (sym turned) (sym straight))
  where
    by_turn : {A : Type 0} {a b c d : A} (t : Bool) → a ≡ b → c ≡ d → (if t then a else c) ≡ (if t then b else d)
    by_turn true e f = e
    by_turn false e f = f

-- what is a value of one is a value of the same
pub some_same : (o : Option ℤ) (r s : Result ℤ ErrorKind) → r ≡ s → IfSome o (λ v. Ok v ≡ r) → IfSome o (λ v. Ok v ≡ s)
some_same o r s e h = subst (λ (t : Result ℤ ErrorKind). IfSome o (λ v. Ok v ≡ t)) e h

pub product_some : (kind : Kind) (model : Model) (o : Option ℤ) (a b : ℤ) → is_signed kind ≡ true → InRange kind model a → InRange kind model b → FitsSigned w128 a → FitsSigned w128 b →
    IfSome o (λ v. Ok v ≡ exact kind model (to_z w128 (of_z w128 (to_z w128 (of_z w128 a) *ℤ to_z w128 (of_z w128 b))))) → IfSome o (λ v. Ok v ≡ exact kind model (a *ℤ b))
product_some kind model o a b is ha hb fa fb h =
    let fits : FitsSigned w128 (a *ℤ b) = product_fits a b (signed_in_any kind model a is ha) (signed_in_any kind model b is hb) in
    some_same o _ _ (ap (exact kind model) (product_is a b fa fb fits)) h

-- ---- Quotients with no sign

nonzero : (d : ℤ) → pos 0 <ℤ d → is_zero d ≡ false
nonzero (pos zero) h = absurd (omega (arith, ints))
nonzero (pos (suc d)) h = grind arith
nonzero (negsuc d) h = refl

above : (d : ℤ) → pos 0 <ℤ d → pos 0 ≤ℤ d
above d h = omega (arith, ints)

pub plain_quotient : (kind : Kind) (model : Model) (left right : ℤ) → InRange kind model left → (pos 0 ≤ℤ left) × (pos 0 <ℤ right) → Ok (int_div left right) ≡ quotient kind model left right
plain_quotient kind model left right h plain =
    let within = quotient_within kind model left right h plain.0 (above right plain.1) in
    sym (ap (λ b. if b then Err Zero else held kind model Overflow (int_div left right)) (nonzero right plain.1) ∙ ap (λ b. if b then Ok (int_div left right) else Err Overflow) within)

pub plain_rest : (kind : Kind) (model : Model) (left right : ℤ) → InRange kind model left → (pos 0 ≤ℤ left) × (pos 0 <ℤ right) → Ok (int_rem left right) ≡ remainder kind model left right
plain_rest kind model left right h plain =
    let within = quotient_within kind model left right h plain.0 (above right plain.1) in
    sym (ap (λ b. if b then Err Zero else if is_in_range kind model (int_div left right) then Ok (int_rem left right) else Err Overflow) (nonzero right plain.1)
    ∙ ap (λ b. if b then Ok (int_rem left right) else Err Overflow) within)
