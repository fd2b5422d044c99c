-- The terms of C's operations, of operands that hold integers modulo two to the power of 64.
use Rattle.std.specs.Prelude.{ℕ, ◌≡◌, ◌==◌, Bool, true, false, if◌then◌else◌, List, [], ◌∷◌, Option, Some, None, Result, Ok, Err, ℤ, pos}
use Rattle.lv_base.specs.declared.kind.Kind.{Kind}
use Rattle.lv_base.specs.declared.kind.Model.{Model}
use Rattle.lv_base.specs.declared.kind.Op.{Op}
use Rattle.lv_base.specs.declared.kind.Op.TheVariants as arith
use Rattle.lv_base.specs.declared.fault.ErrorKind.{ErrorKind}
use Rattle.lv_base.specs.declared.fault.ErrorKind.TheVariants as error
use Rattle.lv_base.specs.Integers.{InAny, residue, converted, is_promoted, is_shift, is_zero, arith_of}
use Rattle.c_tree.specs.declared.symbol.BinaryOp.{BinaryOp}
use Rattle.c_run.specs.Operators.{op_of, is_turned, is_negated, is_logical, negated}
use Rattle.bv_term.specs.Numbers.{truth}
use Rattle.c_terms.specs.Numbers.{narrowed, zero_test, converted as word_converted}
use Rattle.c_terms.specs.Operations.{Failure, failure, if_signed, operation, failures, negation, negation_overflows}

-- what a slot's cell holds of an integer
abbrev pub slot : ℤ → ℕ
slot a = residue 64 a

-- ---- C's operations on values that are converted to the kind first

-- the right operand of a shift stays as it is
abbrev pub done : Op → Kind → Model → ℤ → ℤ → Result ℤ ErrorKind
done op kind model a b = arith_of op kind model (converted kind model a) (if is_shift op then b else converted kind model b)

abbrev pub turned_over : Bool → Result ℤ ErrorKind → Result ℤ ErrorKind
turned_over flip (Ok v) = Ok (negated flip v)
turned_over flip (Err e) = Err e

-- the operator of the source
abbrev pub meant : BinaryOp → Kind → Model → ℤ → ℤ → Result ℤ ErrorKind
meant o kind model a b = turned_over (is_negated o) (if is_turned o then done (op_of o) kind model b a else done (op_of o) kind model a b)

-- the error that is met, if one is
abbrev pub error_of : Result ℤ ErrorKind → Option ErrorKind
error_of (Ok v) = None
error_of (Err e) = Some e

-- the first test that is 1
abbrev pub first_met : List Failure → Option ErrorKind
first_met [] = None
first_met (x ∷ xs) = if x.when == 1 then Some x.kind else first_met xs

-- ---- The laws

-- a slot that is converted holds the converted integer
abbrev pub ConversionsAgree : Type 0
ConversionsAgree = (kind : Kind) (model : Model) (a : ℤ) → InAny a → word_converted kind model (slot a) ≡ slot (converted kind model a)

-- a slot is 0 where the integer is
abbrev pub ZerosAgree : Type 0
ZerosAgree = (a : ℤ) → InAny a → zero_test (slot a) ≡ truth (is_zero a)

-- where the operation meets no error, the term holds its result
abbrev pub OperationsAgree : Type 0
OperationsAgree =
    (o : BinaryOp) (kind : Kind) (model : Model) (a b v : ℤ) → is_promoted kind ≡ true → is_logical o ≡ false → InAny a → InAny b
    → meant o kind model a b ≡ Ok v → operation o kind model (narrowed kind model (slot a)) (narrowed kind model (slot b)) ≡ slot v

-- the first test that is 1 is that of the error which the operation meets; where it meets none, no test is 1
abbrev pub FailuresAgree : Type 0
FailuresAgree =
    (o : BinaryOp) (kind : Kind) (model : Model) (a b : ℤ) → is_promoted kind ≡ true → is_logical o ≡ false → InAny a → InAny b
    → first_met (failures o kind model (narrowed kind model (slot a)) (narrowed kind model (slot b)) (slot b)) ≡ error_of (meant o kind model a b)

-- a minus is a difference from 0
abbrev pub NegationsAgree : Type 0
NegationsAgree =
    (kind : Kind) (model : Model) (a : ℤ) → is_promoted kind ≡ true → InAny a
    → ((v : ℤ) → done arith.Sub kind model (pos 0) a ≡ Ok v → negation kind model (slot a) ≡ slot v)
    × (first_met (if_signed kind (failure error.Overflow (negation_overflows kind model (slot a)))) ≡ error_of (done arith.Sub kind model (pos 0) a))
