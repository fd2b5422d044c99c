-- The operands of terms: what holds of each, and terms with others in their place.
use Rattle.std.specs.Prelude.{ℕ, ◌<◌, ◌≡◌, List, length, slice_index}
use Rattle.bv_term.specs.declared.term.TermId.{TermId}
use Rattle.bv_term.specs.declared.term.Term.{Term}
use Rattle.bv_term.specs.declared.term.Term.TheVariants.{Constant, Cell, Element, Add, Subtract, Multiply, Divide, Remainder, And, Or, Xor, Not, ShiftLeft, ShiftRight, ShiftSigned, Equal, Less, LessSigned, Select, ZeroExtend, SignExtend, Truncate, Bit}

-- each operand of the term has the property
abbrev pub OnOperands : (TermId → Type 0) → Term → Type 0
OnOperands P (Constant w v) = Unit {0}
OnOperands P (Cell c) = Unit {0}
OnOperands P (Element first n i) = P i
OnOperands P (Add i j) = P i × P j
OnOperands P (Subtract i j) = P i × P j
OnOperands P (Multiply i j) = P i × P j
OnOperands P (Divide i j) = P i × P j
OnOperands P (Remainder i j) = P i × P j
OnOperands P (And i j) = P i × P j
OnOperands P (Or i j) = P i × P j
OnOperands P (Xor i j) = P i × P j
OnOperands P (Not i) = P i
OnOperands P (ShiftLeft i j) = P i × P j
OnOperands P (ShiftRight i j) = P i × P j
OnOperands P (ShiftSigned i j) = P i × P j
OnOperands P (Equal i j) = P i × P j
OnOperands P (Less i j) = P i × P j
OnOperands P (LessSigned i j) = P i × P j
OnOperands P (Select i j k) = P i × P j × P k
OnOperands P (ZeroExtend w i) = P i
OnOperands P (SignExtend w i) = P i
OnOperands P (Truncate w i) = P i
OnOperands P (Bit n i) = P i

-- the term with these operands in place of its own
abbrev pub renamed : (TermId → TermId) → Term → Term
renamed f (Constant w v) = Constant w v
renamed f (Cell c) = Cell c
renamed f (Element first n i) = Element first n (f i)
renamed f (Add i j) = Add (f i) (f j)
renamed f (Subtract i j) = Subtract (f i) (f j)
renamed f (Multiply i j) = Multiply (f i) (f j)
renamed f (Divide i j) = Divide (f i) (f j)
renamed f (Remainder i j) = Remainder (f i) (f j)
renamed f (And i j) = And (f i) (f j)
renamed f (Or i j) = Or (f i) (f j)
renamed f (Xor i j) = Xor (f i) (f j)
renamed f (Not i) = Not (f i)
renamed f (ShiftLeft i j) = ShiftLeft (f i) (f j)
renamed f (ShiftRight i j) = ShiftRight (f i) (f j)
renamed f (ShiftSigned i j) = ShiftSigned (f i) (f j)
renamed f (Equal i j) = Equal (f i) (f j)
renamed f (Less i j) = Less (f i) (f j)
renamed f (LessSigned i j) = LessSigned (f i) (f j)
renamed f (Select i j k) = Select (f i) (f j) (f k)
renamed f (ZeroExtend w i) = ZeroExtend w (f i)
renamed f (SignExtend w i) = SignExtend w (f i)
renamed f (Truncate w i) = Truncate w (f i)
renamed f (Bit n i) = Bit n (f i)

-- an operand's new number is there among these, and has there what the operand has among those
pub record Follows (f : TermId → TermId) (old new : List ℕ) (i : TermId) : Type 0 where
  pub there : (f i).0 < length new
  pub same : slice_index new (f i).0 ≡ slice_index old i.0
