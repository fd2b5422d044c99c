-- What is tested of the cells that terms are said to read.
use Rattle.std.specs.Prelude.{ℕ, ◌+◌, ◌<◌, ◌≡◌, true, Some, slice_get}
use Rattle.bv_term.specs.declared.term.TermId.{TermId}
use Rattle.bv_term.specs.declared.term.Term.{Term}
use Rattle.bv_term.specs.declared.term.Term.TheVariants.{Constant, Cell, Element, Add, Subtract, Multiply, Divide, Remainder, And, Or, Xor, Not, ShiftLeft, ShiftRight, ShiftSigned, Equal, Less, LessSigned, Select, ZeroExtend, SignExtend, Truncate, Bit}
use Rattle.bv_term.specs.WellFormed.{Table}
use Rattle.term_laws.specs.Operands.{OnOperands}
use Rattle.block_rule.specs.Plans.{Plan}

-- the cells that a term reads by itself are said to be read by the term of this number
abbrev pub ReadsOwn : Plan → ℕ → Term → Type 0
ReadsOwn plan k (Cell c) = plan.reads k c ≡ true
ReadsOwn plan k (Element first n i) = (j : ℕ) → j < n → plan.reads k (first + j) ≡ true
ReadsOwn plan k _ = Unit {0}

-- what an operand is said to read the term of this number is said to read
abbrev pub ReadsOperand : Plan → ℕ → TermId → Type 0
ReadsOperand plan k i = (c : ℕ) → plan.reads i.0 c ≡ true → plan.reads k c ≡ true

-- each term is said to read the cells that it reads by itself, and all that its operands are said to read
abbrev pub AreReads : Table → Plan → Type 0
AreReads table plan =
    (k : ℕ) (u : Term) → slice_get table.terms k ≡ Some u → ReadsOwn plan k u × OnOperands (ReadsOperand plan k) u
