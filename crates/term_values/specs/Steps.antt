-- The terms of a cone: where each has its value from, and its operands under their numbers in the cone.
use Rattle.std.specs.Prelude.{ℕ, ◌≡◌, List, [], ◌∷◌, Option, None, Some, nat_eq, if◌then◌else◌}
use Rattle.bv_term.specs.declared.term.TermId.{TermId}
use Rattle.bv_term.specs.declared.term.Term.{Term}
use Rattle.bv_term.specs.declared.term.Term.TheVariants.{Constant, Cell, Element, Add, Subtract, Multiply, Divide, Remainder, And, Or, Xor, Not, ShiftLeft, ShiftRight, ShiftSigned, Equal, Less, LessSigned, Select, ZeroExtend, SignExtend, Truncate, Bit}
use Rattle.term_values.specs.declared.step.Source.{Source}
use Rattle.term_values.specs.declared.step.Source.TheVariants.{Stored, Indexed, Computed}

-- where a term has its value from
abbrev pub source_of : Term → Source
source_of (Cell c) = Stored c
source_of (Element first n i) = Indexed first n i
source_of t = Computed

-- what stands for a term in a table without cells: itself where it is computed, else a constant of its width
abbrev pub shape_of : Source → ℕ → Term → Term
shape_of (Stored c) w t = Constant w 0
shape_of (Indexed first n i) w t = Constant w 0
shape_of Computed w t = t

-- the term that has its value from there, what stands for it being this
abbrev pub step_of : Source → Term → Term
step_of (Stored c) t = Cell c
step_of (Indexed first n i) t = Element first n i
step_of Computed t = t

-- so of each of them
abbrev pub steps_of : List Source → List Term → List Term
steps_of [] ts = []
steps_of (s ∷ ss) [] = []
steps_of (s ∷ ss) (t ∷ ts) = step_of s t ∷ steps_of ss ts

abbrev pub or_zero : Option ℕ → ℕ
or_zero None = 0
or_zero (Some k) = k

-- the number in the cone of a term, 0 where it has none
abbrev pub number_in : (ℕ → Option ℕ) → TermId → TermId
number_in find i = record { 0 = or_zero (find i.0) }

-- the operand where it has no number, else what others lack
abbrev pub or_lacking : Option ℕ → TermId → Option TermId → Option TermId
or_lacking None i others = Some i
or_lacking (Some k) i others = others

-- the first of two operands that has no number
abbrev pub lacking_two : (ℕ → Option ℕ) → TermId → TermId → Option TermId
lacking_two find i j = or_lacking (find i.0) i (or_lacking (find j.0) j None)

-- the first operand of a term that has no number
abbrev pub lacking : (ℕ → Option ℕ) → Term → Option TermId
lacking find (Constant w v) = None
lacking find (Cell c) = None
lacking find (Element first n i) = or_lacking (find i.0) i None
lacking find (Add i j) = lacking_two find i j
lacking find (Subtract i j) = lacking_two find i j
lacking find (Multiply i j) = lacking_two find i j
lacking find (Divide i j) = lacking_two find i j
lacking find (Remainder i j) = lacking_two find i j
lacking find (And i j) = lacking_two find i j
lacking find (Or i j) = lacking_two find i j
lacking find (Xor i j) = lacking_two find i j
lacking find (Not i) = or_lacking (find i.0) i None
lacking find (ShiftLeft i j) = lacking_two find i j
lacking find (ShiftRight i j) = lacking_two find i j
lacking find (ShiftSigned i j) = lacking_two find i j
lacking find (Equal i j) = lacking_two find i j
lacking find (Less i j) = lacking_two find i j
lacking find (LessSigned i j) = lacking_two find i j
lacking find (Select i j k) = or_lacking (find i.0) i (lacking_two find j k)
lacking find (ZeroExtend w i) = or_lacking (find i.0) i None
lacking find (SignExtend w i) = or_lacking (find i.0) i None
lacking find (Truncate w i) = or_lacking (find i.0) i None
lacking find (Bit n i) = or_lacking (find i.0) i None

-- the term has a number in the cone
abbrev pub IsPlaced : (ℕ → Option ℕ) → TermId → Type 0
IsPlaced find i = (k : ℕ) × (find i.0 ≡ Some k)

-- one term has this number now, and each other what it had
abbrev pub IsPlacing : (ℕ → Option ℕ) → (ℕ → Option ℕ) → ℕ → ℕ → Type 0
IsPlacing old new term at = (k : ℕ) → new k ≡ (if nat_eq term k then Some at else old k)
