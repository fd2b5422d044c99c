-- How many literals a term, and a store at an index, may add.
use Rattle.std.specs.Prelude.{ℕ, ◌+◌, ◌*◌, List, [], ◌∷◌, slice_index, max, Option, Some, None}
use Rattle.prop.specs.declared.Lit.{Lit}
use Rattle.bv_term.specs.declared.term.Term.{Term}
use Rattle.bv_term.specs.declared.term.Term.TheVariants.{Constant, Cell, Element, Add, Subtract, Multiply, Divide, Remainder, And, Or, Xor, Not, ShiftLeft, ShiftRight, ShiftSigned, Equal, Less, LessSigned, Select, ZeroExtend, SignExtend, Truncate, Bit}
use Rattle.bv_term.specs.WellFormed.{Table, widths}
use Rattle.bit_blast.specs.Emission.{term_at}

-- of a product or quotient of words of this width
abbrev pub wide : ℕ → ℕ
wide w = 256 * (w * w) + 1024 * w

-- of an operation that is linear in the width
abbrev pub plain : ℕ → ℕ
plain w = 256 * w + 64

-- of a term, from the widths of cells and of the terms: the greatest width in it counts
abbrev pub bound_of : List ℕ → List ℕ → Term → ℕ
bound_of cells ws (Constant w v) = 0
bound_of cells ws (Cell c) = 0
bound_of cells ws (Element first n i) =
    64 * (n * max (slice_index cells first) (slice_index ws i.0)) + 1024 * max (slice_index cells first) (slice_index ws i.0)
bound_of cells ws (Add i j) = plain (slice_index ws i.0)
bound_of cells ws (Subtract i j) = plain (slice_index ws i.0)
bound_of cells ws (Multiply i j) = wide (slice_index ws i.0)
bound_of cells ws (Divide i j) = wide (slice_index ws i.0)
bound_of cells ws (Remainder i j) = wide (slice_index ws i.0)
bound_of cells ws (And i j) = plain (slice_index ws i.0)
bound_of cells ws (Or i j) = plain (slice_index ws i.0)
bound_of cells ws (Xor i j) = plain (slice_index ws i.0)
bound_of cells ws (Not i) = plain (slice_index ws i.0)
bound_of cells ws (ShiftLeft i j) = plain (slice_index ws i.0)
bound_of cells ws (ShiftRight i j) = plain (slice_index ws i.0)
bound_of cells ws (ShiftSigned i j) = plain (slice_index ws i.0)
bound_of cells ws (Equal i j) = plain (slice_index ws i.0)
bound_of cells ws (Less i j) = plain (slice_index ws i.0)
bound_of cells ws (LessSigned i j) = plain (slice_index ws i.0)
bound_of cells ws (Select i j k) = plain (slice_index ws j.0)
bound_of cells ws (ZeroExtend w i) = 0
bound_of cells ws (SignExtend w i) = 0
bound_of cells ws (Truncate w i) = 0
bound_of cells ws (Bit k i) = 0

-- of the terms with these numbers together
abbrev pub bounds_of : Table → List ℕ → ℕ
bounds_of table [] = 0
bounds_of table (k ∷ ks) = bounds_of table ks + bound_of table.cells (widths table) (term_at table.terms k)

-- of a value that is stored at an index among n cells of its width
abbrev pub store_bound : ℕ → ℕ → ℕ
store_bound n w = 128 * (n * w) + 1024 * w

-- of the constant literal: its clause, where there is none yet
abbrev pub constant_bound : Option Lit → ℕ
constant_bound None = 1
constant_bound (Some l) = 0
