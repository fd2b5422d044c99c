-- Whether a term is well formed over a table, as a truth.
use Rattle.std.specs.Prelude.{ℕ, zero, suc, ◌+◌, ◌^◌, ◌==◌, ◌&&◌, Bool, true, nat_lt, nat_le, List, length, slice_index}
use Rattle.bv_term.specs.declared.term.TermId.{TermId}
use Rattle.bv_term.specs.declared.term.Term.{Term}
use Rattle.bv_term.specs.declared.term.Term.TheVariants.{Constant, Cell, Element, Add, Subtract, Multiply, Divide, Remainder, And, Or, Xor, Not, ShiftLeft, ShiftRight, ShiftSigned, Equal, Less, LessSigned, Select, ZeroExtend, SignExtend, Truncate, Bit}
use Rattle.bv_term.specs.WellFormed.{Table, widths}

abbrev pub is_width : ℕ → Bool
is_width w = nat_le 1 w && nat_le w 128

-- the number is that of an earlier term
abbrev pub is_there : List ℕ → TermId → Bool
is_there ws i = nat_lt i.0 (length ws)

-- both are there, and of one width
abbrev pub are_alike : List ℕ → TermId → TermId → Bool
are_alike ws i j = is_there ws i && (is_there ws j && slice_index ws i.0 == slice_index ws j.0)

-- the first n of the cells from this one on have the width
abbrev pub are_wide : List ℕ → ℕ → ℕ → ℕ → Bool
are_wide cells first w zero = true
are_wide cells first w (suc n) = are_wide cells first w n && slice_index cells (first + n) == w

-- the n cells from the first on are there, at least one, and all of one width
abbrev pub is_array : List ℕ → ℕ → ℕ → Bool
is_array cells first n = nat_le 1 n && (nat_le (first + n) (length cells) && are_wide cells first (slice_index cells first) n)

-- the term is well formed over cells and earlier terms of these widths
abbrev pub fits_over : List ℕ → List ℕ → Term → Bool
fits_over cells ws (Constant w v) = is_width w && nat_lt v (2 ^ w)
fits_over cells ws (Cell c) = nat_lt c (length cells)
fits_over cells ws (Element first n i) = is_array cells first n && is_there ws i
fits_over cells ws (Add i j) = are_alike ws i j
fits_over cells ws (Subtract i j) = are_alike ws i j
fits_over cells ws (Multiply i j) = are_alike ws i j
fits_over cells ws (Divide i j) = are_alike ws i j
fits_over cells ws (Remainder i j) = are_alike ws i j
fits_over cells ws (And i j) = are_alike ws i j
fits_over cells ws (Or i j) = are_alike ws i j
fits_over cells ws (Xor i j) = are_alike ws i j
fits_over cells ws (Not i) = is_there ws i
fits_over cells ws (ShiftLeft i j) = are_alike ws i j
fits_over cells ws (ShiftRight i j) = are_alike ws i j
fits_over cells ws (ShiftSigned i j) = are_alike ws i j
fits_over cells ws (Equal i j) = are_alike ws i j
fits_over cells ws (Less i j) = are_alike ws i j
fits_over cells ws (LessSigned i j) = are_alike ws i j
fits_over cells ws (Select i j k) = is_there ws i && (slice_index ws i.0 == 1 && are_alike ws j k)
fits_over cells ws (ZeroExtend w i) = is_there ws i && (is_width w && nat_le (slice_index ws i.0) w)
fits_over cells ws (SignExtend w i) = is_there ws i && (is_width w && nat_le (slice_index ws i.0) w)
fits_over cells ws (Truncate w i) = is_there ws i && (is_width w && nat_le w (slice_index ws i.0))
fits_over cells ws (Bit k i) = is_there ws i && nat_lt k (slice_index ws i.0)

-- the term is well formed over the table
abbrev pub fits_in : Table → Term → Bool
fits_in table t = fits_over table.cells (widths table) t
