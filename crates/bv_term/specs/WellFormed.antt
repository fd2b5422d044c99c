-- Tables of terms, widths, and when a term is well formed over the terms before it.
use Rattle.std.specs.Prelude.{ℕ, ◌+◌, ◌^◌, ◌<◌, ◌≤◌, ◌≡◌, List, [], ◌∷◌, ◌++◌, length, slice_index, All}
use Rattle.bv_term.specs.declared.term.TermId.{TermId}
use Rattle.bv_term.specs.declared.term.Term.{Term}
use Rattle.bv_term.specs.declared.term.Term.TheVariants.{Constant, Cell, Element, Add, Subtract, Multiply, Divide, Remainder, And, Or, Xor, Not, ShiftLeft, ShiftRight, ShiftSigned, Equal, Less, LessSigned, Select, ZeroExtend, SignExtend, Truncate, Bit}

-- a table: the widths of the cells that its terms may read, and its terms, each over those before it
pub record Table : Type 0 where
  pub cells : List ℕ
  pub terms : List Term

-- a width of a cell or a term
abbrev pub IsWidth : ℕ → Type 0
IsWidth w = (1 ≤ w) × (w ≤ 128)

-- the width of a term over cells and earlier terms of these widths
abbrev pub width_in : List ℕ → List ℕ → Term → ℕ
width_in cells widths (Constant w v) = w
width_in cells widths (Cell c) = slice_index cells c
width_in cells widths (Element first n i) = slice_index cells first
width_in cells widths (Add i j) = slice_index widths i.0
width_in cells widths (Subtract i j) = slice_index widths i.0
width_in cells widths (Multiply i j) = slice_index widths i.0
width_in cells widths (Divide i j) = slice_index widths i.0
width_in cells widths (Remainder i j) = slice_index widths i.0
width_in cells widths (And i j) = slice_index widths i.0
width_in cells widths (Or i j) = slice_index widths i.0
width_in cells widths (Xor i j) = slice_index widths i.0
width_in cells widths (Not i) = slice_index widths i.0
width_in cells widths (ShiftLeft i j) = slice_index widths i.0
width_in cells widths (ShiftRight i j) = slice_index widths i.0
width_in cells widths (ShiftSigned i j) = slice_index widths i.0
width_in cells widths (Equal i j) = 1
width_in cells widths (Less i j) = 1
width_in cells widths (LessSigned i j) = 1
width_in cells widths (Select i j k) = slice_index widths j.0
width_in cells widths (ZeroExtend w i) = w
width_in cells widths (SignExtend w i) = w
width_in cells widths (Truncate w i) = w
width_in cells widths (Bit k i) = 1

-- the number is that of an earlier term
abbrev pub IsThere : List ℕ → TermId → Type 0
IsThere widths i = i.0 < length widths

-- both are there, and of one width
abbrev pub AreAlike : List ℕ → TermId → TermId → Type 0
AreAlike widths i j =
    IsThere widths i × IsThere widths j × (slice_index widths i.0 ≡ slice_index widths j.0)

-- the n cells from the first on are there, at least one, and all of one width
abbrev pub IsArray : List ℕ → ℕ → ℕ → Type 0
IsArray cells first n =
    (1 ≤ n) × (first + n ≤ length cells)
    × ((k : ℕ) → k < n → slice_index cells (first + k) ≡ slice_index cells first)

-- the term is well formed over cells and earlier terms of these widths
abbrev pub Fits : List ℕ → List ℕ → Term → Type 0
Fits cells widths (Constant w v) = IsWidth w × (v < 2 ^ w)
Fits cells widths (Cell c) = c < length cells
Fits cells widths (Element first n i) = IsArray cells first n × IsThere widths i
Fits cells widths (Add i j) = AreAlike widths i j
Fits cells widths (Subtract i j) = AreAlike widths i j
Fits cells widths (Multiply i j) = AreAlike widths i j
Fits cells widths (Divide i j) = AreAlike widths i j
Fits cells widths (Remainder i j) = AreAlike widths i j
Fits cells widths (And i j) = AreAlike widths i j
Fits cells widths (Or i j) = AreAlike widths i j
Fits cells widths (Xor i j) = AreAlike widths i j
Fits cells widths (Not i) = IsThere widths i
Fits cells widths (ShiftLeft i j) = AreAlike widths i j
Fits cells widths (ShiftRight i j) = AreAlike widths i j
Fits cells widths (ShiftSigned i j) = AreAlike widths i j
Fits cells widths (Equal i j) = AreAlike widths i j
Fits cells widths (Less i j) = AreAlike widths i j
Fits cells widths (LessSigned i j) = AreAlike widths i j
Fits cells widths (Select i j k) =
    IsThere widths i × (slice_index widths i.0 ≡ 1) × AreAlike widths j k
Fits cells widths (ZeroExtend w i) =
    IsThere widths i × IsWidth w × (slice_index widths i.0 ≤ w)
Fits cells widths (SignExtend w i) =
    IsThere widths i × IsWidth w × (slice_index widths i.0 ≤ w)
Fits cells widths (Truncate w i) =
    IsThere widths i × IsWidth w × (w ≤ slice_index widths i.0)
Fits cells widths (Bit k i) = IsThere widths i × (k < slice_index widths i.0)

-- the widths of earlier terms, and then of these
abbrev pub widths_after : List ℕ → List ℕ → List Term → List ℕ
widths_after cells widths [] = widths
widths_after cells widths (t ∷ ts) = widths_after cells (widths ++ width_in cells widths t ∷ []) ts

-- each of these terms is well formed over the earlier ones
abbrev pub AllFit : List ℕ → List ℕ → List Term → Type 0
AllFit cells widths [] = Unit {0}
AllFit cells widths (t ∷ ts) = Fits cells widths t × AllFit cells (widths ++ width_in cells widths t ∷ []) ts

-- the widths of a table's terms, in their order
abbrev pub widths : Table → List ℕ
widths table = widths_after table.cells [] table.terms

-- the term is well formed over the table
abbrev pub FitsTable : Table → Term → Type 0
FitsTable table t = Fits table.cells (widths table) t

-- each cell has a width, and each term is well formed over those before it
pub record IsTable (table : Table) : Type 0 where
  pub cells : All IsWidth table.cells
  pub terms : AllFit table.cells [] table.terms

-- the table with the term at its end
abbrev pub with_term : Table → Term → Table
with_term table t = record { cells = table.cells; terms = table.terms ++ t ∷ [] }
