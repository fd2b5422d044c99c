-- The cells that terms read, put among those that are needed. Needed cells are a list in rising order, each once.
use Rattle.std.specs.Prelude.{ℕ, ◌+◌, Bool, false, ◌||◌, List, [], ◌∷◌, zero, suc}
use Rattle.std.specs.Ordering.{nat_cmp}
use Rattle.std.specs.BTreeMap.{is_at}
use Rattle.std.specs.BTreeSet.{insert_key}
use Rattle.std.specs.List.{list_any}
use Rattle.std.specs.Set.{remove_key}
use Rattle.bv_term.specs.declared.term.Term.{Term}
use Rattle.bv_term.specs.declared.term.Term.TheVariants.{Constant, Cell, Element, Add, Subtract, Multiply, Divide, Remainder, And, Or, Xor, Not, ShiftLeft, ShiftRight, ShiftSigned, Equal, Less, LessSigned, Select, ZeroExtend, SignExtend, Truncate, Bit}
use Rattle.bv_term.specs.WellFormed.{Table}
use Rattle.bit_blast.specs.Cone.{cone_of}
use Rattle.bit_blast.specs.Emission.{term_at}
use Rattle.path_formula.specs.declared.reads.Span.{Span}

-- n cells from a cell on
abbrev pub cells_from : ℕ → ℕ → List ℕ
cells_from first zero = []
cells_from first (suc n) = first ∷ cells_from (first + 1) n

abbrev pub no_cells : Span
no_cells = record { first = 0; count = 0 }

-- the cells that a term reads by itself
abbrev pub span_of : Term → Span
span_of (Constant w v) = no_cells
span_of (Cell c) = record { first = c; count = 1 }
span_of (Element first n i) = record { first = first; count = n }
span_of (Add i j) = no_cells
span_of (Subtract i j) = no_cells
span_of (Multiply i j) = no_cells
span_of (Divide i j) = no_cells
span_of (Remainder i j) = no_cells
span_of (And i j) = no_cells
span_of (Or i j) = no_cells
span_of (Xor i j) = no_cells
span_of (Not i) = no_cells
span_of (ShiftLeft i j) = no_cells
span_of (ShiftRight i j) = no_cells
span_of (ShiftSigned i j) = no_cells
span_of (Equal i j) = no_cells
span_of (Less i j) = no_cells
span_of (LessSigned i j) = no_cells
span_of (Select i j k) = no_cells
span_of (ZeroExtend w i) = no_cells
span_of (SignExtend w i) = no_cells
span_of (Truncate w i) = no_cells
span_of (Bit k i) = no_cells

-- whether a cell is needed
abbrev pub is_needed : List ℕ → ℕ → Bool
is_needed needed c = list_any (is_at (nat_cmp c)) needed

-- whether one of some cells is
abbrev pub some_needed : List ℕ → List ℕ → Bool
some_needed needed [] = false
some_needed needed (c ∷ cs) = is_needed needed c || some_needed needed cs

-- the needed cells but one
abbrev pub without : ℕ → List ℕ → List ℕ
without c needed = remove_key (is_at (nat_cmp c)) needed

-- the needed cells and some more
abbrev pub with_cells : List ℕ → List ℕ → List ℕ
with_cells needed [] = needed
with_cells needed (c ∷ cs) = with_cells (insert_key nat_cmp needed c) cs

-- the needed cells and those that the terms of these numbers read by themselves
abbrev pub with_terms : List Term → List ℕ → List ℕ → List ℕ
with_terms ts needed [] = needed
with_terms ts needed (k ∷ ks) =
    let s = span_of (term_at ts k) in
    with_terms ts (with_cells needed (cells_from s.first s.count)) ks

-- the needed cells and those that a term reads, by itself and through its operands
abbrev pub with_read : Table → ℕ → List ℕ → List ℕ
with_read table t needed = with_terms table.terms needed (cone_of table.terms [] t)
