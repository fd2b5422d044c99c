-- What the look-ups answer, by the tables' terms.
use Rattle.std.specs.Prelude.{ℕ, ◌==◌, ◌&&◌, Bool, false, nat_lt, length, slice_index, slice_get, Option, None, Some, if◌then◌else◌}
use Rattle.bv_term.specs.declared.term.TermId.{TermId}
use Rattle.bv_term.specs.declared.term.Term.{Term}
use Rattle.bv_term.specs.declared.term.Term.TheVariants.{Constant, Cell, And, Or, Not, Select}
use Rattle.bv_term.specs.WellFormed.{Table, widths}

-- the term of a number, none past the end
abbrev pub term_at : Table → TermId → Option Term
term_at table t = slice_get table.terms t.0

-- whether the term is there and has one bit
abbrev pub is_one_wide : Table → TermId → Bool
is_one_wide table t = nat_lt t.0 (length table.terms) && slice_index (widths table) t.0 == 1

-- the cell of a term that is one
abbrev pub cell_in : Option Term → Option ℕ
cell_in (Some (Cell c)) = Some c
cell_in _ = None

-- the cell of the term of a number, if it is one
abbrev pub cell_of : Table → TermId → Option ℕ
cell_of table t = cell_in (term_at table t)

-- whether a term that is this cell is the bit of that one
abbrev pub is_bit_of : Table → TermId → ℕ → ℕ → Bool
is_bit_of table t found cell = found == cell && is_one_wide table t

-- whether a term whose cell was found is the bit of that cell
abbrev pub cell_bit_in : Table → TermId → ℕ → Option ℕ → Bool
cell_bit_in table t cell None = false
cell_bit_in table t cell (Some found) = is_bit_of table t found cell

-- whether the term is the bit of a cell
abbrev pub is_cell_bit : Table → TermId → ℕ → Bool
is_cell_bit table t cell = cell_bit_in table t cell (cell_of table t)

-- whether the term is one of the old table
abbrev pub is_old : Table → TermId → Bool
is_old old t = nat_lt t.0 (length old.terms)

-- whether the term is one of the old table, and has one bit
abbrev pub is_old_bit : Table → Table → TermId → Bool
is_old_bit old table t = is_old old t && is_one_wide table t

-- whether what was found is the constant 1
abbrev pub one_bit_in : Option Term → Bool
one_bit_in (Some (Constant width v)) = v == 1
one_bit_in _ = false

-- whether the term is the bit 1
abbrev pub is_one_bit : Table → TermId → Bool
is_one_bit table t = one_bit_in (term_at table t)

-- whether the second part is the test's term, and the first the cell's bit
abbrev pub is_both : Table → Table → (first second : TermId) → ℕ → TermId → Bool
is_both old table first second cell test = second.0 == test.0 && is_cell_bit table first cell && is_old_bit old table test

-- whether what was found is both: the bit of a cell, and an old term
abbrev pub bit_under_in : Table → Table → ℕ → TermId → Option Term → Bool
bit_under_in old table cell test (Some (And first second)) = is_both old table first second cell test
bit_under_in old table cell test _ = false

-- whether the term is 1 where a cell is and an old term is
abbrev pub is_bit_under : Table → Table → TermId → ℕ → TermId → Bool
is_bit_under old table t cell test = bit_under_in old table cell test (term_at table t)

-- the second part, where the first is the bit of a cell
abbrev pub added : Table → (first second : TermId) → ℕ → Option TermId
added table first second cell = if is_cell_bit table first cell then Some second else None

-- the other part of what was found, where that is the bit of a cell or that part
abbrev pub added_in : Table → ℕ → Option Term → Option TermId
added_in table cell (Some (Or first second)) = added table first second cell
added_in table cell _ = None

-- the other part of a term that is 1 where a cell is or that part is
abbrev pub is_added : Table → TermId → ℕ → Option TermId
is_added table t cell = added_in table cell (term_at table t)

-- whether the term that was found under a complement is this one, of one bit
abbrev pub is_complement : Table → (found other : TermId) → Bool
is_complement table found other = found.0 == other.0 && is_one_wide table other

-- whether what was found is the complement of this term
abbrev pub complement_in : Table → TermId → Option Term → Bool
complement_in table other (Some (Not found)) = is_complement table found other
complement_in table other _ = false

-- whether the first term is the complement of the second
abbrev pub is_not : Table → TermId → TermId → Bool
is_not table t other = complement_in table other (term_at table t)

-- the last part of a choice, where it is by the bit of a cell and its first part is the old term
abbrev pub choice_in : Table → Table → (bit first second : TermId) → ℕ → TermId → Option TermId
choice_in old table bit first second test chosen =
    if first.0 == chosen.0 && is_cell_bit table bit test && is_old old chosen then Some second else None

-- the last part of what was found, where that is such a choice
abbrev pub choice_among : Table → Table → ℕ → TermId → Option Term → Option TermId
choice_among old table test chosen (Some (Select bit first second)) = choice_in old table bit first second test chosen
choice_among old table test chosen _ = None

-- the last part of a term that has an old term's value where a cell is 1, and else that of this part
abbrev pub choice_of : Table → Table → TermId → ℕ → TermId → Option TermId
choice_of old table t test chosen = choice_among old table test chosen (term_at table t)

-- whether what was found is that cell
abbrev pub cell_at : ℕ → Option Term → Bool
cell_at cell (Some (Cell found)) = found == cell
cell_at cell _ = false

-- whether the term is that cell
abbrev pub is_cell : Table → TermId → ℕ → Bool
is_cell table t cell = cell_at cell (term_at table t)

-- whether what was found is that number
abbrev pub number_at : ℕ → Option Term → Bool
number_at number (Some (Constant width found)) = found == number
number_at number _ = false

-- whether the term is that number
abbrev pub is_number : Table → TermId → ℕ → Bool
is_number table t number = number_at number (term_at table t)

-- whether the last part of a choice is that cell
abbrev pub chosen_in : Table → ℕ → Option TermId → Bool
chosen_in table cell None = false
chosen_in table cell (Some other) = is_cell table other cell

-- whether the term has an old term's value where a cell is 1, and else that of another cell
abbrev pub is_chosen : Table → Table → TermId → ℕ → TermId → ℕ → Bool
is_chosen old table t test chosen cell = chosen_in table cell (choice_of old table t test chosen)

-- whether the last part of a choice is that number
abbrev pub chosen_index_in : Table → ℕ → Option TermId → Bool
chosen_index_in table number None = false
chosen_index_in table number (Some other) = is_number table other number

-- whether the term has an old term's value where a cell is 1, and else is a number
abbrev pub is_chosen_index : Table → Table → TermId → ℕ → TermId → ℕ → Bool
is_chosen_index old table t test chosen number = chosen_index_in table number (choice_of old table t test chosen)
