-- What is known of terms in stores that kept pairs apart.
use Rattle.std.specs.Prelude.{ℕ, ◌^◌, ◌/◌, ◌%◌, ◌≡◌, ◌<◌, ◌≤◌, ◌==◌, Bool, true, false, List, Option, Some, length, All, slice_get, slice_index, slice_index_or, nat_lt, ◌&&◌, if◌then◌else◌}
use Rattle.bv_term.specs.declared.term.TermId.{TermId}
use Rattle.bv_term.specs.declared.term.Term.{Term}
use Rattle.bv_term.specs.declared.term.Term.TheVariants.{Constant, Cell, Bit, Not, And, Or, Xor}
use Rattle.bv_term.specs.WellFormed.{Table, widths}
use Rattle.bv_term.specs.Values.{values}
use Rattle.pair_query.specs.Laws.{AllHold, IsStoreOf}
use Rattle.refine.specs.declared.witnesses.Truth.{Truth}
use Rattle.refine.specs.declared.witnesses.Truth.TheVariants.{No, Yes, Open}

-- a store, with what is known of the first terms of a table in it
pub record Known : Type 0 where
  pub store : List ℕ
  pub truths : List Truth

abbrev pub truth_of : Bool → Truth
truth_of true = Yes
truth_of false = No

abbrev pub turned : Truth → Truth
turned No = Yes
turned Yes = No
turned Open = Open

abbrev pub both : Truth → Truth → Truth
both No y = No
both Yes No = No
both Yes Yes = Yes
both Yes Open = Open
both Open No = No
both Open Yes = Open
both Open Open = Open

abbrev pub differing : Truth → Truth → Truth
differing Open y = Open
differing No y = y
differing Yes y = turned y

-- what is known of the term of a number, nothing past the last
abbrev pub truth_at : List Truth → ℕ → Truth
truth_at truths n = slice_index_or truths n Open

-- what is known of a bit of a cell
abbrev pub cell_bit : List ℕ → ℕ → ℕ → Truth
cell_bit store number c =
    if nat_lt c (length store) && nat_lt number 128 then truth_of ((slice_index store c / 2 ^ number) % 2 == 1) else Open

-- what is known of a bit of a term: that of a cell's
abbrev pub bit_in : List ℕ → ℕ → Option Term → Truth
bit_in store number (Some (Cell c)) = cell_bit store number c
bit_in store number _ = Open

abbrev pub bit_known : List ℕ → List Term → ℕ → ℕ → Truth
bit_known store terms number of = bit_in store number (slice_get terms of)

-- what is known of a constant, where it is one of a bit
abbrev pub constant_known : ℕ → ℕ → Truth
constant_known w v = if w == 1 then truth_of (v == 1) else Open

-- what is known of a term, by what is known of its operands
abbrev pub truth_known : List ℕ → List Term → List Truth → Term → Truth
truth_known store terms truths (Constant w v) = constant_known w v
truth_known store terms truths (Bit number of) = bit_known store terms number of.0
truth_known store terms truths (Not of) = turned (truth_at truths of.0)
truth_known store terms truths (And i j) = both (truth_at truths i.0) (truth_at truths j.0)
truth_known store terms truths (Or i j) = turned (both (turned (truth_at truths i.0)) (turned (truth_at truths j.0)))
truth_known store terms truths (Xor i j) = differing (truth_at truths i.0) (truth_at truths j.0)
truth_known store terms truths _ = Open

-- what a truth says of a width and a value
abbrev pub IsTruth : ℕ → ℕ → Truth → Type 0
IsTruth w v Yes = (w ≡ 1) × (v ≡ 1)
IsTruth w v No = (w ≡ 1) × (v ≡ 0)
IsTruth w v Open = Unit {0}

-- what is known is so, of a store of the table's cells
pub record IsKnown (table : Table) (k : Known) : Type 0 where
  pub store : IsStoreOf table k.store
  pub few : length k.truths ≤ length table.terms
  pub told : (n : ℕ) → n < length k.truths
      → IsTruth (slice_index (widths table) n) (slice_index (values table k.store) n) (truth_at k.truths n)

-- of each of some stores
abbrev pub AreKnown : Table → List Known → Type 0
AreKnown table ks = All (IsKnown table) ks

-- some conjunct of a label is known to fail
abbrev pub IsSomeNo : List Truth → List TermId → Type 0
IsSomeNo truths label = (k : ℕ) × ((t : TermId) × (slice_get label k ≡ Some t) × (truth_at truths t.0 ≡ No))

-- a store of the table's cells meets the first label and not the second
pub record KeepsApart (table : Table) (left right : List TermId) (s : List ℕ) : Type 0 where
  pub store : IsStoreOf table s
  pub meets : AllHold table s left
  pub misses : AllHold table s right → ⊥
