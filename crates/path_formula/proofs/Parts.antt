-- What operations need of the cells' literals.
use Rattle.std.proofs.Common.{◌≡◌, ℕ, ◌+◌, ◌≤◌, ◌<◌, length, List, [], ◌∷◌, map, arith, ap, sym, ◌∙◌, refl, suc, zero, subst, slice_index, take, drop}
use Rattle.prop.specs.declared.Lit.{Lit}
use Rattle.bit_words.specs.Elements.{AllLong}
use Rattle.bit_words.proofs.WordPuts.{map-length}
use Rattle.bv_term.specs.WellFormed.{Table, IsTable, IsArray, widths}
use Rattle.bv_term.proofs.Growing.{widths-of}
use Rattle.bit_blast.specs.Emission.{cell_at}
use Rattle.bit_blast.specs.Held.{Held, IsOver, fresh_lits}
use Rattle.bit_blast.proofs.Ready.{array-cells}

cell-width : (cells : List (List Lit)) (k : ℕ) → length (cell_at cells k) ≡ slice_index (map length cells) k
cell-width [] k = refl
cell-width (c ∷ cs) zero = refl
cell-width (c ∷ cs) (suc k) = cell-width cs k

pub many_cells : (table : Table) (h : Held) → IsOver table h → length h.cells ≡ length table.cells
many_cells table h o = sym (map-length length h.cells) ∙ ap length o.cells

pub cell_there : (table : Table) (h : Held) (c : ℕ) → IsOver table h → c < length table.cells → c < length h.cells
cell_there table h c o lt = let e = many_cells table h o in omega (arith, e)

pub cell_long : (table : Table) (h : Held) (c : ℕ) → IsOver table h → length (cell_at h.cells c) ≡ slice_index table.cells c
cell_long table h c o = cell-width h.cells c ∙ ap (λ (t : List ℕ). slice_index t c) o.cells

pub fresh_long : (n w : ℕ) → length (fresh_lits n w) ≡ w
fresh_long n zero = refl
fresh_long n (suc w) = ap suc (fresh_long (suc n) w)

-- the cells of an array are there, and have as many literals as a value of their width
pub array_there : (table : Table) (h : Held) (first n : ℕ) → IsOver table h → IsArray table.cells first n → first + n ≤ length h.cells
array_there table h first n o a = (array-cells h.cells table.cells first n o.cells a).0

pub array_long : (table : Table) (h : Held) (first n w : ℕ) → IsOver table h → IsArray table.cells first n → w ≡ slice_index table.cells first
    → AllLong w (take n (drop first h.cells))
array_long table h first n w o a e =
    subst (λ (t : ℕ). AllLong t (take n (drop first h.cells))) (sym e) (array-cells h.cells table.cells first n o.cells a).2

pub narrow : (table : Table) (t : ℕ) → IsTable table → t < length table.terms → slice_index (widths table) t ≤ 128
narrow table t h lt = let a = widths-of table h in (a.1 t 0 (omega (arith, a.0))).1
