-- Stores that keep some cells by number, the others being 0.
use Rattle.std.specs.Prelude.{ℕ, ◌+◌, ◌==◌, Bool, true, false, List, [], ◌∷◌, zero, suc, nat_lt, if◌then◌else◌}
use Rattle.c_graph.specs.declared.store.Named.{Named}

-- the value that is kept for a cell: that of the first entry which names it, 0 where none does
abbrev pub kept_for : List Named → ℕ → ℕ
kept_for [] cell = 0
kept_for (e ∷ es) cell = if e.cell == cell then e.value else kept_for es cell

-- the values of n cells from a cell on
abbrev pub values_from : List Named → ℕ → ℕ → List ℕ
values_from named cell zero = []
values_from named cell (suc n) = kept_for named cell ∷ values_from named (cell + 1) n

-- each cell is at least this number, and above the one before it
abbrev pub rises_from : ℕ → List Named → Bool
rises_from low [] = true
rises_from low (e ∷ es) = if nat_lt e.cell low then false else rises_from (e.cell + 1) es
