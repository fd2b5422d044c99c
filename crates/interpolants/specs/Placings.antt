-- The bits of a cut's cells, with the literals that stand for them.
use Rattle.std.specs.Prelude.{ℕ, ◌≡◌, ◌↔◌, List, [], ◌∷◌, ◌++◌, Option, Some, None, zero, suc, slice_get}
use Rattle.prop.specs.declared.Lit.{Lit}
use Rattle.path_query.specs.declared.query.Bundle.{Bundle}
use Rattle.interpolants.specs.declared.items.Placed.{Placed}

-- a bit of a cell, and its literal
abbrev pub bit_with : ℕ → ℕ → Lit → Placed
bit_with cell n l = record { bit = record { cell = cell; bit = n }; lit = l }

-- the bits of a cell from a number on, which have these literals
abbrev pub bits_from : ℕ → ℕ → List Lit → List Placed
bits_from cell n [] = []
bits_from cell n (l ∷ ls) = bit_with cell n l ∷ bits_from cell (suc n) ls

-- the bits of cells, cell after cell, the lowest bit of each first
abbrev pub bits_of : List Bundle → List Placed
bits_of [] = []
bits_of (b ∷ bs) = bits_from b.cell 0 b.bits ++ bits_of bs

-- the bit of a number, if the cell has it
abbrev pub bit_if : ℕ → ℕ → Option Lit → List Placed
bit_if cell n None = []
bit_if cell n (Some l) = bit_with cell n l ∷ []

abbrev pub bit_at : Bundle → ℕ → List Placed
bit_at b n = bit_if b.cell n (slice_get b.bits n)

-- the bit of this number of each cell that has it, the last cell first
abbrev pub row : List Bundle → ℕ → List Placed
row [] n = []
row (b ∷ bs) n = row bs n ++ bit_at b n

-- the bits of cells below a number, row by row
abbrev pub rows : List Bundle → ℕ → List Placed
rows bs zero = []
rows bs (suc n) = rows bs n ++ row bs n

-- the bit is one of these
abbrev pub IsOneOf : List Placed → Placed → Type 0
IsOneOf ps p = (k : ℕ) × (slice_get ps k ≡ Some p)

-- the two lists have the same bits
abbrev pub SameBits : List Placed → List Placed → Type 0
SameBits ps qs = (p : Placed) → (IsOneOf ps p) ↔ (IsOneOf qs p)
