-- What can be drawn.
use Rattle.std.specs.Prelude.{ℕ, ◌<◌, ◌≤◌, ◌≡◌, List, length, slice_index}
use Rattle.path_query.specs.declared.query.Bundle.{Bundle}

-- the cell has as many literals as it is wide, at least one and at most 64
abbrev pub IsDrawable : List ℕ → Bundle → Type 0
IsDrawable widths b = (length b.bits ≡ slice_index widths b.cell) × (0 < length b.bits) × (length b.bits ≤ 64)
