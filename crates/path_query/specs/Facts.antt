-- What a path's question keeps.
use Rattle.std.specs.Prelude.{ℕ, ◌<◌, ◌≤◌, ◌≡◌, List, [], ◌∷◌, suc, length, All, slice_index}
use Rattle.path_query.specs.declared.query.Bundle.{Bundle}
use Rattle.path_query.specs.declared.query.PathQuery.{PathQuery}

-- the cell is there, and it has a literal for each bit; cells are given by their widths
abbrev pub IsBundle : List ℕ → Bundle → Type 0
IsBundle cells b = (b.cell < length cells) × (length b.bits ≡ slice_index cells b.cell)

-- numbers that never fall, each at least the first one and at most the last one
abbrev pub RisingTo : ℕ → List ℕ → ℕ → Type 0
RisingTo low [] most = low ≤ most
RisingTo low (n ∷ ns) most = (low ≤ n) × RisingTo n ns most

-- the question of a path with so many steps, over cells of these widths
pub record IsQuery (cells : List ℕ) (steps : ℕ) (q : PathQuery) : Type 0 where
  pub starts : length q.starts ≡ steps
  pub rising : RisingTo 0 q.starts (length q.clauses)
  pub cuts : length q.cuts ≡ suc steps
  pub bundles : All (All (IsBundle cells)) q.cuts
  pub draws : All (IsBundle cells) q.draws
