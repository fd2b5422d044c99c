-- The laws of truths.
use Rattle.std.specs.Prelude.{ℕ, ◌<◌, ◌≡◌, List}
use Rattle.formula_diagrams.specs.Shape.{Arena, count, Grown}
use Rattle.formula_diagrams.specs.Truths.{holds}

-- numbers keep their truths as an arena grows
abbrev pub TruthsStay : Type 0
TruthsStay =
    (old new : Arena) (store : List ℕ) (n : ℕ) → Grown old new → n < count old → holds new store n ≡ holds old store n
