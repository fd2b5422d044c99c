-- What clauses were found to be.
use Rattle.std.specs.Prelude.{ℕ, ◌≡◌, ◌==◌, List, Option, Some, None, slice_get, if◌then◌else◌}
use Rattle.interpolants.specs.declared.items.Formula.{Formula}
use Rattle.interpolants.specs.declared.items.Mark.{Mark}

-- the formula of a mark, where it is of this epoch
abbrev pub shown : ℕ → Mark → Option Formula
shown epoch m = if m.epoch == epoch then Some m.formula else None

-- each formula that is written down is one of these
abbrev pub AllKnown : (Formula → Type 0) → List (Option Formula) → Type 0
AllKnown Has memo = (k : ℕ) (f : Formula) → slice_get memo k ≡ Some (Some f) → Has f

-- nothing is written down
abbrev pub IsBlank : List (Option Formula) → Type 0
IsBlank memo = (k : ℕ) (f : Formula) → slice_get memo k ≡ Some (Some f) → ⊥
