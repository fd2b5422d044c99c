-- Tokens stand one behind the other.
use Rattle.std.specs.Prelude.{ℕ, suc, ◌≤◌, List, [], ◌∷◌}
use Rattle.c_tree.specs.declared.symbol.SymbolAt.{SymbolAt}

-- their offsets rise, from this one on
abbrev pub Rises : ℕ → List SymbolAt → Type 0
Rises from [] = Unit {0}
Rises from (s ∷ signs) = (from ≤ s.at) × Rises (suc s.at) signs
