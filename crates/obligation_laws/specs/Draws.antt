-- What an assignment says of the literals of draws, and of which variables they are.
use Rattle.std.specs.Prelude.{ℕ, ℤ, ◌≡◌, Bool, List, [], ◌∷◌, slice_index}
use Rattle.prop.specs.Logic.{LitsBelow}
use Rattle.bit_gates.specs.Net.{number}
use Rattle.c_graph.specs.Steps.{modulo}
use Rattle.path_query.specs.declared.query.Bundle.{Bundle}

-- the literals of each draw spell the value that is drawn, modulo two to the power of its cell's width
abbrev pub AreDrawn : List ℕ → (ℕ → Bool) → List Bundle → List ℤ → Type 0
AreDrawn widths v [] [] = Unit {0}
AreDrawn widths v [] (z ∷ zs) = ⊥
AreDrawn widths v (b ∷ bs) [] = ⊥
AreDrawn widths v (b ∷ bs) (z ∷ zs) = (number v b.bits ≡ modulo (slice_index widths b.cell) z) × AreDrawn widths v bs zs

-- each literal's variable is below n
abbrev pub BundlesBelow : ℕ → List Bundle → Type 0
BundlesBelow n [] = Unit {0}
BundlesBelow n (b ∷ bs) = LitsBelow n b.bits × BundlesBelow n bs
