use Rattle.std.specs.Prelude.{ℕ, List, [], ◌∷◌}
use Rattle.std.specs.Global.{Vec}

-- what the lists have
abbrev pub contents : List (Vec ℕ) → List (List ℕ)
contents [] = []
contents (v ∷ vs) = v.items ∷ contents vs
