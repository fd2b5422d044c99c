use Rattle.std.specs.Prelude.{ℕ, List, [], ◌∷◌, Bool, false, ◌||◌, nat_eq}

-- whether the list has the number
abbrev pub listed : List ℕ → ℕ → Bool
listed [] k = false
listed (x ∷ xs) k = nat_eq x k || listed xs k
