-- Terms that count as done, with their literals.
use Rattle.std.specs.Prelude.{ℕ, ◌≡◌, Bool, false, ◌||◌, cond, nat_eq, List, [], ◌∷◌, suc, Option, Some}
use Rattle.prop.specs.declared.Lit.{Lit}

-- a term that counts as done, and its literals
pub record Known : Type 0 where
  pub term : ℕ
  pub lits : List Lit

-- the literals of a term, none where it is not done
abbrev pub lits_of : List Known → ℕ → List Lit
lits_of [] k = []
lits_of (d ∷ ds) k = cond (nat_eq d.term k) d.lits (lits_of ds k)

-- whether a term is done
abbrev pub is_done : List Known → ℕ → Bool
is_done [] k = false
is_done (d ∷ ds) k = nat_eq d.term k || is_done ds k

-- each term that is done is found at its place, counted from i on
abbrev pub Placed : (ℕ → Option ℕ) → ℕ → List Known → Type 0
Placed find i [] = Unit {0}
Placed find i (d ∷ ds) = (find d.term ≡ Some i) × Placed find (suc i) ds
