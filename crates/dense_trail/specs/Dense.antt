-- Dense codes for literals: twice the number of the variable, and one more where it is negative. What the codes mean, over
-- the variables in rising order.
use Rattle.std.specs.Prelude.{◌≡◌, ℕ, ◌+◌, ◌-◌, ◌*◌, ◌/◌, ◌%◌, Bool, true, false, not, ◌&&◌, cond, List, [], ◌∷◌, Option, Some, None, nat_eq, slice_index, slice_index_or}
use Rattle.prop.specs.declared.Lit.{Lit}
use Rattle.prop.specs.Trues.{listed}
use Rattle.clause_learning.specs.declared.Entry.{Entry}

abbrev pub negation : ℕ → ℕ
negation k = cond (nat_eq (k % 2) 0) (k + 1) (k - 1)

-- whether the literal with this code is true
abbrev pub is_true : List Bool → ℕ → Bool
is_true truth k = slice_index_or truth k false

-- the level of the literal with this code
abbrev pub level_of : List ℕ → ℕ → ℕ
level_of levels k = slice_index levels (k / 2)

-- the true literals are those of the trail
abbrev pub Valued : List Bool → List ℕ → Type 0
Valued truth codes = (k : ℕ) → is_true truth k ≡ listed codes k

-- no literal is true together with its negation
abbrev pub Quiet : List Bool → Type 0
Quiet truth = (k : ℕ) → is_true truth k ≡ true → is_true truth (negation k) ≡ false

-- no code stands twice
abbrev pub distinct : List ℕ → Bool
distinct [] = true
distinct (k ∷ ks) = not (listed ks k) && distinct ks

-- how many are false
abbrev pub falses : List Bool → ℕ
falses [] = 0
falses (b ∷ bs) = cond b 0 1 + falses bs

abbrev pub lit_at : List ℕ → ℕ → Lit
lit_at vars k = record { var = slice_index vars (k / 2); positive = nat_eq (k % 2) 0 }

-- the clause of a row of codes
abbrev pub lits_of : List ℕ → List ℕ → List Lit
lits_of vars [] = []
lits_of vars (k ∷ ks) = lit_at vars k ∷ lits_of vars ks

abbrev pub known_of : List ℕ → List (List ℕ) → List (List Lit)
known_of vars [] = []
known_of vars (r ∷ rs) = lits_of vars r ∷ known_of vars rs

abbrev pub entry_at : List ℕ → List ℕ → List (Option ℕ) → ℕ → Entry
entry_at vars levels reasons k = record { lit = lit_at vars k; level = slice_index levels (k / 2); reason = slice_index_or reasons (k / 2) None }

-- the entries of a trail of codes
abbrev pub entries_of : List ℕ → List ℕ → List (Option ℕ) → List ℕ → List Entry
entries_of vars levels reasons [] = []
entries_of vars levels reasons (k ∷ ks) = entry_at vars levels reasons k ∷ entries_of vars levels reasons ks
