-- Clauses as sets of literals, and one step of resolution.
use Rattle.std.specs.Prelude.{◌≡◌, ℕ, Bool, true, false, not, ◌&&◌, ◌||◌, cond, List, [], ◌∷◌, ◌++◌, Option, Some, None, nat_eq, ◌⊎◌}
use Rattle.prop.specs.declared.Lit.{Lit}
use Rattle.prop.specs.Logic.{negated, positive_of}

abbrev pub same_sign : Bool → Bool → Bool
same_sign true b = b
same_sign false b = not b

abbrev pub same : Lit → Lit → Bool
same l m = nat_eq l.var m.var && same_sign l.positive m.positive

abbrev pub negative_of : ℕ → Lit
negative_of v = record { var = v; positive = false }

-- whether a clause has a literal
abbrev pub has : List Lit → Lit → Bool
has [] l = false
has (m ∷ c) l = same m l || has c l

abbrev pub Has : List Lit → Lit → Type 0
Has c l = has c l ≡ true

-- one of a list of clauses
abbrev pub In : List (List Lit) → List Lit → Type 0
In [] c = ⊥
In (d ∷ ds) c = (c ≡ d) ⊎ In ds c

-- the clause without each occurrence of the literal
abbrev pub without : Lit → List Lit → List Lit
without l [] = []
without l (m ∷ c) = cond (same m l) (without l c) (m ∷ without l c)

-- the first has the literal, and the second its negation
abbrev pub crosses : Lit → List Lit → List Lit → Bool
crosses l c d = has c l && has d (negated l)

-- the first without the literal, united with the second without its negation
abbrev pub resolved : Lit → List Lit → List Lit → List Lit
resolved l c d = without l c ++ without (negated l) d

abbrev pub one_way : Bool → Bool → ℕ → List Lit → List Lit → Option (List Lit)
one_way true true v c d = None
one_way true false v c d = Some (resolved (positive_of v) c d)
one_way false true v c d = Some (resolved (negative_of v) c d)
one_way false false v c d = None

-- One step on the variable v. It is valid where exactly one of two holds: the first clause has v and the second its
-- negation, or the first has the negation and the second v.
abbrev pub resolve : ℕ → List Lit → List Lit → Option (List Lit)
resolve v c d = one_way (crosses (positive_of v) c d) (crosses (negative_of v) c d) v c d
