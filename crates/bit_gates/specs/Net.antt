use Rattle.std.specs.Prelude.{ℕ, List, [], ◌∷◌, ◌++◌, ◌+◌, ◌*◌, ◌≡◌, ◌<◌, Bool, true, false, not, ◌&&◌, ◌||◌, cond, suc, nat_eq}
use Rattle.prop.specs.declared.Lit.{Lit}
use Rattle.prop.specs.Logic.{negated, positive_of, lit_value}
use Rattle.bit_gates.specs.declared.netlist.Def.{Def}
use Rattle.bit_gates.specs.declared.netlist.Def.TheVariants.{And, Xor, Select, Sum, Carry, Same, Fixed}

abbrev pub xor : Bool → Bool → Bool
xor true b = not b
xor false b = b

abbrev pub majority : Bool → Bool → Bool → Bool
majority true b c = b || c
majority false b c = b && c

-- the truth value that a definition gives to its variable
abbrev pub def_value : (ℕ → Bool) → Def → Bool
def_value v (And a b) = lit_value v a && lit_value v b
def_value v (Xor a b) = xor (lit_value v a) (lit_value v b)
def_value v (Select c a b) = cond (lit_value v c) (lit_value v a) (lit_value v b)
def_value v (Sum a b c) = xor (lit_value v a) (xor (lit_value v b) (lit_value v c))
def_value v (Carry a b c) = majority (lit_value v a) (lit_value v b) (lit_value v c)
def_value v (Same e a b) = lit_value v e && not (xor (lit_value v a) (lit_value v b))
def_value v (Fixed b) = b

-- the clauses of a definition, o being its variable
abbrev pub def_clauses : Lit → Def → List (List Lit)
def_clauses o (And a b) =
    (negated o ∷ a ∷ []) ∷ (negated o ∷ b ∷ []) ∷ (o ∷ negated a ∷ negated b ∷ []) ∷ []
def_clauses o (Xor a b) =
    (negated o ∷ a ∷ b ∷ []) ∷ (negated o ∷ negated a ∷ negated b ∷ [])
    ∷ (o ∷ negated a ∷ b ∷ []) ∷ (o ∷ a ∷ negated b ∷ []) ∷ []
def_clauses o (Select c a b) =
    (negated o ∷ negated c ∷ a ∷ []) ∷ (negated o ∷ c ∷ b ∷ [])
    ∷ (o ∷ negated c ∷ negated a ∷ []) ∷ (o ∷ c ∷ negated b ∷ [])
    ∷ (negated o ∷ a ∷ b ∷ []) ∷ (o ∷ negated a ∷ negated b ∷ []) ∷ []
def_clauses o (Sum a b c) =
    (o ∷ negated a ∷ b ∷ c ∷ []) ∷ (o ∷ a ∷ negated b ∷ c ∷ [])
    ∷ (o ∷ a ∷ b ∷ negated c ∷ []) ∷ (o ∷ negated a ∷ negated b ∷ negated c ∷ [])
    ∷ (negated o ∷ a ∷ b ∷ c ∷ []) ∷ (negated o ∷ negated a ∷ negated b ∷ c ∷ [])
    ∷ (negated o ∷ negated a ∷ b ∷ negated c ∷ []) ∷ (negated o ∷ a ∷ negated b ∷ negated c ∷ []) ∷ []
def_clauses o (Carry a b c) =
    (o ∷ negated a ∷ negated b ∷ []) ∷ (o ∷ negated a ∷ negated c ∷ []) ∷ (o ∷ negated b ∷ negated c ∷ [])
    ∷ (negated o ∷ a ∷ b ∷ []) ∷ (negated o ∷ a ∷ c ∷ []) ∷ (negated o ∷ b ∷ c ∷ []) ∷ []
def_clauses o (Same e a b) =
    (negated o ∷ e ∷ []) ∷ (negated o ∷ negated a ∷ b ∷ []) ∷ (negated o ∷ a ∷ negated b ∷ [])
    ∷ (o ∷ negated e ∷ a ∷ b ∷ []) ∷ (o ∷ negated e ∷ negated a ∷ negated b ∷ []) ∷ []
def_clauses o (Fixed true) = (o ∷ []) ∷ []
def_clauses o (Fixed false) = (negated o ∷ []) ∷ []

-- the clauses of definitions of the variables n, n + 1 ..
abbrev pub net_clauses : ℕ → List Def → List (List Lit)
net_clauses n [] = []
net_clauses n (d ∷ ds) = def_clauses (positive_of n) d ++ net_clauses (suc n) ds

-- each definition gives its variable the value that it has under v
abbrev pub Meets : (ℕ → Bool) → ℕ → List Def → Type 0
Meets v n [] = Unit {0}
Meets v n (d ∷ ds) = (v n ≡ def_value v d) × Meets v (suc n) ds

abbrev pub DefBelow : ℕ → Def → Type 0
DefBelow n (And a b) = (a.var < n) × (b.var < n)
DefBelow n (Xor a b) = (a.var < n) × (b.var < n)
DefBelow n (Select c a b) = (c.var < n) × (a.var < n) × (b.var < n)
DefBelow n (Sum a b c) = (a.var < n) × (b.var < n) × (c.var < n)
DefBelow n (Carry a b c) = (a.var < n) × (b.var < n) × (c.var < n)
DefBelow n (Same e a b) = (e.var < n) × (a.var < n) × (b.var < n)
DefBelow n (Fixed b) = Unit {0}

-- each definition speaks of earlier variables alone
abbrev pub Grounded : ℕ → List Def → Type 0
Grounded n [] = Unit {0}
Grounded n (d ∷ ds) = DefBelow n d × Grounded (suc n) ds

-- v with another value at n
abbrev pub changed : (ℕ → Bool) → ℕ → Bool → ℕ → Bool
changed v n b k = cond (nat_eq n k) b (v k)

-- the assignment that extends v to the variables of the definitions
abbrev pub extended : ℕ → List Def → (ℕ → Bool) → (ℕ → Bool)
extended n [] v = v
extended n (d ∷ ds) v = extended (suc n) ds (changed v n (def_value v d))

abbrev pub Agree : ℕ → (ℕ → Bool) → (ℕ → Bool) → Type 0
Agree n v w = (k : ℕ) → k < n → w k ≡ v k

abbrev pub bit : Bool → ℕ
bit true = 1
bit false = 0

-- the number that literals spell, lowest bit first
abbrev pub number : (ℕ → Bool) → List Lit → ℕ
number v [] = 0
number v (l ∷ ls) = bit (lit_value v l) + 2 * number v ls
