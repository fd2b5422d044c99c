-- What the clauses of a log come from, and where variables occur.
use Rattle.std.specs.Prelude.{ℕ, ◌+◌, ◌-◌, ◌<◌, ◌≤◌, ◌≡◌, ◌&&◌, ◌⊎◌, ◌++◌, Some, suc, slice_get, Bool, true, false, List, [], ◌∷◌, cond, length, slice_index, slice_index_or, nat_lt, if◌then◌else◌}
use Rattle.prop.specs.declared.Lit.{Lit}
use Rattle.prop.specs.Trues.{listed}
use Rattle.resolution_log.specs.declared.Chain.{Chain}
use Rattle.resolution_log.specs.Codes.{place, vars_of}
use Rattle.interpolants.specs.Rules.{is_behind}

-- the lowest clause that the clause of a number comes from, chains in order coming from these; a number that names none may come from all
abbrev pub low_of : ℕ → List ℕ → ℕ → ℕ
low_of clauses lows n = if nat_lt n clauses then n else slice_index lows (n - clauses)

-- the chain at a place is needed, and comes from a clause before the edge
abbrev pub IsMet : List ℕ → List Bool → ℕ → ℕ → Type 0
IsMet lows needed k edge = (k < length lows) × (slice_index_or needed k false ≡ true) × (slice_index lows k < edge)

-- the number that is noted for a variable is behind the edge
abbrev pub is_noted : List ℕ → List ℕ → ℕ → ℕ → Bool
is_noted vars ends x edge = listed vars x && nat_lt edge (slice_index ends (place vars x))

-- the number behind the last of clauses that has the variable, the first of them having the number n, and else the number b
abbrev pub last_end : ℕ → ℕ → List (List Lit) → ℕ → ℕ
last_end b n [] x = b
last_end b n (c ∷ cs) x = last_end (cond (listed (vars_of c) x) (n + 1) b) (n + 1) cs x

-- what is noted says of each variable whether a clause from an edge on has it
abbrev pub AreEnds : List (List Lit) → List ℕ × List ℕ → Type 0
AreEnds clauses e = (x edge : ℕ) → is_noted e.0 e.1 x edge ≡ is_behind clauses edge x

-- the lower of two numbers
abbrev pub lower : ℕ → ℕ → ℕ
lower a b = if nat_lt b a then b else a

-- the lowest clause that a chain's result comes from, and those of the results of chains in order
abbrev pub pairs_low : ℕ → List ℕ → ℕ → List (ℕ × ℕ) → ℕ
pairs_low n lows low [] = low
pairs_low n lows low (p ∷ ps) = pairs_low n lows (lower low (low_of n lows p.1)) ps

abbrev pub chain_low : ℕ → List ℕ → Chain → ℕ
chain_low n lows ch = pairs_low n lows (low_of n lows ch.first) ch.pairs

abbrev pub lows_after : ℕ → List ℕ → List Chain → List ℕ
lows_after n lows [] = lows
lows_after n lows (ch ∷ chs) = lows_after n (lows ++ chain_low n lows ch ∷ []) chs

-- the chain names the clause of this number
abbrev pub Names : Chain → ℕ → Type 0
Names ch m = (m ≡ ch.first) ⊎ ((i : ℕ) × (p : ℕ × ℕ) × (slice_get ch.pairs i ≡ Some p) × (m ≡ p.1))

-- the chain of this number's result is needed, if one has it
abbrev pub IsNeeded : ℕ → List Bool → ℕ → Type 0
IsNeeded n needed m = n ≤ m → m - n < length needed → slice_index_or needed (m - n) false ≡ true

-- the last chain is needed, and each that a needed chain names
pub record IsCone (n : ℕ) (needed : List Bool) (chains : List Chain) : Type 0 where
  pub last : (k : ℕ) → suc k ≡ length chains → slice_index_or needed k false ≡ true
  pub named : (k : ℕ) (ch : Chain) (m : ℕ) → slice_get chains k ≡ Some ch → slice_index_or needed k false ≡ true → Names ch m → IsNeeded n needed m
