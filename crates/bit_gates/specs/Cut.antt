use Rattle.std.specs.Prelude.{ℕ, List, [], ◌++◌, ◌+◌, ◌≡◌, ◌<◌, ◌≤◌, length, take, suc}
use Rattle.prop.specs.declared.Lit.{Lit}
use Rattle.prop.specs.declared.BlastFail.{BlastFail}
use Rattle.prop.specs.declared.BlastFail.TheVariants.{Over, Memory}
use Rattle.prop.specs.Logic.{count, OnFail}
use Rattle.bit_gates.specs.declared.netlist.Def.{Def}
use Rattle.bit_gates.specs.Net.{net_clauses}

-- how a refused call leaves the clauses: a prefix of what it was to add stands; with Over this is a proper prefix, the
-- next clause is the first that would pass the limit, and the number is the literals with it
pub record Cut (e : BlastFail) (old emitted new : List (List Lit)) : Type 0 where
  pub kept : ℕ
  pub stands : new ≡ old ++ take kept emitted
  pub cause : OnFail e ((kept < length emitted) × (67108864 < count (old ++ take (suc kept) emitted))) (count (old ++ take (suc kept) emitted))

-- a whole list of clauses is cut off: those that stand are within the limit, the next one is the first that passes it, and the
-- number is that of the literals up to this one
abbrev pub IsCutOff : List (List Lit) → BlastFail → Type 0
IsCutOff clauses (Over n) = (left : List (List Lit)) × Cut (Over n) [] clauses left × (count left ≤ 67108864)
IsCutOff clauses Memory = Unit {0}

-- the clauses of the definitions ds of the variables from n on were added whole, within the limit, and m is the next
-- variable
abbrev pub Emitted : List (List Lit) → List (List Lit) → ℕ → ℕ → List Def → Type 0
Emitted old new n m ds = (count new ≤ 67108864) × (new ≡ old ++ net_clauses n ds) × (m ≡ n + length ds)

-- the call that was to add them was refused: a prefix stands, and the next variable is the old one
abbrev pub Refused : BlastFail → List (List Lit) → List (List Lit) → ℕ → ℕ → List Def → Type 0
Refused e old new n m ds = Cut e old (net_clauses n ds) new × (m ≡ n)

-- a net with the next variable n and the definitions xs grew by the definitions ds
abbrev pub Grew : ℕ → List Def → ℕ → List Def → List Def → Type 0
Grew n xs m ys ds = (m ≡ n + length ds) × (ys ≡ xs ++ ds)
