use Rattle.std.specs.Prelude.{ℕ, List, [], ◌∷◌, ◌++◌, ◌+◌, length, suc, take}
use Rattle.prop.specs.declared.Lit.{Lit}
use Rattle.prop.specs.Logic.{positive_of}
use Rattle.bit_gates.specs.declared.netlist.Def.{Def}
use Rattle.bit_gates.specs.declared.netlist.Def.TheVariants.{And}
use Rattle.bit_gates.specs.Sums.{half_ripple}

-- definitions from a variable on, and the literals that they are made for
pub record Made : Type 0 where
  pub defs : List Def
  pub outs : List Lit

-- each literal and b
abbrev pub masked : ℕ → List Lit → Lit → Made
masked n [] b = record { defs = []; outs = [] }
masked n (a ∷ xs) b =
    let r = masked (suc n) xs b in
    record { defs = And a b ∷ r.defs; outs = positive_of n ∷ r.outs }

-- one row of the product: a ∷ xs where b is, plus twice low
abbrev pub row : ℕ → Lit → List Lit → Lit → List Lit → Made
row n a xs b low =
    let m = masked (suc n) xs b in
    let s = half_ripple (suc n + length m.defs) m.outs low in
    record { defs = And a b ∷ (m.defs ++ s.defs); outs = positive_of n ∷ s.outs }

-- the low bits of (a ∷ xs) times ys, as many as ys has; the high bits of ys come first
abbrev pub product : ℕ → Lit → List Lit → List Lit → Made
product n a xs [] = record { defs = []; outs = [] }
product n a xs (b ∷ ys) =
    let m = product n a xs ys in
    let s = row (n + length m.defs) a (take (length m.outs) xs) b m.outs in
    record { defs = m.defs ++ s.defs; outs = s.outs }

abbrev pub product_of : ℕ → List Lit → List Lit → Made
product_of n [] ys = record { defs = []; outs = [] }
product_of n (a ∷ xs) ys = product n a xs ys
