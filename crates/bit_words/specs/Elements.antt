-- Elements of an array: a literal for each place that an index may name, and a choice among cells by these.
use Rattle.std.specs.Prelude.{ℕ, ◌≡◌, ◌+◌, ◌-◌, ◌/◌, List, [], ◌∷◌, ◌++◌, length, suc, cond}
use Rattle.std.specs.Prelude.{ltb}
use Rattle.prop.specs.declared.Lit.{Lit}
use Rattle.prop.specs.Logic.{negated, positive_of}
use Rattle.bit_gates.specs.declared.netlist.Def.{Def}
use Rattle.bit_gates.specs.declared.netlist.Def.TheVariants.{And}
use Rattle.bit_gates.specs.Products.{Made}
use Rattle.bit_gates.specs.Quotients.{selected}
use Rattle.bit_words.specs.Folding.{folded_made}
use Rattle.bit_words.specs.Words.{given}

-- half of a number of places, rounded up
abbrev pub half_of : ℕ → ℕ
half_of count = (count + 1) / 2

-- places with one more low bit b, up to this count: each of the high places without b, and with b
abbrev pub doubled : ℕ → Lit → ℕ → List Lit → Made
doubled n b count [] = given []
doubled n b count (h ∷ hs) =
    let r = doubled (suc (suc n)) b (count - 2) hs in
    cond (ltb 1 count)
    (record { defs = And h (negated b) ∷ And h b ∷ r.defs; outs = positive_of n ∷ positive_of (suc n) ∷ r.outs })
    (record { defs = And h (negated b) ∷ []; outs = positive_of n ∷ [] })

-- for each place below the count, e and the index naming this place; places that no index of this width can name are
-- left out
abbrev pub decoded : ℕ → Lit → List Lit → ℕ → Made
decoded n e [] count = given (e ∷ [])
decoded n e (b ∷ bs) count =
    let r = decoded n e bs (half_of count) in
    let s = doubled (n + length r.defs) b count r.outs in
    record { defs = r.defs ++ s.defs; outs = s.outs }

-- the cell at the first place that holds, else z
abbrev pub picked : ℕ → List Lit → List (List Lit) → List Lit → Made
picked n [] cs z = given z
picked n (e ∷ es) [] z = given z
picked n (e ∷ es) (c ∷ cs) z =
    let r = picked n es cs z in
    let s = selected (n + length r.defs) e c r.outs in
    record { defs = r.defs ++ s.defs; outs = s.outs }

-- definitions, and the cells that they are made for
pub record Stored : Type 0 where
  pub defs : List Def
  pub cells : List (List Lit)

-- the first cells, one for each place, with the value in the cell whose place holds; folded cell by cell
abbrev pub stored : Lit → ℕ → List Lit → List (List Lit) → List Lit → Stored
stored one n [] cs value = record { defs = []; cells = [] }
stored one n (e ∷ es) [] value = record { defs = []; cells = [] }
stored one n (e ∷ es) (c ∷ cs) value =
    let s = folded_made one n (selected n e value c) in
    let r = stored one (n + length s.defs) es cs value in
    record { defs = s.defs ++ r.defs; cells = s.outs ∷ r.cells }

-- each of these lists has this length
abbrev pub AllLong : ℕ → List (List Lit) → Type 0
AllLong w [] = Unit {0}
AllLong w (c ∷ cs) = (length c ≡ w) × AllLong w cs
