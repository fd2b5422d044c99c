use Rattle.std.specs.Prelude.{ℕ, List, [], ◌∷◌, false, not, cond, nat_eq}
use Rattle.std.specs.Bool.{beq}
use Rattle.prop.specs.declared.Lit.{Lit}
use Rattle.prop.specs.Logic.{negated, positive_of}
use Rattle.bit_gates.specs.declared.netlist.Def.{Def}
use Rattle.bit_gates.specs.declared.netlist.Def.TheVariants.{And, Xor, Select, Fixed}

-- definitions from a variable on, and the literal that they are made for
pub record Chained : Type 0 where
  pub defs : List Def
  pub out : Lit

-- a and b; no definition where both are one literal, a fixed 0 where they are complements
abbrev pub and_of : ℕ → Lit → Lit → Chained
and_of n a b =
    cond (nat_eq a.var b.var)
    (cond (beq a.positive b.positive) (record { defs = []; out = a }) (record { defs = Fixed false ∷ []; out = positive_of n }))
    (record { defs = And a b ∷ []; out = positive_of n })

-- a exclusive or b; fixed where both are on one variable
abbrev pub xor_of : ℕ → Lit → Lit → Chained
xor_of n a b =
    cond (nat_eq a.var b.var)
    (record { defs = Fixed (not (beq a.positive b.positive)) ∷ []; out = positive_of n })
    (record { defs = Xor a b ∷ []; out = positive_of n })

-- the complement of what definitions are made for
abbrev pub turned : Chained → Chained
turned m = record { defs = m.defs; out = negated m.out }

-- a where c is, else b: a itself where both are one literal, an exclusive or where they are complements, and a
-- conjunction where c is on the variable of one of them
abbrev pub select_of : ℕ → Lit → Lit → Lit → Chained
select_of n c a b =
    cond (nat_eq a.var b.var)
    (cond (beq a.positive b.positive) (record { defs = []; out = a }) (turned (xor_of n c a)))
    (cond (nat_eq c.var a.var)
    (cond (beq c.positive a.positive) (turned (and_of n (negated c) (negated b))) (and_of n (negated c) b))
    (cond (nat_eq c.var b.var)
    (cond (beq c.positive b.positive) (and_of n c a) (turned (and_of n c (negated a))))
    (record { defs = Select c a b ∷ []; out = positive_of n })))
