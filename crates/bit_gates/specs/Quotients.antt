use Rattle.std.specs.Prelude.{ℕ, List, [], ◌∷◌, ◌++◌, ◌+◌, length, true, suc, map}
use Rattle.prop.specs.declared.Lit.{Lit}
use Rattle.prop.specs.Logic.{negated, positive_of}
use Rattle.bit_gates.specs.declared.netlist.Def.{Def}
use Rattle.bit_gates.specs.declared.netlist.Def.TheVariants.{And, Select, Fixed}
use Rattle.bit_gates.specs.Singles.{Chained}
use Rattle.bit_gates.specs.Sums.{ripple}
use Rattle.bit_gates.specs.Products.{Made, masked}

pub record Shifted : Type 0 where
  pub low : List Lit
  pub top : Lit

-- a shifted in below, and what falls out above
abbrev pub shifted : Lit → List Lit → Shifted
shifted a [] = record { low = []; top = a }
shifted a (x ∷ xs) = let p = shifted x xs in record { low = a ∷ p.low; top = p.top }

-- xs where c is, else ys
abbrev pub selected : ℕ → Lit → List Lit → List Lit → Made
selected n c [] ys = record { defs = []; outs = [] }
selected n c (x ∷ xs) [] = record { defs = []; outs = [] }
selected n c (x ∷ xs) (y ∷ ys) =
    let r = selected (suc n) c xs ys in
    record { defs = Select c x y ∷ r.defs; outs = positive_of n ∷ r.outs }

-- quotient and remainder so far
pub record Divided : Type 0 where
  pub defs : List Def
  pub quot : List Lit
  pub rest : List Lit

-- one step: the quotient's bit, and the new remainder
pub record Stepped : Type 0 where
  pub defs : List Def
  pub quot : Lit
  pub rest : List Lit

-- one step of restoring division: a is shifted into the remainder r, and the divisor, whose complement is nb, is taken
-- off where it fits; `one` is true
abbrev pub div_step : ℕ → Lit → Lit → List Lit → List Lit → Stepped
div_step n one a r nb =
    let p = shifted a r in
    let s = ripple n p.low nb one in
    let k = n + length s.defs in
    let q = negated (positive_of k) in
    let t = selected (suc k) q s.outs p.low in
    record { defs = s.defs ++ And (negated p.top) (negated s.carry) ∷ t.defs; quot = q; rest = t.outs }

-- as many z as b has literals
abbrev pub zeros : Lit → List Lit → List Lit
zeros z [] = []
zeros z (b ∷ bs) = z ∷ zeros z bs

-- xs divided by b, from the high bits of xs down
abbrev pub divided : ℕ → Lit → List Lit → List Lit → Divided
divided n one [] b = record { defs = []; quot = []; rest = zeros (negated one) b }
divided n one (a ∷ xs) b =
    let d = divided n one xs b in
    let s = div_step (n + length d.defs) one a d.rest (map negated b) in
    record { defs = d.defs ++ s.defs; quot = s.quot ∷ d.quot; rest = s.rest }

-- z and none of bs
abbrev pub none_of : ℕ → Lit → List Lit → Chained
none_of n z [] = record { defs = []; out = z }
none_of n z (b ∷ bs) =
    let r = none_of (suc n) (positive_of n) bs in
    record { defs = And z (negated b) ∷ r.defs; out = r.out }

-- quotient and remainder, both 0 where b is 0
abbrev pub quotient : ℕ → List Lit → List Lit → Divided
quotient n xs b =
    let one = positive_of n in
    let d = divided (suc n) one xs b in
    let k = suc n + length d.defs in
    let z = none_of k one b in
    let l = k + length z.defs in
    let q = masked l d.quot (negated z.out) in
    let r = masked (l + length q.defs) d.rest (negated z.out) in
    record { defs = Fixed true ∷ (d.defs ++ (z.defs ++ (q.defs ++ r.defs))); quot = q.outs; rest = r.outs }
