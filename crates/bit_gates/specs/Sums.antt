use Rattle.std.specs.Prelude.{ℕ, List, [], ◌∷◌, suc}
use Rattle.prop.specs.declared.Lit.{Lit}
use Rattle.prop.specs.Logic.{positive_of}
use Rattle.bit_gates.specs.declared.netlist.Def.{Def}
use Rattle.bit_gates.specs.declared.netlist.Def.TheVariants.{And, Xor, Sum, Carry}

-- what an adder makes from the variable n on
pub record Added : Type 0 where
  pub defs : List Def
  pub outs : List Lit
  pub carry : Lit

-- the sum of xs, ys and c, bit after bit: a sum and a carry for each
abbrev pub ripple : ℕ → List Lit → List Lit → Lit → Added
ripple n [] ys c = record { defs = []; outs = []; carry = c }
ripple n (a ∷ xs) [] c = record { defs = []; outs = []; carry = c }
ripple n (a ∷ xs) (b ∷ ys) c =
    let r = ripple (suc (suc n)) xs ys (positive_of (suc n)) in
    record { defs = Sum a b c ∷ Carry a b c ∷ r.defs; outs = positive_of n ∷ r.outs; carry = r.carry }

-- the sum without a carry that comes in; what goes out is dropped
abbrev pub half_ripple : ℕ → List Lit → List Lit → Added
half_ripple n [] ys = record { defs = []; outs = []; carry = positive_of 0 }
half_ripple n (a ∷ xs) [] = record { defs = []; outs = []; carry = positive_of 0 }
half_ripple n (a ∷ xs) (b ∷ ys) =
    let r = ripple (suc (suc n)) xs ys (positive_of (suc n)) in
    record { defs = Xor a b ∷ And a b ∷ r.defs; outs = positive_of n ∷ r.outs; carry = r.carry }
