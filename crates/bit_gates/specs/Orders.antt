use Rattle.std.specs.Prelude.{ℕ, List, [], ◌∷◌, ◌++◌, ◌-◌, length, take, drop, suc, Bool, true, false}
use Rattle.prop.specs.declared.Lit.{Lit}
use Rattle.prop.specs.Logic.{negated, positive_of}
use Rattle.bit_gates.specs.declared.netlist.Def.TheVariants.{And, Xor, Carry, Same}
use Rattle.bit_gates.specs.Singles.{Chained}

-- whether xs is below ys, l telling it of lower bits
abbrev pub below : ℕ → Lit → List Lit → List Lit → Chained
below n l [] ys = record { defs = []; out = l }
below n l (x ∷ xs) [] = record { defs = []; out = l }
below n l (x ∷ xs) (y ∷ ys) =
    let r = below (suc n) (positive_of n) xs ys in
    record { defs = Carry (negated x) y l ∷ r.defs; out = r.out }

-- whether xs is below ys
abbrev pub ordered : ℕ → List Lit → List Lit → Chained
ordered n [] ys = record { defs = []; out = positive_of n }
ordered n (x ∷ xs) [] = record { defs = []; out = positive_of n }
ordered n (x ∷ xs) (y ∷ ys) =
    let r = below (suc n) (positive_of n) xs ys in
    record { defs = And (negated x) y ∷ r.defs; out = r.out }

-- xs with the top literal of ys
abbrev pub topped : List Lit → List Lit → List Lit
topped xs ys = take (length xs - 1) xs ++ drop (length ys - 1) ys

-- whether xs is below ys: in two's complement a top bit counts the other way, so the top bits change places
abbrev pub less_of : ℕ → Bool → List Lit → List Lit → Chained
less_of n true xs ys = ordered n (topped xs ys) (topped ys xs)
less_of n false xs ys = ordered n xs ys

-- e, and whether xs and ys are alike
abbrev pub alike : ℕ → Lit → List Lit → List Lit → Chained
alike n e [] ys = record { defs = []; out = e }
alike n e (x ∷ xs) [] = record { defs = []; out = e }
alike n e (x ∷ xs) (y ∷ ys) =
    let r = alike (suc n) (positive_of n) xs ys in
    record { defs = Same e x y ∷ r.defs; out = r.out }

-- whether xs and ys are alike
abbrev pub equal_of : ℕ → List Lit → List Lit → Chained
equal_of n [] ys = record { defs = []; out = positive_of n }
equal_of n (x ∷ xs) [] = record { defs = []; out = positive_of n }
equal_of n (x ∷ xs) (y ∷ ys) =
    let r = alike (suc n) (positive_of n) xs ys in
    record { defs = Xor x (negated y) ∷ r.defs; out = r.out }
