-- Words of literals, lowest bit first: constants, and operations bit by bit.
use Rattle.std.specs.Prelude.{ℕ, ◌+◌, ◌*◌, ◌/◌, ◌%◌, ◌==◌, List, [], ◌∷◌, suc, zero, if◌then◌else◌, Option, Some, None}
use Rattle.prop.specs.declared.Lit.{Lit}
use Rattle.prop.specs.Logic.{negated, positive_of}
use Rattle.bit_gates.specs.declared.netlist.Def.TheVariants.{And, Xor}
use Rattle.bit_gates.specs.Products.{Made}
use Rattle.bit_words.specs.declared.folds.Relation.{Relation}
use Rattle.bit_words.specs.Folds.{relation_of, by}

-- what needs no definition
abbrev pub given : List Lit → Made
given ls = record { defs = []; outs = ls }

-- the low w bits of a number, `one` being true
abbrev pub numeral_of : Lit → ℕ → ℕ → List Lit
numeral_of one zero v = []
numeral_of one (suc w) v = (if v % 2 == 1 then one else negated one) ∷ numeral_of one w (v / 2)

-- n times the literal
abbrev pub copies_of : Lit → ℕ → List Lit
copies_of l zero = []
copies_of l (suc n) = l ∷ copies_of l n

-- a number with one more low bit, where both are known
abbrev pub with_bit : Relation → Option ℕ → Option ℕ
with_bit r None = None
with_bit r (Some k) = by r (Some (1 + 2 * k)) (Some (2 * k)) None

-- the number that literals spell, where each is constant
abbrev pub spelled_of : Lit → List Lit → Option ℕ
spelled_of one [] = Some 0
spelled_of one (l ∷ ls) = with_bit (relation_of l one) (spelled_of one ls)

-- each bit of both, up to the shorter
abbrev pub ands : ℕ → List Lit → List Lit → Made
ands n [] ys = given []
ands n (x ∷ xs) [] = given []
ands n (x ∷ xs) (y ∷ ys) =
    let r = ands (suc n) xs ys in
    record { defs = And x y ∷ r.defs; outs = positive_of n ∷ r.outs }

-- each bit of exactly one, up to the shorter
abbrev pub xors : ℕ → List Lit → List Lit → Made
xors n [] ys = given []
xors n (x ∷ xs) [] = given []
xors n (x ∷ xs) (y ∷ ys) =
    let r = xors (suc n) xs ys in
    record { defs = Xor x y ∷ r.defs; outs = positive_of n ∷ r.outs }
