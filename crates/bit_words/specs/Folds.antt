-- One definition with what is known of its literals: constants, and literals that are equal or complements. The literal
-- `one` is true, so that a constant is `one` or its complement.
use Rattle.std.specs.Prelude.{ℕ, [], ◌∷◌, true, false, cond, nat_eq}
use Rattle.std.specs.Bool.{beq}
use Rattle.prop.specs.declared.Lit.{Lit}
use Rattle.prop.specs.Logic.{negated, positive_of}
use Rattle.bit_gates.specs.declared.netlist.Def.{Def}
use Rattle.bit_gates.specs.declared.netlist.Def.TheVariants.{And, Xor, Select, Sum, Carry, Same, Fixed}
use Rattle.bit_gates.specs.Singles.{Chained, turned}
use Rattle.bit_words.specs.declared.folds.Relation.{Relation}
use Rattle.bit_words.specs.declared.folds.Relation.TheVariants.{Equal, Opposite, Apart}

-- how two literals stand to each other
abbrev pub relation_of : Lit → Lit → Relation
relation_of a b = cond (nat_eq a.var b.var) (cond (beq a.positive b.positive) Equal Opposite) Apart

-- x where they are equal, y where they are complements, else z
abbrev pub by : {A : Type 0} → Relation → A → A → A → A
by Equal x y z = x
by Opposite x y z = y
by Apart x y z = z

-- a literal that needs no definition
abbrev pub known : Lit → Chained
known l = record { defs = []; out = l }

-- the next variable, by a definition
abbrev pub defined : ℕ → Def → Chained
defined n d = record { defs = d ∷ []; out = positive_of n }

-- a and b
abbrev pub and_in : Lit → ℕ → Lit → Lit → Chained
and_in one n a b =
    by (relation_of a one) (known b) (known a)
    (by (relation_of b one) (known a) (known b)
    (by (relation_of a b) (known a) (known (negated one)) (defined n (And a b))))

-- a or b
abbrev pub or_in : Lit → ℕ → Lit → Lit → Chained
or_in one n a b = turned (and_in one n (negated a) (negated b))

-- exactly one of a and b
abbrev pub xor_in : Lit → ℕ → Lit → Lit → Chained
xor_in one n a b =
    by (relation_of a one) (known (negated b)) (known b)
    (by (relation_of b one) (known (negated a)) (known a)
    (by (relation_of a b) (known (negated one)) (known one) (defined n (Xor a b))))

-- both or none of a and b
abbrev pub alike_in : Lit → ℕ → Lit → Lit → Chained
alike_in one n a b = turned (xor_in one n a b)

-- what a is where c is true
abbrev pub under_of : Lit → Lit → Lit → Lit
under_of one c a = by (relation_of a c) one (negated one) a

-- a where c is true, else b, where neither c nor a and b together are known
abbrev pub branch_in : Lit → ℕ → Lit → Lit → Lit → Chained
branch_in one n c a b =
    by (relation_of a one) (or_in one n c b) (and_in one n (negated c) b)
    (by (relation_of b one) (or_in one n (negated c) a) (and_in one n c a) (defined n (Select c a b)))

-- a where c is true, else b
abbrev pub select_in : Lit → ℕ → Lit → Lit → Lit → Chained
select_in one n c a b =
    by (relation_of c one) (known a) (known b)
    (by (relation_of a b) (known a) (alike_in one n c a)
    (branch_in one n c (under_of one c a) (under_of one (negated c) b)))

-- an odd number of a, b and c, where neither a nor b and c together are known
abbrev pub odd_in : Lit → ℕ → Lit → Lit → Lit → Chained
odd_in one n a b c =
    by (relation_of b one) (alike_in one n a c) (xor_in one n a c)
    (by (relation_of c one) (alike_in one n a b) (xor_in one n a b)
    (by (relation_of a b) (known c) (known (negated c))
    (by (relation_of a c) (known b) (known (negated b)) (defined n (Sum a b c)))))

-- an odd number of a, b and c
abbrev pub sum_in : Lit → ℕ → Lit → Lit → Lit → Chained
sum_in one n a b c =
    by (relation_of a one) (alike_in one n b c) (xor_in one n b c)
    (by (relation_of b c) (known a) (known (negated a)) (odd_in one n a b c))

-- at least two of a, b and c, where neither a nor b and c together are known
abbrev pub most_in : Lit → ℕ → Lit → Lit → Lit → Chained
most_in one n a b c =
    by (relation_of b one) (or_in one n a c) (and_in one n a c)
    (by (relation_of c one) (or_in one n a b) (and_in one n a b)
    (by (relation_of a b) (known a) (known c)
    (by (relation_of a c) (known a) (known b) (defined n (Carry a b c)))))

-- at least two of a, b and c
abbrev pub carry_in : Lit → ℕ → Lit → Lit → Lit → Chained
carry_in one n a b c =
    by (relation_of a one) (or_in one n b c) (and_in one n b c)
    (by (relation_of b c) (known b) (known a) (most_in one n a b c))

-- e, and a and b being alike
abbrev pub same_in : Lit → ℕ → Lit → Lit → Lit → Chained
same_in one n e a b =
    by (relation_of e one) (alike_in one n a b) (known e)
    (by (relation_of a b) (known e) (known (negated one))
    (by (relation_of a one) (and_in one n e b) (and_in one n e (negated b))
    (by (relation_of b one) (and_in one n e a) (and_in one n e (negated a)) (defined n (Same e a b)))))

-- what a definition is for, with at most one definition of the variable n
abbrev pub def_in : Lit → ℕ → Def → Chained
def_in one n (And a b) = and_in one n a b
def_in one n (Xor a b) = xor_in one n a b
def_in one n (Select c a b) = select_in one n c a b
def_in one n (Sum a b c) = sum_in one n a b c
def_in one n (Carry a b c) = carry_in one n a b c
def_in one n (Same e a b) = same_in one n e a b
def_in one n (Fixed true) = known one
def_in one n (Fixed false) = known (negated one)
