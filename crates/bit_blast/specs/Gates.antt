-- A word for each operation, `one` being true: what the gates make, before it is folded.
use Rattle.std.specs.Prelude.{ℕ, ◌-◌, Bool, List, [], ◌∷◌, ◌++◌, length, map}
use Rattle.prop.specs.declared.Lit.{Lit}
use Rattle.prop.specs.Logic.{negated}
use Rattle.bit_gates.specs.Sums.{ripple}
use Rattle.bit_gates.specs.Products.{Made}
use Rattle.bit_gates.specs.Quotients.{quotient}
use Rattle.bit_gates.specs.Orders.{less_of, equal_of}
use Rattle.bit_words.specs.Words.{copies_of, ands}

abbrev pub add_word : Lit → ℕ → List Lit → List Lit → Made
add_word one n a b = let r = ripple n a b (negated one) in record { defs = r.defs; outs = r.outs }

abbrev pub subtract_word : Lit → ℕ → List Lit → List Lit → Made
subtract_word one n a b = let r = ripple n a (map negated b) one in record { defs = r.defs; outs = r.outs }

abbrev pub divide_word : ℕ → List Lit → List Lit → Made
divide_word n a b = let q = quotient n a b in record { defs = q.defs; outs = q.quot }

abbrev pub remainder_word : ℕ → List Lit → List Lit → Made
remainder_word n a b = let q = quotient n a b in record { defs = q.defs; outs = q.rest }

-- a or b, bit by bit: neither is false in both
abbrev pub or_word : ℕ → List Lit → List Lit → Made
or_word n a b = let m = ands n (map negated a) (map negated b) in record { defs = m.defs; outs = map negated m.outs }

abbrev pub equal_word : ℕ → List Lit → List Lit → Made
equal_word n a b = let m = equal_of n a b in record { defs = m.defs; outs = m.out ∷ [] }

abbrev pub less_word : ℕ → Bool → List Lit → List Lit → Made
less_word n signed a b = let m = less_of n signed a b in record { defs = m.defs; outs = m.out ∷ [] }

-- the literals with copies of l above them, w in all
abbrev pub extended_to : ℕ → Lit → List Lit → List Lit
extended_to w l a = a ++ copies_of l (w - length a)
