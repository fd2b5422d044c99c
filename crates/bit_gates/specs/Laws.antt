use Rattle.std.specs.Prelude.{ℕ, List, [], ◌∷◌, ◌+◌, ◌-◌, ◌*◌, ◌/◌, ◌^◌, ◌%◌, ◌≡◌, ◌<◌, ◌≤◌, ◌↔◌, ltb, ℤ, pos, ◌-ℤ◌, ◌<ℤ◌, length, Bool, true, false, cond, ◌&&◌}
use Rattle.prop.specs.declared.Lit.{Lit}
use Rattle.prop.specs.Logic.{lit_value, all_hold}
use Rattle.bit_gates.specs.declared.shifters.Shift.{Shift}
use Rattle.bit_gates.specs.declared.shifters.Shift.TheVariants.{Left, Logical, Arithmetic}
use Rattle.bit_gates.specs.Net.{Agree, bit, number, xor}

-- clauses over variables from n on: whatever the variables below n are, the others can be chosen so that the clauses
-- hold, and wherever they hold the outputs are as told
pub record Exact (n : ℕ) (cs : List (List Lit)) (Told : (ℕ → Bool) → Type 0) : Type 0 where
  pub extends : (v : ℕ → Bool) → (w : ℕ → Bool) × (Agree n v w) × (all_hold w cs ≡ true)
  pub told : (v : ℕ → Bool) → all_hold v cs ≡ true → Told v

abbrev pub Ands : Lit → Lit → Lit → (ℕ → Bool) → Type 0
Ands a b out v = lit_value v out ≡ (lit_value v a && lit_value v b)

abbrev pub Xors : Lit → Lit → Lit → (ℕ → Bool) → Type 0
Xors a b out v = lit_value v out ≡ xor (lit_value v a) (lit_value v b)

abbrev pub Selects : Lit → Lit → Lit → Lit → (ℕ → Bool) → Type 0
Selects c a b out v = lit_value v out ≡ cond (lit_value v c) (lit_value v a) (lit_value v b)

-- the sum of both numbers and the carry, its high bit being the carry that goes out
abbrev pub Adds : List Lit → List Lit → Lit → List Lit → Lit → (ℕ → Bool) → Type 0
Adds xs ys c outs over v =
    number v outs + 2 ^ length xs * bit (lit_value v over) ≡ number v xs + number v ys + bit (lit_value v c)

abbrev pub Multiplies : List Lit → List Lit → List Lit → (ℕ → Bool) → Type 0
Multiplies xs ys outs v = number v outs ≡ (number v xs * number v ys) % 2 ^ length ys

abbrev pub Divides : List Lit → List Lit → List Lit → List Lit → (ℕ → Bool) → Type 0
Divides xs b q r v = (number v b ≡ 0 → (number v q ≡ 0) × (number v r ≡ 0))
    × (0 < number v b → (number v xs ≡ number v q * number v b + number v r) × (number v r < number v b))

-- n as a number of w bits in two's complement
abbrev pub signed_of : ℕ → ℕ → ℤ
signed_of w n = cond (ltb (2 * n) (2 ^ w)) (pos n) (pos n -ℤ pos (2 ^ w))

abbrev pub Orders : Bool → List Lit → List Lit → Lit → (ℕ → Bool) → Type 0
Orders true xs ys out v =
    (lit_value v out ≡ true) ↔ (signed_of (length xs) (number v xs) <ℤ signed_of (length ys) (number v ys))
Orders false xs ys out v = (lit_value v out ≡ true) ↔ (number v xs < number v ys)

abbrev pub Equates : List Lit → List Lit → Lit → (ℕ → Bool) → Type 0
Equates xs ys out v = (lit_value v out ≡ true) ↔ (number v xs ≡ number v ys)

-- times or by a power of two; an arithmetic shift divides the signed number and rounds down, so a negative number's
-- distance from the greatest number of this width is divided
abbrev pub Shifts : Shift → List Lit → List Lit → List Lit → (ℕ → Bool) → Type 0
Shifts Left xs b outs v = number v outs ≡ (number v xs * 2 ^ number v b) % 2 ^ length xs
Shifts Logical xs b outs v = number v outs ≡ number v xs / 2 ^ number v b
Shifts Arithmetic xs b outs v =
    (2 * number v xs < 2 ^ length xs → number v outs ≡ number v xs / 2 ^ number v b)
    × (2 ^ length xs ≤ 2 * number v xs
    → number v outs + (2 ^ length xs - 1 - number v xs) / 2 ^ number v b ≡ 2 ^ length xs - 1)

-- a test that holds at a literal's variable
abbrev pub AllIn : (ℕ → Bool) → List Lit → Type 0
AllIn p [] = Unit {0}
AllIn p (l ∷ ls) = (p l.var ≡ true) × AllIn p ls

abbrev pub ClausesIn : (ℕ → Bool) → List (List Lit) → Type 0
ClausesIn p [] = Unit {0}
ClausesIn p (c ∷ cs) = AllIn p c × ClausesIn p cs

-- the test holds at the variables from n up to below m
abbrev pub From : (ℕ → Bool) → ℕ → ℕ → Type 0
From p n m = (k : ℕ) → n ≤ k → k < m → p k ≡ true

-- each variable of the clauses and of the outputs is an input's or lies from n up to below m: every test that those
-- pass these pass
abbrev pub Scope : ℕ → ℕ → List Lit → List (List Lit) → List Lit → Type 0
Scope n m ins cs outs = (p : ℕ → Bool) → From p n m → AllIn p ins → ClausesIn p cs × AllIn p outs
