-- The terms below a term that are not done, each once, from the highest number down.
use Rattle.std.specs.Prelude.{ℕ, ◌≡◌, Bool, not, ◌&&◌, ◌||◌, cond, nat_eq, List, [], ◌∷◌, zero, suc, sum_by}
use Rattle.std.specs.Prelude.{ltb}
use Rattle.prop.specs.Trues.{listed}
use Rattle.bv_term.specs.declared.term.Term.{Term}
use Rattle.bv_term.specs.declared.term.Term.TheVariants.{Constant, Cell, Element, Add, Subtract, Multiply, Divide, Remainder, And, Or, Xor, Not, ShiftLeft, ShiftRight, ShiftSigned, Equal, Less, LessSigned, Select, ZeroExtend, SignExtend, Truncate, Bit}
use Rattle.bit_blast.specs.declared.cone.Uses.{Uses}
use Rattle.bit_blast.specs.declared.cone.Uses.TheVariants.{Nothing, One, Two, Three}
use Rattle.bit_blast.specs.Done.{Known, is_done}

-- the operands of a term
abbrev pub uses_of : Term → Uses
uses_of (Constant w v) = Nothing
uses_of (Cell c) = Nothing
uses_of (Element first n i) = One i.0
uses_of (Add i j) = Two i.0 j.0
uses_of (Subtract i j) = Two i.0 j.0
uses_of (Multiply i j) = Two i.0 j.0
uses_of (Divide i j) = Two i.0 j.0
uses_of (Remainder i j) = Two i.0 j.0
uses_of (And i j) = Two i.0 j.0
uses_of (Or i j) = Two i.0 j.0
uses_of (Xor i j) = Two i.0 j.0
uses_of (Not i) = One i.0
uses_of (ShiftLeft i j) = Two i.0 j.0
uses_of (ShiftRight i j) = Two i.0 j.0
uses_of (ShiftSigned i j) = Two i.0 j.0
uses_of (Equal i j) = Two i.0 j.0
uses_of (Less i j) = Two i.0 j.0
uses_of (LessSigned i j) = Two i.0 j.0
uses_of (Select i j k) = Three i.0 j.0 k.0
uses_of (ZeroExtend w i) = One i.0
uses_of (SignExtend w i) = One i.0
uses_of (Truncate w i) = One i.0
uses_of (Bit k i) = One i.0

abbrev pub numbers : Uses → List ℕ
numbers Nothing = []
numbers (One a) = a ∷ []
numbers (Two a b) = a ∷ b ∷ []
numbers (Three a b c) = a ∷ b ∷ c ∷ []

-- the operands of the term with this number
abbrev pub operands_at : List Term → ℕ → List ℕ
operands_at [] k = []
operands_at (t ∷ ts) zero = numbers (uses_of t)
operands_at (t ∷ ts) (suc k) = operands_at ts k

-- whether the first term uses the second, which is not done
abbrev pub wants : List Term → (ℕ → Bool) → ℕ → ℕ → Bool
wants ts done k j = listed (operands_at ts k) j && not (done j)

-- the terms below a number that are needed, and what they need in turn, from the highest down
abbrev pub falling : List Term → (ℕ → Bool) → ℕ → (ℕ → Bool) → List ℕ
falling ts done zero need = []
falling ts done (suc k) need =
    cond (need k) (k ∷ falling ts done k (λ j. need j || wants ts done k j)) (falling ts done k need)

-- what has to be done for the term with this number
abbrev pub cone_of : List Term → List Known → ℕ → List ℕ
cone_of ts done t = falling ts (is_done done) (suc t) (λ j. nat_eq t j && not (is_done done j))

-- how often a list has a number
abbrev pub hits : List ℕ → ℕ → ℕ
hits xs j = sum_by (λ x. cond (nat_eq x j) 1 0) xs

-- whether a list has a number
abbrev pub pending : List ℕ → ℕ → Bool
pending xs j = ltb 0 (hits xs j)

-- a number is pending too, where its term is not done
abbrev pub Wanted : List ℕ → List ℕ → (ℕ → Bool) → ℕ → Type 0
Wanted old new done k = (j : ℕ) → pending new j ≡ (pending old j || (nat_eq k j && not (done j)))

-- all these numbers are, where their terms are not done
abbrev pub AllWanted : List ℕ → List ℕ → (ℕ → Bool) → List ℕ → Type 0
AllWanted old new done ks = (j : ℕ) → pending new j ≡ (pending old j || (listed ks j && not (done j)))
