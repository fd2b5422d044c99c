-- What a term lacks among its operands.
use Rattle.std.proofs.Common.{◌≡◌, ℕ, ◌<◌, refl, subst, Option, None, Some, inl, inr, ◌⊎◌}
use Rattle.bv_term.specs.declared.term.TermId.{TermId}
use Rattle.bv_term.specs.declared.term.Term.{Term}
use Rattle.bv_term.specs.declared.term.Term.TheVariants.{Constant, Cell, Element, Add, Subtract, Multiply, Divide, Remainder, And, Or, Xor, Not, ShiftLeft, ShiftRight, ShiftSigned, Equal, Less, LessSigned, Select, ZeroExtend, SignExtend, Truncate, Bit}
use Rattle.term_laws.specs.Operands.{OnOperands}
use Rattle.term_values.specs.Steps.{IsPlaced, lacking, lacking_two, or_lacking}

or-none : (o : Option ℕ) (i : TermId) (others : Option TermId) → or_lacking o i others ≡ None → ((k : ℕ) × (o ≡ Some k)) × (others ≡ None)
or-none None i others h = absurd cc
or-none (Some k) i others h = ((k, refl), h)

or-some : (o : Option ℕ) (i j : TermId) (others : Option TermId) → or_lacking o i others ≡ Some j → ((o ≡ None) × (i ≡ j)) ⊎ (others ≡ Some j)
or-some None i j others h = inl (refl, cc)
or-some (Some k) i j others h = inr h

none-of : {P : Type 0} (j : TermId) (o : Option TermId) → o ≡ None → o ≡ Some j → P
none-of j o e h = absurd cc

-- where nothing is lacking, each operand has a number
one-placed : (find : ℕ → Option ℕ) (i : TermId) → or_lacking (find i.0) i None ≡ None → IsPlaced find i
one-placed find i h = (or-none (find i.0) i None h).0

two-placed : (find : ℕ → Option ℕ) (i j : TermId) → lacking_two find i j ≡ None → IsPlaced find i × IsPlaced find j
two-placed find i j h = let r = or-none (find i.0) i (or_lacking (find j.0) j None) h in (r.0, one-placed find j r.1)

pub all-placed : (find : ℕ → Option ℕ) (t : Term) → lacking find t ≡ None → OnOperands (IsPlaced find) t
all-placed find (Constant w v) h = tt
all-placed find (Cell c) h = tt
all-placed find (Element first n i) h = one-placed find i h
all-placed find (Add i j) h = two-placed find i j h
all-placed find (Subtract i j) h = two-placed find i j h
all-placed find (Multiply i j) h = two-placed find i j h
all-placed find (Divide i j) h = two-placed find i j h
all-placed find (Remainder i j) h = two-placed find i j h
all-placed find (And i j) h = two-placed find i j h
all-placed find (Or i j) h = two-placed find i j h
all-placed find (Xor i j) h = two-placed find i j h
all-placed find (Not i) h = one-placed find i h
all-placed find (ShiftLeft i j) h = two-placed find i j h
all-placed find (ShiftRight i j) h = two-placed find i j h
all-placed find (ShiftSigned i j) h = two-placed find i j h
all-placed find (Equal i j) h = two-placed find i j h
all-placed find (Less i j) h = two-placed find i j h
all-placed find (LessSigned i j) h = two-placed find i j h
all-placed find (Select i j k) h =
    let r = or-none (find i.0) i (lacking_two find j k) h in
    let p = two-placed find j k r.1 in (r.0, p.0, p.1)
all-placed find (ZeroExtend w i) h = one-placed find i h
all-placed find (SignExtend w i) h = one-placed find i h
all-placed find (Truncate w i) h = one-placed find i h
all-placed find (Bit n i) h = one-placed find i h

-- what is lacking is an operand without a number
abbrev pub IsLacking : (ℕ → Option ℕ) → ℕ → TermId → Type 0
IsLacking find n j = (find j.0 ≡ None) × (j.0 < n)

first-lacks : (find : ℕ → Option ℕ) (n : ℕ) (i j : TermId) (others : Option TermId) → or_lacking (find i.0) i others ≡ Some j → i.0 < n
    → (others ≡ Some j → IsLacking find n j) → IsLacking find n j
first-lacks find n i j others h lt g = elim (or-some (find i.0) i j others h) as (λ _. IsLacking find n j) [
  | inl e ↦ subst (IsLacking find n) e.1 (e.0, lt)
  | inr q ↦ g q
]

one-lacks : (find : ℕ → Option ℕ) (n : ℕ) (i j : TermId) → or_lacking (find i.0) i None ≡ Some j → i.0 < n → IsLacking find n j
one-lacks find n i j h lt = first-lacks find n i j None h lt (λ q. none-of j None refl q)

two-lack : (find : ℕ → Option ℕ) (n : ℕ) (i j k : TermId) → lacking_two find i j ≡ Some k → (i.0 < n) × (j.0 < n) → IsLacking find n k
two-lack find n i j k h p = first-lacks find n i k (or_lacking (find j.0) j None) h p.0 (λ q. one-lacks find n j k q p.1)

pub one-lacking : (find : ℕ → Option ℕ) (n : ℕ) (t : Term) (m : TermId) → lacking find t ≡ Some m → OnOperands (λ i. i.0 < n) t → IsLacking find n m
one-lacking find n (Constant w v) m h p = none-of m None refl h
one-lacking find n (Cell c) m h p = none-of m None refl h
one-lacking find n (Element first many i) m h p = one-lacks find n i m h p
one-lacking find n (Add i j) m h p = two-lack find n i j m h p
one-lacking find n (Subtract i j) m h p = two-lack find n i j m h p
one-lacking find n (Multiply i j) m h p = two-lack find n i j m h p
one-lacking find n (Divide i j) m h p = two-lack find n i j m h p
one-lacking find n (Remainder i j) m h p = two-lack find n i j m h p
one-lacking find n (And i j) m h p = two-lack find n i j m h p
one-lacking find n (Or i j) m h p = two-lack find n i j m h p
one-lacking find n (Xor i j) m h p = two-lack find n i j m h p
one-lacking find n (Not i) m h p = one-lacks find n i m h p
one-lacking find n (ShiftLeft i j) m h p = two-lack find n i j m h p
one-lacking find n (ShiftRight i j) m h p = two-lack find n i j m h p
one-lacking find n (ShiftSigned i j) m h p = two-lack find n i j m h p
one-lacking find n (Equal i j) m h p = two-lack find n i j m h p
one-lacking find n (Less i j) m h p = two-lack find n i j m h p
one-lacking find n (LessSigned i j) m h p = two-lack find n i j m h p
one-lacking find n (Select i j k) m h p = first-lacks find n i m (lacking_two find j k) h p.0 (λ q. two-lack find n j k m q (p.1, p.2))
one-lacking find n (ZeroExtend w i) m h p = one-lacks find n i m h p
one-lacking find n (SignExtend w i) m h p = one-lacks find n i m h p
one-lacking find n (Truncate w i) m h p = one-lacks find n i m h p
one-lacking find n (Bit b i) m h p = one-lacks find n i m h p
