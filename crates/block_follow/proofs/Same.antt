-- Terms that are equal by their parts.
use Rattle.std.proofs.Common.{◌≡◌, ◌==◌, ◌&&◌, ℕ, true, sym, ap, ◌∙◌}
use Rattle.std.proofs.lemmas.Bool.{eqb-true, and_parts, false≢true}
use Rattle.bv_term.specs.declared.term.Term.{Term}
use Rattle.bv_term.specs.declared.term.Term.TheVariants.{Constant, Cell, Element, Add, Subtract, Multiply, Divide, Remainder, And, Or, Xor, Not, ShiftLeft, ShiftRight, ShiftSigned, Equal, Less, LessSigned, Select, ZeroExtend, SignExtend, Truncate, Bit}
use Rattle.bv_term.specs.contracts.term.TermPartialEq.TheImpl.{ghosts}

one : (f : ℕ → Term) (i j : ℕ) → (i == j) ≡ true → f j ≡ f i
one f i j e = ap f (sym (eqb-true i j e))

two : (f : ℕ → ℕ → Term) (i j k l : ℕ) → (i == k && j == l) ≡ true → f k l ≡ f i j
two f i j k l e =
    let (first, second) = and_parts (i == k) (j == l) e in
    ap (λ (n : ℕ). f n l) (sym (eqb-true i k first)) ∙ ap (λ (n : ℕ). f i n) (sym (eqb-true j l second))

three : (f : ℕ → ℕ → ℕ → Term) (i j k l m n : ℕ) → (i == l && (j == m && k == n)) ≡ true → f l m n ≡ f i j k
three f i j k l m n e =
    let (first, rest) = and_parts (i == l) (j == m && k == n) e in
    ap (λ (x : ℕ). f x m n) (sym (eqb-true i l first)) ∙ two (f i) j k m n rest

pub same : (t u : Term) → ghosts.eq t u ≡ true → u ≡ t
same (Constant w v) (Constant x z) e = two (λ (m n : ℕ). Constant m n) w v x z e
same (Cell c) (Cell d) e = one (λ (n : ℕ). Cell n) c d e
same (Element a n i) (Element b m j) e = three (λ (x y z : ℕ). Element x y (record { 0 = z })) a n i.0 b m j.0 e
same (Add i j) (Add k l) e = two (λ (m n : ℕ). Add (record { 0 = m }) (record { 0 = n })) i.0 j.0 k.0 l.0 e
same (Subtract i j) (Subtract k l) e = two (λ (m n : ℕ). Subtract (record { 0 = m }) (record { 0 = n })) i.0 j.0 k.0 l.0 e
same (Multiply i j) (Multiply k l) e = two (λ (m n : ℕ). Multiply (record { 0 = m }) (record { 0 = n })) i.0 j.0 k.0 l.0 e
same (Divide i j) (Divide k l) e = two (λ (m n : ℕ). Divide (record { 0 = m }) (record { 0 = n })) i.0 j.0 k.0 l.0 e
same (Remainder i j) (Remainder k l) e = two (λ (m n : ℕ). Remainder (record { 0 = m }) (record { 0 = n })) i.0 j.0 k.0 l.0 e
same (And i j) (And k l) e = two (λ (m n : ℕ). And (record { 0 = m }) (record { 0 = n })) i.0 j.0 k.0 l.0 e
same (Or i j) (Or k l) e = two (λ (m n : ℕ). Or (record { 0 = m }) (record { 0 = n })) i.0 j.0 k.0 l.0 e
same (Xor i j) (Xor k l) e = two (λ (m n : ℕ). Xor (record { 0 = m }) (record { 0 = n })) i.0 j.0 k.0 l.0 e
same (ShiftLeft i j) (ShiftLeft k l) e = two (λ (m n : ℕ). ShiftLeft (record { 0 = m }) (record { 0 = n })) i.0 j.0 k.0 l.0 e
same (ShiftRight i j) (ShiftRight k l) e = two (λ (m n : ℕ). ShiftRight (record { 0 = m }) (record { 0 = n })) i.0 j.0 k.0 l.0 e
same (ShiftSigned i j) (ShiftSigned k l) e = two (λ (m n : ℕ). ShiftSigned (record { 0 = m }) (record { 0 = n })) i.0 j.0 k.0 l.0 e
same (Equal i j) (Equal k l) e = two (λ (m n : ℕ). Equal (record { 0 = m }) (record { 0 = n })) i.0 j.0 k.0 l.0 e
same (Less i j) (Less k l) e = two (λ (m n : ℕ). Less (record { 0 = m }) (record { 0 = n })) i.0 j.0 k.0 l.0 e
same (LessSigned i j) (LessSigned k l) e = two (λ (m n : ℕ). LessSigned (record { 0 = m }) (record { 0 = n })) i.0 j.0 k.0 l.0 e
same (Not i) (Not j) e = one (λ (n : ℕ). Not (record { 0 = n })) i.0 j.0 e
same (Select i j k) (Select l m n) e = three (λ (x y z : ℕ). Select (record { 0 = x }) (record { 0 = y }) (record { 0 = z })) i.0 j.0 k.0 l.0 m.0 n.0 e
same (ZeroExtend w i) (ZeroExtend x j) e = two (λ (m n : ℕ). ZeroExtend m (record { 0 = n })) w i.0 x j.0 e
same (SignExtend w i) (SignExtend x j) e = two (λ (m n : ℕ). SignExtend m (record { 0 = n })) w i.0 x j.0 e
same (Truncate w i) (Truncate x j) e = two (λ (m n : ℕ). Truncate m (record { 0 = n })) w i.0 x j.0 e
same (Bit w i) (Bit x j) e = two (λ (m n : ℕ). Bit m (record { 0 = n })) w i.0 x j.0 e
same _ _ e = absurd (false≢true e)
