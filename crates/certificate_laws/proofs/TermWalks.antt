-- The terms of a certificate are read to what they are.
use Rattle.std.proofs.Common.{◌≡◌, ℕ, ◌-◌, ◌≤◌, Bool, true, false, List, [], ◌∷◌, ◌++◌, Option, Some, refl, ap, ◌∙◌, if◌then◌else◌, append_assoc, nat_le, inl, inr}
use Rattle.std.specs.Prelude.{option_and_then, ◌⊎◌}
use Rattle.stored_text.specs.RunText.{number_text}
use Rattle.bv_term.specs.declared.term.Term.{Term}
use Rattle.bv_term.specs.declared.term.Term.TheVariants.{Constant, Cell, Element, Add, Subtract, Multiply, Divide, Remainder, And, Or, Xor, Not, ShiftLeft, ShiftRight, ShiftSigned, Equal, Less, LessSigned, Select, ZeroExtend, SignExtend, Truncate, Bit}
use Rattle.cert_text.specs.declared.letters.Form.{Form}
use Rattle.cert_text.specs.declared.letters.Form.TheVariants.{Constant as FConstant, Cell as FCell, Element as FElement, Add as FAdd, Subtract as FSubtract, Multiply as FMultiply, Divide as FDivide, Remainder as FRemainder, And as FAnd, Or as FOr, Xor as FXor, Not as FNot, ShiftLeft as FShiftLeft, ShiftRight as FShiftRight, ShiftSigned as FShiftSigned, Equal as FEqual, Less as FLess, LessSigned as FLessSigned, Select as FSelect, ZeroExtend as FZeroExtend, SignExtend as FSignExtend, Truncate as FTruncate, Bit as FBit}
use Rattle.cert_text.specs.declared.letters.Operands.{Operands}
use Rattle.cert_text.specs.declared.letters.Operands.TheVariants.{One, Two, Three}
use Rattle.cert_text.specs.declared.place.Fixed.TheVariants.{BeforeNodes}
use Rattle.cert_text.specs.declared.place.Slot.TheVariants.{Text, Letter, First, Second, Third, Value}
use Rattle.cert_text.specs.declared.place.Place.{Place}
use Rattle.cert_text.specs.declared.place.Part.TheVariants.{Fresh, Digits, WideDigits}
use Rattle.cert_text.specs.declared.steps.Act.TheVariants.{Adds}
use Rattle.cert_text.specs.CertText.{numbers_text, term_text}
use Rattle.cert_text.specs.Letters.{letter_of, form_of, operands_of, term_of}
use Rattle.cert_text.specs.Steps.{place_of, go, add, first_by, second_by, letter_by}
use Rattle.cert_text.specs.Drafts.{Said, acted}
use Rattle.cert_text.specs.Ranges.{IsShort, TermFits}
use Rattle.certificate_laws.proofs.Walks.{State, at, moved, walk, number_walks, wide_walks}

letter_tells : (f : Form) → form_of (letter_of f) ≡ Some f
letter_tells FConstant = refl
letter_tells FCell = refl
letter_tells FElement = refl
letter_tells FAdd = refl
letter_tells FSubtract = refl
letter_tells FMultiply = refl
letter_tells FDivide = refl
letter_tells FRemainder = refl
letter_tells FAnd = refl
letter_tells FOr = refl
letter_tells FXor = refl
letter_tells FNot = refl
letter_tells FShiftLeft = refl
letter_tells FShiftRight = refl
letter_tells FShiftSigned = refl
letter_tells FEqual = refl
letter_tells FLess = refl
letter_tells FLessSigned = refl
letter_tells FSelect = refl
letter_tells FZeroExtend = refl
letter_tells FSignExtend = refl
letter_tells FTruncate = refl
letter_tells FBit = refl

-- where reading stands behind a term, with so many left before it
abbrev pub behind : ℕ → Place
behind left = if nat_le left 1 then place_of (Text BeforeNodes) 0 0 else place_of Letter (left - 1) 0

abbrev pub letter : ℕ → Place
letter left = place_of Letter left 0

add_moves : (s : State) (left : ℕ) (t : Term) → moved s (add left t) ≡ Some (at (acted (Adds t) s.said) (behind left) Fresh)
add_moves s left t = by_last (nat_le left 1)
  where
    by_last : (b : Bool) → moved s (if b then go (Text BeforeNodes) 0 (Adds t) else go Letter (left - 1) (Adds t)) ≡ Some (at (acted (Adds t) s.said) (if b then place_of (Text BeforeNodes) 0 0 else place_of Letter (left - 1) 0) Fresh)
    by_last true = refl
    by_last false = refl

-- a letter and its blank
form_walks : (f : Form) (said : Said) (left : ℕ) (rest : List ℕ) → walk (at said (letter left) Fresh) (letter_of f ∷ 32 ∷ rest) ≡ walk (at said (place_of (First f) left 0) Fresh) rest
form_walks f said left rest = ap (λ (o : Option Form). option_and_then (λ q. walk q (32 ∷ rest)) (moved (at said (letter left) Fresh) (letter_by left o))) (letter_tells f)

-- the end of a term
end_walks : (said : Said) (left : ℕ) (t : Term) (s : State) (rest : List ℕ) → s.said ≡ said → option_and_then (λ q. walk q rest) (moved s (add left t)) ≡ walk (at (acted (Adds t) said) (behind left) Fresh) rest
end_walks said left t s rest e =
    ap (λ (o : Option State). option_and_then (λ q. walk q rest) o) (add_moves s left t)
    ∙ ap (λ (x : Said). walk (at (acted (Adds t) x) (behind left) Fresh) rest) e

one_text : (a : ℕ) (rest : List ℕ) → numbers_text (a ∷ []) ++ rest ≡ 32 ∷ number_text a ++ 10 ∷ rest
one_text a rest = ap (λ (l : List ℕ). 32 ∷ l) (append_assoc (number_text a) (10 ∷ []) rest)

two_text : (a b : ℕ) (rest : List ℕ) → numbers_text (a ∷ b ∷ []) ++ rest ≡ 32 ∷ (number_text a ++ 32 ∷ (number_text b ++ 10 ∷ rest))
two_text a b rest =
    ap (λ (l : List ℕ). 32 ∷ l) (append_assoc (number_text a) (numbers_text (b ∷ [])) rest)
    ∙ ap (λ (l : List ℕ). 32 ∷ number_text a ++ l) (one_text b rest)

three_text : (a b c : ℕ) (rest : List ℕ) → numbers_text (a ∷ b ∷ c ∷ []) ++ rest ≡ 32 ∷ (number_text a ++ 32 ∷ (number_text b ++ 32 ∷ (number_text c ++ 10 ∷ rest)))
three_text a b c rest =
    ap (λ (l : List ℕ). 32 ∷ l) (append_assoc (number_text a) (numbers_text (b ∷ c ∷ [])) rest)
    ∙ ap (λ (l : List ℕ). 32 ∷ number_text a ++ l) (two_text b c rest)

-- the first number of a term of more than one, and the second of a term of three
first_walks : (f : Form) (said : Said) (left a : ℕ) (rest : List ℕ) → (operands_of f ≡ Two) ⊎ (operands_of f ≡ Three) → IsShort a
    → walk (at said (letter left) Fresh) (letter_of f ∷ 32 ∷ number_text a ++ 32 ∷ rest) ≡ walk (at said (place_of (Second f a) left 0) Fresh) rest
first_walks f said left a rest more fits =
    form_walks f said left (number_text a ++ 32 ∷ rest)
    ∙ number_walks a said (place_of (First f) left 0) (32 ∷ rest) refl fits
    ∙ by_more more
  where
    by_more : (operands_of f ≡ Two) ⊎ (operands_of f ≡ Three) → walk (at said (place_of (First f) left 0) (Digits a)) (32 ∷ rest) ≡ walk (at said (place_of (Second f a) left 0) Fresh) rest
    by_more (inl e) = ap (λ (o : Operands). option_and_then (λ q. walk q rest) (moved (at said (place_of (First f) left 0) (Digits a)) (first_by o left f a 32))) e
    by_more (inr e) = ap (λ (o : Operands). option_and_then (λ q. walk q rest) (moved (at said (place_of (First f) left 0) (Digits a)) (first_by o left f a 32))) e

one_walks : (f : Form) (said : Said) (left a : ℕ) (rest : List ℕ) → operands_of f ≡ One → IsShort a
    → walk (at said (letter left) Fresh) ((letter_of f ∷ numbers_text (a ∷ [])) ++ rest) ≡ walk (at (acted (Adds (term_of f a 0 0)) said) (behind left) Fresh) rest
one_walks f said left a rest one fits =
    ap (λ (l : List ℕ). walk (at said (letter left) Fresh) (letter_of f ∷ l)) (one_text a rest)
    ∙ form_walks f said left (number_text a ++ 10 ∷ rest)
    ∙ number_walks a said (place_of (First f) left 0) (10 ∷ rest) refl fits
    ∙ ap (λ (o : Operands). option_and_then (λ q. walk q rest) (moved (at said (place_of (First f) left 0) (Digits a)) (first_by o left f a 10))) one
    ∙ end_walks said left (term_of f a 0 0) (at said (place_of (First f) left 0) (Digits a)) rest refl

two_walks : (f : Form) (said : Said) (left a b : ℕ) (rest : List ℕ) → operands_of f ≡ Two → IsShort a → IsShort b
    → walk (at said (letter left) Fresh) ((letter_of f ∷ numbers_text (a ∷ b ∷ [])) ++ rest) ≡ walk (at (acted (Adds (term_of f a b 0)) said) (behind left) Fresh) rest
two_walks f said left a b rest two fa fb =
    ap (λ (l : List ℕ). walk (at said (letter left) Fresh) (letter_of f ∷ l)) (two_text a b rest)
    ∙ first_walks f said left a (number_text b ++ 10 ∷ rest) (inl two) fa
    ∙ number_walks b said (place_of (Second f a) left 0) (10 ∷ rest) refl fb
    ∙ ap (λ (o : Operands). option_and_then (λ q. walk q rest) (moved (at said (place_of (Second f a) left 0) (Digits b)) (second_by o left f a b 10))) two
    ∙ end_walks said left (term_of f a b 0) (at said (place_of (Second f a) left 0) (Digits b)) rest refl

three_walks : (f : Form) (said : Said) (left a b c : ℕ) (rest : List ℕ) → operands_of f ≡ Three → IsShort a → IsShort b → IsShort c
    → walk (at said (letter left) Fresh) ((letter_of f ∷ numbers_text (a ∷ b ∷ c ∷ [])) ++ rest) ≡ walk (at (acted (Adds (term_of f a b c)) said) (behind left) Fresh) rest
three_walks f said left a b c rest three fa fb fc =
    ap (λ (l : List ℕ). walk (at said (letter left) Fresh) (letter_of f ∷ l)) (three_text a b c rest)
    ∙ first_walks f said left a (number_text b ++ 32 ∷ (number_text c ++ 10 ∷ rest)) (inr three) fa
    ∙ number_walks b said (place_of (Second f a) left 0) (32 ∷ number_text c ++ 10 ∷ rest) refl fb
    ∙ ap (λ (o : Operands). option_and_then (λ q. walk q (number_text c ++ 10 ∷ rest)) (moved (at said (place_of (Second f a) left 0) (Digits b)) (second_by o left f a b 32))) three
    ∙ number_walks c said (place_of (Third f a b) left 0) (10 ∷ rest) refl fc
    ∙ end_walks said left (term_of f a b c) (at said (place_of (Third f a b) left 0) (Digits c)) rest refl

constant_walks : (said : Said) (left w v : ℕ) (rest : List ℕ) → IsShort w → v ≤ 340282366920938463463374607431768211455
    → walk (at said (letter left) Fresh) ((99 ∷ numbers_text (w ∷ v ∷ [])) ++ rest) ≡ walk (at (acted (Adds (Constant w v)) said) (behind left) Fresh) rest
constant_walks said left w v rest fw fv =
    ap (λ (l : List ℕ). walk (at said (letter left) Fresh) (99 ∷ l)) (two_text w v rest)
    ∙ form_walks FConstant said left (number_text w ++ 32 ∷ (number_text v ++ 10 ∷ rest))
    ∙ number_walks w said (place_of (First FConstant) left 0) (32 ∷ number_text v ++ 10 ∷ rest) refl fw
    ∙ wide_walks v said (place_of (Value w) left 0) w (10 ∷ rest) refl fv
    ∙ end_walks said left (Constant w v) (at said (place_of (Value w) left 0) (WideDigits v)) rest refl

-- the line of a term
pub term_walks : (t : Term) (said : Said) (left : ℕ) (rest : List ℕ) → TermFits t → walk (at said (letter left) Fresh) (term_text t ++ rest) ≡ walk (at (acted (Adds t) said) (behind left) Fresh) rest
term_walks (Constant w v) said left rest f = constant_walks said left w v rest f.0 f.1
term_walks (Cell i) said left rest f = one_walks FCell said left i rest refl f
term_walks (Element b n i) said left rest f = three_walks FElement said left b n i.0 rest refl f.0 f.1 f.2
term_walks (Add i j) said left rest f = two_walks FAdd said left i.0 j.0 rest refl f.0 f.1
term_walks (Subtract i j) said left rest f = two_walks FSubtract said left i.0 j.0 rest refl f.0 f.1
term_walks (Multiply i j) said left rest f = two_walks FMultiply said left i.0 j.0 rest refl f.0 f.1
term_walks (Divide i j) said left rest f = two_walks FDivide said left i.0 j.0 rest refl f.0 f.1
term_walks (Remainder i j) said left rest f = two_walks FRemainder said left i.0 j.0 rest refl f.0 f.1
term_walks (And i j) said left rest f = two_walks FAnd said left i.0 j.0 rest refl f.0 f.1
term_walks (Or i j) said left rest f = two_walks FOr said left i.0 j.0 rest refl f.0 f.1
term_walks (Xor i j) said left rest f = two_walks FXor said left i.0 j.0 rest refl f.0 f.1
term_walks (Not i) said left rest f = one_walks FNot said left i.0 rest refl f
term_walks (ShiftLeft i j) said left rest f = two_walks FShiftLeft said left i.0 j.0 rest refl f.0 f.1
term_walks (ShiftRight i j) said left rest f = two_walks FShiftRight said left i.0 j.0 rest refl f.0 f.1
term_walks (ShiftSigned i j) said left rest f = two_walks FShiftSigned said left i.0 j.0 rest refl f.0 f.1
term_walks (Equal i j) said left rest f = two_walks FEqual said left i.0 j.0 rest refl f.0 f.1
term_walks (Less i j) said left rest f = two_walks FLess said left i.0 j.0 rest refl f.0 f.1
term_walks (LessSigned i j) said left rest f = two_walks FLessSigned said left i.0 j.0 rest refl f.0 f.1
term_walks (Select i j k) said left rest f = three_walks FSelect said left i.0 j.0 k.0 rest refl f.0 f.1 f.2
term_walks (ZeroExtend w i) said left rest f = two_walks FZeroExtend said left w i.0 rest refl f.0 f.1
term_walks (SignExtend w i) said left rest f = two_walks FSignExtend said left w i.0 rest refl f.0 f.1
term_walks (Truncate w i) said left rest f = two_walks FTruncate said left w i.0 rest refl f.0 f.1
term_walks (Bit w i) said left rest f = two_walks FBit said left w i.0 rest refl f.0 f.1
