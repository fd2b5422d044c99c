-- How the text that was read grows by a byte.
use Rattle.std.proofs.Common.{◌≡◌, ℕ, zero, suc, ◌+◌, ◌-◌, ◌/◌, ◌%◌, ◌<◌, ◌≤◌, Bool, true, false, ◌&&◌, List, [], ◌∷◌, ◌++◌, length, take, Option, Some, None, refl, sym, ap, ◌∙◌, arith, ◌==◌, if◌then◌else◌, append_assoc, append-nil, length-append, nat_le, nat_lt, inl, inr}
use Rattle.std.specs.Prelude.{◌⊎◌, slice_set, slice_index}
use Rattle.std.proofs.lemmas.Bool.Decides.{nat_tests}
use Rattle.stored_text.specs.RunText.{number_text}
use Rattle.cert_text.specs.declared.letters.Form.{Form}
use Rattle.cert_text.specs.declared.letters.Form.TheVariants.{Constant as FConstant, Cell as FCell, Element as FElement, Add as FAdd, Subtract as FSubtract, Multiply as FMultiply, Divide as FDivide, Remainder as FRemainder, And as FAnd, Or as FOr, Xor as FXor, Not as FNot, ShiftLeft as FShiftLeft, ShiftRight as FShiftRight, ShiftSigned as FShiftSigned, Equal as FEqual, Less as FLess, LessSigned as FLessSigned, Select as FSelect, ZeroExtend as FZeroExtend, SignExtend as FSignExtend, Truncate as FTruncate, Bit as FBit}
use Rattle.cert_text.specs.declared.letters.Operands.TheVariants.{Wide, One, Two, Three}
use Rattle.cert_text.specs.CertText.{each, hex_digit, hex_text, number_line, numbers_text, term_text, pairs_text}
use Rattle.cert_text.specs.Letters.{letter_of, form_of, operands_of, term_of}
use Rattle.cert_text.specs.Fields.{hex_value}
use Rattle.cert_text.specs.Ranges.{IsShort, TermFits}
use Rattle.certificate_laws.specs.Fits.{AllFit}
use Rattle.certificate_laws.proofs.Fronts.{pairs_open}

-- ---- Lists with their count before them

pub each_more : {X : Type 0} (text : X → List ℕ) (xs : List X) (x : X) → each text (xs ++ x ∷ []) ≡ each text xs ++ text x
each_more text [] x = append-nil (text x)
each_more text (y ∷ ys) x = ap (λ (l : List ℕ). text y ++ l) (each_more text ys x) ∙ sym (append_assoc (text y) (each text ys) (text x))

pub list_grows : {X : Type 0} (text : X → List ℕ) (xs : List X) (x : X) (n k : ℕ) → length xs + n ≡ length xs + 1 + k
    → number_line (length (xs ++ x ∷ []) + k) ++ each text (xs ++ x ∷ []) ≡ (number_line (length xs + n) ++ each text xs) ++ text x
list_grows text xs x n k e =
    let one : length (xs ++ x ∷ []) ≡ length xs + 1 = length-append xs (x ∷ []) in
    let same : length (xs ++ x ∷ []) + k ≡ length xs + n = omega (arith, one, e) in
    ap (λ (c : ℕ). number_line c ++ each text (xs ++ x ∷ [])) same
    ∙ (ap (λ (l : List ℕ). number_line (length xs + n) ++ l) (each_more text xs x)
    ∙ sym (append_assoc (number_line (length xs + n)) (each text xs) (text x)))

-- none of them is there
pub list_begins : {X : Type 0} (text : X → List ℕ) (xs : List X) (n : ℕ) → xs ≡ [] → number_line n ≡ number_line (length xs + n) ++ each text xs
list_begins {X} text xs n none =
    let zero_is : 0 + n ≡ n = omega arith in
    sym (ap (λ (l : List X). number_line (length l + n) ++ each text l) none ∙ (append-nil (number_line (0 + n)) ∙ ap number_line zero_is))

pub fit_more : {X : Type 0} (Fit : X → Type 0) (xs : List X) (x : X) → AllFit Fit xs → Fit x → AllFit Fit (xs ++ x ∷ [])
fit_more Fit [] x h f = (f, tt)
fit_more Fit (y ∷ ys) x h f = (h.0, fit_more Fit ys x h.1 f)

pub fit_none : {X : Type 0} (Fit : X → Type 0) (xs : List X) → xs ≡ [] → AllFit Fit xs
fit_none Fit [] e = tt
fit_none Fit (x ∷ xs) e = absurd (cc e)

pub length_none : {X : Type 0} (xs : List X) → xs ≡ [] → length xs ≡ 0
length_none [] e = refl
length_none (x ∷ xs) e = absurd (cc e)

-- ---- Pairs of a chain

pub pairs_end : (ps : List (ℕ × ℕ)) → pairs_open ps ++ 10 ∷ [] ≡ pairs_text ps
pairs_end [] = refl
pairs_end (p ∷ ps) =
    ap (λ (l : List ℕ). 32 ∷ l)
    (append_assoc (number_text p.0) (32 ∷ (number_text p.1 ++ pairs_open ps)) (10 ∷ [])
    ∙ ap (λ (l : List ℕ). number_text p.0 ++ 32 ∷ l) (append_assoc (number_text p.1) (pairs_open ps) (10 ∷ [])
    ∙ ap (λ (l : List ℕ). number_text p.1 ++ l) (pairs_end ps)))

pub pairs_grow : (ps : List (ℕ × ℕ)) (a b : ℕ) → pairs_open (ps ++ (a, b) ∷ []) ≡ pairs_open ps ++ 32 ∷ (number_text a ++ 32 ∷ number_text b)
pairs_grow [] a b = ap (λ (l : List ℕ). 32 ∷ (number_text a ++ 32 ∷ l)) (append-nil (number_text b))
pairs_grow (p ∷ ps) a b =
    let more = 32 ∷ (number_text a ++ 32 ∷ number_text b) in
    ap (λ (l : List ℕ). 32 ∷ l)
    (ap (λ (l : List ℕ). number_text p.0 ++ 32 ∷ (number_text p.1 ++ l)) (pairs_grow ps a b)
    ∙ (ap (λ (l : List ℕ). number_text p.0 ++ 32 ∷ l) (sym (append_assoc (number_text p.1) (pairs_open ps) more))
    ∙ sym (append_assoc (number_text p.0) (32 ∷ (number_text p.1 ++ pairs_open ps)) more)))

-- ---- Bytes of the hash

pub hex_more : (bs : List ℕ) (b : ℕ) → hex_text (bs ++ b ∷ []) ≡ hex_text bs ++ hex_digit (b / 16) ∷ hex_digit (b % 16) ∷ []
hex_more [] b = refl
hex_more (c ∷ bs) b = ap (λ (l : List ℕ). hex_digit (c / 16) ∷ hex_digit (c % 16) ∷ l) (hex_more bs b)

pub set_takes : (xs : List ℕ) (k v : ℕ) → k < length xs → take (suc k) (slice_set xs k v) ≡ take k xs ++ v ∷ []
set_takes [] k v lt = absurd (omega (arith, lt))
set_takes (x ∷ xs) zero v lt = refl
set_takes (x ∷ xs) (suc k) v lt = ap (λ (l : List ℕ). x ∷ l) (set_takes xs k v (omega (arith, lt)))

pub set_length : (xs : List ℕ) (k v : ℕ) → length (slice_set xs k v) ≡ length xs
set_length [] k v = refl
set_length (x ∷ xs) zero v = refl
set_length (x ∷ xs) (suc k) v = ap suc (set_length xs k v)

pub index_takes : (xs : List ℕ) (k : ℕ) → k < length xs → take (suc k) xs ≡ take k xs ++ slice_index xs k ∷ []
index_takes [] k lt = absurd (omega (arith, lt))
index_takes (x ∷ xs) zero lt = refl
index_takes (x ∷ xs) (suc k) lt = ap (λ (l : List ℕ). x ∷ l) (index_takes xs k (omega (arith, lt)))

-- the digit that a byte is
pub hex_told : (b d : ℕ) → hex_value b ≡ Some d → (b ≡ hex_digit d) × (d < 16)
hex_told b d e = by_low (nat_le 48 b && nat_le b 57) refl e
  where
    by_high : (t : Bool) → nat_le 97 b && nat_le b 102 ≡ t → (if t then Some (b - 87) else None) ≡ Some d → (b ≡ hex_digit d) × (d < 16)
    by_high true t e =
        let is : b - 87 ≡ d = cc e in
        let low : 97 ≤ b = grind (arith, nat_tests) in
        let high : b ≤ 102 = grind (arith, nat_tests) in
        let not_small : nat_lt d 10 ≡ false = grind (arith, nat_tests) in
        let same : b ≡ 87 + d = omega (arith, is, low) in
        (same ∙ sym (ap (λ (x : Bool). if x then 48 + d else 87 + d) not_small), omega (arith, is, high))
    by_high false t e = absurd (cc e)

    by_low : (t : Bool) → nat_le 48 b && nat_le b 57 ≡ t → (if t then Some (b - 48) else (if nat_le 97 b && nat_le b 102 then Some (b - 87) else None)) ≡ Some d → (b ≡ hex_digit d) × (d < 16)
    by_low true t e =
        let is : b - 48 ≡ d = cc e in
        let low : 48 ≤ b = grind (arith, nat_tests) in
        let high : b ≤ 57 = grind (arith, nat_tests) in
        let small : nat_lt d 10 ≡ true = grind (arith, nat_tests) in
        let same : b ≡ 48 + d = omega (arith, is, low) in
        (same ∙ sym (ap (λ (x : Bool). if x then 48 + d else 87 + d) small), omega (arith, is, high))
    by_low false t e = by_high (nat_le 97 b && nat_le b 102) refl e

-- ---- Letters of terms

pick : (b k : ℕ) (g f : Form) (rest : Option Form) → letter_of g ≡ k → (if b == k then Some g else rest) ≡ Some f → (b ≡ letter_of f) ⊎ (rest ≡ Some f)
pick b k g f rest is e = by_test (b == k) refl e
  where
    by_test : (t : Bool) → (b == k) ≡ t → (if t then Some g else rest) ≡ Some f → (b ≡ letter_of f) ⊎ (rest ≡ Some f)
    by_test true t e =
        let same : g ≡ f = cc e in
        let at : b ≡ k = grind (arith, nat_tests) in
        inl (at ∙ (sym is ∙ ap letter_of same))
    by_test false t e = inr e

or_else : {A B : Type 0} → A ⊎ B → (B → A) → A
or_else (inl a) f = a
or_else (inr b) f = f b

pub form_told : (b : ℕ) (f : Form) → form_of b ≡ Some f → b ≡ letter_of f
form_told b f e =
    or_else (pick b 99 FConstant f _ refl e) (λ e1.
    or_else (pick b 120 FCell f _ refl e1) (λ e2.
    or_else (pick b 115 FElement f _ refl e2) (λ e3.
    or_else (pick b 43 FAdd f _ refl e3) (λ e4.
    or_else (pick b 45 FSubtract f _ refl e4) (λ e5.
    or_else (pick b 42 FMultiply f _ refl e5) (λ e6.
    or_else (pick b 47 FDivide f _ refl e6) (λ e7.
    or_else (pick b 37 FRemainder f _ refl e7) (λ e8.
    or_else (pick b 38 FAnd f _ refl e8) (λ e9.
    or_else (pick b 111 FOr f _ refl e9) (λ e10.
    or_else (pick b 94 FXor f _ refl e10) (λ e11.
    or_else (pick b 126 FNot f _ refl e11) (λ e12.
    or_else (pick b 108 FShiftLeft f _ refl e12) (λ e13.
    or_else (pick b 114 FShiftRight f _ refl e13) (λ e14.
    or_else (pick b 97 FShiftSigned f _ refl e14) (λ e15.
    or_else (pick b 61 FEqual f _ refl e15) (λ e16.
    or_else (pick b 117 FLess f _ refl e16) (λ e17.
    or_else (pick b 118 FLessSigned f _ refl e17) (λ e18.
    or_else (pick b 63 FSelect f _ refl e18) (λ e19.
    or_else (pick b 122 FZeroExtend f _ refl e19) (λ e20.
    or_else (pick b 103 FSignExtend f _ refl e20) (λ e21.
    or_else (pick b 116 FTruncate f _ refl e21) (λ e22.
    or_else (pick b 98 FBit f _ refl e22) (λ e23.
    absurd (cc e23))))))))))))))))))))))))

pub one_text : (f : Form) (a : ℕ) → operands_of f ≡ One → term_text (term_of f a 0 0) ≡ letter_of f ∷ numbers_text (a ∷ [])
one_text FConstant a e = absurd (cc e)
one_text FCell a e = refl
one_text FElement a e = absurd (cc e)
one_text FAdd a e = absurd (cc e)
one_text FSubtract a e = absurd (cc e)
one_text FMultiply a e = absurd (cc e)
one_text FDivide a e = absurd (cc e)
one_text FRemainder a e = absurd (cc e)
one_text FAnd a e = absurd (cc e)
one_text FOr a e = absurd (cc e)
one_text FXor a e = absurd (cc e)
one_text FNot a e = refl
one_text FShiftLeft a e = absurd (cc e)
one_text FShiftRight a e = absurd (cc e)
one_text FShiftSigned a e = absurd (cc e)
one_text FEqual a e = absurd (cc e)
one_text FLess a e = absurd (cc e)
one_text FLessSigned a e = absurd (cc e)
one_text FSelect a e = absurd (cc e)
one_text FZeroExtend a e = absurd (cc e)
one_text FSignExtend a e = absurd (cc e)
one_text FTruncate a e = absurd (cc e)
one_text FBit a e = absurd (cc e)

pub two_text : (f : Form) (a b : ℕ) → operands_of f ≡ Two → term_text (term_of f a b 0) ≡ letter_of f ∷ numbers_text (a ∷ b ∷ [])
two_text FConstant a b e = absurd (cc e)
two_text FCell a b e = absurd (cc e)
two_text FElement a b e = absurd (cc e)
two_text FAdd a b e = refl
two_text FSubtract a b e = refl
two_text FMultiply a b e = refl
two_text FDivide a b e = refl
two_text FRemainder a b e = refl
two_text FAnd a b e = refl
two_text FOr a b e = refl
two_text FXor a b e = refl
two_text FNot a b e = absurd (cc e)
two_text FShiftLeft a b e = refl
two_text FShiftRight a b e = refl
two_text FShiftSigned a b e = refl
two_text FEqual a b e = refl
two_text FLess a b e = refl
two_text FLessSigned a b e = refl
two_text FSelect a b e = absurd (cc e)
two_text FZeroExtend a b e = refl
two_text FSignExtend a b e = refl
two_text FTruncate a b e = refl
two_text FBit a b e = refl

pub three_text : (f : Form) (a b c : ℕ) → operands_of f ≡ Three → term_text (term_of f a b c) ≡ letter_of f ∷ numbers_text (a ∷ b ∷ c ∷ [])
three_text FConstant a b c e = absurd (cc e)
three_text FCell a b c e = absurd (cc e)
three_text FElement a b c e = refl
three_text FAdd a b c e = absurd (cc e)
three_text FSubtract a b c e = absurd (cc e)
three_text FMultiply a b c e = absurd (cc e)
three_text FDivide a b c e = absurd (cc e)
three_text FRemainder a b c e = absurd (cc e)
three_text FAnd a b c e = absurd (cc e)
three_text FOr a b c e = absurd (cc e)
three_text FXor a b c e = absurd (cc e)
three_text FNot a b c e = absurd (cc e)
three_text FShiftLeft a b c e = absurd (cc e)
three_text FShiftRight a b c e = absurd (cc e)
three_text FShiftSigned a b c e = absurd (cc e)
three_text FEqual a b c e = absurd (cc e)
three_text FLess a b c e = absurd (cc e)
three_text FLessSigned a b c e = absurd (cc e)
three_text FSelect a b c e = refl
three_text FZeroExtend a b c e = absurd (cc e)
three_text FSignExtend a b c e = absurd (cc e)
three_text FTruncate a b c e = absurd (cc e)
three_text FBit a b c e = absurd (cc e)

-- the only form with a number of 128 bits
pub wide_letter : (f : Form) → operands_of f ≡ Wide → letter_of f ≡ 99
wide_letter FConstant e = refl
wide_letter FCell e = absurd (cc e)
wide_letter FElement e = absurd (cc e)
wide_letter FAdd e = absurd (cc e)
wide_letter FSubtract e = absurd (cc e)
wide_letter FMultiply e = absurd (cc e)
wide_letter FDivide e = absurd (cc e)
wide_letter FRemainder e = absurd (cc e)
wide_letter FAnd e = absurd (cc e)
wide_letter FOr e = absurd (cc e)
wide_letter FXor e = absurd (cc e)
wide_letter FNot e = absurd (cc e)
wide_letter FShiftLeft e = absurd (cc e)
wide_letter FShiftRight e = absurd (cc e)
wide_letter FShiftSigned e = absurd (cc e)
wide_letter FEqual e = absurd (cc e)
wide_letter FLess e = absurd (cc e)
wide_letter FLessSigned e = absurd (cc e)
wide_letter FSelect e = absurd (cc e)
wide_letter FZeroExtend e = absurd (cc e)
wide_letter FSignExtend e = absurd (cc e)
wide_letter FTruncate e = absurd (cc e)
wide_letter FBit e = absurd (cc e)

pub one_fits : (f : Form) (a : ℕ) → operands_of f ≡ One → IsShort a → TermFits (term_of f a 0 0)
one_fits FConstant a e ha = absurd (cc e)
one_fits FCell a e ha = ha
one_fits FElement a e ha = absurd (cc e)
one_fits FAdd a e ha = absurd (cc e)
one_fits FSubtract a e ha = absurd (cc e)
one_fits FMultiply a e ha = absurd (cc e)
one_fits FDivide a e ha = absurd (cc e)
one_fits FRemainder a e ha = absurd (cc e)
one_fits FAnd a e ha = absurd (cc e)
one_fits FOr a e ha = absurd (cc e)
one_fits FXor a e ha = absurd (cc e)
one_fits FNot a e ha = ha
one_fits FShiftLeft a e ha = absurd (cc e)
one_fits FShiftRight a e ha = absurd (cc e)
one_fits FShiftSigned a e ha = absurd (cc e)
one_fits FEqual a e ha = absurd (cc e)
one_fits FLess a e ha = absurd (cc e)
one_fits FLessSigned a e ha = absurd (cc e)
one_fits FSelect a e ha = absurd (cc e)
one_fits FZeroExtend a e ha = absurd (cc e)
one_fits FSignExtend a e ha = absurd (cc e)
one_fits FTruncate a e ha = absurd (cc e)
one_fits FBit a e ha = absurd (cc e)

pub two_fits : (f : Form) (a b : ℕ) → operands_of f ≡ Two → IsShort a → IsShort b → TermFits (term_of f a b 0)
two_fits FConstant a b e ha hb = absurd (cc e)
two_fits FCell a b e ha hb = absurd (cc e)
two_fits FElement a b e ha hb = absurd (cc e)
two_fits FAdd a b e ha hb = (ha, hb)
two_fits FSubtract a b e ha hb = (ha, hb)
two_fits FMultiply a b e ha hb = (ha, hb)
two_fits FDivide a b e ha hb = (ha, hb)
two_fits FRemainder a b e ha hb = (ha, hb)
two_fits FAnd a b e ha hb = (ha, hb)
two_fits FOr a b e ha hb = (ha, hb)
two_fits FXor a b e ha hb = (ha, hb)
two_fits FNot a b e ha hb = absurd (cc e)
two_fits FShiftLeft a b e ha hb = (ha, hb)
two_fits FShiftRight a b e ha hb = (ha, hb)
two_fits FShiftSigned a b e ha hb = (ha, hb)
two_fits FEqual a b e ha hb = (ha, hb)
two_fits FLess a b e ha hb = (ha, hb)
two_fits FLessSigned a b e ha hb = (ha, hb)
two_fits FSelect a b e ha hb = absurd (cc e)
two_fits FZeroExtend a b e ha hb = (ha, hb)
two_fits FSignExtend a b e ha hb = (ha, hb)
two_fits FTruncate a b e ha hb = (ha, hb)
two_fits FBit a b e ha hb = (ha, hb)

pub three_fits : (f : Form) (a b c : ℕ) → operands_of f ≡ Three → IsShort a → IsShort b → IsShort c → TermFits (term_of f a b c)
three_fits FConstant a b c e ha hb hc = absurd (cc e)
three_fits FCell a b c e ha hb hc = absurd (cc e)
three_fits FElement a b c e ha hb hc = (ha, hb, hc)
three_fits FAdd a b c e ha hb hc = absurd (cc e)
three_fits FSubtract a b c e ha hb hc = absurd (cc e)
three_fits FMultiply a b c e ha hb hc = absurd (cc e)
three_fits FDivide a b c e ha hb hc = absurd (cc e)
three_fits FRemainder a b c e ha hb hc = absurd (cc e)
three_fits FAnd a b c e ha hb hc = absurd (cc e)
three_fits FOr a b c e ha hb hc = absurd (cc e)
three_fits FXor a b c e ha hb hc = absurd (cc e)
three_fits FNot a b c e ha hb hc = absurd (cc e)
three_fits FShiftLeft a b c e ha hb hc = absurd (cc e)
three_fits FShiftRight a b c e ha hb hc = absurd (cc e)
three_fits FShiftSigned a b c e ha hb hc = absurd (cc e)
three_fits FEqual a b c e ha hb hc = absurd (cc e)
three_fits FLess a b c e ha hb hc = absurd (cc e)
three_fits FLessSigned a b c e ha hb hc = absurd (cc e)
three_fits FSelect a b c e ha hb hc = (ha, hb, hc)
three_fits FZeroExtend a b c e ha hb hc = absurd (cc e)
three_fits FSignExtend a b c e ha hb hc = absurd (cc e)
three_fits FTruncate a b c e ha hb hc = absurd (cc e)
three_fits FBit a b c e ha hb hc = absurd (cc e)
