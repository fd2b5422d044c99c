-- Certificates, as they are written.
use Rattle.std.specs.Prelude.{ℕ, ◌+◌, ◌/◌, ◌%◌, List, [], ◌∷◌, ◌++◌, length, nat_lt, if◌then◌else◌, codes}
use Rattle.lv_base.specs.declared.kind.Model.{Model}
use Rattle.lv_base.specs.declared.kind.Model.TheVariants.{Ilp32, Lp64}
use Rattle.bv_term.specs.declared.term.Term.{Term}
use Rattle.bv_term.specs.declared.term.Term.TheVariants.{Constant, Cell, Element, Add, Subtract, Multiply, Divide, Remainder, And, Or, Xor, Not, ShiftLeft, ShiftRight, ShiftSigned, Equal, Less, LessSigned, Select, ZeroExtend, SignExtend, Truncate, Bit}
use Rattle.resolution_log.specs.declared.Chain.{Chain}
use Rattle.stored_text.specs.RunText.{number_text}
use Rattle.cert_text.specs.Content.{Content}

-- a lower-case hexadecimal digit
abbrev pub hex_digit : ℕ → ℕ
hex_digit d = if nat_lt d 10 then 48 + d else 87 + d

-- two digits for each byte
abbrev pub hex_text : List ℕ → List ℕ
hex_text [] = []
hex_text (b ∷ bs) = hex_digit (b / 16) ∷ hex_digit (b % 16) ∷ hex_text bs

abbrev pub model_text : Model → List ℕ
model_text Ilp32 = codes "ilp32"
model_text Lp64 = codes "lp64"

-- a number, and the end of its line
abbrev pub number_line : ℕ → List ℕ
number_line n = number_text n ++ 10 ∷ []

-- numbers with a blank before each, and the line's end
abbrev pub numbers_text : List ℕ → List ℕ
numbers_text [] = 10 ∷ []
numbers_text (n ∷ ns) = 32 ∷ (number_text n ++ numbers_text ns)

-- a letter, and numbers
abbrev pub term_text : Term → List ℕ
term_text (Constant w v) = 99 ∷ numbers_text (w ∷ v ∷ [])
term_text (Cell i) = 120 ∷ numbers_text (i ∷ [])
term_text (Element b n i) = 115 ∷ numbers_text (b ∷ n ∷ i.0 ∷ [])
term_text (Add i j) = 43 ∷ numbers_text (i.0 ∷ j.0 ∷ [])
term_text (Subtract i j) = 45 ∷ numbers_text (i.0 ∷ j.0 ∷ [])
term_text (Multiply i j) = 42 ∷ numbers_text (i.0 ∷ j.0 ∷ [])
term_text (Divide i j) = 47 ∷ numbers_text (i.0 ∷ j.0 ∷ [])
term_text (Remainder i j) = 37 ∷ numbers_text (i.0 ∷ j.0 ∷ [])
term_text (And i j) = 38 ∷ numbers_text (i.0 ∷ j.0 ∷ [])
term_text (Or i j) = 111 ∷ numbers_text (i.0 ∷ j.0 ∷ [])
term_text (Xor i j) = 94 ∷ numbers_text (i.0 ∷ j.0 ∷ [])
term_text (Not i) = 126 ∷ numbers_text (i.0 ∷ [])
term_text (ShiftLeft i j) = 108 ∷ numbers_text (i.0 ∷ j.0 ∷ [])
term_text (ShiftRight i j) = 114 ∷ numbers_text (i.0 ∷ j.0 ∷ [])
term_text (ShiftSigned i j) = 97 ∷ numbers_text (i.0 ∷ j.0 ∷ [])
term_text (Equal i j) = 61 ∷ numbers_text (i.0 ∷ j.0 ∷ [])
term_text (Less i j) = 117 ∷ numbers_text (i.0 ∷ j.0 ∷ [])
term_text (LessSigned i j) = 118 ∷ numbers_text (i.0 ∷ j.0 ∷ [])
term_text (Select i j k) = 63 ∷ numbers_text (i.0 ∷ j.0 ∷ k.0 ∷ [])
term_text (ZeroExtend w i) = 122 ∷ numbers_text (w ∷ i.0 ∷ [])
term_text (SignExtend w i) = 103 ∷ numbers_text (w ∷ i.0 ∷ [])
term_text (Truncate w i) = 116 ∷ numbers_text (w ∷ i.0 ∷ [])
term_text (Bit w i) = 98 ∷ numbers_text (w ∷ i.0 ∷ [])

-- the text of each, one behind the other
abbrev pub each : {X : Type 0} → (X → List ℕ) → List X → List ℕ
each text [] = []
each text (x ∷ xs) = text x ++ each text xs

abbrev pub terms_text : List Term → List ℕ
terms_text ts = each term_text ts

abbrev pub formulas_text : List ℕ → List ℕ
formulas_text fs = each number_line fs

-- pairs of a pivot and a clause, and the line's end
abbrev pub pairs_text : List (ℕ × ℕ) → List ℕ
pairs_text [] = 10 ∷ []
pairs_text (p ∷ ps) = 32 ∷ (number_text p.0 ++ 32 ∷ (number_text p.1 ++ pairs_text ps))

-- a chain's first clause, and its pairs
abbrev pub chain_text : Chain → List ℕ
chain_text c = number_text c.first ++ pairs_text c.pairs

abbrev pub chains_text : List Chain → List ℕ
chains_text cs = each chain_text cs

abbrev pub log_text : List Chain → List ℕ
log_text cs = codes "log " ++ (number_line (length cs) ++ chains_text cs)

abbrev pub logs_text : List (List Chain) → List ℕ
logs_text ls = each log_text ls

-- the lines before the terms
abbrev pub head_text : Content → List ℕ
head_text c =
    codes "lac 1" ++ 10 ∷ (codes "source " ++ (hex_text c.hash
    ++ 10 ∷ (codes "model " ++ (model_text c.model
    ++ 10 ∷ (codes "layout " ++ number_line c.layout)))))

abbrev pub terms_part : List Term → List ℕ
terms_part ts = codes "terms " ++ (number_line (length ts) ++ terms_text ts)

abbrev pub nodes_part : List ℕ → List ℕ
nodes_part fs = codes "map " ++ (number_line (length fs) ++ formulas_text fs)

abbrev pub logs_part : List (List Chain) → List ℕ
logs_part ls = codes "logs " ++ (number_line (length ls) ++ logs_text ls)

abbrev pub cert_text : Content → List ℕ
cert_text c = head_text c ++ (terms_part c.terms ++ (nodes_part c.formulas ++ (logs_part c.logs ++ (codes "end" ++ 10 ∷ []))))
