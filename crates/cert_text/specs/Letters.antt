-- The letters of terms.
use Rattle.std.specs.Prelude.{ℕ, ◌==◌, if◌then◌else◌, Option, Some, None}
use Rattle.bv_term.specs.declared.term.TermId.{TermId}
use Rattle.bv_term.specs.declared.term.Term.{Term}
use Rattle.bv_term.specs.declared.term.Term.TheVariants.{Constant, Cell, Element, Add, Subtract, Multiply, Divide, Remainder, And, Or, Xor, Not, ShiftLeft, ShiftRight, ShiftSigned, Equal, Less, LessSigned, Select, ZeroExtend, SignExtend, Truncate, Bit}
use Rattle.cert_text.specs.declared.letters.Form.{Form}
use Rattle.cert_text.specs.declared.letters.Form.TheVariants.{Constant as FConstant, Cell as FCell, Element as FElement, Add as FAdd, Subtract as FSubtract, Multiply as FMultiply, Divide as FDivide, Remainder as FRemainder, And as FAnd, Or as FOr, Xor as FXor, Not as FNot, ShiftLeft as FShiftLeft, ShiftRight as FShiftRight, ShiftSigned as FShiftSigned, Equal as FEqual, Less as FLess, LessSigned as FLessSigned, Select as FSelect, ZeroExtend as FZeroExtend, SignExtend as FSignExtend, Truncate as FTruncate, Bit as FBit}
use Rattle.cert_text.specs.declared.letters.Operands.{Operands}
use Rattle.cert_text.specs.declared.letters.Operands.TheVariants.{Wide, One, Two, Three}

-- the letter of each form
abbrev pub letter_of : Form → ℕ
letter_of FConstant = 99
letter_of FCell = 120
letter_of FElement = 115
letter_of FAdd = 43
letter_of FSubtract = 45
letter_of FMultiply = 42
letter_of FDivide = 47
letter_of FRemainder = 37
letter_of FAnd = 38
letter_of FOr = 111
letter_of FXor = 94
letter_of FNot = 126
letter_of FShiftLeft = 108
letter_of FShiftRight = 114
letter_of FShiftSigned = 97
letter_of FEqual = 61
letter_of FLess = 117
letter_of FLessSigned = 118
letter_of FSelect = 63
letter_of FZeroExtend = 122
letter_of FSignExtend = 103
letter_of FTruncate = 116
letter_of FBit = 98

-- the form of a letter
abbrev pub form_of : ℕ → Option Form
form_of byte =
    if byte == 99 then Some FConstant else
    if byte == 120 then Some FCell else
    if byte == 115 then Some FElement else
    if byte == 43 then Some FAdd else
    if byte == 45 then Some FSubtract else
    if byte == 42 then Some FMultiply else
    if byte == 47 then Some FDivide else
    if byte == 37 then Some FRemainder else
    if byte == 38 then Some FAnd else
    if byte == 111 then Some FOr else
    if byte == 94 then Some FXor else
    if byte == 126 then Some FNot else
    if byte == 108 then Some FShiftLeft else
    if byte == 114 then Some FShiftRight else
    if byte == 97 then Some FShiftSigned else
    if byte == 61 then Some FEqual else
    if byte == 117 then Some FLess else
    if byte == 118 then Some FLessSigned else
    if byte == 63 then Some FSelect else
    if byte == 122 then Some FZeroExtend else
    if byte == 103 then Some FSignExtend else
    if byte == 116 then Some FTruncate else
    if byte == 98 then Some FBit else
    None

-- the numbers behind a letter
abbrev pub operands_of : Form → Operands
operands_of FConstant = Wide
operands_of FCell = One
operands_of FElement = Three
operands_of FAdd = Two
operands_of FSubtract = Two
operands_of FMultiply = Two
operands_of FDivide = Two
operands_of FRemainder = Two
operands_of FAnd = Two
operands_of FOr = Two
operands_of FXor = Two
operands_of FNot = One
operands_of FShiftLeft = Two
operands_of FShiftRight = Two
operands_of FShiftSigned = Two
operands_of FEqual = Two
operands_of FLess = Two
operands_of FLessSigned = Two
operands_of FSelect = Three
operands_of FZeroExtend = Two
operands_of FSignExtend = Two
operands_of FTruncate = Two
operands_of FBit = Two

abbrev pub id : ℕ → TermId
id n = record { 0 = n }

-- the term of a form and three numbers, of which the later ones are left aside where there are fewer
abbrev pub term_of : Form → ℕ → ℕ → ℕ → Term
term_of FConstant a b c = Constant a b
term_of FCell a b c = Cell a
term_of FElement a b c = Element a b (id c)
term_of FAdd a b c = Add (id a) (id b)
term_of FSubtract a b c = Subtract (id a) (id b)
term_of FMultiply a b c = Multiply (id a) (id b)
term_of FDivide a b c = Divide (id a) (id b)
term_of FRemainder a b c = Remainder (id a) (id b)
term_of FAnd a b c = And (id a) (id b)
term_of FOr a b c = Or (id a) (id b)
term_of FXor a b c = Xor (id a) (id b)
term_of FNot a b c = Not (id a)
term_of FShiftLeft a b c = ShiftLeft (id a) (id b)
term_of FShiftRight a b c = ShiftRight (id a) (id b)
term_of FShiftSigned a b c = ShiftSigned (id a) (id b)
term_of FEqual a b c = Equal (id a) (id b)
term_of FLess a b c = Less (id a) (id b)
term_of FLessSigned a b c = LessSigned (id a) (id b)
term_of FSelect a b c = Select (id a) (id b) (id c)
term_of FZeroExtend a b c = ZeroExtend a (id b)
term_of FSignExtend a b c = SignExtend a (id b)
term_of FTruncate a b c = Truncate a (id b)
term_of FBit a b c = Bit a (id b)
