-- The punctuators (C11 6.4.6), by their bytes.
use Rattle.std.specs.Prelude.{ℕ, List, codes, ◌&&◌, ◌==◌, if◌then◌else◌, Option, Some, None}
use Rattle.c_lexer.specs.declared.token.Mark.{Mark}
use Rattle.c_lexer.specs.declared.token.Mark.TheVariants.{BracketOpen, BracketClose, ParenOpen, ParenClose, BraceOpen, BraceClose, Dot, Arrow, Increment, Decrement, Ampersand, Star, Plus, Minus, Tilde, Bang, Slash, Percent, ShiftLeft, ShiftRight, Less, Greater, LessEqual, GreaterEqual, Equal, NotEqual, Caret, Bar, AndAnd, OrOr, Question, Colon, Semicolon, Ellipsis, Assign, StarAssign, SlashAssign, PercentAssign, PlusAssign, MinusAssign, ShiftLeftAssign, ShiftRightAssign, AmpersandAssign, CaretAssign, BarAssign, Comma}

-- how a mark is spelled
abbrev pub mark_text : Mark → List ℕ
mark_text BracketOpen = codes "["
mark_text BracketClose = codes "]"
mark_text ParenOpen = codes "("
mark_text ParenClose = codes ")"
mark_text BraceOpen = codes "{"
mark_text BraceClose = codes "}"
mark_text Dot = codes "."
mark_text Arrow = codes "->"
mark_text Increment = codes "++"
mark_text Decrement = codes "--"
mark_text Ampersand = codes "&"
mark_text Star = codes "*"
mark_text Plus = codes "+"
mark_text Minus = codes "-"
mark_text Tilde = codes "~"
mark_text Bang = codes "!"
mark_text Slash = codes "/"
mark_text Percent = codes "%"
mark_text ShiftLeft = codes "<<"
mark_text ShiftRight = codes ">>"
mark_text Less = codes "<"
mark_text Greater = codes ">"
mark_text LessEqual = codes "<="
mark_text GreaterEqual = codes ">="
mark_text Equal = codes "=="
mark_text NotEqual = codes "!="
mark_text Caret = codes "^"
mark_text Bar = codes "|"
mark_text AndAnd = codes "&&"
mark_text OrOr = codes "||"
mark_text Question = codes "?"
mark_text Colon = codes ":"
mark_text Semicolon = codes ";"
mark_text Ellipsis = codes "..."
mark_text Assign = codes "="
mark_text StarAssign = codes "*="
mark_text SlashAssign = codes "/="
mark_text PercentAssign = codes "%="
mark_text PlusAssign = codes "+="
mark_text MinusAssign = codes "-="
mark_text ShiftLeftAssign = codes "<<="
mark_text ShiftRightAssign = codes ">>="
mark_text AmpersandAssign = codes "&="
mark_text CaretAssign = codes "^="
mark_text BarAssign = codes "|="
mark_text Comma = codes ","

-- the mark of these bytes, if there is one
abbrev pub mark_of_one : ℕ → Option Mark
mark_of_one a =
    if a == 91 then Some BracketOpen else
    if a == 93 then Some BracketClose else
    if a == 40 then Some ParenOpen else
    if a == 41 then Some ParenClose else
    if a == 123 then Some BraceOpen else
    if a == 125 then Some BraceClose else
    if a == 46 then Some Dot else
    if a == 38 then Some Ampersand else
    if a == 42 then Some Star else
    if a == 43 then Some Plus else
    if a == 45 then Some Minus else
    if a == 126 then Some Tilde else
    if a == 33 then Some Bang else
    if a == 47 then Some Slash else
    if a == 37 then Some Percent else
    if a == 60 then Some Less else
    if a == 62 then Some Greater else
    if a == 94 then Some Caret else
    if a == 124 then Some Bar else
    if a == 63 then Some Question else
    if a == 58 then Some Colon else
    if a == 59 then Some Semicolon else
    if a == 61 then Some Assign else
    if a == 44 then Some Comma else
    None

abbrev pub mark_of_two : ℕ → ℕ → Option Mark
mark_of_two a b =
    if (a == 45) && (b == 62) then Some Arrow else
    if (a == 43) && (b == 43) then Some Increment else
    if (a == 45) && (b == 45) then Some Decrement else
    if (a == 60) && (b == 60) then Some ShiftLeft else
    if (a == 62) && (b == 62) then Some ShiftRight else
    if (a == 60) && (b == 61) then Some LessEqual else
    if (a == 62) && (b == 61) then Some GreaterEqual else
    if (a == 61) && (b == 61) then Some Equal else
    if (a == 33) && (b == 61) then Some NotEqual else
    if (a == 38) && (b == 38) then Some AndAnd else
    if (a == 124) && (b == 124) then Some OrOr else
    if (a == 42) && (b == 61) then Some StarAssign else
    if (a == 47) && (b == 61) then Some SlashAssign else
    if (a == 37) && (b == 61) then Some PercentAssign else
    if (a == 43) && (b == 61) then Some PlusAssign else
    if (a == 45) && (b == 61) then Some MinusAssign else
    if (a == 38) && (b == 61) then Some AmpersandAssign else
    if (a == 94) && (b == 61) then Some CaretAssign else
    if (a == 124) && (b == 61) then Some BarAssign else
    None

abbrev pub mark_of_three : ℕ → ℕ → ℕ → Option Mark
mark_of_three a b c =
    if (a == 46) && (b == 46) && (c == 46) then Some Ellipsis else
    if (a == 60) && (b == 60) && (c == 61) then Some ShiftLeftAssign else
    if (a == 62) && (b == 62) && (c == 61) then Some ShiftRightAssign else
    None
