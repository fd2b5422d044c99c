-- Marks by their bytes.
use Rattle.std.proofs.Common.{◌≡◌, ℕ, List, [], ◌∷◌, refl, sym, ap, subst, Bool, true, false}
use Rattle.std.specs.Prelude.{◌==◌, ◌&&◌, not, slice_index, if◌then◌else◌, Option, Some, None}
use Rattle.std.proofs.lemmas.Bool.{and_parts, eqb-true}
use Rattle.c_lexer.specs.Bytes.{is_blank, is_line_end, is_word_byte}
use Rattle.c_lexer.specs.Marks.{mark_text, mark_of_one, mark_of_two, mark_of_three}
use Rattle.c_lexer.specs.Steps.{begins_number}
use Rattle.c_lexer.specs.declared.token.Mark.{Mark}
use Rattle.c_lexer.specs.declared.token.Mark.TheVariants as mark

-- the mark of some bytes, if they are one
abbrev pub unmark : List ℕ → Option Mark
unmark [] = None
unmark (a ∷ []) = mark_of_one a
unmark (a ∷ b ∷ []) = mark_of_two a b
unmark (a ∷ b ∷ c ∷ []) = mark_of_three a b c
unmark (a ∷ b ∷ c ∷ d ∷ rest) = None

pub unmarked : (m : Mark) → unmark (mark_text m) ≡ Some m
unmarked mark.BracketOpen = refl
unmarked mark.BracketClose = refl
unmarked mark.ParenOpen = refl
unmarked mark.ParenClose = refl
unmarked mark.BraceOpen = refl
unmarked mark.BraceClose = refl
unmarked mark.Dot = refl
unmarked mark.Arrow = refl
unmarked mark.Increment = refl
unmarked mark.Decrement = refl
unmarked mark.Ampersand = refl
unmarked mark.Star = refl
unmarked mark.Plus = refl
unmarked mark.Minus = refl
unmarked mark.Tilde = refl
unmarked mark.Bang = refl
unmarked mark.Slash = refl
unmarked mark.Percent = refl
unmarked mark.ShiftLeft = refl
unmarked mark.ShiftRight = refl
unmarked mark.Less = refl
unmarked mark.Greater = refl
unmarked mark.LessEqual = refl
unmarked mark.GreaterEqual = refl
unmarked mark.Equal = refl
unmarked mark.NotEqual = refl
unmarked mark.Caret = refl
unmarked mark.Bar = refl
unmarked mark.AndAnd = refl
unmarked mark.OrOr = refl
unmarked mark.Question = refl
unmarked mark.Colon = refl
unmarked mark.Semicolon = refl
unmarked mark.Ellipsis = refl
unmarked mark.Assign = refl
unmarked mark.StarAssign = refl
unmarked mark.SlashAssign = refl
unmarked mark.PercentAssign = refl
unmarked mark.PlusAssign = refl
unmarked mark.MinusAssign = refl
unmarked mark.ShiftLeftAssign = refl
unmarked mark.ShiftRightAssign = refl
unmarked mark.AmpersandAssign = refl
unmarked mark.CaretAssign = refl
unmarked mark.BarAssign = refl
unmarked mark.Comma = refl

-- a byte that no word, string, character or line of the preprocessor begins with
abbrev pub is_symbol : ℕ → Bool
is_symbol b = not (is_word_byte b) && not (is_blank b) && not (b == 34) && not (b == 39) && not (b == 35)

pub mark_first : (m : Mark) → is_symbol (slice_index (mark_text m) 0) ≡ true
mark_first mark.BracketOpen = refl
mark_first mark.BracketClose = refl
mark_first mark.ParenOpen = refl
mark_first mark.ParenClose = refl
mark_first mark.BraceOpen = refl
mark_first mark.BraceClose = refl
mark_first mark.Dot = refl
mark_first mark.Arrow = refl
mark_first mark.Increment = refl
mark_first mark.Decrement = refl
mark_first mark.Ampersand = refl
mark_first mark.Star = refl
mark_first mark.Plus = refl
mark_first mark.Minus = refl
mark_first mark.Tilde = refl
mark_first mark.Bang = refl
mark_first mark.Slash = refl
mark_first mark.Percent = refl
mark_first mark.ShiftLeft = refl
mark_first mark.ShiftRight = refl
mark_first mark.Less = refl
mark_first mark.Greater = refl
mark_first mark.LessEqual = refl
mark_first mark.GreaterEqual = refl
mark_first mark.Equal = refl
mark_first mark.NotEqual = refl
mark_first mark.Caret = refl
mark_first mark.Bar = refl
mark_first mark.AndAnd = refl
mark_first mark.OrOr = refl
mark_first mark.Question = refl
mark_first mark.Colon = refl
mark_first mark.Semicolon = refl
mark_first mark.Ellipsis = refl
mark_first mark.Assign = refl
mark_first mark.StarAssign = refl
mark_first mark.SlashAssign = refl
mark_first mark.PercentAssign = refl
mark_first mark.PlusAssign = refl
mark_first mark.MinusAssign = refl
mark_first mark.ShiftLeftAssign = refl
mark_first mark.ShiftRightAssign = refl
mark_first mark.AmpersandAssign = refl
mark_first mark.CaretAssign = refl
mark_first mark.BarAssign = refl
mark_first mark.Comma = refl

pub mark_no_number : (m : Mark) → begins_number (slice_index (mark_text m) 0) (slice_index (mark_text m) 1) ≡ false
mark_no_number mark.BracketOpen = refl
mark_no_number mark.BracketClose = refl
mark_no_number mark.ParenOpen = refl
mark_no_number mark.ParenClose = refl
mark_no_number mark.BraceOpen = refl
mark_no_number mark.BraceClose = refl
mark_no_number mark.Dot = refl
mark_no_number mark.Arrow = refl
mark_no_number mark.Increment = refl
mark_no_number mark.Decrement = refl
mark_no_number mark.Ampersand = refl
mark_no_number mark.Star = refl
mark_no_number mark.Plus = refl
mark_no_number mark.Minus = refl
mark_no_number mark.Tilde = refl
mark_no_number mark.Bang = refl
mark_no_number mark.Slash = refl
mark_no_number mark.Percent = refl
mark_no_number mark.ShiftLeft = refl
mark_no_number mark.ShiftRight = refl
mark_no_number mark.Less = refl
mark_no_number mark.Greater = refl
mark_no_number mark.LessEqual = refl
mark_no_number mark.GreaterEqual = refl
mark_no_number mark.Equal = refl
mark_no_number mark.NotEqual = refl
mark_no_number mark.Caret = refl
mark_no_number mark.Bar = refl
mark_no_number mark.AndAnd = refl
mark_no_number mark.OrOr = refl
mark_no_number mark.Question = refl
mark_no_number mark.Colon = refl
mark_no_number mark.Semicolon = refl
mark_no_number mark.Ellipsis = refl
mark_no_number mark.Assign = refl
mark_no_number mark.StarAssign = refl
mark_no_number mark.SlashAssign = refl
mark_no_number mark.PercentAssign = refl
mark_no_number mark.PlusAssign = refl
mark_no_number mark.MinusAssign = refl
mark_no_number mark.ShiftLeftAssign = refl
mark_no_number mark.ShiftRightAssign = refl
mark_no_number mark.AmpersandAssign = refl
mark_no_number mark.CaretAssign = refl
mark_no_number mark.BarAssign = refl
mark_no_number mark.Comma = refl

-- no byte ends a line
abbrev pub is_one_line : List ℕ → Bool
is_one_line [] = true
is_one_line (b ∷ bytes) = not (is_line_end b) && is_one_line bytes

pub mark_one_line : (m : Mark) → is_one_line (mark_text m) ≡ true
mark_one_line mark.BracketOpen = refl
mark_one_line mark.BracketClose = refl
mark_one_line mark.ParenOpen = refl
mark_one_line mark.ParenClose = refl
mark_one_line mark.BraceOpen = refl
mark_one_line mark.BraceClose = refl
mark_one_line mark.Dot = refl
mark_one_line mark.Arrow = refl
mark_one_line mark.Increment = refl
mark_one_line mark.Decrement = refl
mark_one_line mark.Ampersand = refl
mark_one_line mark.Star = refl
mark_one_line mark.Plus = refl
mark_one_line mark.Minus = refl
mark_one_line mark.Tilde = refl
mark_one_line mark.Bang = refl
mark_one_line mark.Slash = refl
mark_one_line mark.Percent = refl
mark_one_line mark.ShiftLeft = refl
mark_one_line mark.ShiftRight = refl
mark_one_line mark.Less = refl
mark_one_line mark.Greater = refl
mark_one_line mark.LessEqual = refl
mark_one_line mark.GreaterEqual = refl
mark_one_line mark.Equal = refl
mark_one_line mark.NotEqual = refl
mark_one_line mark.Caret = refl
mark_one_line mark.Bar = refl
mark_one_line mark.AndAnd = refl
mark_one_line mark.OrOr = refl
mark_one_line mark.Question = refl
mark_one_line mark.Colon = refl
mark_one_line mark.Semicolon = refl
mark_one_line mark.Ellipsis = refl
mark_one_line mark.Assign = refl
mark_one_line mark.StarAssign = refl
mark_one_line mark.SlashAssign = refl
mark_one_line mark.PercentAssign = refl
mark_one_line mark.PlusAssign = refl
mark_one_line mark.MinusAssign = refl
mark_one_line mark.ShiftLeftAssign = refl
mark_one_line mark.ShiftRightAssign = refl
mark_one_line mark.AmpersandAssign = refl
mark_one_line mark.CaretAssign = refl
mark_one_line mark.BarAssign = refl
mark_one_line mark.Comma = refl

-- no byte is 0
abbrev pub no_zero : List ℕ → Bool
no_zero [] = true
no_zero (b ∷ bytes) = not (b == 0) && no_zero bytes

pub mark_no_zero : (m : Mark) → no_zero (mark_text m) ≡ true
mark_no_zero mark.BracketOpen = refl
mark_no_zero mark.BracketClose = refl
mark_no_zero mark.ParenOpen = refl
mark_no_zero mark.ParenClose = refl
mark_no_zero mark.BraceOpen = refl
mark_no_zero mark.BraceClose = refl
mark_no_zero mark.Dot = refl
mark_no_zero mark.Arrow = refl
mark_no_zero mark.Increment = refl
mark_no_zero mark.Decrement = refl
mark_no_zero mark.Ampersand = refl
mark_no_zero mark.Star = refl
mark_no_zero mark.Plus = refl
mark_no_zero mark.Minus = refl
mark_no_zero mark.Tilde = refl
mark_no_zero mark.Bang = refl
mark_no_zero mark.Slash = refl
mark_no_zero mark.Percent = refl
mark_no_zero mark.ShiftLeft = refl
mark_no_zero mark.ShiftRight = refl
mark_no_zero mark.Less = refl
mark_no_zero mark.Greater = refl
mark_no_zero mark.LessEqual = refl
mark_no_zero mark.GreaterEqual = refl
mark_no_zero mark.Equal = refl
mark_no_zero mark.NotEqual = refl
mark_no_zero mark.Caret = refl
mark_no_zero mark.Bar = refl
mark_no_zero mark.AndAnd = refl
mark_no_zero mark.OrOr = refl
mark_no_zero mark.Question = refl
mark_no_zero mark.Colon = refl
mark_no_zero mark.Semicolon = refl
mark_no_zero mark.Ellipsis = refl
mark_no_zero mark.Assign = refl
mark_no_zero mark.StarAssign = refl
mark_no_zero mark.SlashAssign = refl
mark_no_zero mark.PercentAssign = refl
mark_no_zero mark.PlusAssign = refl
mark_no_zero mark.MinusAssign = refl
mark_no_zero mark.ShiftLeftAssign = refl
mark_no_zero mark.ShiftRightAssign = refl
mark_no_zero mark.AmpersandAssign = refl
mark_no_zero mark.CaretAssign = refl
mark_no_zero mark.BarAssign = refl
mark_no_zero mark.Comma = refl

chosen : (test : Bool) (m : Mark) (others : Option Mark) (P : Mark → Type 0) → (test ≡ true → P m) → ((found : Mark) → others ≡ Some found → P found) → (found : Mark) → (if test then Some m else others) ≡ Some found → P found
chosen true m others P this rest found is = let e : m ≡ found = cc in subst P e (this refl)
chosen false m others P this rest found is = rest found is

none_found : (P : Mark → Type 0) (found : Mark) → None ≡ Some found → P found
none_found P found is = absurd cc

same_one : (a x : ℕ) → (a == x) ≡ true → x ∷ [] ≡ a ∷ []
same_one a x e = let is : a ≡ x = eqb-true a x e in ap (λ (n : ℕ). n ∷ []) (sym is)

same_two : (a b x y : ℕ) → ((a == x) && (b == y)) ≡ true → x ∷ y ∷ [] ≡ a ∷ b ∷ []
same_two a b x y e =
    let parts = and_parts (a == x) (b == y) e in
    let one : a ≡ x = eqb-true a x parts.0 in
    let two : b ≡ y = eqb-true b y parts.1 in
    cc

same_three : (a b c x y z : ℕ) → ((a == x) && (b == y) && (c == z)) ≡ true → x ∷ y ∷ z ∷ [] ≡ a ∷ b ∷ c ∷ []
same_three a b c x y z e =
    let parts = and_parts ((a == x) && (b == y)) (c == z) e in
    let front = and_parts (a == x) (b == y) parts.0 in
    let one : a ≡ x = eqb-true a x front.0 in
    let two : b ≡ y = eqb-true b y front.1 in
    let three : c ≡ z = eqb-true c z parts.1 in
    cc

pub one_is : (a : ℕ) (found : Mark) → mark_of_one a ≡ Some found → mark_text found ≡ a ∷ []
one_is a = chosen (a == 91) mark.BracketOpen _ (λ (m : Mark). mark_text m ≡ a ∷ []) (λ e. same_one a 91 e) (chosen (a == 93) mark.BracketClose _ (λ (m : Mark). mark_text m ≡ a ∷ []) (λ e. same_one a 93 e) (chosen (a == 40) mark.ParenOpen _ (λ (m : Mark). mark_text m ≡ a ∷ []) (λ e. same_one a 40 e) (chosen (a == 41) mark.ParenClose _ (λ (m : Mark). mark_text m ≡ a ∷ []) (λ e. same_one a 41 e) (chosen (a == 123) mark.BraceOpen _ (λ (m : Mark). mark_text m ≡ a ∷ []) (λ e. same_one a 123 e) (chosen (a == 125) mark.BraceClose _ (λ (m : Mark). mark_text m ≡ a ∷ []) (λ e. same_one a 125 e) (chosen (a == 46) mark.Dot _ (λ (m : Mark). mark_text m ≡ a ∷ []) (λ e. same_one a 46 e) (chosen (a == 38) mark.Ampersand _ (λ (m : Mark). mark_text m ≡ a ∷ []) (λ e. same_one a 38 e) (chosen (a == 42) mark.Star _ (λ (m : Mark). mark_text m ≡ a ∷ []) (λ e. same_one a 42 e) (chosen (a == 43) mark.Plus _ (λ (m : Mark). mark_text m ≡ a ∷ []) (λ e. same_one a 43 e) (chosen (a == 45) mark.Minus _ (λ (m : Mark). mark_text m ≡ a ∷ []) (λ e. same_one a 45 e) (chosen (a == 126) mark.Tilde _ (λ (m : Mark). mark_text m ≡ a ∷ []) (λ e. same_one a 126 e) (chosen (a == 33) mark.Bang _ (λ (m : Mark). mark_text m ≡ a ∷ []) (λ e. same_one a 33 e) (chosen (a == 47) mark.Slash _ (λ (m : Mark). mark_text m ≡ a ∷ []) (λ e. same_one a 47 e) (chosen (a == 37) mark.Percent _ (λ (m : Mark). mark_text m ≡ a ∷ []) (λ e. same_one a 37 e) (chosen (a == 60) mark.Less _ (λ (m : Mark). mark_text m ≡ a ∷ []) (λ e. same_one a 60 e) (chosen (a == 62) mark.Greater _ (λ (m : Mark). mark_text m ≡ a ∷ []) (λ e. same_one a 62 e) (chosen (a == 94) mark.Caret _ (λ (m : Mark). mark_text m ≡ a ∷ []) (λ e. same_one a 94 e) (chosen (a == 124) mark.Bar _ (λ (m : Mark). mark_text m ≡ a ∷ []) (λ e. same_one a 124 e) (chosen (a == 63) mark.Question _ (λ (m : Mark). mark_text m ≡ a ∷ []) (λ e. same_one a 63 e) (chosen (a == 58) mark.Colon _ (λ (m : Mark). mark_text m ≡ a ∷ []) (λ e. same_one a 58 e) (chosen (a == 59) mark.Semicolon _ (λ (m : Mark). mark_text m ≡ a ∷ []) (λ e. same_one a 59 e) (chosen (a == 61) mark.Assign _ (λ (m : Mark). mark_text m ≡ a ∷ []) (λ e. same_one a 61 e) (chosen (a == 44) mark.Comma _ (λ (m : Mark). mark_text m ≡ a ∷ []) (λ e. same_one a 44 e) (none_found (λ (m : Mark). mark_text m ≡ a ∷ [])))))))))))))))))))))))))

pub two_is : (a b : ℕ) (found : Mark) → mark_of_two a b ≡ Some found → mark_text found ≡ a ∷ b ∷ []
two_is a b = chosen ((a == 45) && (b == 62)) mark.Arrow _ (λ (m : Mark). mark_text m ≡ a ∷ b ∷ []) (λ e. same_two a b 45 62 e) (chosen ((a == 43) && (b == 43)) mark.Increment _ (λ (m : Mark). mark_text m ≡ a ∷ b ∷ []) (λ e. same_two a b 43 43 e) (chosen ((a == 45) && (b == 45)) mark.Decrement _ (λ (m : Mark). mark_text m ≡ a ∷ b ∷ []) (λ e. same_two a b 45 45 e) (chosen ((a == 60) && (b == 60)) mark.ShiftLeft _ (λ (m : Mark). mark_text m ≡ a ∷ b ∷ []) (λ e. same_two a b 60 60 e) (chosen ((a == 62) && (b == 62)) mark.ShiftRight _ (λ (m : Mark). mark_text m ≡ a ∷ b ∷ []) (λ e. same_two a b 62 62 e) (chosen ((a == 60) && (b == 61)) mark.LessEqual _ (λ (m : Mark). mark_text m ≡ a ∷ b ∷ []) (λ e. same_two a b 60 61 e) (chosen ((a == 62) && (b == 61)) mark.GreaterEqual _ (λ (m : Mark). mark_text m ≡ a ∷ b ∷ []) (λ e. same_two a b 62 61 e) (chosen ((a == 61) && (b == 61)) mark.Equal _ (λ (m : Mark). mark_text m ≡ a ∷ b ∷ []) (λ e. same_two a b 61 61 e) (chosen ((a == 33) && (b == 61)) mark.NotEqual _ (λ (m : Mark). mark_text m ≡ a ∷ b ∷ []) (λ e. same_two a b 33 61 e) (chosen ((a == 38) && (b == 38)) mark.AndAnd _ (λ (m : Mark). mark_text m ≡ a ∷ b ∷ []) (λ e. same_two a b 38 38 e) (chosen ((a == 124) && (b == 124)) mark.OrOr _ (λ (m : Mark). mark_text m ≡ a ∷ b ∷ []) (λ e. same_two a b 124 124 e) (chosen ((a == 42) && (b == 61)) mark.StarAssign _ (λ (m : Mark). mark_text m ≡ a ∷ b ∷ []) (λ e. same_two a b 42 61 e) (chosen ((a == 47) && (b == 61)) mark.SlashAssign _ (λ (m : Mark). mark_text m ≡ a ∷ b ∷ []) (λ e. same_two a b 47 61 e) (chosen ((a == 37) && (b == 61)) mark.PercentAssign _ (λ (m : Mark). mark_text m ≡ a ∷ b ∷ []) (λ e. same_two a b 37 61 e) (chosen ((a == 43) && (b == 61)) mark.PlusAssign _ (λ (m : Mark). mark_text m ≡ a ∷ b ∷ []) (λ e. same_two a b 43 61 e) (chosen ((a == 45) && (b == 61)) mark.MinusAssign _ (λ (m : Mark). mark_text m ≡ a ∷ b ∷ []) (λ e. same_two a b 45 61 e) (chosen ((a == 38) && (b == 61)) mark.AmpersandAssign _ (λ (m : Mark). mark_text m ≡ a ∷ b ∷ []) (λ e. same_two a b 38 61 e) (chosen ((a == 94) && (b == 61)) mark.CaretAssign _ (λ (m : Mark). mark_text m ≡ a ∷ b ∷ []) (λ e. same_two a b 94 61 e) (chosen ((a == 124) && (b == 61)) mark.BarAssign _ (λ (m : Mark). mark_text m ≡ a ∷ b ∷ []) (λ e. same_two a b 124 61 e) (none_found (λ (m : Mark). mark_text m ≡ a ∷ b ∷ []))))))))))))))))))))

pub three_is : (a b c : ℕ) (found : Mark) → mark_of_three a b c ≡ Some found → mark_text found ≡ a ∷ b ∷ c ∷ []
three_is a b c = chosen ((a == 46) && (b == 46) && (c == 46)) mark.Ellipsis _ (λ (m : Mark). mark_text m ≡ a ∷ b ∷ c ∷ []) (λ e. same_three a b c 46 46 46 e) (chosen ((a == 60) && (b == 60) && (c == 61)) mark.ShiftLeftAssign _ (λ (m : Mark). mark_text m ≡ a ∷ b ∷ c ∷ []) (λ e. same_three a b c 60 60 61 e) (chosen ((a == 62) && (b == 62) && (c == 61)) mark.ShiftRightAssign _ (λ (m : Mark). mark_text m ≡ a ∷ b ∷ c ∷ []) (λ e. same_three a b c 62 62 61 e) (none_found (λ (m : Mark). mark_text m ≡ a ∷ b ∷ c ∷ []))))
