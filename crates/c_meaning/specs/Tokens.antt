-- Where parts of a tree begin and end: offsets of their tokens.
use Rattle.std.specs.Prelude.{ℕ, suc}
use Rattle.c_tree.specs.declared.tree.PrefixOp.TheVariants as pre
use Rattle.c_tree.specs.Tree.{attribute, Ex, eName, eNumber, eLetter, eParen, eCall, eIndex, ePostfix, ePrefix, eSizeof, eCast, eBinary, eCond, eAssign, eComma, Parts, no_parts, parts_and, Words, no_words, words_and, Word, wType, wStorage, wConst, wExtension, wAttribute, wTypedef, wTag, wEnum, wTagEnum, Parameters, pUnknown, pVoid, pSome, Declaration, declares, St, sDeclaration, sBlock, sEmpty, sExpr, sIf, sIfElse, sWhile, sSwitch, sDo, sFor, sCase, sDefault, sLabel, sGoto, sBreak, sContinue, sReturn}

abbrev mutual
  pub first_of : Ex → ℕ
  first_of (eName n at) = at
  first_of (eNumber v f at) = at
  first_of (eLetter v at) = at
  first_of (eParen a e b) = a
  first_of (eCall f a es b) = first_of f
  first_of (eIndex a x i y) = first_of a
  first_of (ePostfix e c at) = first_of e
  first_of (ePrefix o at e) = at
  first_of (eSizeof at a ws b) = at
  first_of (eCast a ws b e) = a
  first_of (eBinary a o at b) = first_of a
  first_of (eCond c x a y b) = first_of c
  first_of (eAssign a o at b) = first_of a
  first_of (eComma es) = first_of_parts es

  pub first_of_parts : Parts → ℕ
  first_of_parts no_parts = 0
  first_of_parts (parts_and no_parts c e) = first_of e
  first_of_parts (parts_and es c e) = first_of_parts es

abbrev mutual
  pub last_of : Ex → ℕ
  last_of (eName n at) = at
  last_of (eNumber v f at) = at
  last_of (eLetter v at) = at
  last_of (eParen a e b) = b
  last_of (eCall f a es b) = b
  last_of (eIndex a x i y) = y
  last_of (ePostfix e c at) = at
  last_of (ePrefix o at e) = last_of e
  last_of (eSizeof at a ws b) = b
  last_of (eCast a ws b e) = last_of e
  last_of (eBinary a o at b) = last_of b
  last_of (eCond c x a y b) = last_of b
  last_of (eAssign a o at b) = last_of b
  last_of (eComma es) = last_of_parts es

  pub last_of_parts : Parts → ℕ
  last_of_parts no_parts = 0
  last_of_parts (parts_and es c e) = last_of e

-- The token at which an array, a function or void that stands as a value is refused: a name, a called name, the `(` of a
-- cast, the `?`, or that of a list's last part. Round brackets and `__extension__` are looked through.
abbrev mutual
  pub own_token : Ex → ℕ
  own_token (eName n at) = at
  own_token (eNumber v f at) = at
  own_token (eLetter v at) = at
  own_token (eParen a e b) = own_token e
  own_token (eCall f a es b) = own_token f
  own_token (eIndex a x i y) = x
  own_token (ePostfix e c at) = at
  own_token (ePrefix pre.Extension at e) = own_token e
  own_token (ePrefix o at e) = at
  own_token (eSizeof at a ws b) = at
  own_token (eCast a ws b e) = a
  own_token (eBinary a o at b) = at
  own_token (eCond c x a y b) = x
  own_token (eAssign a o at b) = at
  own_token (eComma es) = own_token_parts es

  pub own_token_parts : Parts → ℕ
  own_token_parts no_parts = 0
  own_token_parts (parts_and es c e) = own_token e

abbrev pub first_of_word : Word → ℕ
first_of_word (wType w at) = at
first_of_word (wStorage w at) = at
first_of_word (wConst w at) = at
first_of_word (wExtension at) = at
first_of_word (wAttribute (attribute w at a r b)) = at
first_of_word (wTypedef n at) = at
first_of_word (wTag at n b) = at
first_of_word (wEnum at a es c b) = at
first_of_word (wTagEnum at n x a es c b) = at

abbrev pub first_of_words : Words → ℕ
first_of_words no_words = 0
first_of_words (words_and no_words w) = first_of_word w
first_of_words (words_and ws w) = first_of_words ws

abbrev pub open_of : Parameters → ℕ
open_of (pUnknown a b) = a
open_of (pVoid a at b) = a
open_of (pSome a ps b) = a

abbrev pub close_of : Parameters → ℕ
close_of (pUnknown a b) = b
close_of (pVoid a at b) = b
close_of (pSome a ps b) = b

abbrev pub end_of_declaration : Declaration → ℕ
end_of_declaration (declares ws ds b) = b

-- a statement's last token
abbrev pub end_of : St → ℕ
end_of (sDeclaration d) = end_of_declaration d
end_of (sBlock a ss b) = b
end_of (sEmpty at) = at
end_of (sExpr e at) = at
end_of (sIf h s) = end_of s
end_of (sIfElse h a at b) = end_of b
end_of (sWhile h s) = end_of s
end_of (sSwitch h s) = end_of s
end_of (sDo at s h b) = b
end_of (sFor h s) = end_of s
end_of (sCase at e b s) = end_of s
end_of (sDefault at b s) = end_of s
end_of (sLabel n at b ats s) = end_of s
end_of (sGoto at n x b) = b
end_of (sBreak at b) = b
end_of (sContinue at b) = b
end_of (sReturn at e b) = b

-- how many parts a list has
abbrev pub count_parts : Parts → ℕ
count_parts no_parts = 0
count_parts (parts_and es c e) = suc (count_parts es)
