-- What expressions are made of: names that are words and no keywords, and numbers that are constants of a signed type.
use Rattle.std.specs.Prelude.{ℕ, ◌<◌, ◌^◌, ◌≡◌, List, [], ◌∷◌, true, false, None, map}
use Rattle.c_lexer.specs.Bytes.{is_letter, is_word_byte}
use Rattle.c_tree.specs.declared.symbol.Symbol.{Symbol}
use Rattle.c_tree.specs.declared.symbol.SymbolAt.{SymbolAt}
use Rattle.c_tree.specs.Symbols.{keyword_of}
use Rattle.c_tree.specs.Shape.{has}
use Rattle.witness_truth_laws.specs.Written.{Place, pScalar, pElement, Expression, xTruth, xBit, xBoth, xEither, xNot}

abbrev pub AreWordBytes : List ℕ → Type 0
AreWordBytes [] = Unit {0}
AreWordBytes (b ∷ bytes) = (is_word_byte b ≡ true) × AreWordBytes bytes

abbrev pub IsName : List ℕ → Type 0
IsName [] = ⊥
IsName (b ∷ bytes) = (is_letter b ≡ true) × AreWordBytes bytes × (keyword_of (b ∷ bytes) ≡ None)

abbrev pub IsConstant : ℕ → Type 0
IsConstant k = k < 2 ^ 63

abbrev pub IsPlace : Place → Type 0
IsPlace (pScalar name) = IsName name
IsPlace (pElement name k) = IsName name × IsConstant k

abbrev pub IsSpelled : Expression → Type 0
IsSpelled (xTruth v) = Unit {0}
IsSpelled (xBit k p) = IsConstant k × IsPlace p
IsSpelled (xBoth x y) = IsSpelled x × IsSpelled y
IsSpelled (xEither x y) = IsSpelled x × IsSpelled y
IsSpelled (xNot x) = IsSpelled x

abbrev pub AreSpelled : List Expression → Type 0
AreSpelled [] = Unit {0}
AreSpelled (x ∷ xs) = IsSpelled x × AreSpelled xs

-- no name is one of these, which stand for types
module _ (types : List (List ℕ)) where
  abbrev pub IsFree : Place → Type 0
  IsFree (pScalar name) = has types name ≡ false
  IsFree (pElement name k) = has types name ≡ false

  abbrev pub HasFree : Expression → Type 0
  HasFree (xTruth v) = Unit {0}
  HasFree (xBit k p) = IsFree p
  HasFree (xBoth x y) = HasFree x × HasFree y
  HasFree (xEither x y) = HasFree x × HasFree y
  HasFree (xNot x) = HasFree x

  abbrev pub HaveFree : List Expression → Type 0
  HaveFree [] = Unit {0}
  HaveFree (x ∷ xs) = HasFree x × HaveFree xs

-- tokens without their offsets
abbrev pub symbols : List SymbolAt → List Symbol
symbols signs = map (λ s. s.symbol) signs
