-- Numbers and character constants that are values of their kinds.
use Rattle.std.specs.Prelude.{◌<◌, List, [], ◌∷◌, length, pos}
use Rattle.lv_base.specs.declared.kind.Kind.TheVariants as kind
use Rattle.lv_base.specs.declared.kind.Model.{Model}
use Rattle.lv_base.specs.Integers.{InRange}
use Rattle.c_tree.specs.declared.symbol.Symbol.{Symbol}
use Rattle.c_tree.specs.declared.symbol.Symbol.TheVariants as sy
use Rattle.c_tree.specs.declared.symbol.SymbolAt.{SymbolAt}
use Rattle.c_tree.specs.Tree.{Ex, eName, eNumber, eLetter, eParen, eCall, eIndex, ePostfix, ePrefix, eSizeof, eCast, eBinary, eCond, eAssign, eComma, Parts, no_parts, parts_and}
use Rattle.c_meaning.specs.Jumps.{all_of_all}
use Rattle.c_meaning.specs.Kinds.{number_kind}
use Rattle.c_meaning.specs.Program.{Function}

module _ (model : Model) where
  -- each of an expression is in the range of its kind
  abbrev mutual
    pub Held : Ex → Type 0
    Held (eName n at) = Unit {0}
    Held (eNumber v f at) = InRange (number_kind model v f) model (pos v)
    Held (eLetter v at) = InRange kind.Int model v
    Held (eParen a e b) = Held e
    Held (eCall f a es b) = Held f × AllHeld es
    Held (eIndex a x i y) = Held a × Held i
    Held (ePostfix e c at) = Held e
    Held (ePrefix o at e) = Held e
    Held (eSizeof at a ws b) = Unit {0}
    Held (eCast a ws b e) = Held e
    Held (eBinary a o at b) = Held a × Held b
    Held (eCond c x a y b) = Held c × Held a × Held b
    Held (eAssign a o at b) = Held a × Held b
    Held (eComma es) = AllHeld es

    pub AllHeld : Parts → Type 0
    AllHeld no_parts = Unit {0}
    AllHeld (parts_and es c e) = AllHeld es × Held e

  abbrev pub HeldIn : List Ex → Type 0
  HeldIn [] = Unit {0}
  HeldIn (e ∷ es) = Held e × HeldIn es

  -- each of the expressions of bodies, constants left aside
  abbrev pub BodiesHeld : List Function → Type 0
  BodiesHeld [] = Unit {0}
  BodiesHeld (f ∷ fs) = HeldIn (all_of_all f.body) × BodiesHeld fs

  -- each of some tokens, whose names have letters
  abbrev pub HeldSymbol : Symbol → Type 0
  HeldSymbol (sy.Number v f) = InRange (number_kind model v f) model (pos v)
  HeldSymbol (sy.Letter v) = InRange kind.Int model v
  HeldSymbol (sy.Name n) = 0 < length n
  HeldSymbol symbol = Unit {0}

  abbrev pub HeldSigns : List SymbolAt → Type 0
  HeldSigns [] = Unit {0}
  HeldSigns (s ∷ signs) = HeldSymbol s.symbol × HeldSigns signs
