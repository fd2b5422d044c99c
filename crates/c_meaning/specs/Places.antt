-- The tokens of a source at which an error can be: the called names, the `[`, and the operators that compute.
use Rattle.std.specs.Prelude.{ℕ, Option, Some, None}
use Rattle.c_tree.specs.Tree.{Ex, eName, eNumber, eLetter, eParen, eCall, eIndex, ePostfix, ePrefix, eSizeof, eCast, eBinary, eCond, eAssign, eComma, Parts, no_parts, parts_and, Initial, iNothing, iValue, iList, Decs, no_declarators, declarators_and, Declaration, declares, Head, head, ForStart, forDeclares, forExpr, ForHead, for_head, St, sDeclaration, sBlock, sEmpty, sExpr, sIf, sIfElse, sWhile, sSwitch, sDo, sFor, sCase, sDefault, sLabel, sGoto, sBreak, sContinue, sReturn, Sts, no_statements, statements_and, bBlock, tFunction, Items, no_items, items_and}

-- that some fact holds of each of them
module _ (P : ℕ → Type 0) where
  abbrev pub AtName : Ex → Type 0
  AtName (eName n at) = P at
  AtName _ = Unit {0}

  abbrev mutual
    pub AtEach : Ex → Type 0
    AtEach (eName n at) = Unit {0}
    AtEach (eNumber v f at) = Unit {0}
    AtEach (eLetter v at) = Unit {0}
    AtEach (eParen a e b) = AtEach e
    AtEach (eCall f a es b) = AtName f × AtEachPart es
    AtEach (eIndex a x i y) = P x × AtEach i
    AtEach (ePostfix e c at) = P at × AtEach e
    AtEach (ePrefix o at e) = P at × AtEach e
    AtEach (eSizeof at a ws b) = Unit {0}
    AtEach (eCast a ws b e) = AtEach e
    AtEach (eBinary a o at b) = P at × AtEach a × AtEach b
    AtEach (eCond c x a y b) = AtEach c × AtEach a × AtEach b
    AtEach (eAssign a o at b) = P at × AtEach a × AtEach b
    AtEach (eComma es) = AtEachPart es

    pub AtEachPart : Parts → Type 0
    AtEachPart no_parts = Unit {0}
    AtEachPart (parts_and es c e) = AtEachPart es × AtEach e

  abbrev pub InOption : Option Ex → Type 0
  InOption None = Unit {0}
  InOption (Some e) = AtEach e

  abbrev pub InInitial : Initial → Type 0
  InInitial iNothing = Unit {0}
  InInitial (iValue at e) = AtEach e
  InInitial (iList at a es c b) = AtEachPart es

  abbrev pub InDeclarators : Decs → Type 0
  InDeclarators no_declarators = Unit {0}
  InDeclarators (declarators_and ds c n f ats i) = InDeclarators ds × InInitial i

  abbrev pub InDeclaration : Declaration → Type 0
  InDeclaration (declares ws ds b) = InDeclarators ds

  abbrev pub InHead : Head → Type 0
  InHead (head at a e b) = AtEach e

  abbrev pub InStart : ForStart → Type 0
  InStart (forDeclares d) = InDeclaration d
  InStart (forExpr e at) = InOption e

  abbrev pub InFor : ForHead → Type 0
  InFor (for_head at a start test x step b) = InStart start × InOption test × InOption step

  abbrev mutual
    pub InStatement : St → Type 0
    InStatement (sDeclaration d) = InDeclaration d
    InStatement (sBlock a ss b) = InStatements ss
    InStatement (sEmpty at) = Unit {0}
    InStatement (sExpr e at) = AtEach e
    InStatement (sIf h s) = InHead h × InStatement s
    InStatement (sIfElse h s at t) = InHead h × InStatement s × InStatement t
    InStatement (sWhile h s) = InHead h × InStatement s
    InStatement (sSwitch h s) = InHead h × InStatement s
    InStatement (sDo at s h b) = InHead h × InStatement s
    InStatement (sFor h s) = InFor h × InStatement s
    InStatement (sCase at e b s) = InStatement s
    InStatement (sDefault at b s) = InStatement s
    InStatement (sLabel n at b ats s) = InStatement s
    InStatement (sGoto at n x b) = Unit {0}
    InStatement (sBreak at b) = Unit {0}
    InStatement (sContinue at b) = Unit {0}
    InStatement (sReturn at e b) = InOption e

    pub InStatements : Sts → Type 0
    InStatements no_statements = Unit {0}
    InStatements (statements_and ss s) = InStatements ss × InStatement s

  -- of each body in a source
  abbrev pub InItems : Items → Type 0
  InItems no_items = Unit {0}
  InItems (items_and is (tFunction ws n ps ats (bBlock a ss b))) = InItems is × InStatements ss
  InItems (items_and is i) = InItems is
