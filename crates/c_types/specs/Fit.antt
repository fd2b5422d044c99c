-- What the rules of names, types and calls leave to a run: each call has its function, each index its array, each initial
-- value its object, and each array elements.
use Rattle.std.specs.Prelude.{◌≡◌, ℕ, ◌<◌, List, [], ◌∷◌, Option, Some, None, position, bytes_eq}
use Rattle.c_tree.specs.declared.tree.PrefixOp.TheVariants as pre
use Rattle.c_tree.specs.Tree.{Ex, eName, eNumber, eLetter, eParen, eCall, eIndex, ePostfix, ePrefix, eSizeof, eCast, eBinary, eCond, eAssign, eComma, Parts, no_parts, parts_and, named, Initial, iNothing, iValue, iList, Decs, no_declarators, declarators_and, Declaration, declares, Head, head, ForStart, forDeclares, forExpr, ForHead, for_head, St, sDeclaration, sBlock, sEmpty, sExpr, sIf, sIfElse, sWhile, sSwitch, sDo, sFor, sCase, sDefault, sLabel, sGoto, sBreak, sContinue, sReturn, Sts, no_statements, statements_and}
use Rattle.c_meaning.specs.Bindings.{Env, Entity, aFunctionOf, Object, entity_of, object_number, declared_at, count_of}
use Rattle.c_meaning.specs.Known.{Known, known_of}
use Rattle.c_meaning.specs.Value.{base_of}
use Rattle.c_meaning.specs.Program.{Function}

abbrev pub AreNone : Parts → Type 0
AreNone no_parts = Unit {0}
AreNone (parts_and es c e) = ⊥

abbrev pub IsThere : Option ℕ → Type 0
IsThere None = ⊥
IsThere (Some n) = Unit {0}

module _ (env : Env) (bodies : List (List ℕ)) where
  abbrev pub NumberFits : Option Known → List ℕ → Parts → Type 0
  NumberFits (Some k) n es = AreNone es
  NumberFits None n es = IsThere (position (λ m. bytes_eq m n) bodies)

  abbrev pub EntityFits : Entity → List ℕ → Parts → Type 0
  EntityFits (aFunctionOf result parameters) n es = NumberFits (known_of n) n es
  EntityFits _ n es = ⊥

  abbrev pub NameFits : Ex → Parts → Type 0
  NameFits (eName n at) es = EntityFits (entity_of env n at) n es
  NameFits _ es = ⊥

  abbrev mutual
    pub Fits : Ex → Type 0
    Fits (eName n at) = Unit {0}
    Fits (eNumber v f at) = Unit {0}
    Fits (eLetter v at) = Unit {0}
    Fits (eParen a e b) = Fits e
    Fits (eCall f a es b) = NameFits f es × AllFit es
    Fits (eIndex a x i y) = IsThere (base_of env a) × Fits i
    Fits (ePostfix e c at) = Fits e
    Fits (ePrefix pre.Sizeof at e) = Unit {0}
    Fits (ePrefix o at e) = Fits e
    Fits (eSizeof at a ws b) = Unit {0}
    Fits (eCast a ws b e) = Fits e
    Fits (eBinary a o at b) = Fits a × Fits b
    Fits (eCond c x a y b) = Fits c × Fits a × Fits b
    Fits (eAssign a o at b) = Fits a × Fits b
    Fits (eComma es) = AllFit es

    pub AllFit : Parts → Type 0
    AllFit no_parts = Unit {0}
    AllFit (parts_and es c e) = AllFit es × Fits e

  abbrev pub OptionFits : Option Ex → Type 0
  OptionFits None = Unit {0}
  OptionFits (Some e) = Fits e

  -- a value without a list begins a scalar
  abbrev pub InitialFits : Initial → Option ℕ → Type 0
  InitialFits iNothing o = Unit {0}
  InitialFits (iValue at e) None = Unit {0}
  InitialFits (iValue at e) (Some object) = (count_of env object ≡ 1) × Fits e
  InitialFits (iList at a es c b) o = AllFit es

  abbrev pub DeclaratorsFit : Decs → Type 0
  DeclaratorsFit no_declarators = Unit {0}
  DeclaratorsFit (declarators_and ds c (named n at) f ats i) = DeclaratorsFit ds × InitialFits i (object_number (declared_at env at))

  abbrev pub DeclarationFits : Declaration → Type 0
  DeclarationFits (declares ws ds b) = DeclaratorsFit ds

  abbrev pub HeadFits : Head → Type 0
  HeadFits (head at a e b) = Fits e

  abbrev pub StartFits : ForStart → Type 0
  StartFits (forDeclares d) = DeclarationFits d
  StartFits (forExpr e at) = OptionFits e

  abbrev pub ForFits : ForHead → Type 0
  ForFits (for_head at a start test x step b) = StartFits start × OptionFits test × OptionFits step

  abbrev mutual
    pub StatementFits : St → Type 0
    StatementFits (sDeclaration d) = DeclarationFits d
    StatementFits (sBlock a ss b) = StatementsFit ss
    StatementFits (sEmpty at) = Unit {0}
    StatementFits (sExpr e at) = Fits e
    StatementFits (sIf h s) = HeadFits h × StatementFits s
    StatementFits (sIfElse h s at t) = HeadFits h × StatementFits s × StatementFits t
    StatementFits (sWhile h s) = HeadFits h × StatementFits s
    StatementFits (sSwitch h s) = HeadFits h × StatementFits s
    StatementFits (sDo at s h b) = HeadFits h × StatementFits s
    StatementFits (sFor h s) = ForFits h × StatementFits s
    StatementFits (sCase at e b s) = StatementFits s
    StatementFits (sDefault at b s) = StatementFits s
    StatementFits (sLabel n at b ats s) = StatementFits s
    StatementFits (sGoto at n x b) = Unit {0}
    StatementFits (sBreak at b) = Unit {0}
    StatementFits (sContinue at b) = Unit {0}
    StatementFits (sReturn at e b) = OptionFits e

    pub StatementsFit : Sts → Type 0
    StatementsFit no_statements = Unit {0}
    StatementsFit (statements_and ss s) = StatementsFit ss × StatementFits s

-- an array has elements
abbrev pub LengthFits : Option ℕ → Type 0
LengthFits None = Unit {0}
LengthFits (Some n) = 0 < n

abbrev pub ObjectsFit : List Object → Type 0
ObjectsFit [] = Unit {0}
ObjectsFit (o ∷ os) = LengthFits o.length × ObjectsFit os

abbrev pub BodiesFit : Env → List (List ℕ) → List Function → Type 0
BodiesFit env bodies [] = Unit {0}
BodiesFit env bodies (f ∷ fs) = StatementsFit env bodies f.body × BodiesFit env bodies fs
