-- What the rules of targets and of initial values leave to the rules of effects and calls: what is written is an object, an
-- initial value belongs to one, and what means something without a body has none.
use Rattle.std.specs.Prelude.{◌≡◌, ℕ, List, [], ◌∷◌, map, Option, Some, None, position, bytes_eq}
use Rattle.lv_base.specs.declared.kind.Model.{Model}
use Rattle.c_tree.specs.declared.tree.PrefixOp.TheVariants as pre
use Rattle.c_tree.specs.Tree.{Ex, eName, eNumber, eLetter, eParen, eCall, eIndex, ePostfix, ePrefix, eSizeof, eCast, eBinary, eCond, eAssign, eComma, Parts, no_parts, parts_and, named, Initial, iNothing, iValue, iList, Decs, no_declarators, declarators_and, Declaration, declares, Head, head, ForStart, forDeclares, forExpr, ForHead, for_head, St, sDeclaration, sBlock, sEmpty, sExpr, sIf, sIfElse, sWhile, sSwitch, sDo, sFor, sCase, sDefault, sLabel, sGoto, sBreak, sContinue, sReturn, Sts, no_statements, statements_and, Items}
use Rattle.c_meaning.specs.Bindings.{Env, object_number, declared_at}
use Rattle.c_meaning.specs.Known.{Known, known_of}
use Rattle.c_meaning.specs.Jumps.{object_in}
use Rattle.c_meaning.specs.Program.{Function, functions_of, env_of}
use Rattle.c_types.specs.Fit.{IsThere, BodiesFit}

module _ (env : Env) where
  abbrev mutual
    pub Aims : Ex → Type 0
    Aims (eName n at) = Unit {0}
    Aims (eNumber v f at) = Unit {0}
    Aims (eLetter v at) = Unit {0}
    Aims (eParen a e b) = Aims e
    Aims (eCall f a es b) = AllAim es
    Aims (eIndex a x i y) = Aims i
    Aims (ePostfix e c at) = IsThere (object_in env e) × Aims e
    Aims (ePrefix pre.Increment at e) = IsThere (object_in env e) × Aims e
    Aims (ePrefix pre.Decrement at e) = IsThere (object_in env e) × Aims e
    Aims (ePrefix pre.Sizeof at e) = Unit {0}
    Aims (ePrefix o at e) = Aims e
    Aims (eSizeof at a ws b) = Unit {0}
    Aims (eCast a ws b e) = Aims e
    Aims (eBinary a o at b) = Aims a × Aims b
    Aims (eCond c x a y b) = Aims c × Aims a × Aims b
    Aims (eAssign a o at b) = IsThere (object_in env a) × Aims a × Aims b
    Aims (eComma es) = AllAim es

    pub AllAim : Parts → Type 0
    AllAim no_parts = Unit {0}
    AllAim (parts_and es c e) = AllAim es × Aims e

  abbrev pub OptionAims : Option Ex → Type 0
  OptionAims None = Unit {0}
  OptionAims (Some e) = Aims e

  abbrev pub InitialAims : Initial → Option ℕ → Type 0
  InitialAims iNothing o = Unit {0}
  InitialAims (iValue at e) o = IsThere o × Aims e
  InitialAims (iList at a es c b) o = IsThere o × AllAim es

  abbrev pub DeclaratorsAim : Decs → Type 0
  DeclaratorsAim no_declarators = Unit {0}
  DeclaratorsAim (declarators_and ds c (named n at) f ats i) = DeclaratorsAim ds × InitialAims i (object_number (declared_at env at))

  abbrev pub DeclarationAims : Declaration → Type 0
  DeclarationAims (declares ws ds b) = DeclaratorsAim ds

  abbrev pub HeadAims : Head → Type 0
  HeadAims (head at a e b) = Aims e

  abbrev pub StartAims : ForStart → Type 0
  StartAims (forDeclares d) = DeclarationAims d
  StartAims (forExpr e at) = OptionAims e

  abbrev pub ForAims : ForHead → Type 0
  ForAims (for_head at a start test x step b) = StartAims start × OptionAims test × OptionAims step

  abbrev mutual
    pub StatementAims : St → Type 0
    StatementAims (sDeclaration d) = DeclarationAims d
    StatementAims (sBlock a ss b) = StatementsAim ss
    StatementAims (sEmpty at) = Unit {0}
    StatementAims (sExpr e at) = Aims e
    StatementAims (sIf h s) = HeadAims h × StatementAims s
    StatementAims (sIfElse h s at t) = HeadAims h × StatementAims s × StatementAims t
    StatementAims (sWhile h s) = HeadAims h × StatementAims s
    StatementAims (sSwitch h s) = HeadAims h × StatementAims s
    StatementAims (sDo at s h b) = HeadAims h × StatementAims s
    StatementAims (sFor h s) = ForAims h × StatementAims s
    StatementAims (sCase at e b s) = StatementAims s
    StatementAims (sDefault at b s) = StatementAims s
    StatementAims (sLabel n at b ats s) = StatementAims s
    StatementAims (sGoto at n x b) = Unit {0}
    StatementAims (sBreak at b) = Unit {0}
    StatementAims (sContinue at b) = Unit {0}
    StatementAims (sReturn at e b) = OptionAims e

    pub StatementsAim : Sts → Type 0
    StatementsAim no_statements = Unit {0}
    StatementsAim (statements_and ss s) = StatementsAim ss × StatementAims s

  abbrev pub BodiesAim : List Function → Type 0
  BodiesAim [] = Unit {0}
  BodiesAim (f ∷ fs) = StatementsAim f.body × BodiesAim fs

-- what means something without a body has none
abbrev pub KnownHaveNone : List (List ℕ) → Type 0
KnownHaveNone bodies = (n : List ℕ) → (k : Known) → known_of n ≡ Some k → position (λ m. bytes_eq m n) bodies ≡ None

-- what the rules of names, types and calls leave to those of effects and calls
pub record SourceAims (items : Items) (model : Model) : Type 0 where
  pub fits : BodiesFit (env_of items model) (map (λ f. f.name) (functions_of (env_of items model) items)) (functions_of (env_of items model) items)
  pub aims : BodiesAim (env_of items model) (functions_of (env_of items model) items)
  pub known : KnownHaveNone (map (λ f. f.name) (functions_of (env_of items model) items))
