-- What scopes leave to the rules of names: no name in a body stands for a parameter of a prototype, and an initial value
-- belongs to an object, a value without a list to a scalar.
use Rattle.std.specs.Prelude.{◌≡◌, ℕ, List, [], ◌∷◌, Option, Some, None}
use Rattle.c_tree.specs.Tree.{Ex, Parts, named, Initial, iNothing, iValue, iList, Decs, no_declarators, declarators_and, Declaration, declares, Head, head, ForStart, forDeclares, forExpr, ForHead, for_head, St, sDeclaration, sBlock, sEmpty, sExpr, sIf, sIfElse, sWhile, sSwitch, sDo, sFor, sCase, sDefault, sLabel, sGoto, sBreak, sContinue, sReturn, Sts, no_statements, statements_and}
use Rattle.c_meaning.specs.Bindings.{Env, object_number, declared_at, count_of}
use Rattle.c_meaning.specs.Program.{Function}
use Rattle.c_types.specs.Fit.{IsThere}
use Rattle.elaboration_fit_laws.specs.Laws.{Unnamed, AllUnnamed}

module _ (env : Env) where
  -- a scalar
  abbrev pub IsOne : Option ℕ → Type 0
  IsOne None = ⊥
  IsOne (Some object) = count_of env object ≡ 1

  abbrev pub OptionHolds : Option Ex → Type 0
  OptionHolds None = Unit {0}
  OptionHolds (Some e) = Unnamed env e

  abbrev pub InitialHolds : Initial → Option ℕ → Type 0
  InitialHolds iNothing o = Unit {0}
  InitialHolds (iValue at e) o = IsOne o × Unnamed env e
  InitialHolds (iList at a es c b) o = IsThere o × AllUnnamed env es

  abbrev pub DeclaratorsHold : Decs → Type 0
  DeclaratorsHold no_declarators = Unit {0}
  DeclaratorsHold (declarators_and ds c (named n at) f ats i) = DeclaratorsHold ds × InitialHolds i (object_number (declared_at env at))

  abbrev pub DeclarationHolds : Declaration → Type 0
  DeclarationHolds (declares ws ds b) = DeclaratorsHold ds

  abbrev pub HeadHolds : Head → Type 0
  HeadHolds (head at a e b) = Unnamed env e

  abbrev pub StartHolds : ForStart → Type 0
  StartHolds (forDeclares d) = DeclarationHolds d
  StartHolds (forExpr e at) = OptionHolds e

  abbrev pub ForHolds : ForHead → Type 0
  ForHolds (for_head at a start test x step b) = StartHolds start × OptionHolds test × OptionHolds step

  abbrev mutual
    pub StatementHolds : St → Type 0
    StatementHolds (sDeclaration d) = DeclarationHolds d
    StatementHolds (sBlock a ss b) = StatementsHold ss
    StatementHolds (sEmpty at) = Unit {0}
    StatementHolds (sExpr e at) = Unnamed env e
    StatementHolds (sIf h s) = HeadHolds h × StatementHolds s
    StatementHolds (sIfElse h s at t) = HeadHolds h × StatementHolds s × StatementHolds t
    StatementHolds (sWhile h s) = HeadHolds h × StatementHolds s
    StatementHolds (sSwitch h s) = HeadHolds h × StatementHolds s
    StatementHolds (sDo at s h b) = HeadHolds h × StatementHolds s
    StatementHolds (sFor h s) = ForHolds h × StatementHolds s
    StatementHolds (sCase at e b s) = StatementHolds s
    StatementHolds (sDefault at b s) = StatementHolds s
    StatementHolds (sLabel n at b ats s) = StatementHolds s
    StatementHolds (sGoto at n x b) = Unit {0}
    StatementHolds (sBreak at b) = Unit {0}
    StatementHolds (sContinue at b) = Unit {0}
    StatementHolds (sReturn at e b) = OptionHolds e

    pub StatementsHold : Sts → Type 0
    StatementsHold no_statements = Unit {0}
    StatementsHold (statements_and ss s) = StatementsHold ss × StatementHolds s

  abbrev pub BodiesHold : List Function → Type 0
  BodiesHold [] = Unit {0}
  BodiesHold (f ∷ fs) = StatementsHold f.body × BodiesHold fs
