-- What a part of a source adds to the declarations before it, part by part.
use Rattle.std.specs.Prelude.{ℕ, suc, Bool, true, false, List, [], Option, Some, None}
use Rattle.lv_base.specs.declared.kind.Model.{Model}
use Rattle.c_tree.specs.Tree.{Ex, eName, eNumber, eLetter, eParen, eCall, eIndex, ePostfix, ePrefix, eSizeof, eCast, eBinary, eCond, eAssign, eComma, Parts, no_parts, parts_and, Words, no_words, words_and, Word, wEnum, wTagEnum, Ens, no_enumerators, plain_and, valued_and, Name, named, Params, no_params, params_and, Parameters, pSome, Form, fPlain, fArray, fFunction, Initial, iNothing, iValue, iList, Decs, no_declarators, declarators_and, Declaration, declares, head, ForStart, forDeclares, forExpr, for_head, St, sDeclaration, sBlock, sEmpty, sExpr, sIf, sIfElse, sWhile, sSwitch, sDo, sFor, sCase, sDefault, sLabel, sGoto, sBreak, sContinue, sReturn, Sts, no_statements, statements_and, Body, bBlock, bSkipped, Item, tSkipped, tFunction, tDeclaration, tEmpty, Items, no_items, items_and}
use Rattle.c_meaning.specs.Tokens.{last_of, first_of_words, open_of, close_of, end_of}
use Rattle.c_meaning.specs.Scope as s
use Rattle.c_meaning.specs.Bindings.{Env}
use Rattle.c_meaning.specs.Constants as c

module _ (model : Model) where
  -- one declaration more
  abbrev pub one : Env → s.Declared → Env
  one env d = c.declare model env d d.what

  module _ (scope : s.Scope) (owner : Option ℕ) where
    abbrev mutual
      pub expression : Env → Ex → Env
      expression env (eName n at) = env
      expression env (eNumber v f at) = env
      expression env (eLetter v at) = env
      expression env (eParen a e b) = expression env e
      expression env (eCall f a es b) = parts (expression env f) es
      expression env (eIndex a x i y) = expression (expression env a) i
      expression env (ePostfix e c at) = expression env e
      expression env (ePrefix o at e) = expression env e
      expression env (eSizeof at a ws b) = words env ws
      expression env (eCast a ws b e) = expression (words env ws) e
      expression env (eBinary a o at b) = expression (expression env a) b
      expression env (eCond c x a y b) = expression (expression (expression env c) a) b
      expression env (eAssign a o at b) = expression (expression env a) b
      expression env (eComma es) = parts env es

      pub parts : Env → Parts → Env
      parts env no_parts = env
      parts env (parts_and es c e) = expression (parts env es) e

      pub words : Env → Words → Env
      words env no_words = env
      words env (words_and ws w) = word (words env ws) w

      pub word : Env → Word → Env
      word env (wEnum at a es c b) = enumerators env es
      word env (wTagEnum at n x a es c b) = one (enumerators env es) (s.declared scope owner n x b (s.aTag es))
      word env _ = env

      pub enumerators : Env → Ens → Env
      enumerators env no_enumerators = env
      enumerators env (plain_and es c n at) = one (enumerators env es) (s.declared scope owner n at at (s.anEnumerator (plain_and es c n at)))
      enumerators env (valued_and es c n at a e) = one (expression (enumerators env es) e) (s.declared scope owner n at (last_of e) (s.anEnumerator (valued_and es c n at a e)))

    abbrev pub option : Env → Option Ex → Env
    option env None = env
    option env (Some e) = expression env e

    abbrev pub parameter : Env → Words → Option Name → Env
    parameter env ws None = one (words env ws) (s.declared scope owner [] (first_of_words ws) (first_of_words ws) (s.aParameter ws))
    parameter env ws (Some (named n at)) = one (words env ws) (s.declared scope owner n at at (s.aParameter ws))

    abbrev pub params : Env → Params → Env
    params env no_params = env
    params env (params_and ps c ws n) = parameter (params env ps) ws n

    abbrev pub parameters : Env → Parameters → Env
    parameters env (pSome a ps b) = params env ps
    parameters env _ = env

    abbrev pub name : Env → Words → Option Name → Env
    name env ws None = words env ws
    name env ws (Some (named n at)) = one (words env ws) (s.declared scope owner n at at (s.aName ws))

    abbrev pub names : Env → Params → Env
    names env no_params = env
    names env (params_and ps c ws n) = name (names env ps) ws n

    abbrev pub names_in : Env → Parameters → Env
    names_in env (pSome a ps b) = names env ps
    names_in env _ = env

  abbrev pub prototype : Env → Parameters → Env
  prototype env ps = names_in (s.block (open_of ps) (close_of ps)) None env ps

  module _ (scope : s.Scope) (owner : Option ℕ) where
    abbrev pub declared : Env → Words → List ℕ → ℕ → ℕ → Form → Initial → Env
    declared env ws n at behind f i = one env (s.declared scope owner n at behind (s.declared_as scope owner (s.has_typedef ws) ws f i))

    abbrev pub declarator : Env → Words → List ℕ → ℕ → Form → Initial → Env
    declarator env ws n at fPlain i = declared env ws n at at fPlain i
    declarator env ws n at (fArray a e b) i = declared (option scope owner env e) ws n at b (fArray a e b) i
    declarator env ws n at (fFunction ps) i = declared (prototype env ps) ws n at (close_of ps) (fFunction ps) i

    abbrev pub initial : Env → Initial → Env
    initial env iNothing = env
    initial env (iValue at e) = expression scope owner env e
    initial env (iList at a es c b) = parts scope owner env es

    abbrev pub whole_declarator : Env → Words → Name → Form → Initial → Env
    whole_declarator env ws (named n at) f i = initial (declarator env ws n at f i) i

    abbrev pub declarators : Env → Words → Decs → Env
    declarators env ws no_declarators = env
    declarators env ws (declarators_and ds c n f ats i) = whole_declarator (declarators env ws ds) ws n f i

    abbrev pub declaration : Env → Declaration → Env
    declaration env (declares ws ds b) = declarators (words scope owner env ws) ws ds

    abbrev pub start : Env → ForStart → Env
    start env (forDeclares d) = declaration env d
    start env (forExpr e at) = option scope owner env e

  module _ (owner : Option ℕ) where
    abbrev mutual
      pub statement : s.Scope → Env → St → Env
      statement scope env (sDeclaration d) = declaration scope owner env d
      statement scope env (sBlock a ss b) = statements (s.block a b) env ss
      statement scope env (sEmpty at) = env
      statement scope env (sExpr e at) = expression scope owner env e
      statement scope env (sIf (head at a e b) u) = statement (s.block b (end_of u)) (expression (s.block at (end_of u)) owner env e) u
      statement scope env (sIfElse (head at a e b) u x t) = statement (s.block x (end_of t)) (statement (s.block b (end_of u)) (expression (s.block at (end_of t)) owner env e) u) t
      statement scope env (sWhile (head at a e b) u) = statement (s.block b (end_of u)) (expression (s.block at (end_of u)) owner env e) u
      statement scope env (sSwitch (head at a e b) u) = statement (s.block b (end_of u)) (expression (s.block at (end_of u)) owner env e) u
      statement scope env (sDo at u (head w a e b) x) = expression (s.block at x) owner (statement (s.block (suc at) (end_of u)) env u) e
      statement scope env (sFor (for_head at a begin test x step b) u) =
          statement (s.block b (end_of u)) (option (s.block at (end_of u)) owner (option (s.block at (end_of u)) owner (start (s.block at (end_of u)) owner env begin) test) step) u
      statement scope env (sCase at e b u) = statement scope (expression scope owner env e) u
      statement scope env (sDefault at b u) = statement scope env u
      statement scope env (sLabel n at b ats u) = statement scope env u
      statement scope env (sGoto at n x b) = env
      statement scope env (sBreak at b) = env
      statement scope env (sContinue at b) = env
      statement scope env (sReturn at e b) = option scope owner env e

      pub statements : s.Scope → Env → Sts → Env
      statements scope env no_statements = env
      statements scope env (statements_and ss u) = statement scope (statements scope env ss) u

  abbrev pub whole_function : Env → Words → List ℕ → ℕ → Parameters → Env
  whole_function env ws n at ps = one env (s.declared s.file None n at (close_of ps) (s.aFunction ws ps true))

  abbrev pub function : ℕ → Env → Words → List ℕ → ℕ → Parameters → Body → Env
  function number env ws n at ps (bSkipped a r b) = whole_function (prototype (words s.file None env ws) ps) ws n at ps
  function number env ws n at ps (bBlock a ss b) =
      statements (Some number) (s.block (open_of ps) b) (whole_function (parameters (s.block (open_of ps) b) (Some number) (words s.file None env ws) ps) ws n at ps) ss

  abbrev pub item : ℕ → Env → Item → Env
  item number env (tFunction ws (named n at) ps ats body) = function number env ws n at ps body
  item number env (tDeclaration d) = declaration s.file None env d
  item number env (tSkipped x at r b) = env
  item number env (tEmpty at) = env

  abbrev pub items : Env → Items → Env
  items env no_items = env
  items env (items_and is i) = item (s.count_bodies is) (items env is) i

  abbrev pub of_items : Items → Env
  of_items is = items c.no_names is
