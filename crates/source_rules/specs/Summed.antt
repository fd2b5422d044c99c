-- The rules of names, types, calls, constants and cases that a source breaks, summed up part by part. `again` has the offsets
-- of the names that are declared a second time in their scopes.
use Rattle.std.specs.Prelude.{◌≡◌, ℕ, nat_eq, nat_lt, Bool, true, false, ◌&&◌, not, if◌then◌else◌, List, [], ◌∷◌, length, Option, None, Some, bytes_eq, codes, pos, int_le}
use Rattle.lv_base.specs.declared.kind.Kind.{Kind}
use Rattle.lv_base.specs.declared.kind.Kind.TheVariants as kind
use Rattle.lv_base.specs.declared.kind.Model.{Model}
use Rattle.lv_base.specs.declared.fault.SourceFault.TheVariants as fault
use Rattle.c_tree.specs.Tree.{Ex, Parts, no_parts, parts_and, Words, Params, no_params, params_and, Parameters, pSome, Form, fArray, fFunction, Initial, iNothing, iValue, iList, Decs, no_declarators, declarators_and, Declaration, declares, Head, head, ForStart, forDeclares, forExpr, ForHead, for_head, St, sDeclaration, sBlock, sEmpty, sExpr, sIf, sIfElse, sWhile, sSwitch, sDo, sFor, sCase, sDefault, sLabel, sGoto, sBreak, sContinue, sReturn, Sts, no_statements, statements_and, Body, bBlock, bSkipped, named, Item, tSkipped, tFunction, tDeclaration, tEmpty, Items, no_items, items_and}
use Rattle.c_meaning.specs.Kinds.{promoted, kind_of}
use Rattle.c_meaning.specs.Tokens.{count_parts, first_of}
use Rattle.c_meaning.specs.Bindings.{Env, words_type, kind_in, parameter_kinds}
use Rattle.c_meaning.specs.Types.{type_of}
use Rattle.c_meaning.specs.Constants.{constant_of, or_zero, object_length}
use Rattle.c_meaning.specs.Rules as r
use Rattle.first_broken.specs.Found.{Summary, summary, both, unless_found}
use Rattle.typing_rules.specs.Summed as s
use Rattle.source_rules.specs.Cases.{cases_in, repeated}
use Rattle.typing_rules.specs.Summed.{one, nothing}

-- the length is a constant below 1
abbrev pub is_short : Env → Model → Ex → Bool
is_short env model e = not (r.is_none (constant_of env model e)) && int_le (or_zero (constant_of env model e)) (pos 0)

-- there are more values than elements
abbrev pub exceeds : Option ℕ → ℕ → Bool
exceeds None count = false
exceeds (Some n) count = nat_lt 0 n && nat_lt n count

abbrev pub count_found : Env → Model → Form → Initial → ℕ → ℕ → Summary
count_found env model f i count at = one (exceeds (object_length env model f i) count) fault.NotScalar at

-- two cases of one value, or two defaults
abbrev pub switch_found : Env → Model → Head → St → Summary
switch_found env model (head at a e b) s = summary (repeated [] (cases_in env model (promoted (kind_of (type_of env model e))) s))

module _ (env : Env) (model : Model) (bodies : List (List ℕ)) (again : List ℕ) where
  abbrev expression : Ex → Summary
  expression e = s.found env model bodies again e

  abbrev words : Words → Summary
  words ws = s.found_of_words env model bodies again ws

  -- an expression whose value is wanted, one whose value is not, and a constant
  abbrev pub value_all : Ex → Summary
  value_all e = unless_found (expression e) (s.value_found env model e)

  abbrev pub option_all : Option Ex → Summary
  option_all None = nothing
  option_all (Some e) = expression e

  abbrev pub test_all : Option Ex → Summary
  test_all None = nothing
  test_all (Some e) = value_all e

  abbrev pub constant_all : Ex → Summary
  constant_all e = unless_found (expression e) (s.constant_found env model e)

  -- ---- Declarations

  abbrev pub first_all : Bool → Ex → Summary
  first_all true e = constant_all e
  first_all false e = value_all e

  abbrev pub firsts_all : Bool → Parts → Summary
  firsts_all static no_parts = nothing
  firsts_all static (parts_and es c e) = both (firsts_all static es) (first_all static e)

  abbrev pub length_all : Ex → Summary
  length_all e = unless_found (expression e) (both (s.constant_found env model e) (one (is_short env model e) fault.NotConstant (first_of e)))

  abbrev pub params_all : Params → Summary
  params_all no_params = nothing
  params_all (params_and ps c ws n) = both (params_all ps) (words ws)

  abbrev pub parameters_all : Parameters → Summary
  parameters_all (pSome a ps b) = params_all ps
  parameters_all _ = nothing

  abbrev pub option_length : Option Ex → Summary
  option_length None = nothing
  option_length (Some e) = length_all e

  abbrev pub form_all : Form → Summary
  form_all (fArray a e b) = option_length e
  form_all (fFunction ps) = parameters_all ps
  form_all _ = nothing

  abbrev pub initial_all : Bool → Form → Initial → Summary
  initial_all static f iNothing = nothing
  initial_all static f (iValue at e) = first_all static e
  initial_all static f (iList at a es c b) = both (count_found env model f (iList at a es c b) (count_parts es) a) (firsts_all static es)

  -- a declared name, behind those before it
  abbrev pub with_declarator : Bool → Summary → Form → Initial → Summary
  with_declarator static all f i = both (both all (form_all f)) (initial_all static f i)

  abbrev pub declarators_all : Bool → Decs → Summary
  declarators_all static no_declarators = nothing
  declarators_all static (declarators_and ds c n f ats i) = with_declarator static (declarators_all static ds) f i

  abbrev pub declaration_all : Bool → Declaration → Summary
  declaration_all static (declares ws ds b) = both (words ws) (declarators_all static ds)

  -- ---- Statements

  abbrev pub head_all : Head → Summary
  head_all (head at a e b) = value_all e

  abbrev pub start_all : ForStart → Summary
  start_all (forDeclares d) = declaration_all false d
  start_all (forExpr e at) = option_all e

  abbrev pub for_all : ForHead → Summary
  for_all (for_head at a start test x step b) = both (both (start_all start) (test_all test)) (option_all step)

  abbrev pub return_all : Option Kind → Option Ex → Summary
  return_all (Some k) e = test_all e
  return_all None e = option_all e

  module _ (result : Option Kind) where
    abbrev mutual
      pub statement_all : St → Summary
      statement_all (sDeclaration d) = declaration_all false d
      statement_all (sBlock a ss b) = statements_all ss
      statement_all (sEmpty at) = nothing
      statement_all (sExpr e at) = expression e
      statement_all (sIf h s) = both (head_all h) (statement_all s)
      statement_all (sIfElse h s at t) = both (both (head_all h) (statement_all s)) (statement_all t)
      statement_all (sWhile h s) = both (head_all h) (statement_all s)
      statement_all (sSwitch h s) = both (both (head_all h) (statement_all s)) (switch_found env model h s)
      statement_all (sDo at s h b) = both (statement_all s) (head_all h)
      statement_all (sFor h s) = both (for_all h) (statement_all s)
      statement_all (sCase at e b s) = both (constant_all e) (statement_all s)
      statement_all (sDefault at b s) = statement_all s
      statement_all (sLabel n at b ats s) = statement_all s
      statement_all (sGoto at n x b) = nothing
      statement_all (sBreak at b) = nothing
      statement_all (sContinue at b) = nothing
      statement_all (sReturn at e b) = return_all result e

      pub statements_all : Sts → Summary
      statements_all no_statements = nothing
      statements_all (statements_and ss s) = both (statements_all ss) (statement_all s)

  -- ---- Items

  abbrev pub body_all : Option Kind → Body → Summary
  body_all result (bBlock a ss b) = statements_all result ss
  body_all result (bSkipped a r b) = nothing

  abbrev pub function_all : Words → Parameters → Body → Summary
  function_all ws ps body = both (both (words ws) (parameters_all ps)) (body_all (kind_in (words_type env ws)) body)

  abbrev pub item_all : Item → Summary
  item_all (tSkipped x at r b) = nothing
  item_all (tFunction ws n ps ats body) = function_all ws ps body
  item_all (tDeclaration d) = declaration_all true d
  item_all (tEmpty at) = nothing

  abbrev pub items_all : Items → Summary
  items_all no_items = nothing
  items_all (items_and is i) = both (items_all is) (item_all i)

-- the sums are those of the rules
abbrev pub ItemsSummed : Type 0
ItemsSummed = (env : Env) (model : Model) (bodies : List (List ℕ)) (is : Items) →
    items_all env model bodies (s.again_in env model bodies) is ≡ summary (r.faults_of_items env model bodies is)
