-- The rules that each source keeps: names, types, calls, constants, `const` and cases (C11 6.5, 6.6, 6.7, 6.8.4.2).
use Rattle.std.specs.Prelude.{ℕ, nat_eq, nat_lt, Bool, true, false, ◌&&◌, ◌||◌, not, if◌then◌else◌, List, [], ◌∷◌, ◌++◌, length, Option, Some, None, slice_get, bytes_eq, codes, ℤ, pos, int_le}
use Rattle.std.specs.List.{list_any}
use Rattle.std.specs.Option.{option_map}
use Rattle.lv_base.specs.declared.kind.Kind.{Kind}
use Rattle.lv_base.specs.declared.kind.Kind.TheVariants as kind
use Rattle.lv_base.specs.declared.kind.Model.{Model}
use Rattle.lv_base.specs.declared.fault.SourceFault.{SourceFault}
use Rattle.lv_base.specs.declared.fault.SourceFault.TheVariants as fault
use Rattle.lv_base.specs.Integers.{is_in_range, is_signed, converted}
use Rattle.c_tree.specs.declared.tree.PrefixOp.{PrefixOp}
use Rattle.c_tree.specs.declared.tree.PrefixOp.TheVariants as pre
use Rattle.c_tree.specs.Tree.{Ex, eName, eNumber, eLetter, eParen, eCall, eIndex, ePostfix, ePrefix, eSizeof, eCast, eBinary, eCond, eAssign, eComma, Parts, no_parts, parts_and, Words, no_words, words_and, Word, wTag, wEnum, wTagEnum, Ens, no_enumerators, plain_and, valued_and, named, Params, no_params, params_and, Parameters, pSome, Form, fArray, fFunction, Initial, iNothing, iValue, iList, Decs, no_declarators, declarators_and, Declaration, declares, Head, head, ForStart, forDeclares, forExpr, ForHead, for_head, St, sDeclaration, sBlock, sEmpty, sExpr, sIf, sIfElse, sWhile, sSwitch, sDo, sFor, sCase, sDefault, sLabel, sGoto, sBreak, sContinue, sReturn, Sts, no_statements, statements_and, Body, bBlock, bSkipped, Item, tSkipped, tFunction, tDeclaration, tEmpty, Items, no_items, items_and}
use Rattle.c_run.specs.Breaking.{Broken, line}
use Rattle.c_meaning.specs.Kinds.{CType, tVoid, tFunction, promoted, is_kind, is_array, is_void, kind_of, rank}
use Rattle.c_meaning.specs.Tokens.{count_parts, first_of, own_token}
use Rattle.c_meaning.specs.Scope.{Declared, What, anObject, aFunction, is_tag, is_file, is_same}
use Rattle.c_meaning.specs.Bindings.{Entity, anObjectOf, aFunctionOf, aConstantOf, aNameOf, Entry, Env, visible, entity_of, declared_at, constant_value, entity_type, is_const_object, words_type, has_const, kind_in, kind_or_int, parameter_kinds}
use Rattle.c_meaning.specs.Known.{Known, reaches, aborts, draws, known_of}
use Rattle.c_meaning.specs.Types.{type_of}
use Rattle.c_meaning.specs.Constants.{is_constant, constant_of, or_zero, object_length}

-- faults of names, types, calls and constants
abbrev pub is_typing : SourceFault → Bool
is_typing fault.UnknownName = true
is_typing fault.Redeclared = true
is_typing fault.NotScalar = true
is_typing fault.WrongCall = true
is_typing fault.NotConstant = true
is_typing _ = false

-- the lines of an expression are tried only where none of its parts, at any depth, breaks a rule of these
abbrev pub unless : List Broken → List Broken → List Broken
unless parts lines = parts ++ (if list_any (λ b. is_typing b.fault) parts then [] else lines)

abbrev pub is_none : {A : Type 0} → Option A → Bool
is_none None = true
is_none (Some v) = false

-- ---- What names and targets are

-- an object, a function, an enumeration's constant, or a parameter
abbrev pub is_value_name : Entity → Bool
is_value_name (anObjectOf number) = true
is_value_name (aFunctionOf r ps) = true
is_value_name (aConstantOf v) = true
is_value_name (aNameOf k c) = true
is_value_name _ = false

abbrev pub is_object_name : Entity → Bool
is_object_name (anObjectOf number) = true
is_object_name (aNameOf k c) = true
is_object_name _ = false

-- a case or a default with the offset of its keyword; a case without a value is broken
pub data Case : Type 0 where
  aCase : (value : Option ℤ) (at : ℕ) → Case
  aDefault : (at : ℕ) → Case

abbrev pub case_at : Case → ℕ
case_at (aCase v at) = at
case_at (aDefault at) = at

abbrev pub is_same_value : Option ℤ → Option ℤ → Bool
is_same_value (Some v) (Some w) = int_le v w && int_le w v
is_same_value _ _ = false

abbrev pub is_same_case : Case → Case → Bool
is_same_case (aCase v at) (aCase w b) = is_same_value v w
is_same_case (aDefault at) (aDefault b) = true
is_same_case _ _ = false

-- by rank and sign
abbrev pub is_same_kind : Kind → Kind → Bool
is_same_kind k l = nat_eq (rank k) (rank l) && (if is_signed k then is_signed l else not (is_signed l))

module _ (env : Env) (model : Model) (bodies : List (List ℕ)) where
  abbrev pub typed : Ex → CType
  typed e = type_of env model e

  abbrev pub is_const_name : Entity → Bool
  is_const_name (anObjectOf number) = is_const_object (slice_get env.objects number)
  is_const_name (aNameOf k c) = c
  is_const_name _ = false

  -- an object that is no array, or an element; round brackets and `__extension__` are looked through
  abbrev pub is_target : Ex → Bool
  is_target (eName n at) = is_object_name (entity_of env n at) && is_kind (entity_type env (entity_of env n at))
  is_target (eIndex a x i y) = true
  is_target (eParen a e b) = is_target e
  is_target (ePrefix pre.Extension at e) = is_target e
  is_target _ = false

  -- the name in a target, or of its array
  abbrev pub is_const_target : Ex → Bool
  is_const_target (eName n at) = is_const_name (entity_of env n at)
  is_const_target (eIndex a x i y) = is_const_target a
  is_const_target (eParen a e b) = is_const_target e
  is_const_target (ePrefix pre.Extension at e) = is_const_target e
  is_const_target _ = false

  -- ---- Lines

  -- an array, a function or void stands where a value must
  abbrev pub value_line : Ex → List Broken
  value_line e = line (not (is_kind (typed e))) fault.NotScalar (own_token e)

  -- the right operand of a comma is a value or void
  abbrev pub last_line : Parts → List Broken
  last_line no_parts = []
  last_line (parts_and es c e) = line (not (is_kind (typed e) || is_void (typed e))) fault.NotScalar (own_token e)

  -- what is assigned to is an object or an element, and it is not const (C11 6.5.16 p2, 6.5.2.4 p1, 6.5.3.1 p1)
  abbrev pub target_lines : ℕ → Ex → List Broken
  target_lines at e = line (not (is_target e)) fault.NotScalar at ++ line (is_target e && is_const_target e) fault.ConstWritten at

  abbrev pub is_callable : List ℕ → Bool
  is_callable n = list_any (λ m. bytes_eq m n) bodies || not (is_none (known_of n))

  abbrev pub takes : Entity → ℕ → Bool
  takes (aFunctionOf result parameters) count = nat_eq (length parameters) count
  takes _ count = false

  -- A call names a function that has a body or a meaning of its own, with as many arguments as parameters (C11 6.5.2.2).
  abbrev pub call_line : Ex → ℕ → ℕ → List Broken
  call_line (eName n at) bracket count = line (not (takes (entity_of env n at) count && is_callable n)) fault.WrongCall at
  call_line f bracket count = line true fault.WrongCall bracket

  -- both arms are void, or both are values
  abbrev pub arm_lines : Ex → Ex → List Broken
  arm_lines a b = if is_void (typed a) && is_void (typed b) then [] else value_line a ++ value_line b

  -- a constant expression that is not undefined
  abbrev pub constant_lines : Ex → List Broken
  constant_lines e =
      value_line e ++ line (not (is_constant env e) || (is_kind (typed e) && is_none (constant_of env model e))) fault.NotConstant (first_of e)

  -- values that an `int` doesn't hold (C11 6.7.2.2 p2)
  abbrev pub range_line : ℤ → ℕ → List Broken
  range_line v at = line (not (is_in_range kind.Int model v)) fault.NotConstant at

  abbrev pub prefix_lines : PrefixOp → ℕ → Ex → List Broken
  prefix_lines pre.Increment at e = target_lines at e
  prefix_lines pre.Decrement at e = target_lines at e
  prefix_lines pre.Extension at e = []
  prefix_lines pre.Sizeof at e = line (not (is_kind (typed e) || is_array (typed e))) fault.NotScalar (own_token e)
  prefix_lines o at e = value_line e

  -- a cast to void takes any operand
  abbrev pub cast_lines : CType → Ex → List Broken
  cast_lines tVoid e = []
  cast_lines _ e = value_line e

  -- ---- Names that are declared twice (C11 6.2.2, 6.7 p3, p4, 6.9 p3)

  abbrev pub same_kinds : List Kind → List Kind → Bool
  same_kinds [] [] = true
  same_kinds (k ∷ ks) (l ∷ ls) = is_same_kind k l && same_kinds ks ls
  same_kinds _ _ = false

  abbrev pub same_length : Option ℕ → Option ℕ → Bool
  same_length None None = true
  same_length (Some n) (Some m) = nat_eq n m || (nat_eq n 0 || nat_eq m 0)
  same_length _ _ = false

  abbrev pub same_const : Bool → Bool → Bool
  same_const true true = true
  same_const false false = true
  same_const _ _ = false

  abbrev pub same_result : Option Kind → Option Kind → Bool
  same_result None None = true
  same_result (Some k) (Some l) = is_same_kind k l
  same_result _ _ = false

  abbrev pub begins : Initial → Bool
  begins iNothing = false
  begins _ = true

  -- Two declarations of one object or function agree: in kind, length and `const` of the object, or in the kinds of result
  -- and parameters; at most one of them initializes or has a body.
  abbrev pub agrees : What → What → Bool
  agrees (anObject ws f i) (anObject vs g j) =
      is_same_kind (kind_or_int (words_type env ws)) (kind_or_int (words_type env vs))
      && (same_length (object_length env model f i) (object_length env model g j)
      && (same_const (has_const env ws) (has_const env vs)
      && not (begins i && begins j)))
  agrees (aFunction ws ps b) (aFunction vs qs c) =
      same_result (kind_in (words_type env ws)) (kind_in (words_type env vs))
      && (same_kinds (parameter_kinds env ps) (parameter_kinds env qs)
      && not (b && c))
  agrees _ _ = false

  abbrev pub same_space : What → What → Bool
  same_space w v = if is_tag w then is_tag v else not (is_tag v)

  -- the two are in one name space and one scope, and have one name; a parameter without a name has none
  abbrev pub meets : Declared → Declared → Bool
  meets d e = same_space d.what e.what && (is_same d.scope e.scope && (bytes_eq d.name e.name && nat_lt 0 (length d.name)))

  abbrev pub clashes : Declared → Entry → Bool
  clashes d e = meets d e.declared && not (is_file d.scope && agrees e.declared.what d.what)

  -- the declared result and parameters of a function that means something without a body
  abbrev pub is_known_right : Known → Option Kind → Bool
  is_known_right reaches result = is_none result
  is_known_right aborts result = is_none result
  is_known_right (draws k) result = not (is_none result)

  abbrev pub may_have_body : Known → Bool
  may_have_body reaches = true
  may_have_body _ = false

  abbrev pub known_line : Option Known → ℕ → Option Kind → List Kind → Bool → List Broken
  known_line None at result parameters has_body = []
  known_line (Some k) at result parameters has_body =
      line (not (is_known_right k result && (nat_eq (length parameters) 0 && (may_have_body k || not has_body)))) fault.Redeclared at

  abbrev pub declared_line : Declared → What → List Broken
  declared_line d (aFunction ws ps b) = known_line (known_of d.name) d.at (kind_in (words_type env ws)) (parameter_kinds env ps) b
  declared_line d _ = []

  abbrev pub redeclared : List Entry → List Entry → List Broken
  redeclared before [] = []
  redeclared before (e ∷ es) =
      line (list_any (clashes e.declared) before) fault.Redeclared e.declared.at ++ declared_line e.declared e.declared.what ++ redeclared (e ∷ before) es

  -- the name at this offset is declared a second time in its scope
  abbrev pub is_redeclared : ℕ → Bool
  is_redeclared at = list_any (λ b. nat_eq b.at at) (redeclared [] env.entries)

  -- ---- Expressions

  abbrev mutual
    pub faults : Ex → List Broken
    faults (eName n at) = line (not (is_value_name (entity_of env n at))) fault.UnknownName at
    faults (eNumber v f at) = []
    faults (eLetter v at) = []
    faults (eParen a e b) = faults e
    faults (eCall f a es b) = unless (faults f ++ faults_of_parts es) (call_line f a (count_parts es) ++ value_lines es)
    faults (eIndex a x i y) = unless (faults a ++ faults i) (line (not (is_array (typed a))) fault.NotScalar x ++ value_line i)
    faults (ePostfix e c at) = unless (faults e) (target_lines at e)
    faults (ePrefix o at e) = unless (faults e) (prefix_lines o at e)
    faults (eSizeof at a ws b) = faults_of_words ws
    faults (eCast a ws b e) = unless (faults_of_words ws ++ faults e) (cast_lines (words_type env ws) e)
    faults (eBinary a o at b) = unless (faults a ++ faults b) (value_line a ++ value_line b)
    faults (eCond c x a y b) = unless (faults c ++ faults a ++ faults b) (value_line c ++ arm_lines a b)
    faults (eAssign a o at b) = unless (faults a ++ faults b) (target_lines at a ++ value_line b)
    faults (eComma es) = unless (faults_of_parts es) (last_line es)

    pub faults_of_parts : Parts → List Broken
    faults_of_parts no_parts = []
    faults_of_parts (parts_and es c e) = faults_of_parts es ++ faults e

    pub value_lines : Parts → List Broken
    value_lines no_parts = []
    value_lines (parts_and es c e) = value_lines es ++ value_line e

    pub faults_of_words : Words → List Broken
    faults_of_words no_words = []
    faults_of_words (words_and ws w) = faults_of_words ws ++ faults_of_word w

    pub faults_of_word : Word → List Broken
    faults_of_word (wTag at n b) = line (is_none (visible env true n b)) fault.UnknownName b
    faults_of_word (wEnum at a es c b) = faults_of_enumerators es
    faults_of_word (wTagEnum at n x a es c b) = line (is_redeclared x) fault.Redeclared x ++ faults_of_enumerators es
    faults_of_word _ = []

    pub faults_of_enumerators : Ens → List Broken
    faults_of_enumerators no_enumerators = []
    faults_of_enumerators (plain_and es c n at) = faults_of_enumerators es ++ line (is_redeclared at) fault.Redeclared at ++ range_line (constant_value (declared_at env at)) at
    faults_of_enumerators (valued_and es c n at a e) = faults_of_enumerators es ++ line (is_redeclared at) fault.Redeclared at ++ unless (faults e) (constant_lines e ++ range_line (constant_value (declared_at env at)) (first_of e))

  -- an expression whose value is wanted, one whose value is not, and a constant
  abbrev pub faults_of_value : Ex → List Broken
  faults_of_value e = unless (faults e) (value_line e)

  abbrev pub faults_of_option : Option Ex → List Broken
  faults_of_option None = []
  faults_of_option (Some e) = faults e

  abbrev pub faults_of_constant : Ex → List Broken
  faults_of_constant e = unless (faults e) (constant_lines e)

  -- ---- Declarations

  -- what a static object begins with is constant (C11 6.7.9 p4)
  abbrev pub faults_of_first : Bool → Ex → List Broken
  faults_of_first true e = faults_of_constant e
  faults_of_first false e = faults_of_value e

  abbrev pub faults_of_firsts : Bool → Parts → List Broken
  faults_of_firsts static no_parts = []
  faults_of_firsts static (parts_and es c e) = faults_of_firsts static es ++ faults_of_first static e

  -- the length of an array is a constant of at least 1 (C11 6.7.6.2 p1)
  abbrev pub faults_of_length : Ex → List Broken
  faults_of_length e = unless (faults e) (constant_lines e ++ line (not (is_none (constant_of env model e)) && int_le (or_zero (constant_of env model e)) (pos 0)) fault.NotConstant (first_of e))

  abbrev pub faults_of_params : Params → List Broken
  faults_of_params no_params = []
  faults_of_params (params_and ps c ws n) = faults_of_params ps ++ faults_of_words ws

  abbrev pub faults_of_parameters : Parameters → List Broken
  faults_of_parameters (pSome a ps b) = faults_of_params ps
  faults_of_parameters _ = []

  abbrev pub faults_of_form : Form → List Broken
  faults_of_form (fArray a (Some e) b) = faults_of_length e
  faults_of_form (fFunction ps) = faults_of_parameters ps
  faults_of_form _ = []

  -- there are more values than elements; a broken length is none
  abbrev pub is_too_many : Option ℕ → ℕ → Bool
  is_too_many (Some n) count = nat_lt 0 n && nat_lt n count
  is_too_many None count = false

  abbrev pub faults_of_initial : Bool → Form → Initial → List Broken
  faults_of_initial static f iNothing = []
  faults_of_initial static f (iValue at e) = faults_of_first static e
  faults_of_initial static f (iList at a es c b) = line (is_too_many (object_length env model f (iList at a es c b)) (count_parts es)) fault.NotScalar a ++ faults_of_firsts static es

  abbrev pub faults_of_declarators : Bool → Decs → List Broken
  faults_of_declarators static no_declarators = []
  faults_of_declarators static (declarators_and ds c n f ats i) = faults_of_declarators static ds ++ faults_of_form f ++ faults_of_initial static f i

  abbrev pub faults_of_declaration : Bool → Declaration → List Broken
  faults_of_declaration static (declares ws ds b) = faults_of_words ws ++ faults_of_declarators static ds

  -- ---- The cases of a switch (C11 6.8.4.2 p3)

  abbrev pub case_value : Kind → Ex → Option ℤ
  case_value k e = option_map (λ v. converted k model v) (constant_of env model e)

  -- those of a switch's body, not those of a switch in it; `k` is the promoted kind of its value
  abbrev mutual
    pub cases_of : Kind → St → List Case
    cases_of k (sBlock a ss b) = cases_of_all k ss
    cases_of k (sIf h s) = cases_of k s
    cases_of k (sIfElse h s at t) = cases_of k s ++ cases_of k t
    cases_of k (sWhile h s) = cases_of k s
    cases_of k (sDo at s h b) = cases_of k s
    cases_of k (sFor h s) = cases_of k s
    cases_of k (sCase at e b s) = aCase (case_value k e) at ∷ cases_of k s
    cases_of k (sDefault at b s) = aDefault at ∷ cases_of k s
    cases_of k (sLabel n at b ats s) = cases_of k s
    cases_of k _ = []

    pub cases_of_all : Kind → Sts → List Case
    cases_of_all k no_statements = []
    cases_of_all k (statements_and ss s) = cases_of_all k ss ++ cases_of k s

  -- two cases of one value, or two defaults: the later one
  abbrev pub duplicates : List Case → List Case → List Broken
  duplicates before [] = []
  duplicates before (x ∷ xs) = line (list_any (is_same_case x) before) fault.DuplicateCase (case_at x) ++ duplicates (x ∷ before) xs

  abbrev pub switch_lines : Head → St → List Broken
  switch_lines (head at a e b) s = duplicates [] (cases_of (promoted (kind_of (typed e))) s)

  -- ---- Statements

  abbrev pub faults_of_head : Head → List Broken
  faults_of_head (head at a e b) = faults_of_value e

  abbrev pub faults_of_test : Option Ex → List Broken
  faults_of_test None = []
  faults_of_test (Some e) = faults_of_value e

  abbrev pub faults_of_start : ForStart → List Broken
  faults_of_start (forDeclares d) = faults_of_declaration false d
  faults_of_start (forExpr e at) = faults_of_option e

  abbrev pub faults_of_for : ForHead → List Broken
  faults_of_for (for_head at a start test x step b) = faults_of_start start ++ faults_of_test test ++ faults_of_option step

  -- in a function with a result a returned value is wanted
  abbrev pub faults_of_return : Option Kind → Option Ex → List Broken
  faults_of_return (Some k) e = faults_of_test e
  faults_of_return None e = faults_of_option e

  module _ (result : Option Kind) where
    abbrev mutual
      pub faults_of_statement : St → List Broken
      faults_of_statement (sDeclaration d) = faults_of_declaration false d
      faults_of_statement (sBlock a ss b) = faults_of_statements ss
      faults_of_statement (sEmpty at) = []
      faults_of_statement (sExpr e at) = faults e
      faults_of_statement (sIf h s) = faults_of_head h ++ faults_of_statement s
      faults_of_statement (sIfElse h s at t) = faults_of_head h ++ faults_of_statement s ++ faults_of_statement t
      faults_of_statement (sWhile h s) = faults_of_head h ++ faults_of_statement s
      faults_of_statement (sSwitch h s) = faults_of_head h ++ faults_of_statement s ++ switch_lines h s
      faults_of_statement (sDo at s h b) = faults_of_statement s ++ faults_of_head h
      faults_of_statement (sFor h s) = faults_of_for h ++ faults_of_statement s
      faults_of_statement (sCase at e b s) = faults_of_constant e ++ faults_of_statement s
      faults_of_statement (sDefault at b s) = faults_of_statement s
      faults_of_statement (sLabel n at b ats s) = faults_of_statement s
      faults_of_statement (sGoto at n x b) = []
      faults_of_statement (sBreak at b) = []
      faults_of_statement (sContinue at b) = []
      faults_of_statement (sReturn at e b) = faults_of_return result e

      pub faults_of_statements : Sts → List Broken
      faults_of_statements no_statements = []
      faults_of_statements (statements_and ss s) = faults_of_statements ss ++ faults_of_statement s

  abbrev pub faults_of_body : Option Kind → Body → List Broken
  faults_of_body result (bBlock a ss b) = faults_of_statements result ss
  faults_of_body result (bSkipped a r b) = []

  abbrev pub faults_of_item : Item → List Broken
  faults_of_item (tSkipped x at r b) = []
  faults_of_item (tFunction ws n ps ats body) = faults_of_words ws ++ faults_of_parameters ps ++ faults_of_body (kind_in (words_type env ws)) body
  faults_of_item (tDeclaration d) = faults_of_declaration true d
  faults_of_item (tEmpty at) = []

  abbrev pub faults_of_items : Items → List Broken
  faults_of_items no_items = []
  faults_of_items (items_and is i) = faults_of_items is ++ faults_of_item i

  -- ---- `main` (C11 5.1.2.2.1): it has a body, no parameters, and the result `int`

  abbrev pub main_lines : ℕ → Option Kind → List Kind → List Broken
  main_lines at result parameters = line (not (same_result result (Some kind.Int) && nat_eq (length parameters) 0)) fault.NoMain at

  -- those of each `main` with a body, none where there is no such
  abbrev pub or_none : Option (List Broken) → List Broken
  or_none None = []
  or_none (Some lines) = lines

  abbrev pub main_in : Items → Option (List Broken)
  main_in no_items = None
  main_in (items_and is (tFunction ws (named n at) ps ats (bBlock a ss b))) =
      if bytes_eq n (codes "main") then Some (or_none (main_in is) ++ main_lines at (kind_in (words_type env ws)) (parameter_kinds env ps)) else main_in is
  main_in (items_and is i) = main_in is

  abbrev pub main_line : Option (List Broken) → List Broken
  main_line None = line true fault.NoMain 0
  main_line (Some lines) = lines

  -- all rules of names, types, calls, constants and cases that a source breaks
  abbrev pub typing_faults : Items → List Broken
  typing_faults items = faults_of_items items ++ redeclared [] env.entries ++ main_line (main_in items)
