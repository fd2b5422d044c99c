-- Sums of broken lines are those of their lists.
use Rattle.std.proofs.Common.{◌≡◌, ℕ, Bool, true, false, List, [], ◌∷◌, ◌++◌, Option, None, Some, refl, ap, ◌∙◌, ◌||◌}
use Rattle.std.specs.List.{list_any}
use Rattle.lv_base.specs.declared.kind.Kind.{Kind}
use Rattle.lv_base.specs.declared.kind.Model.{Model}
use Rattle.lv_base.specs.declared.fault.SourceFault.TheVariants as fault
use Rattle.c_tree.specs.Tree as t
use Rattle.c_run.specs.Breaking.{Broken, line}
use Rattle.c_meaning.specs.Kinds.{promoted, kind_of}
use Rattle.c_meaning.specs.Types.{type_of}
use Rattle.c_meaning.specs.Tokens.{count_parts, first_of}
use Rattle.c_meaning.specs.Bindings.{Env, words_type, kind_in}
use Rattle.c_meaning.specs.Constants.{object_length}
use Rattle.c_meaning.specs.Rules as r
use Rattle.first_broken.specs.Found.{Summary, summary, both, unless_found}
use Rattle.typing_rules.specs.Summed as s
use Rattle.typing_rules.proofs.Summing.{join, try_lines, expression_is, words_are, constant_is}
use Rattle.source_rules.specs.Summed as a
use Rattle.source_rules.specs.Cases.{cases_in, cases_in_all, repeated}

any_behind : (p : r.Case → Bool) (xs : List r.Case) (x : r.Case) → list_any p (xs ++ x ∷ []) ≡ (p x || list_any p xs)
any_behind p [] x = refl
any_behind p (y ∷ xs) x = ap (λ z. p y || z) (any_behind p xs x) ∙ turn (p y) (p x) (list_any p xs)
  where
    turn : (b c d : Bool) → (b || (c || d)) ≡ (c || (b || d))
    turn true true d = refl
    turn true false d = refl
    turn false c d = refl

module _ (env : Env) (model : Model) (bodies : List (List ℕ)) where
  abbrev again : List ℕ
  again = s.again_in env model bodies

  own_value : (e : t.Ex) → s.value_found env model e ≡ summary (r.value_line env model bodies e)
  own_value e = refl

  short_is : (e : t.Ex) → s.one (a.is_short env model e) fault.NotConstant (first_of e) ≡ summary (line (a.is_short env model e) fault.NotConstant (first_of e))
  short_is e = refl

  exceeds_same : (n : Option ℕ) (count : ℕ) → a.exceeds n count ≡ r.is_too_many env model bodies n count
  exceeds_same None count = refl
  exceeds_same (Some n) count = refl

  count_is : (f : t.Form) (i : t.Initial) (count at : ℕ) → a.count_found env model f i count at ≡ summary (line (r.is_too_many env model bodies (object_length env model f i) count) fault.NotScalar at)
  count_is f i count at = ap (λ z. s.one z fault.NotScalar at) (exceeds_same (object_length env model f i) count)

  mutual
    cases_same : (k : Kind) (x : t.St) → cases_in env model k x ≡ r.cases_of env model bodies k x
    cases_same k (t.sDeclaration d) = refl
    cases_same k (t.sBlock x ss y) = all_same k ss
    cases_same k (t.sEmpty at) = refl
    cases_same k (t.sExpr e at) = refl
    cases_same k (t.sIf h x) = cases_same k x
    cases_same k (t.sIfElse h x at y) = ap (λ z. z ++ cases_in env model k y) (cases_same k x) ∙ ap (λ z. r.cases_of env model bodies k x ++ z) (cases_same k y)
    cases_same k (t.sWhile h x) = cases_same k x
    cases_same k (t.sSwitch h x) = refl
    cases_same k (t.sDo at x h b) = cases_same k x
    cases_same k (t.sFor h x) = cases_same k x
    cases_same k (t.sCase at e b x) = ap (λ z. r.aCase (r.case_value env model bodies k e) at ∷ z) (cases_same k x)
    cases_same k (t.sDefault at b x) = ap (λ z. r.aDefault at ∷ z) (cases_same k x)
    cases_same k (t.sLabel n at b ats x) = cases_same k x
    cases_same k (t.sGoto at n x b) = refl
    cases_same k (t.sBreak at b) = refl
    cases_same k (t.sContinue at b) = refl
    cases_same k (t.sReturn at e b) = refl

    all_same : (k : Kind) (ss : t.Sts) → cases_in_all env model k ss ≡ r.cases_of_all env model bodies k ss
    all_same k t.no_statements = refl
    all_same k (t.statements_and ss x) = ap (λ z. z ++ cases_in env model k x) (all_same k ss) ∙ ap (λ z. r.cases_of_all env model bodies k ss ++ z) (cases_same k x)

  repeated_is : (before turned xs : List r.Case) → ((p : r.Case → Bool) → list_any p before ≡ list_any p turned) → repeated before xs ≡ r.duplicates env model bodies turned xs
  repeated_is before turned [] h = refl
  repeated_is before turned (x ∷ xs) h =
      ap (λ z. line z fault.DuplicateCase (r.case_at x) ++ repeated (before ++ x ∷ []) xs) (h (r.is_same_case x))
      ∙ ap (λ z. line (list_any (r.is_same_case x) turned) fault.DuplicateCase (r.case_at x) ++ z) (repeated_is (before ++ x ∷ []) (x ∷ turned) xs (λ p. any_behind p before x ∙ ap (λ z. p x || z) (h p)))

  switch_is : (h : t.Head) (x : t.St) → a.switch_found env model h x ≡ summary (r.switch_lines env model bodies h x)
  switch_is (t.head at y e z) x =
      ap summary (repeated_is [] [] (cases_in env model (promoted (kind_of (type_of env model e))) x) (λ p. refl)
      ∙ ap (r.duplicates env model bodies []) (cases_same (promoted (kind_of (type_of env model e))) x))

  value_is : (e : t.Ex) → a.value_all env model bodies again e ≡ summary (r.faults_of_value env model bodies e)
  value_is e = try_lines _ _ _ _ (expression_is env model bodies e) (own_value e)

  option_is : (e : Option t.Ex) → a.option_all env model bodies again e ≡ summary (r.faults_of_option env model bodies e)
  option_is None = refl
  option_is (Some e) = expression_is env model bodies e

  test_is : (e : Option t.Ex) → a.test_all env model bodies again e ≡ summary (r.faults_of_test env model bodies e)
  test_is None = refl
  test_is (Some e) = value_is e

  constant_all_is : (e : t.Ex) → a.constant_all env model bodies again e ≡ summary (r.faults_of_constant env model bodies e)
  constant_all_is e = try_lines _ _ _ _ (expression_is env model bodies e) (constant_is env model bodies e)

  first_is : (b : Bool) (e : t.Ex) → a.first_all env model bodies again b e ≡ summary (r.faults_of_first env model bodies b e)
  first_is true e = constant_all_is e
  first_is false e = value_is e

  firsts_are : (b : Bool) (es : t.Parts) → a.firsts_all env model bodies again b es ≡ summary (r.faults_of_firsts env model bodies b es)
  firsts_are b t.no_parts = refl
  firsts_are b (t.parts_and es c e) = join _ _ _ _ (firsts_are b es) (first_is b e)

  length_is : (e : t.Ex) → a.length_all env model bodies again e ≡ summary (r.faults_of_length env model bodies e)
  length_is e = try_lines _ _ _ _ (expression_is env model bodies e) (join _ _ _ _ (constant_is env model bodies e) (short_is e))

  params_are : (ps : t.Params) → a.params_all env model bodies again ps ≡ summary (r.faults_of_params env model bodies ps)
  params_are t.no_params = refl
  params_are (t.params_and ps c ws n) = join _ _ _ _ (params_are ps) (words_are env model bodies ws)

  parameters_are : (ps : t.Parameters) → a.parameters_all env model bodies again ps ≡ summary (r.faults_of_parameters env model bodies ps)
  parameters_are (t.pUnknown x y) = refl
  parameters_are (t.pVoid x y z) = refl
  parameters_are (t.pSome x ps y) = params_are ps

  form_is : (f : t.Form) → a.form_all env model bodies again f ≡ summary (r.faults_of_form env model bodies f)
  form_is t.fPlain = refl
  form_is (t.fArray x None y) = refl
  form_is (t.fArray x (Some e) y) = length_is e
  form_is (t.fFunction ps) = parameters_are ps

  initial_is : (b : Bool) (f : t.Form) (i : t.Initial) → a.initial_all env model bodies again b f i ≡ summary (r.faults_of_initial env model bodies b f i)
  initial_is b f t.iNothing = refl
  initial_is b f (t.iValue at e) = first_is b e
  initial_is b f (t.iList at x es c y) = join _ _ _ _ (count_is f (t.iList at x es c y) (count_parts es) x) (firsts_are b es)

  declarators_are : (b : Bool) (ds : t.Decs) → a.declarators_all env model bodies again b ds ≡ summary (r.faults_of_declarators env model bodies b ds)
  declarators_are b t.no_declarators = refl
  declarators_are b (t.declarators_and ds c n f ats i) = join _ _ _ _ (join _ _ _ _ (declarators_are b ds) (form_is f)) (initial_is b f i)

  declaration_is : (b : Bool) (d : t.Declaration) → a.declaration_all env model bodies again b d ≡ summary (r.faults_of_declaration env model bodies b d)
  declaration_is b (t.declares ws ds x) = join _ _ _ _ (words_are env model bodies ws) (declarators_are b ds)

  head_is : (h : t.Head) → a.head_all env model bodies again h ≡ summary (r.faults_of_head env model bodies h)
  head_is (t.head at x e y) = value_is e

  start_is : (x : t.ForStart) → a.start_all env model bodies again x ≡ summary (r.faults_of_start env model bodies x)
  start_is (t.forDeclares d) = declaration_is false d
  start_is (t.forExpr e at) = option_is e

  for_is : (h : t.ForHead) → a.for_all env model bodies again h ≡ summary (r.faults_of_for env model bodies h)
  for_is (t.for_head at x start test y step z) = join _ _ _ _ (join _ _ _ _ (start_is start) (test_is test)) (option_is step)

  return_is : (k : Option Kind) (e : Option t.Ex) → a.return_all env model bodies again k e ≡ summary (r.faults_of_return env model bodies k e)
  return_is (Some k) e = test_is e
  return_is None e = option_is e

  mutual
    statement_is : (k : Option Kind) (x : t.St) → a.statement_all env model bodies again k x ≡ summary (r.faults_of_statement env model bodies k x)
    statement_is k (t.sDeclaration d) = declaration_is false d
    statement_is k (t.sBlock x ss y) = statements_are k ss
    statement_is k (t.sEmpty at) = refl
    statement_is k (t.sExpr e at) = expression_is env model bodies e
    statement_is k (t.sIf h x) = join _ _ _ _ (head_is h) (statement_is k x)
    statement_is k (t.sIfElse h x at y) = join _ _ _ _ (join _ _ _ _ (head_is h) (statement_is k x)) (statement_is k y)
    statement_is k (t.sWhile h x) = join _ _ _ _ (head_is h) (statement_is k x)
    statement_is k (t.sSwitch h x) = join _ _ _ _ (join _ _ _ _ (head_is h) (statement_is k x)) (switch_is h x)
    statement_is k (t.sDo at x h b) = join _ _ _ _ (statement_is k x) (head_is h)
    statement_is k (t.sFor h x) = join _ _ _ _ (for_is h) (statement_is k x)
    statement_is k (t.sCase at e b x) = join _ _ _ _ (constant_all_is e) (statement_is k x)
    statement_is k (t.sDefault at b x) = statement_is k x
    statement_is k (t.sLabel n at b ats x) = statement_is k x
    statement_is k (t.sGoto at n x b) = refl
    statement_is k (t.sBreak at b) = refl
    statement_is k (t.sContinue at b) = refl
    statement_is k (t.sReturn at e b) = return_is k e

    statements_are : (k : Option Kind) (ss : t.Sts) → a.statements_all env model bodies again k ss ≡ summary (r.faults_of_statements env model bodies k ss)
    statements_are k t.no_statements = refl
    statements_are k (t.statements_and ss x) = join _ _ _ _ (statements_are k ss) (statement_is k x)

  body_is : (k : Option Kind) (b : t.Body) → a.body_all env model bodies again k b ≡ summary (r.faults_of_body env model bodies k b)
  body_is k (t.bBlock x ss y) = statements_are k ss
  body_is k (t.bSkipped x r y) = refl

  item_is : (i : t.Item) → a.item_all env model bodies again i ≡ summary (r.faults_of_item env model bodies i)
  item_is (t.tSkipped x at y b) = refl
  item_is (t.tFunction ws n ps ats body) = join _ _ _ _ (join _ _ _ _ (words_are env model bodies ws) (parameters_are ps)) (body_is (kind_in (words_type env ws)) body)
  item_is (t.tDeclaration d) = declaration_is true d
  item_is (t.tEmpty at) = refl

  pub items_are : (is : t.Items) → a.items_all env model bodies again is ≡ summary (r.faults_of_items env model bodies is)
  items_are t.no_items = refl
  items_are (t.items_and is i) = join _ _ _ _ (items_are is) (item_is i)
