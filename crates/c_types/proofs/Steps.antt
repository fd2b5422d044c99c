-- Steps do what their statements do.
use Rattle.std.proofs.Common.{◌≡◌, ℕ, Bool, true, false, List, [], ◌∷◌, ◌++◌, map, Option, Some, None, ℤ, refl, sym, ap, ◌∙◌}
use mathlib.Core.Path.{fun_ext}
use Rattle.lv_base.specs.declared.kind.Kind.{Kind}
use Rattle.lv_base.specs.declared.kind.Model.{Model}
use Rattle.c_tree.specs.Tree.{Ex, Parts, no_parts, parts_and, named, Initial, iNothing, iValue, iList, Decs, no_declarators, declarators_and, Declaration, declares, Head, head, ForStart, forDeclares, forExpr, ForHead, for_head, St, sDeclaration, sBlock, sEmpty, sExpr, sIf, sIfElse, sWhile, sSwitch, sDo, sFor, sCase, sDefault, sLabel, sGoto, sBreak, sContinue, sReturn, Sts, no_statements, statements_and}
use Rattle.c_run.specs.Run.{Run, give, ◌>>=◌, ◌>>◌, choose, Compute, is_true, store_all, padded, draw_all}
use Rattle.c_run.specs.Operators.{used, dropped}
use Rattle.c_run.specs.Loops.{Place, toLabel, toCase, toDefault, From, Start, Seek, Exit, Normal, Broke, Continued, Returned, Jumped, Absent, then_do, or_else, found, next_turn, loop, leave_switch, switch_on, Calls}
use Rattle.c_meaning.specs.Bindings.{Env, object_number, declared_at, count_of}
use Rattle.c_meaning.specs.Constants.{constant_of, or_zero}
use Rattle.c_meaning.specs.Value.{Context, value, values, to_kind}
use Rattle.c_meaning.specs.Execution.{exec, exec_all, declared, begin_object, begin_objects, effect_of, test_of, condition, keyword, switch_kind, start_for, returned, object_kind, is_case, is_default, is_this_label}
use Rattle.c_typed.specs.Tree.{Steps, no_steps, steps_and, Step}
use Rattle.c_typed.specs.Tree as t
use Rattle.c_typed.specs.Run as typed
use Rattle.c_types.specs.Elaborated as elab
use Rattle.c_types.specs.Fit.{AllFit, Fits, OptionFits, InitialFits, DeclaratorsFit, DeclarationFits, HeadFits, StartFits, ForFits, StatementFits, StatementsFit}
use Rattle.c_types.proofs.Same.{binds_same, nexts_same, changed, given, behind, value_same}

-- ---- Exits

then_normal : (x : Exit) → then_do x (give Normal) ≡ give x
then_normal Normal = refl
then_normal Broke = refl
then_normal Continued = refl
then_normal (Returned v) = refl
then_normal (Jumped l) = refl
then_normal Absent = refl

found_none : (x : Exit) → found x (give Normal) (give Absent) ≡ give x
found_none Normal = refl
found_none Broke = refl
found_none Continued = refl
found_none (Returned v) = refl
found_none (Jumped l) = refl
found_none Absent = refl

-- one run, and then a statement
next_after : {A B C : Type 0} (m : Run A) (f : Run B) (h : B → Run C) → ((m >> f) >>= h) ≡ (m >> (f >>= h))
next_after m f h = changed m (λ _. f) h

after_then : (B O : Run (Unit {0})) (x : Exit) → (then_do x (B >> give Normal) >>= (λ y. then_do y (O >> give Normal))) ≡ then_do x ((B >> O) >> give Normal)
after_then B O Normal = next_after B (give Normal) (λ y. then_do y (O >> give Normal)) ∙ sym (next_after B O (λ _. give Normal))
after_then B O Broke = refl
after_then B O Continued = refl
after_then B O (Returned v) = refl
after_then B O (Jumped l) = refl
after_then B O Absent = refl

after_found : (B O : Run (Unit {0})) (x : Exit) → (found x (B >> give Normal) (give Absent) >>= (λ y. found y (O >> give Normal) (give Absent))) ≡ found x ((B >> O) >> give Normal) (give Absent)
after_found B O Normal = next_after B (give Normal) (λ y. found y (O >> give Normal) (give Absent)) ∙ sym (next_after B O (λ _. give Normal))
after_found B O Broke = refl
after_found B O Continued = refl
after_found B O (Returned v) = refl
after_found B O (Jumped l) = refl
after_found B O Absent = refl

map_more : {A B : Type 0} (f : A → B) (xs : List A) (x : A) → map f (xs ++ x ∷ []) ≡ map f xs ++ f x ∷ []
map_more f [] x = refl
map_more f (y ∷ xs) x = ap (λ ys. f y ∷ ys) (map_more f xs x)

module _ (env : Env) (model : Model) (bodies : List (List ℕ)) (objects : List t.Object) (compute : Compute) (inputs : List ℤ) (call : Calls)
    (counts : (n : ℕ) → typed.count_of model objects compute inputs call n ≡ count_of env n)
    (kinds : (n : ℕ) → typed.object_kind model objects compute inputs call n ≡ elab.object_kind env model bodies n) where
  abbrev c : Context
  c = record { env = env; model = model; compute = compute; inputs = inputs; call = call; bodies = bodies }

  abbrev E : Ex → t.Val
  E e = elab.value env model bodies e

  same : (u : _) (e : Ex) → Fits env bodies e → typed.value model objects compute inputs call u (E e) ≡ value c u e
  same u e p = value_same env model bodies objects compute inputs call counts u e p

  -- ---- Declarations

  values_same : (k : Kind) (es : Parts) → AllFit env bodies es → typed.values model objects compute inputs call (elab.values_as env model bodies k es) ≡ (values c es >>= (λ vs. give (map (to_kind c k) vs)))
  values_same k no_parts p = refl
  values_same k (parts_and es x e) p =
      ap (λ m. m >>= (λ vs. typed.value model objects compute inputs call used (t.vConvert k (E e)) >>= (λ v. give (vs ++ v ∷ [])))) (values_same k es p.0)
      ∙ changed (values c es) (λ vs. give (map (to_kind c k) vs)) (λ vs. typed.value model objects compute inputs call used (t.vConvert k (E e)) >>= (λ v. give (vs ++ v ∷ [])))
      ∙ behind (values c es) _ (λ vs. (value c used e >>= (λ v. give (vs ++ v ∷ []))) >>= (λ ws. give (map (to_kind c k) ws)))
      (λ vs. changed (typed.value model objects compute inputs call used (E e)) (λ v. give (to_kind c k v)) (λ v. give (map (to_kind c k) vs ++ v ∷ []))
      ∙ binds_same _ _ _ (λ v. give (map (to_kind c k) (vs ++ v ∷ []))) (same used e p.1) (λ v. ap give (sym (map_more (to_kind c k) vs v)))
      ∙ sym (changed (value c used e) (λ v. give (vs ++ v ∷ [])) (λ ws. give (map (to_kind c k) ws))))
      ∙ sym (changed (values c es) (λ vs. value c used e >>= (λ v. give (vs ++ v ∷ []))) (λ ws. give (map (to_kind c k) ws)))

  -- ---- Parts of statements

  option_same : (e : Option Ex) → OptionFits env bodies e → typed.effect_of model objects compute inputs call (elab.option_value env model bodies e) ≡ effect_of c e
  option_same None p = refl
  option_same (Some e) p = ap (λ m. m >> give tt) (same dropped e p)

  test_same : (e : Option Ex) → OptionFits env bodies e → typed.test_of model objects compute inputs call (elab.option_value env model bodies e) ≡ test_of c e
  test_same None p = refl
  test_same (Some e) p = same used e p

  condition_same : (h : Head) → HeadFits env bodies h → typed.value model objects compute inputs call used (elab.condition env model bodies h) ≡ condition c h
  condition_same (head at a e b) p = same used e p

  keyword_same : (h : Head) → elab.keyword env model bodies h ≡ keyword c h
  keyword_same (head at a e b) = refl

  kind_same : (h : Head) → elab.switch_kind env model bodies h ≡ switch_kind c h
  kind_same (head at a e b) = refl

  returned_same : (result : Option Kind) (e : Option Ex) → OptionFits env bodies e → typed.returned model objects compute inputs call result (elab.returned env model bodies result e) ≡ returned c result e
  returned_same result None p = refl
  returned_same None (Some e) p = ap (λ m. m >> give (Returned None)) (same dropped e p)
  returned_same (Some k) (Some e) p =
      changed (typed.value model objects compute inputs call used (E e)) (λ v. give (to_kind c k v)) (λ v. give (Returned (Some v)))
      ∙ ap (λ m. m >>= (λ v. give (Returned (Some (to_kind c k v))))) (same used e p)

  -- the step of an object's declaration
  step_of : Initial → ℕ → Step
  step_of iNothing object = t.pDraw object
  step_of (iValue at e) object = t.pBegin object (t.values_and t.no_values (t.vConvert (elab.object_kind env model bodies object) (E e)))
  step_of (iList at a es x b) object = t.pBegin object (elab.values_as env model bodies (elab.object_kind env model bodies object) es)

  module _ (result : Option Kind) (n : ℕ) where
    abbrev X : Steps → From → Run Exit
    X ss from = typed.exec_all model objects compute inputs call result n ss from

    abbrev Y : Step → From → Run Exit
    Y s from = typed.exec model objects compute inputs call result n s from

    abbrev N : Run Exit
    N = give Normal

    begin_same : (i : Initial) (object : ℕ) → InitialFits env bodies i (Some object) → Y (step_of i object) Start ≡ (begin_object c i (Some object) >> N)
    unfolding step_of
    begin_same iNothing object p =
        ap (λ k. draw_all inputs model k (typed.count_of model objects compute inputs call object) >>= (λ vs. store_all object vs >> N)) (kinds object)
        ∙ ap (λ m. draw_all inputs model (object_kind c object) m >>= (λ vs. store_all object vs >> N)) (counts object)
        ∙ sym (changed (draw_all inputs model (object_kind c object) (count_of env object)) (λ vs. store_all object vs) (λ _. N))
    begin_same (iValue at e) object p =
        ap (λ m. (typed.value model objects compute inputs call used (t.vConvert (elab.object_kind env model bodies object) (E e)) >>= (λ v. give (v ∷ []))) >>= (λ vs. store_all object (padded m vs) >> N)) (counts object ∙ p.0)
        ∙ changed (typed.value model objects compute inputs call used (t.vConvert (elab.object_kind env model bodies object) (E e))) (λ v. give (v ∷ [])) (λ vs. store_all object (padded 1 vs) >> N)
        ∙ changed (typed.value model objects compute inputs call used (E e)) (λ v. give (to_kind c (object_kind c object) v)) (λ v. store_all object (padded 1 (v ∷ [])) >> N)
        ∙ ap (λ m. m >>= (λ v. store_all object (to_kind c (object_kind c object) v ∷ []) >> N)) (same used e p.1)
        ∙ sym (changed (value c used e) (λ v. store_all object (to_kind c (object_kind c object) v ∷ [])) (λ _. N))
    begin_same (iList at a es x b) object p =
        ap (λ m. typed.values model objects compute inputs call (elab.values_as env model bodies (object_kind c object) es) >>= (λ vs. store_all object (padded m vs) >> N)) (counts object)
        ∙ ap (λ m. m >>= (λ vs. store_all object (padded (count_of env object) vs) >> N)) (values_same (object_kind c object) es p)
        ∙ changed (values c es) (λ vs. give (map (to_kind c (object_kind c object)) vs)) (λ vs. store_all object (padded (count_of env object) vs) >> N)
        ∙ sym (changed (values c es) (λ vs. store_all object (padded (count_of env object) (map (to_kind c (object_kind c object)) vs))) (λ _. N))

    -- behind the steps of the declarations before, those of one more
    one_start : (W : Steps) (m : Run Exit) (B O : Run (Unit {0})) (s : Step) → X W Start ≡ (m >>= (λ x. then_do x (B >> N))) → Y s Start ≡ (O >> N) →
        X (steps_and W s) Start ≡ (m >>= (λ x. then_do x ((B >> O) >> N)))
    one_start W m B O s h e =
        ap (λ r. r >>= (λ y. then_do y (Y s Start))) h ∙ ap (λ q. (m >>= (λ x. then_do x (B >> N))) >>= (λ y. then_do y q)) e
        ∙ changed m (λ x. then_do x (B >> N)) (λ y. then_do y (O >> N)) ∙ behind m _ _ (λ x. after_then B O x)

    one_seek : (W : Steps) (p : Place) (m : Run Exit) (B O : Run (Unit {0})) (s : Step) → X W (Seek p) ≡ (m >>= (λ x. found x (B >> N) (give Absent))) → Y s Start ≡ (O >> N) → Y s (Seek p) ≡ give Absent →
        X (steps_and W s) (Seek p) ≡ (m >>= (λ x. found x ((B >> O) >> N) (give Absent)))
    one_seek W p m B O s h e a =
        ap (λ r. r >>= (λ y. found y (Y s Start) (Y s (Seek p)))) h
        ∙ ap (λ q. (m >>= (λ x. found x (B >> N) (give Absent))) >>= (λ y. found y q (Y s (Seek p)))) e
        ∙ ap (λ q. (m >>= (λ x. found x (B >> N) (give Absent))) >>= (λ y. found y (O >> N) q)) a
        ∙ changed m (λ x. found x (B >> N) (give Absent)) (λ y. found y (O >> N) (give Absent)) ∙ behind m _ _ (λ x. after_found B O x)

    none_start : (m : Run Exit) (B : Run (Unit {0})) → (m >>= (λ x. then_do x (B >> N))) ≡ (m >>= (λ x. then_do x ((B >> give (tt {0})) >> N)))
    none_start m B = ap (λ q. m >>= (λ x. then_do x q)) (sym (next_after B (give (tt {0})) (λ _. N)))

    none_seek : (m : Run Exit) (B : Run (Unit {0})) → (m >>= (λ x. found x (B >> N) (give Absent))) ≡ (m >>= (λ x. found x ((B >> give (tt {0})) >> N) (give Absent)))
    none_seek m B = ap (λ q. m >>= (λ x. found x q (give Absent))) (sym (next_after B (give (tt {0})) (λ _. N)))

    more_start : (W : Steps) (i : Initial) (o : Option ℕ) (m : Run Exit) (B : Run (Unit {0})) → InitialFits env bodies i o → X W Start ≡ (m >>= (λ x. then_do x (B >> N))) →
        X (elab.beginning env model bodies W i o) Start ≡ (m >>= (λ x. then_do x ((B >> begin_object c i o) >> N)))
    unfolding step_of
    more_start W iNothing None m B p h = h ∙ none_start m B
    more_start W (iValue at e) None m B p h = h ∙ none_start m B
    more_start W (iList at a es x b) None m B p h = h ∙ none_start m B
    more_start W iNothing (Some object) m B p h = one_start W m B (begin_object c iNothing (Some object)) (step_of iNothing object) h (begin_same iNothing object p)
    more_start W (iValue at e) (Some object) m B p h = one_start W m B (begin_object c (iValue at e) (Some object)) (step_of (iValue at e) object) h (begin_same (iValue at e) object p)
    more_start W (iList at a es x b) (Some object) m B p h = one_start W m B (begin_object c (iList at a es x b) (Some object)) (step_of (iList at a es x b) object) h (begin_same (iList at a es x b) object p)

    more_seek : (W : Steps) (q : Place) (i : Initial) (o : Option ℕ) (m : Run Exit) (B : Run (Unit {0})) → InitialFits env bodies i o → X W (Seek q) ≡ (m >>= (λ x. found x (B >> N) (give Absent))) →
        X (elab.beginning env model bodies W i o) (Seek q) ≡ (m >>= (λ x. found x ((B >> begin_object c i o) >> N) (give Absent)))
    unfolding step_of
    more_seek W q iNothing None m B p h = h ∙ none_seek m B
    more_seek W q (iValue at e) None m B p h = h ∙ none_seek m B
    more_seek W q (iList at a es x b) None m B p h = h ∙ none_seek m B
    more_seek W q iNothing (Some object) m B p h = one_seek W q m B (begin_object c iNothing (Some object)) (step_of iNothing object) h (begin_same iNothing object p) refl
    more_seek W q (iValue at e) (Some object) m B p h = one_seek W q m B (begin_object c (iValue at e) (Some object)) (step_of (iValue at e) object) h (begin_same (iValue at e) object p) refl
    more_seek W q (iList at a es x b) (Some object) m B p h = one_seek W q m B (begin_object c (iList at a es x b) (Some object)) (step_of (iList at a es x b) object) h (begin_same (iList at a es x b) object p) refl

    objects_start : (W : Steps) (ds : Decs) → DeclaratorsFit env bodies ds → X (elab.declaring env model bodies W ds) Start ≡ (X W Start >>= (λ x. then_do x (begin_objects c ds >> N)))
    objects_start W no_declarators p = sym (behind (X W Start) _ give (λ x. then_normal x) ∙ given (X W Start))
    objects_start W (declarators_and ds y (named l at) f ats i) p =
        more_start (elab.declaring env model bodies W ds) i (object_number (declared_at env at)) (X W Start) (begin_objects c ds) p.1 (objects_start W ds p.0)

    objects_seek : (W : Steps) (q : Place) (ds : Decs) → DeclaratorsFit env bodies ds → X (elab.declaring env model bodies W ds) (Seek q) ≡ (X W (Seek q) >>= (λ x. found x (begin_objects c ds >> N) (give Absent)))
    objects_seek W q no_declarators p = sym (behind (X W (Seek q)) _ give (λ x. found_none x) ∙ given (X W (Seek q)))
    objects_seek W q (declarators_and ds y (named l at) f ats i) p =
        more_seek (elab.declaring env model bodies W ds) q i (object_number (declared_at env at)) (X W (Seek q)) (begin_objects c ds) p.1 (objects_seek W q ds p.0)

    declared_start : (W : Steps) (d : Declaration) → DeclarationFits env bodies d → X (elab.declared env model bodies W d) Start ≡ (X W Start >>= (λ x. then_do x (declared c d >> N)))
    declared_start W (declares ws ds b) p = objects_start W ds p

    declared_seek : (W : Steps) (q : Place) (d : Declaration) → DeclarationFits env bodies d → X (elab.declared env model bodies W d) (Seek q) ≡ (X W (Seek q) >>= (λ x. found x (declared c d >> N) (give Absent)))
    declared_seek W q (declares ws ds b) p = objects_seek W q ds p

    start_same : (s : ForStart) → StartFits env bodies s → X (elab.for_start env model bodies s) Start ≡ (start_for c s >> N)
    start_same (forDeclares d) p = declared_start no_steps d p
    start_same (forExpr None at) p = refl
    start_same (forExpr (Some e) at) p = ap (λ m. m >> N) (same dropped e p) ∙ sym (next_after (value c dropped e) (give tt) (λ _. N))

    -- ---- Statements

    abbrev Loop : ℕ → Run ℤ → Run Exit → Run (Unit {0}) → Run Exit
    Loop at test body step = loop at n test body step

    loops_same : (at at' : ℕ) (test test' : Run ℤ) (body body' : Run Exit) (step step' : Run (Unit {0})) → at ≡ at' → test ≡ test' → body ≡ body' → step ≡ step' → Loop at test body step ≡ Loop at' test' body' step'
    loops_same at at' test test' body body' step step' a t b s = ap (λ x. Loop x test body step) a ∙ ap (λ x. Loop at' x body step) t ∙ ap (λ x. Loop at' test' x step) b ∙ ap (λ x. Loop at' test' body' x) s

    either_same : (b : Bool) (m m' k k' : Run Exit) → m ≡ m' → k ≡ k' → choose b m k ≡ choose b m' k'
    either_same true m m' k k' p q = p
    either_same false m m' k k' p q = q

    abbrev S : St → Step
    S s = elab.step env model bodies result s

    for_same : (h : ForHead) (s : St) → ForFits env bodies h → ((from : From) → Y (S s) from ≡ exec c result n s from) → (from : From) → Y (elab.for_step env model bodies h (S s)) from ≡ exec c result n (sFor h s) from
    for_same (for_head at a start test x step b) s p h Start =
        ap (λ m. m >>= (λ y. then_do y (Loop at (typed.test_of model objects compute inputs call (elab.option_value env model bodies test)) (Y (S s) Start) (typed.effect_of model objects compute inputs call (elab.option_value env model bodies step))))) (start_same start p.0)
        ∙ next_after (start_for c start) N (λ y. then_do y (Loop at (typed.test_of model objects compute inputs call (elab.option_value env model bodies test)) (Y (S s) Start) (typed.effect_of model objects compute inputs call (elab.option_value env model bodies step))))
        ∙ ap (λ m. start_for c start >> m) (loops_same at at _ _ _ _ _ _ refl (test_same test p.1) (h Start) (option_same step p.2))
    for_same (for_head at a start test x step b) s p h (Seek q) =
        binds_same _ _ _ _ (h (Seek q)) (λ y. ap (λ m. next_turn y m) (nexts_same _ _ _ _ (option_same step p.2) (loops_same at at _ _ _ _ _ _ refl (test_same test p.1) (h Start) (option_same step p.2))))

    case_same : (q : Place) (e : Ex) → typed.is_case model objects compute inputs call q (or_zero (constant_of env model e)) ≡ is_case c q e
    case_same (toLabel l) e = refl
    case_same (toCase k v) e = refl
    case_same toDefault e = refl

    switch_same : (h : Head) (s : St) → HeadFits env bodies h → ((from : From) → Y (S s) from ≡ exec c result n s from) → Y (S (sSwitch h s)) Start ≡ exec c result n (sSwitch h s) Start
    switch_same (head at a e b) s p h =
        changed (typed.value model objects compute inputs call used (E e)) (λ v. give (to_kind c (switch_kind c (head at a e b)) v)) (λ v. switch_on (Y (S s)) (switch_kind c (head at a e b)) v)
        ∙ ap (λ m. m >>= (λ v. switch_on (Y (S s)) (switch_kind c (head at a e b)) (to_kind c (switch_kind c (head at a e b)) v))) (same used e p)
        ∙ ap (λ g. value c used e >>= (λ v. switch_on g (switch_kind c (head at a e b)) (to_kind c (switch_kind c (head at a e b)) v))) (fun_ext h)

    mutual
      pub step_same : (s : St) (from : From) → StatementFits env bodies s → Y (S s) from ≡ exec c result n s from
      step_same (sDeclaration d) Start p = declared_start no_steps d p
      step_same (sDeclaration d) (Seek q) p = declared_seek no_steps q d p
      step_same (sBlock a ss b) from p = steps_same ss from p
      step_same (sEmpty at) Start p = refl
      step_same (sExpr e at) Start p = ap (λ m. m >> N) (same dropped e p)
      step_same (sIf h s) Start p = binds_same _ _ _ _ (condition_same h p.0) (λ v. either_same (is_true v) _ _ _ _ (step_same s Start p.1) refl)
      step_same (sIf h s) (Seek q) p = step_same s (Seek q) p.1
      step_same (sIfElse h s at y) Start p = binds_same _ _ _ _ (condition_same h p.0) (λ v. either_same (is_true v) _ _ _ _ (step_same s Start p.1) (step_same y Start p.2))
      step_same (sIfElse h s at y) (Seek q) p = binds_same _ _ _ _ (step_same s (Seek q) p.1) (λ x. ap (λ m. or_else x m) (step_same y (Seek q) p.2))
      step_same (sWhile h s) Start p = loops_same _ _ _ _ _ _ (give tt) (give tt) (keyword_same h) (condition_same h p.0) (step_same s Start p.1) refl
      step_same (sWhile h s) (Seek q) p = binds_same _ _ _ _ (step_same s (Seek q) p.1) (λ x. ap (λ m. next_turn x m) (loops_same _ _ _ _ _ _ (give tt) (give tt) (keyword_same h) (condition_same h p.0) (step_same s Start p.1) refl))
      step_same (sDo at s h b) from p = binds_same _ _ _ _ (step_same s from p.1) (λ x. ap (λ m. next_turn x m) (loops_same at at _ _ _ _ (give tt) (give tt) refl (condition_same h p.0) (step_same s Start p.1) refl))
      step_same (sFor h s) from p = for_same h s p.0 (λ f. step_same s f p.1) from
      step_same (sSwitch h s) Start p = switch_same h s p.0 (λ f. step_same s f p.1)
      step_same (sSwitch h s) (Seek (toLabel l)) p = ap (λ m. m >>= (λ x. give (leave_switch x))) (step_same s (Seek (toLabel l)) p.1)
      step_same (sCase at e b s) Start p = step_same s Start p
      step_same (sCase at e b s) (Seek q) p = ap (λ y. choose y (Y (S s) Start) (Y (S s) (Seek q))) (case_same q e) ∙ either_same (is_case c q e) _ _ _ _ (step_same s Start p) (step_same s (Seek q) p)
      step_same (sDefault at b s) Start p = step_same s Start p
      step_same (sDefault at b s) (Seek q) p = either_same (is_default q) _ _ _ _ (step_same s Start p) (step_same s (Seek q) p)
      step_same (sLabel l at b ats s) Start p = step_same s Start p
      step_same (sLabel l at b ats s) (Seek q) p = either_same (is_this_label q l) _ _ _ _ (step_same s Start p) (step_same s (Seek q) p)
      step_same (sGoto at l x b) Start p = refl
      step_same (sBreak at b) Start p = refl
      step_same (sContinue at b) Start p = refl
      step_same (sReturn at e b) Start p = returned_same result e p
      step_same s (Seek q) p = refl

      pub steps_same : (ss : Sts) (from : From) → StatementsFit env bodies ss → X (elab.steps env model bodies result ss) from ≡ exec_all c result n ss from
      steps_same no_statements Start p = refl
      steps_same no_statements (Seek q) p = refl
      steps_same (statements_and ss (sDeclaration d)) Start p = declared_start (elab.steps env model bodies result ss) d p.1 ∙ ap (λ m. m >>= (λ x. then_do x (declared c d >> N))) (steps_same ss Start p.0)
      steps_same (statements_and ss (sDeclaration d)) (Seek q) p = declared_seek (elab.steps env model bodies result ss) q d p.1 ∙ ap (λ m. m >>= (λ x. found x (declared c d >> N) (give Absent))) (steps_same ss (Seek q) p.0)
      steps_same (statements_and ss s) Start p = binds_same _ _ _ _ (steps_same ss Start p.0) (λ x. ap (λ m. then_do x m) (step_same s Start p.1))
      steps_same (statements_and ss s) (Seek q) p = binds_same _ _ _ _ (steps_same ss (Seek q) p.0) (λ x. ap (λ m. found x m (Y (S s) (Seek q))) (step_same s Start p.1) ∙ ap (λ m. found x (exec c result n s Start) m) (step_same s (Seek q) p.1))
