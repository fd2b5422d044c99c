-- What is kept by the words of runs is kept by the meaning of each tree: one induction, for any relation between runs.
use Rattle.std.proofs.Common.{ℕ, ◌≤◌, List, [], Option, Some, None, ℤ, pos}
use Rattle.lv_base.specs.declared.kind.Kind.{Kind}
use Rattle.lv_base.specs.declared.kind.Model.{Model}
use Rattle.lv_base.specs.declared.fault.ErrorKind.TheVariants as error
use Rattle.c_tree.specs.declared.symbol.BinaryOp.{BinaryOp}
use Rattle.c_tree.specs.declared.symbol.BinaryOp.TheVariants as op
use Rattle.c_tree.specs.declared.symbol.AssignOp.TheVariants as to
use Rattle.c_tree.specs.declared.symbol.Crement.{Crement}
use Rattle.c_tree.specs.declared.symbol.Crement.TheVariants as by
use Rattle.c_tree.specs.declared.tree.PrefixOp.{PrefixOp}
use Rattle.c_tree.specs.declared.tree.PrefixOp.TheVariants as pre
use Rattle.c_tree.specs.Tree.{Ex, eName, eNumber, eLetter, eParen, eCall, eIndex, ePostfix, ePrefix, eSizeof, eCast, eBinary, eCond, eAssign, eComma, Parts, no_parts, parts_and, named, Initial, iNothing, iValue, iList, Decs, no_declarators, declarators_and, Declaration, declares, Head, head, ForStart, forDeclares, forExpr, ForHead, for_head, St, sDeclaration, sBlock, sEmpty, sExpr, sIf, sIfElse, sWhile, sSwitch, sDo, sFor, sCase, sDefault, sLabel, sGoto, sBreak, sContinue, sReturn, Sts, no_statements, statements_and}
use Rattle.c_run.specs.Run.{Run, Element, scalar, draw, Compute, is_true}
use Rattle.c_run.specs.Loops.{toLabel, From, Start, Seek, Exit, Normal, Broke, Continued, Jumped, Absent, Calls, leave_switch}
use Rattle.c_run.proofs.Related.{Kept, chosen, then_next, after_value, computes, locates, draws, then_kept, else_kept, found_kept, next_kept, loop_kept, switch_kept}
use Rattle.c_meaning.specs.Kinds.{CType, tKind}
use Rattle.c_meaning.specs.Bindings.{Env, Entity, anObjectOf, aFunctionOf, aConstantOf, entity_of, object_number, count_of, words_type}
use Rattle.c_meaning.specs.Known.{Known, reaches, aborts, draws as draws_known, known_of}
use Rattle.c_run.specs.Operators.{Use, used, dropped, called_value, assigned_op}
use Rattle.c_meaning.specs.Value.{arguments, parameters_of, Context, value, values, last_value, drop_values, target_of, kind_at, to_kind, applied, prefixed, stepped, named_value, element_at, target_at, call_body, call_known, call_named, call_of, function_number, base_of, cast_to}
use Rattle.c_meaning.specs.Execution.{exec, exec_all, declared, begin_object, begin_objects, effect_of, test_of, condition, keyword, start_for, for_start, for_test, for_step, for_keyword, returned, is_case, is_default, is_this_label}
use Rattle.c_meaning.specs.Places.{AtName, AtEach, AtEachPart, InOption, InInitial, InDeclarators, InDeclaration, InHead, InStart, InFor, InStatement, InStatements}

module _ (R : (A : Type 0) → Run A → Run A → Type 0) (P : ℕ → Type 0) (k : Kept R P)
    (env : Env) (model : Model) (compute : Compute) (bodies : List (List ℕ)) (inputs inputs' : List ℤ) (call call' : Calls)
    (hd : (kind : Kind) → R ℤ (draw inputs model kind) (draw inputs' model kind))
    (hc : (f at : ℕ) (vs : List ℤ) → R (Option ℤ) (call f at vs) (call' f at vs)) where
  abbrev c : Context
  c = record { env = env; model = model; compute = compute; inputs = inputs; call = call; bodies = bodies }

  abbrev c' : Context
  c' = record { env = env; model = model; compute = compute; inputs = inputs'; call = call'; bodies = bodies }

  -- ---- Words of expressions

  called_kept : (u : Use) (t : Option Kind) (at : ℕ) (r : Option ℤ) → P at → R ℤ (called_value u t at r) (called_value u t at r)
  called_kept u t at (Some v) p = k.gives ℤ v
  called_kept used (Some kind) at None p = k.fails ℤ error.Missing at p
  called_kept u t at None p = k.gives ℤ (pos 0)

  applied_kept : (at : ℕ) (o : BinaryOp) (a b : Kind) (x y : ℤ) → P at → R ℤ (applied c at o a b x y) (applied c' at o a b x y)
  applied_kept at o a b x y p = k.binds ℤ ℤ _ _ _ _ (computes R P k at _ p) (λ v. k.gives ℤ _)

  prefixed_kept : (at : ℕ) (o : PrefixOp) (a : Kind) (v : ℤ) → P at → R ℤ (prefixed c at o a v) (prefixed c' at o a v)
  prefixed_kept at pre.Minus a v p = computes R P k at _ p
  prefixed_kept at pre.Complement a v p = computes R P k at _ p
  prefixed_kept at pre.Not a v p = k.gives ℤ _
  prefixed_kept at pre.Plus a v p = k.gives ℤ _
  prefixed_kept at o a v p = k.gives ℤ v

  stepped_kept : (at : ℕ) (b : Crement) (a : Kind) (e : Element) (v : ℤ) → P at → R ℤ (stepped c at b a e v) (stepped c' at b a e v)
  stepped_kept at b a e v p = k.binds ℤ ℤ _ _ _ _ (computes R P k at _ p) (λ new. k.writes e _)

  named_kept : (e : Entity) → R ℤ (named_value c e) (named_value c' e)
  named_kept (anObjectOf number) = k.reads (scalar number)
  named_kept (aConstantOf v) = k.gives ℤ v
  named_kept e = k.gives ℤ (pos 0)

  element_kept : (at : ℕ) (o : Option ℕ) (v : ℤ) → P at → R Element (element_at c at o v) (element_at c' at o v)
  element_kept at None v p = k.fails Element error.Index at p
  element_kept at (Some object) v p = locates R P k at object (count_of env object) v p

  scalar_kept : (o : Option ℕ) → R Element (target_at c o) (target_at c' o)
  scalar_kept (Some object) = k.gives Element (scalar object)
  scalar_kept None = k.gives Element (scalar 0)

  body_kept : (u : Use) (t : Option Kind) (at : ℕ) (f : Option ℕ) (vs : List ℤ) → P at → R ℤ (call_body c u t at f vs) (call_body c' u t at f vs)
  body_kept u t at None vs p = k.stops ℤ
  body_kept u t at (Some number) vs p = k.binds (Option ℤ) ℤ _ _ _ _ (hc number at vs) (λ r. called_kept u t at r p)

  known_kept : (u : Use) (at : ℕ) (name : List ℕ) (result : Option Kind) (m : Option Known) (vs : List ℤ) → P at → R ℤ (call_known c u at name result m vs) (call_known c' u at name result m vs)
  known_kept u at name result (Some reaches) vs p = k.fails ℤ error.Reach at p
  known_kept u at name result (Some aborts) vs p = k.stops ℤ
  known_kept u at name result (Some (draws_known kind)) vs p = k.binds ℤ ℤ _ _ _ _ (hd kind) (λ v. k.gives ℤ _)
  known_kept u at name result None vs p = body_kept u result at (function_number c name) vs p

  entity_kept : (u : Use) (e : Entity) (at : ℕ) (name : List ℕ) (vs : List ℤ) → P at → R ℤ (call_named c u e at name vs) (call_named c' u e at name vs)
  entity_kept u (aFunctionOf result ps) at name vs p = known_kept u at name result (known_of name) vs p
  entity_kept u e at name vs p = k.stops ℤ

  call_kept : (u : Use) (f : Ex) (vs : List ℤ) → AtName P f → R ℤ (call_of c u f vs) (call_of c' u f vs)
  call_kept u (eName n at) vs p = entity_kept u (entity_of env n at) at n vs p
  call_kept u f vs p = k.stops ℤ

  cast_kept : (t : CType) (m m' n n' : Run ℤ) → R ℤ m m' → R ℤ n n' → R ℤ (cast_to c t m n) (cast_to c' t m' n')
  cast_kept (tKind kind) m m' n n' x y = k.binds ℤ ℤ _ _ _ _ x (λ v. k.gives ℤ _)
  cast_kept t m m' n n' x y = after_value R P k ℤ _ _ _ _ y (k.gives ℤ (pos 0))

  -- ---- Expressions

  mutual
    pub value_kept : (u : Use) (e : Ex) → AtEach P e → R ℤ (value c u e) (value c' u e)
    value_kept u (eName n at) p = named_kept (entity_of env n at)
    value_kept u (eNumber v f at) p = k.gives ℤ (pos v)
    value_kept u (eLetter v at) p = k.gives ℤ v
    value_kept u (eParen a e b) p = value_kept u e p
    value_kept u (eCall f a es b) p = k.binds (List ℤ) ℤ _ _ _ _ (arguments_kept (parameters_of env f) es p.1) (λ vs. call_kept u f vs p.0)
    value_kept u (eIndex a x i y) p = k.binds ℤ ℤ _ _ _ _ (value_kept used i p.1) (λ v. k.binds Element ℤ _ _ _ _ (element_kept x (base_of env a) v p.0) (λ e. k.reads e))
    value_kept u (ePostfix e b at) p =
        k.binds Element ℤ _ _ _ _ (target_kept e p.1) (λ t. k.binds ℤ ℤ _ _ _ _ (k.reads t) (λ old. after_value R P k ℤ _ _ _ _ (stepped_kept at b (kind_at c e) t old p.0) (k.gives ℤ old)))
    value_kept u (ePrefix pre.Increment at e) p = k.binds Element ℤ _ _ _ _ (target_kept e p.1) (λ t. k.binds ℤ ℤ _ _ _ _ (k.reads t) (λ old. stepped_kept at by.Increment (kind_at c e) t old p.0))
    value_kept u (ePrefix pre.Decrement at e) p = k.binds Element ℤ _ _ _ _ (target_kept e p.1) (λ t. k.binds ℤ ℤ _ _ _ _ (k.reads t) (λ old. stepped_kept at by.Decrement (kind_at c e) t old p.0))
    value_kept u (ePrefix pre.Extension at e) p = value_kept u e p.1
    value_kept u (ePrefix pre.Sizeof at e) p = k.gives ℤ _
    value_kept u (ePrefix o at e) p = k.binds ℤ ℤ _ _ _ _ (value_kept used e p.1) (λ v. prefixed_kept at o (kind_at c e) v p.0)
    value_kept u (eSizeof at a ws b) p = k.gives ℤ _
    value_kept u (eCast a ws b e) p = cast_kept (words_type env ws) _ _ _ _ (value_kept used e p) (value_kept dropped e p)
    value_kept u (eBinary a op.AndAlso at b) p =
        k.binds ℤ ℤ _ _ _ _ (value_kept used a p.1) (λ x. chosen R P k ℤ (is_true x) _ _ _ _ (k.binds ℤ ℤ _ _ _ _ (value_kept used b p.2) (λ y. k.gives ℤ _)) (k.gives ℤ _))
    value_kept u (eBinary a op.OrElse at b) p =
        k.binds ℤ ℤ _ _ _ _ (value_kept used a p.1) (λ x. chosen R P k ℤ (is_true x) _ _ _ _ (k.gives ℤ _) (k.binds ℤ ℤ _ _ _ _ (value_kept used b p.2) (λ y. k.gives ℤ _)))
    value_kept u (eBinary a o at b) p =
        k.binds ℤ ℤ _ _ _ _ (value_kept used a p.1) (λ x. k.binds ℤ ℤ _ _ _ _ (value_kept used b p.2) (λ y. applied_kept at o (kind_at c a) (kind_at c b) x y p.0))
    value_kept u (eCond t x a y b) p =
        k.binds ℤ ℤ _ _ _ _ (value_kept used t p.0) (λ v. k.binds ℤ ℤ _ _ _ _ (chosen R P k ℤ (is_true v) _ _ _ _ (value_kept used a p.1) (value_kept used b p.2)) (λ r. k.gives ℤ _))
    value_kept u (eAssign a to.Plain at b) p =
        k.binds Element ℤ _ _ _ _ (target_kept a p.1) (λ t. k.binds ℤ ℤ _ _ _ _ (value_kept used b p.2) (λ v. k.writes t (to_kind c (kind_at c a) v)))
    value_kept u (eAssign a o at b) p =
        k.binds Element ℤ _ _ _ _ (target_kept a p.1) (λ t. k.binds ℤ ℤ _ _ _ _ (k.reads t) (λ x. k.binds ℤ ℤ _ _ _ _ (value_kept used b p.2) (λ y. k.binds ℤ ℤ _ _ _ _ (applied_kept at (assigned_op o) (kind_at c a) (kind_at c b) x y p.0) (λ v. k.writes t (to_kind c (kind_at c a) v)))))
    value_kept u (eComma es) p = last_kept es p

    pub last_kept : (es : Parts) → AtEachPart P es → R ℤ (last_value c es) (last_value c' es)
    last_kept no_parts p = k.gives ℤ (pos 0)
    last_kept (parts_and es x e) p = then_next R P k ℤ _ _ _ _ (drop_kept es p.0) (value_kept used e p.1)

    pub drop_kept : (es : Parts) → AtEachPart P es → R (Unit {0}) (drop_values c es) (drop_values c' es)
    drop_kept no_parts p = k.gives (Unit {0}) tt
    drop_kept (parts_and es x e) p = then_next R P k (Unit {0}) _ _ _ _ (drop_kept es p.0) (after_value R P k (Unit {0}) _ _ _ _ (value_kept dropped e p.1) (k.gives (Unit {0}) tt))

    pub values_kept : (es : Parts) → AtEachPart P es → R (List ℤ) (values c es) (values c' es)
    values_kept no_parts p = k.gives (List ℤ) []
    values_kept (parts_and es x e) p = k.binds (List ℤ) (List ℤ) _ _ _ _ (values_kept es p.0) (λ vs. k.binds ℤ (List ℤ) _ _ _ _ (value_kept used e p.1) (λ v. k.gives (List ℤ) _))

    pub arguments_kept : (kinds : List Kind) (es : Parts) → AtEachPart P es → R (List ℤ) (arguments c kinds es) (arguments c' kinds es)
    arguments_kept kinds no_parts p = k.gives (List ℤ) []
    arguments_kept kinds (parts_and es x e) p = k.binds (List ℤ) (List ℤ) _ _ _ _ (arguments_kept kinds es p.0) (λ vs. k.binds ℤ (List ℤ) _ _ _ _ (value_kept used e p.1) (λ v. k.gives (List ℤ) _))

    pub target_kept : (e : Ex) → AtEach P e → R Element (target_of c e) (target_of c' e)
    target_kept (eParen a e b) p = target_kept e p
    target_kept (ePrefix pre.Extension at e) p = target_kept e p.1
    target_kept (eName n at) p = scalar_kept (object_number (entity_of env n at))
    target_kept (eIndex a x i y) p = k.binds ℤ Element _ _ _ _ (value_kept used i p.1) (λ v. element_kept x (base_of env a) v p.0)
    target_kept e p = k.gives Element (scalar 0)

  -- ---- Declarations

  object_kept : (i : Initial) (o : Option ℕ) → InInitial P i → R (Unit {0}) (begin_object c i o) (begin_object c' i o)
  object_kept i None p = k.gives (Unit {0}) tt
  object_kept iNothing (Some object) p = k.binds (List ℤ) (Unit {0}) _ _ _ _ (draws R P k inputs inputs' model _ (hd _) _) (λ vs. k.stores object vs)
  object_kept (iValue at e) (Some object) p = k.binds ℤ (Unit {0}) _ _ _ _ (value_kept used e p) (λ v. k.stores object _)
  object_kept (iList at a es x b) (Some object) p = k.binds (List ℤ) (Unit {0}) _ _ _ _ (values_kept es p) (λ vs. k.stores object _)

  objects_kept : (ds : Decs) → InDeclarators P ds → R (Unit {0}) (begin_objects c ds) (begin_objects c' ds)
  objects_kept no_declarators p = k.gives (Unit {0}) tt
  objects_kept (declarators_and ds x (named n at) f ats i) p = then_next R P k (Unit {0}) _ _ _ _ (objects_kept ds p.0) (object_kept i _ p.1)

  declared_kept : (d : Declaration) → InDeclaration P d → R (Unit {0}) (declared c d) (declared c' d)
  declared_kept (declares ws ds b) p = objects_kept ds p

  -- ---- Parts of statements

  effect_kept : (e : Option Ex) → InOption P e → R (Unit {0}) (effect_of c e) (effect_of c' e)
  effect_kept None p = k.gives (Unit {0}) tt
  effect_kept (Some e) p = after_value R P k (Unit {0}) _ _ _ _ (value_kept dropped e p) (k.gives (Unit {0}) tt)

  test_kept : (e : Option Ex) → InOption P e → R ℤ (test_of c e) (test_of c' e)
  test_kept None p = k.gives ℤ (pos 1)
  test_kept (Some e) p = value_kept used e p

  condition_kept : (h : Head) → InHead P h → R ℤ (condition c h) (condition c' h)
  condition_kept (head at a e b) p = value_kept used e p

  start_kept : (s : ForStart) → InStart P s → R (Unit {0}) (start_for c s) (start_for c' s)
  start_kept (forDeclares d) p = declared_kept d p
  start_kept (forExpr e at) p = effect_kept e p

  for_start_kept : (h : ForHead) → InFor P h → R (Unit {0}) (for_start c h) (for_start c' h)
  for_start_kept (for_head at a start test x step b) p = start_kept start p.0

  for_test_kept : (h : ForHead) → InFor P h → R ℤ (for_test c h) (for_test c' h)
  for_test_kept (for_head at a start test x step b) p = test_kept test p.1

  for_step_kept : (h : ForHead) → InFor P h → R (Unit {0}) (for_step c h) (for_step c' h)
  for_step_kept (for_head at a start test x step b) p = effect_kept step p.2

  returned_kept : (result : Option Kind) (e : Option Ex) → InOption P e → R Exit (returned c result e) (returned c' result e)
  returned_kept result None p = k.gives Exit _
  returned_kept None (Some e) p = after_value R P k Exit _ _ _ _ (value_kept dropped e p) (k.gives Exit _)
  returned_kept (Some kind) (Some e) p = k.binds ℤ Exit _ _ _ _ (value_kept used e p) (λ v. k.gives Exit _)

  -- ---- Statements

  module _ (result : Option Kind) (n n' : ℕ) (le : n ≤ n') where
    mutual
      pub exec_kept : (s : St) (from : From) → InStatement P s → R Exit (exec c result n s from) (exec c' result n' s from)
      exec_kept (sDeclaration d) Start p = then_next R P k Exit _ _ _ _ (declared_kept d p) (k.gives Exit Normal)
      exec_kept (sBlock a ss b) from p = all_kept ss from p
      exec_kept (sEmpty at) Start p = k.gives Exit Normal
      exec_kept (sExpr e at) Start p = after_value R P k Exit _ _ _ _ (value_kept dropped e p) (k.gives Exit Normal)
      exec_kept (sIf h s) Start p = k.binds ℤ Exit _ _ _ _ (condition_kept h p.0) (λ v. chosen R P k Exit (is_true v) _ _ _ _ (exec_kept s Start p.1) (k.gives Exit Normal))
      exec_kept (sIf h s) (Seek q) p = exec_kept s (Seek q) p.1
      exec_kept (sIfElse h s at t) Start p = k.binds ℤ Exit _ _ _ _ (condition_kept h p.0) (λ v. chosen R P k Exit (is_true v) _ _ _ _ (exec_kept s Start p.1) (exec_kept t Start p.2))
      exec_kept (sIfElse h s at t) (Seek q) p = k.binds Exit Exit _ _ _ _ (exec_kept s (Seek q) p.1) (λ x. else_kept R P k x _ _ (exec_kept t (Seek q) p.2))
      exec_kept (sWhile h s) Start p = loop_kept R P k (keyword c h) n n' _ _ _ _ _ _ le (condition_kept h p.0) (exec_kept s Start p.1) (k.gives (Unit {0}) tt)
      exec_kept (sWhile h s) (Seek q) p =
          k.binds Exit Exit _ _ _ _ (exec_kept s (Seek q) p.1) (λ x. next_kept R P k x _ _ (loop_kept R P k (keyword c h) n n' _ _ _ _ _ _ le (condition_kept h p.0) (exec_kept s Start p.1) (k.gives (Unit {0}) tt)))
      exec_kept (sDo at s h b) from p =
          k.binds Exit Exit _ _ _ _ (exec_kept s from p.1) (λ x. next_kept R P k x _ _ (loop_kept R P k at n n' _ _ _ _ _ _ le (condition_kept h p.0) (exec_kept s Start p.1) (k.gives (Unit {0}) tt)))
      exec_kept (sFor h s) Start p =
          then_next R P k Exit _ _ _ _ (for_start_kept h p.0) (loop_kept R P k (for_keyword c h) n n' _ _ _ _ _ _ le (for_test_kept h p.0) (exec_kept s Start p.1) (for_step_kept h p.0))
      exec_kept (sFor h s) (Seek q) p =
          k.binds Exit Exit _ _ _ _ (exec_kept s (Seek q) p.1) (λ x. next_kept R P k x _ _ (then_next R P k Exit _ _ _ _ (for_step_kept h p.0) (loop_kept R P k (for_keyword c h) n n' _ _ _ _ _ _ le (for_test_kept h p.0) (exec_kept s Start p.1) (for_step_kept h p.0))))
      exec_kept (sSwitch h s) Start p = k.binds ℤ Exit _ _ _ _ (condition_kept h p.0) (λ v. switch_kept R P k _ _ _ _ (λ from. exec_kept s from p.1))
      exec_kept (sSwitch h s) (Seek (toLabel l)) p = k.binds Exit Exit _ _ _ _ (exec_kept s (Seek (toLabel l)) p.1) (λ x. k.gives Exit (leave_switch x))
      exec_kept (sCase at e b s) Start p = exec_kept s Start p
      exec_kept (sCase at e b s) (Seek q) p = chosen R P k Exit (is_case c q e) _ _ _ _ (exec_kept s Start p) (exec_kept s (Seek q) p)
      exec_kept (sDefault at b s) Start p = exec_kept s Start p
      exec_kept (sDefault at b s) (Seek q) p = chosen R P k Exit (is_default q) _ _ _ _ (exec_kept s Start p) (exec_kept s (Seek q) p)
      exec_kept (sLabel l at b ats s) Start p = exec_kept s Start p
      exec_kept (sLabel l at b ats s) (Seek q) p = chosen R P k Exit (is_this_label q l) _ _ _ _ (exec_kept s Start p) (exec_kept s (Seek q) p)
      exec_kept (sGoto at l x b) Start p = then_next R P k Exit _ _ _ _ (k.turns at) (k.gives Exit (Jumped l))
      exec_kept (sBreak at b) Start p = k.gives Exit Broke
      exec_kept (sContinue at b) Start p = k.gives Exit Continued
      exec_kept (sReturn at e b) Start p = returned_kept result e p
      exec_kept s (Seek q) p = k.gives Exit Absent

      pub all_kept : (ss : Sts) (from : From) → InStatements P ss → R Exit (exec_all c result n ss from) (exec_all c' result n' ss from)
      all_kept no_statements Start p = k.gives Exit Normal
      all_kept no_statements (Seek q) p = k.gives Exit Absent
      all_kept (statements_and ss s) Start p = k.binds Exit Exit _ _ _ _ (all_kept ss Start p.0) (λ x. then_kept R P k x _ _ (exec_kept s Start p.1))
      all_kept (statements_and ss s) (Seek q) p = k.binds Exit Exit _ _ _ _ (all_kept ss (Seek q) p.0) (λ x. found_kept R P k x _ _ _ _ (exec_kept s Start p.1) (exec_kept s (Seek q) p.1))
