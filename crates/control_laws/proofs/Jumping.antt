-- A typed body has the labels, the gotos and the misplaced jumps of its source.
use Rattle.std.proofs.Common.{◌≡◌, ℕ, Bool, true, false, ◌&&◌, ◌||◌, not, List, [], ◌∷◌, ◌++◌, map, Option, None, Some, bytes_eq, refl, ap, sym, ◌∙◌, append_assoc}
use Rattle.std.proofs.lemmas.List.{append-nil, map-append}
use Rattle.std.specs.List.{list_any}
use Rattle.lv_base.specs.declared.kind.Kind.{Kind}
use Rattle.lv_base.specs.declared.kind.Model.{Model}
use Rattle.lv_base.specs.declared.fault.SourceFault.TheVariants as fault
use Rattle.c_tree.specs.Tree as t
use Rattle.c_run.specs.Breaking.{line}
use Rattle.c_meaning.specs.Bindings.{Env, object_number, declared_at}
use Rattle.c_meaning.specs.Jumps as source
use Rattle.c_meaning.specs.Program.{Function, functions_of, env_of}
use Rattle.c_typed.specs.Rules as typed
use Rattle.c_typed.specs.Tree as p
use Rattle.c_types.specs.Elaborated as elab
use Rattle.control_laws.specs.Laws.{source_jumps, typed_jumps, all_source, all_typed, SameJumps}

-- the same jump
abbrev same : source.Jump → typed.Jump
same j = record { name = j.name; named_at = j.named_at; at = j.at; scope = j.scope }

-- ---- What is said of lists of jumps

any_map : {A B : Type 0} (test : B → Bool) (f : A → B) (xs : List A) → list_any test (map f xs) ≡ list_any (λ x. test (f x)) xs
any_map test f [] = refl
any_map test f (x ∷ xs) = ap (λ b. test (f x) || b) (any_map test f xs)

repeated_same : (before ls : List source.Jump) → typed.repeated_labels (map same before) (map same ls) ≡ source.repeated_labels before ls
repeated_same before [] = refl
repeated_same before (l ∷ ls) =
    ap (λ b. line b fault.Label l.named_at ++ typed.repeated_labels (map same (l ∷ before)) (map same ls)) (any_map (λ j. bytes_eq j.name l.name) same before)
    ∙ ap (λ bs. line (source.has_name l.name before) fault.Label l.named_at ++ bs) (repeated_same (l ∷ before) ls)

lost_same : (labels gs : List source.Jump) → typed.lost_gotos (map same labels) (map same gs) ≡ source.lost_gotos labels gs
lost_same labels [] = refl
lost_same labels (g ∷ gs) =
    ap (λ b. line (not b) fault.Label g.named_at ++ typed.lost_gotos (map same labels) (map same gs)) (any_map (λ j. bytes_eq j.name g.name) same labels)
    ∙ ap (λ bs. line (not (source.has_name g.name labels)) fault.Label g.named_at ++ bs) (lost_same labels gs)

entering_same : (labels gs : List source.Jump) → typed.entering_gotos (map same labels) (map same gs) ≡ source.entering_gotos labels gs
entering_same labels [] = refl
entering_same labels (g ∷ gs) =
    ap (λ b. line b fault.JumpIntoScope g.at ++ typed.entering_gotos (map same labels) (map same gs)) (any_map (λ l. bytes_eq l.name g.name && typed.enters g.scope l.scope) same labels)
    ∙ ap (λ bs. line (list_any (λ l. bytes_eq l.name g.name && source.enters g.scope l.scope) labels) fault.JumpIntoScope g.at ++ bs) (entering_same labels gs)

module _ (env : Env) (model : Model) (bodies : List (List ℕ)) where
  -- ---- Declarations

  begun : (ss : p.Steps) (i : t.Initial) (o : Option ℕ) → typed.declared_in (elab.beginning env model bodies ss i o) ≡ typed.declared_in ss ++ source.one o
  begun ss t.iNothing None = sym (append-nil (typed.declared_in ss))
  begun ss (t.iValue at e) None = sym (append-nil (typed.declared_in ss))
  begun ss (t.iList at a es c b) None = sym (append-nil (typed.declared_in ss))
  begun ss t.iNothing (Some o) = refl
  begun ss (t.iValue at e) (Some o) = refl
  begun ss (t.iList at a es c b) (Some o) = refl

  declared_more : (ss : p.Steps) (ds : t.Decs) → typed.declared_in (elab.declaring env model bodies ss ds) ≡ typed.declared_in ss ++ source.objects_of env ds
  declared_more ss t.no_declarators = sym (append-nil (typed.declared_in ss))
  declared_more ss (t.declarators_and ds c (t.named n at) f ats i) =
      begun (elab.declaring env model bodies ss ds) i (object_number (declared_at env at)) ∙ ap (λ xs. xs ++ source.one (object_number (declared_at env at))) (declared_more ss ds)
      ∙ append_assoc (typed.declared_in ss) (source.objects_of env ds) (source.one (object_number (declared_at env at)))

  start_declared : (i : t.ForStart) → typed.declared_in (elab.for_start env model bodies i) ≡ source.declared_start env i
  start_declared (t.forDeclares (t.declares ws ds b)) = declared_more p.no_steps ds
  start_declared (t.forExpr None at) = refl
  start_declared (t.forExpr (Some e) at) = refl

  labels_begun : (scope : List ℕ) (ss : p.Steps) (i : t.Initial) (o : Option ℕ) → typed.labels_of_all scope (elab.beginning env model bodies ss i o) ≡ typed.labels_of_all scope ss
  labels_begun scope ss t.iNothing None = refl
  labels_begun scope ss (t.iValue at e) None = refl
  labels_begun scope ss (t.iList at a es c b) None = refl
  labels_begun scope ss t.iNothing (Some o) = append-nil (typed.labels_of_all scope ss)
  labels_begun scope ss (t.iValue at e) (Some o) = append-nil (typed.labels_of_all scope ss)
  labels_begun scope ss (t.iList at a es c b) (Some o) = append-nil (typed.labels_of_all scope ss)

  labels_more : (scope : List ℕ) (ss : p.Steps) (ds : t.Decs) → typed.labels_of_all scope (elab.declaring env model bodies ss ds) ≡ typed.labels_of_all scope ss
  labels_more scope ss t.no_declarators = refl
  labels_more scope ss (t.declarators_and ds c (t.named n at) f ats i) = labels_begun scope (elab.declaring env model bodies ss ds) i (object_number (declared_at env at)) ∙ labels_more scope ss ds

  gotos_begun : (scope : List ℕ) (ss : p.Steps) (i : t.Initial) (o : Option ℕ) → typed.gotos_of_all scope (elab.beginning env model bodies ss i o) ≡ typed.gotos_of_all scope ss
  gotos_begun scope ss t.iNothing None = refl
  gotos_begun scope ss (t.iValue at e) None = refl
  gotos_begun scope ss (t.iList at a es c b) None = refl
  gotos_begun scope ss t.iNothing (Some o) = append-nil (typed.gotos_of_all scope ss)
  gotos_begun scope ss (t.iValue at e) (Some o) = append-nil (typed.gotos_of_all scope ss)
  gotos_begun scope ss (t.iList at a es c b) (Some o) = append-nil (typed.gotos_of_all scope ss)

  gotos_more : (scope : List ℕ) (ss : p.Steps) (ds : t.Decs) → typed.gotos_of_all scope (elab.declaring env model bodies ss ds) ≡ typed.gotos_of_all scope ss
  gotos_more scope ss t.no_declarators = refl
  gotos_more scope ss (t.declarators_and ds c (t.named n at) f ats i) = gotos_begun scope (elab.declaring env model bodies ss ds) i (object_number (declared_at env at)) ∙ gotos_more scope ss ds

  misplaced_begun : (result : Option Kind) (l : Bool) (w : Option (List ℕ)) (scope : List ℕ) (ss : p.Steps) (i : t.Initial) (o : Option ℕ) → typed.misplaced_all result l w scope (elab.beginning env model bodies ss i o) ≡ typed.misplaced_all result l w scope ss
  misplaced_begun result l w scope ss t.iNothing None = refl
  misplaced_begun result l w scope ss (t.iValue at e) None = refl
  misplaced_begun result l w scope ss (t.iList at a es c b) None = refl
  misplaced_begun result l w scope ss t.iNothing (Some o) = append-nil (typed.misplaced_all result l w scope ss)
  misplaced_begun result l w scope ss (t.iValue at e) (Some o) = append-nil (typed.misplaced_all result l w scope ss)
  misplaced_begun result l w scope ss (t.iList at a es c b) (Some o) = append-nil (typed.misplaced_all result l w scope ss)

  misplaced_more : (result : Option Kind) (l : Bool) (w : Option (List ℕ)) (scope : List ℕ) (ss : p.Steps) (ds : t.Decs) → typed.misplaced_all result l w scope (elab.declaring env model bodies ss ds) ≡ typed.misplaced_all result l w scope ss
  misplaced_more result l w scope ss t.no_declarators = refl
  misplaced_more result l w scope ss (t.declarators_and ds c (t.named n at) f ats i) = misplaced_begun result l w scope (elab.declaring env model bodies ss ds) i (object_number (declared_at env at)) ∙ misplaced_more result l w scope ss ds

  -- ---- Statements

  module _ (result : Option Kind) where
    abbrev S : t.Sts → p.Steps
    S ss = elab.steps env model bodies result ss

    declared_all : (ss : t.Sts) → typed.declared_in (S ss) ≡ source.declared_in env ss
    declared_all t.no_statements = refl
    declared_all (t.statements_and ss (t.sDeclaration (t.declares ws ds b))) = declared_more (S ss) ds ∙ ap (λ xs. xs ++ source.objects_of env ds) (declared_all ss)
    declared_all (t.statements_and ss (t.sFor (t.for_head at a start test x step b) s)) = ap (λ xs. xs ++ []) (declared_all ss)
    declared_all (t.statements_and ss s) = ap (λ xs. xs ++ []) (declared_all ss)

    mutual
      labels_same : (scope : List ℕ) (s : t.St) → typed.labels_of scope (elab.step env model bodies result s) ≡ map same (source.labels_of env scope s)
      labels_same scope (t.sDeclaration (t.declares ws ds b)) = labels_more scope p.no_steps ds
      labels_same scope (t.sBlock a ss b) = labels_all scope ss
      labels_same scope (t.sEmpty at) = refl
      labels_same scope (t.sExpr e at) = refl
      labels_same scope (t.sIf h s) = labels_same scope s
      labels_same scope (t.sIfElse h s at u) =
          ap (λ xs. xs ++ typed.labels_of scope (elab.step env model bodies result u)) (labels_same scope s) ∙ ap (λ ys. map same (source.labels_of env scope s) ++ ys) (labels_same scope u) ∙ sym (map-append same (source.labels_of env scope s) (source.labels_of env scope u))
      labels_same scope (t.sWhile h s) = labels_same scope s
      labels_same scope (t.sSwitch h s) = labels_same scope s
      labels_same scope (t.sDo at s h b) = labels_same scope s
      labels_same scope (t.sFor (t.for_head at a start test x step b) s) =
          ap (λ xs. typed.labels_of (scope ++ xs) (elab.step env model bodies result s)) (start_declared start) ∙ labels_same (scope ++ source.declared_start env start) s
      labels_same scope (t.sCase at e b s) = labels_same scope s
      labels_same scope (t.sDefault at b s) = labels_same scope s
      labels_same scope (t.sLabel n at b ats s) = ap (λ xs. typed.jump n at at scope ∷ xs) (labels_same scope s)
      labels_same scope (t.sGoto at n x b) = refl
      labels_same scope (t.sBreak at b) = refl
      labels_same scope (t.sContinue at b) = refl
      labels_same scope (t.sReturn at e b) = refl

      labels_all : (scope : List ℕ) (ss : t.Sts) → typed.labels_of_all scope (S ss) ≡ map same (source.labels_of_all env scope ss)
      labels_all scope t.no_statements = refl
      labels_all scope (t.statements_and ss (t.sDeclaration (t.declares ws ds b))) =
          labels_more scope (S ss) ds ∙ labels_all scope ss ∙ ap (map same) (sym (append-nil (source.labels_of_all env scope ss)))
      labels_all scope (t.statements_and ss s) =
          ap (λ xs. xs ++ typed.labels_of (scope ++ typed.declared_in (S ss)) (elab.step env model bodies result s)) (labels_all scope ss)
          ∙ ap (λ xs. map same (source.labels_of_all env scope ss) ++ typed.labels_of (scope ++ xs) (elab.step env model bodies result s)) (declared_all ss)
          ∙ ap (λ xs. map same (source.labels_of_all env scope ss) ++ xs) (labels_same (scope ++ source.declared_in env ss) s)
          ∙ sym (map-append same (source.labels_of_all env scope ss) (source.labels_of env (scope ++ source.declared_in env ss) s))

    mutual
      gotos_same : (scope : List ℕ) (s : t.St) → typed.gotos_of scope (elab.step env model bodies result s) ≡ map same (source.gotos_of env scope s)
      gotos_same scope (t.sDeclaration (t.declares ws ds b)) = gotos_more scope p.no_steps ds
      gotos_same scope (t.sBlock a ss b) = gotos_all scope ss
      gotos_same scope (t.sEmpty at) = refl
      gotos_same scope (t.sExpr e at) = refl
      gotos_same scope (t.sIf h s) = gotos_same scope s
      gotos_same scope (t.sIfElse h s at u) =
          ap (λ xs. xs ++ typed.gotos_of scope (elab.step env model bodies result u)) (gotos_same scope s) ∙ ap (λ ys. map same (source.gotos_of env scope s) ++ ys) (gotos_same scope u) ∙ sym (map-append same (source.gotos_of env scope s) (source.gotos_of env scope u))
      gotos_same scope (t.sWhile h s) = gotos_same scope s
      gotos_same scope (t.sSwitch h s) = gotos_same scope s
      gotos_same scope (t.sDo at s h b) = gotos_same scope s
      gotos_same scope (t.sFor (t.for_head at a start test x step b) s) =
          ap (λ xs. typed.gotos_of (scope ++ xs) (elab.step env model bodies result s)) (start_declared start) ∙ gotos_same (scope ++ source.declared_start env start) s
      gotos_same scope (t.sCase at e b s) = gotos_same scope s
      gotos_same scope (t.sDefault at b s) = gotos_same scope s
      gotos_same scope (t.sLabel n at b ats s) = gotos_same scope s
      gotos_same scope (t.sGoto at n x b) = refl
      gotos_same scope (t.sBreak at b) = refl
      gotos_same scope (t.sContinue at b) = refl
      gotos_same scope (t.sReturn at e b) = refl

      gotos_all : (scope : List ℕ) (ss : t.Sts) → typed.gotos_of_all scope (S ss) ≡ map same (source.gotos_of_all env scope ss)
      gotos_all scope t.no_statements = refl
      gotos_all scope (t.statements_and ss (t.sDeclaration (t.declares ws ds b))) =
          gotos_more scope (S ss) ds ∙ gotos_all scope ss ∙ ap (map same) (sym (append-nil (source.gotos_of_all env scope ss)))
      gotos_all scope (t.statements_and ss s) =
          ap (λ xs. xs ++ typed.gotos_of (scope ++ typed.declared_in (S ss)) (elab.step env model bodies result s)) (gotos_all scope ss)
          ∙ ap (λ xs. map same (source.gotos_of_all env scope ss) ++ typed.gotos_of (scope ++ xs) (elab.step env model bodies result s)) (declared_all ss)
          ∙ ap (λ xs. map same (source.gotos_of_all env scope ss) ++ xs) (gotos_same (scope ++ source.declared_in env ss) s)
          ∙ sym (map-append same (source.gotos_of_all env scope ss) (source.gotos_of env (scope ++ source.declared_in env ss) s))

    returned_same : (r : Option Kind) (e : Option t.Ex) (at : ℕ) → typed.return_line r (elab.returned env model bodies r e) at ≡ source.return_line r e at
    returned_same None None at = refl
    returned_same None (Some e) at = refl
    returned_same (Some k) None at = refl
    returned_same (Some k) (Some e) at = refl

    mutual
      misplaced_same : (l : Bool) (w : Option (List ℕ)) (scope : List ℕ) (s : t.St) → typed.misplaced result l w scope (elab.step env model bodies result s) ≡ source.misplaced env result l w scope s
      misplaced_same l w scope (t.sDeclaration (t.declares ws ds b)) = misplaced_more result l w scope p.no_steps ds
      misplaced_same l w scope (t.sBlock a ss b) = misplaced_all_same l w scope ss
      misplaced_same l w scope (t.sEmpty at) = refl
      misplaced_same l w scope (t.sExpr e at) = refl
      misplaced_same l w scope (t.sIf h s) = misplaced_same l w scope s
      misplaced_same l w scope (t.sIfElse h s at u) =
          ap (λ xs. xs ++ typed.misplaced result l w scope (elab.step env model bodies result u)) (misplaced_same l w scope s) ∙ ap (λ ys. source.misplaced env result l w scope s ++ ys) (misplaced_same l w scope u)
      misplaced_same l w scope (t.sWhile h s) = misplaced_same true w scope s
      misplaced_same l w scope (t.sSwitch h s) = misplaced_same l (Some scope) scope s
      misplaced_same l w scope (t.sDo at s h b) = misplaced_same true w scope s
      misplaced_same l w scope (t.sFor (t.for_head at a start test x step b) s) =
          ap (λ xs. typed.misplaced result true w (scope ++ xs) (elab.step env model bodies result s)) (start_declared start) ∙ misplaced_same true w (scope ++ source.declared_start env start) s
      misplaced_same l w scope (t.sCase at e b s) = ap (λ xs. source.case_lines w scope at ++ xs) (misplaced_same l w scope s)
      misplaced_same l w scope (t.sDefault at b s) = ap (λ xs. source.case_lines w scope at ++ xs) (misplaced_same l w scope s)
      misplaced_same l w scope (t.sLabel n at b ats s) = misplaced_same l w scope s
      misplaced_same l w scope (t.sGoto at n x b) = refl
      misplaced_same l w scope (t.sBreak at b) = refl
      misplaced_same l w scope (t.sContinue at b) = refl
      misplaced_same l w scope (t.sReturn at e b) = returned_same result e at

      misplaced_all_same : (l : Bool) (w : Option (List ℕ)) (scope : List ℕ) (ss : t.Sts) → typed.misplaced_all result l w scope (S ss) ≡ source.misplaced_all env result l w scope ss
      misplaced_all_same l w scope t.no_statements = refl
      misplaced_all_same l w scope (t.statements_and ss (t.sDeclaration (t.declares ws ds b))) =
          misplaced_more result l w scope (S ss) ds ∙ misplaced_all_same l w scope ss ∙ sym (append-nil (source.misplaced_all env result l w scope ss))
      misplaced_all_same l w scope (t.statements_and ss s) =
          ap (λ xs. xs ++ typed.misplaced result l w (scope ++ typed.declared_in (S ss)) (elab.step env model bodies result s)) (misplaced_all_same l w scope ss)
          ∙ ap (λ xs. source.misplaced_all env result l w scope ss ++ typed.misplaced result l w (scope ++ xs) (elab.step env model bodies result s)) (declared_all ss)
          ∙ ap (λ xs. source.misplaced_all env result l w scope ss ++ xs) (misplaced_same l w (scope ++ source.declared_in env ss) s)

  -- ---- Functions

  pub function_same : (f : Function) → typed_jumps (elab.function_of env model bodies f) ≡ source_jumps env f
  function_same f =
      let labels = source.labels_of_all env [] f.body in
      let gotos = source.gotos_of_all env [] f.body in
      let body = elab.steps env model bodies f.result f.body in
      let rest = typed.misplaced_all f.result false None [] body in
      ap (λ xs. typed.repeated_labels [] xs ++ typed.lost_gotos xs (typed.gotos_of_all [] body) ++ typed.entering_gotos xs (typed.gotos_of_all [] body) ++ rest) (labels_all f.result [] f.body)
      ∙ ap (λ xs. typed.repeated_labels [] (map same labels) ++ typed.lost_gotos (map same labels) xs ++ typed.entering_gotos (map same labels) xs ++ rest) (gotos_all f.result [] f.body)
      ∙ ap (λ xs. xs ++ typed.lost_gotos (map same labels) (map same gotos) ++ typed.entering_gotos (map same labels) (map same gotos) ++ rest) (repeated_same [] labels)
      ∙ ap (λ xs. source.repeated_labels [] labels ++ xs ++ typed.entering_gotos (map same labels) (map same gotos) ++ rest) (lost_same labels gotos)
      ∙ ap (λ xs. source.repeated_labels [] labels ++ source.lost_gotos labels gotos ++ xs ++ rest) (entering_same labels gotos)
      ∙ ap (λ xs. source.repeated_labels [] labels ++ source.lost_gotos labels gotos ++ source.entering_gotos labels gotos ++ xs) (misplaced_all_same f.result false None [] f.body)

  functions_same : (fs : List Function) → all_typed (map (elab.function_of env model bodies) fs) ≡ all_source env fs
  functions_same [] = refl
  functions_same (f ∷ fs) = ap (λ xs. xs ++ all_typed (map (elab.function_of env model bodies) fs)) (function_same f) ∙ ap (λ xs. source_jumps env f ++ xs) (functions_same fs)

pub same_jumps_is : SameJumps
same_jumps_is items model = functions_same (env_of items model) model (map (λ f. f.name) (functions_of (env_of items model) items)) (functions_of (env_of items model) items)
