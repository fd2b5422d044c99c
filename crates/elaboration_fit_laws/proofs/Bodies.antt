-- Bodies that break no rule of names, types and calls fit.
use Rattle.std.proofs.Common.{◌≡◌, ℕ, true, false, List, [], ◌∷◌, ◌++◌, map, Option, None, Some, refl}
use Rattle.lv_base.specs.declared.kind.Kind.{Kind}
use Rattle.lv_base.specs.declared.kind.Model.{Model}
use Rattle.c_tree.specs.Tree as t
use Rattle.c_run.specs.Breaking.{Broken}
use Rattle.c_meaning.specs.Bindings.{Env, object_number, declared_at, kind_in, words_type}
use Rattle.c_meaning.specs.Program.{Function, functions_of, env_of}
use Rattle.c_meaning.specs.Rules as rules
use Rattle.c_types.specs.Fit.{IsThere, Fits, AllFit, OptionFits, InitialFits, DeclaratorsFit, HeadFits, StartFits, ForFits, StatementFits, StatementsFit, BodiesFit}
use Rattle.control_laws.specs.Aims.{Aims, AllAim, OptionAims, InitialAims, DeclaratorsAim, HeadAims, StartAims, ForAims, StatementAims, StatementsAim, BodiesAim}
use Rattle.elaboration_fit_laws.specs.Laws.{Unnamed, AllUnnamed, KnownTakeNone}
use Rattle.elaboration_fit_laws.specs.Holds.{IsOne, OptionHolds, InitialHolds, DeclaratorsHold, HeadHolds, StartHolds, ForHolds, StatementHolds, StatementsHold, BodiesHold}
use Rattle.elaboration_fit_laws.specs.Whole.{SourcesFit}
use Rattle.elaboration_fit_laws.proofs.Fitting.{nil_left, nil_right, unless_parts, fits, all_fit, aims, all_aim}

module _ (env : Env) (model : Model) (bodies : List (List ℕ)) (known : KnownTakeNone env) where
  sound : (e : t.Ex) → Unnamed env e → rules.faults env model bodies e ≡ [] → Fits env bodies e × Aims env e
  sound e u h = (fits env model bodies known e u h, aims env model bodies known e u h)

  value_sound : (e : t.Ex) → Unnamed env e → rules.faults_of_value env model bodies e ≡ [] → Fits env bodies e × Aims env e
  value_sound e u h = sound e u (unless_parts (rules.faults env model bodies e) _ h)

  values_sound : (es : t.Parts) → AllUnnamed env es → rules.faults_of_firsts env model bodies false es ≡ [] → AllFit env bodies es × AllAim env es
  values_sound t.no_parts u h = (tt, tt)
  values_sound (t.parts_and es c e) u h =
      let r = values_sound es u.0 (nil_left _ _ h) in
      let v = value_sound e u.1 (nil_right (rules.faults_of_firsts env model bodies false es) _ h) in
      ((r.0, v.0), (r.1, v.1))

  option_sound : (e : Option t.Ex) → OptionHolds env e → rules.faults_of_option env model bodies e ≡ [] → OptionFits env bodies e × OptionAims env e
  option_sound None u h = (tt, tt)
  option_sound (Some e) u h = sound e u h

  test_sound : (e : Option t.Ex) → OptionHolds env e → rules.faults_of_test env model bodies e ≡ [] → OptionFits env bodies e × OptionAims env e
  test_sound None u h = (tt, tt)
  test_sound (Some e) u h = value_sound e u h

  return_sound : (r : Option Kind) (e : Option t.Ex) → OptionHolds env e → rules.faults_of_return env model bodies r e ≡ [] → OptionFits env bodies e × OptionAims env e
  return_sound None e u h = option_sound e u h
  return_sound (Some k) e u h = test_sound e u h

  one_there : (o : Option ℕ) → IsOne env o → IsThere o
  one_there None h = h
  one_there (Some n) h = tt

  one_fits : (at : ℕ) (e : t.Ex) (o : Option ℕ) → IsOne env o → Fits env bodies e → InitialFits env bodies (t.iValue at e) o
  one_fits at e None h f = tt
  one_fits at e (Some n) h f = (h, f)

  initial_sound : (form : t.Form) (i : t.Initial) (o : Option ℕ) → InitialHolds env i o → rules.faults_of_initial env model bodies false form i ≡ [] → InitialFits env bodies i o × InitialAims env i o
  initial_sound form t.iNothing o u h = (tt, tt)
  initial_sound form (t.iValue at e) o u h =
      let v = value_sound e u.1 h in
      (one_fits at e o u.0 v.0, (one_there o u.0, v.1))
  initial_sound form (t.iList at a es c b) o u h =
      let v = values_sound es u.1 (nil_right _ _ h) in
      (v.0, (u.0, v.1))

  declarators_sound : (ds : t.Decs) → DeclaratorsHold env ds → rules.faults_of_declarators env model bodies false ds ≡ [] → DeclaratorsFit env bodies ds × DeclaratorsAim env ds
  declarators_sound t.no_declarators u h = (tt, tt)
  declarators_sound (t.declarators_and ds c (t.named n at) f ats i) u h =
      let front = nil_left (rules.faults_of_declarators env model bodies false ds ++ rules.faults_of_form env model bodies f) _ h in
      let r = declarators_sound ds u.0 (nil_left _ _ front) in
      let v = initial_sound f i (object_number (declared_at env at)) u.1 (nil_right (rules.faults_of_declarators env model bodies false ds ++ rules.faults_of_form env model bodies f) _ h) in
      ((r.0, v.0), (r.1, v.1))

  start_sound : (s : t.ForStart) → StartHolds env s → rules.faults_of_start env model bodies s ≡ [] → StartFits env bodies s × StartAims env s
  start_sound (t.forDeclares (t.declares ws ds b)) u h = declarators_sound ds u (nil_right (rules.faults_of_words env model bodies ws) _ h)
  start_sound (t.forExpr e at) u h = option_sound e u h

  -- ---- Statements

  module _ (result : Option Kind) where
    mutual
      pub statement_sound : (s : t.St) → StatementHolds env s → rules.faults_of_statement env model bodies result s ≡ [] → StatementFits env bodies s × StatementAims env s
      statement_sound (t.sDeclaration (t.declares ws ds b)) u h = declarators_sound ds u (nil_right (rules.faults_of_words env model bodies ws) _ h)
      statement_sound (t.sBlock a ss b) u h = statements_sound ss u h
      statement_sound (t.sEmpty at) u h = (tt, tt)
      statement_sound (t.sExpr e at) u h = sound e u h
      statement_sound (t.sIf (t.head at a e b) s) u h =
          let v = value_sound e u.0 (nil_left _ _ h) in
          let r = statement_sound s u.1 (nil_right (rules.faults_of_value env model bodies e) _ h) in
          ((v.0, r.0), (v.1, r.1))
      statement_sound (t.sIfElse (t.head at a e b) s x w) u h =
          let front = nil_left (rules.faults_of_value env model bodies e ++ rules.faults_of_statement env model bodies result s) _ h in
          let v = value_sound e u.0 (nil_left _ _ front) in
          let r = statement_sound s u.1 (nil_right (rules.faults_of_value env model bodies e) _ front) in
          let q = statement_sound w u.2 (nil_right (rules.faults_of_value env model bodies e ++ rules.faults_of_statement env model bodies result s) _ h) in
          ((v.0, r.0, q.0), (v.1, r.1, q.1))
      statement_sound (t.sWhile (t.head at a e b) s) u h =
          let v = value_sound e u.0 (nil_left _ _ h) in
          let r = statement_sound s u.1 (nil_right (rules.faults_of_value env model bodies e) _ h) in
          ((v.0, r.0), (v.1, r.1))
      statement_sound (t.sSwitch (t.head at a e b) s) u h =
          let front = nil_left (rules.faults_of_value env model bodies e ++ rules.faults_of_statement env model bodies result s) _ h in
          let v = value_sound e u.0 (nil_left _ _ front) in
          let r = statement_sound s u.1 (nil_right (rules.faults_of_value env model bodies e) _ front) in
          ((v.0, r.0), (v.1, r.1))
      statement_sound (t.sDo at s (t.head w a e b) x) u h =
          let v = value_sound e u.0 (nil_right (rules.faults_of_statement env model bodies result s) _ h) in
          let r = statement_sound s u.1 (nil_left _ _ h) in
          ((v.0, r.0), (v.1, r.1))
      statement_sound (t.sFor (t.for_head at a start test x step b) s) u h =
          let head = nil_left (rules.faults_of_start env model bodies start ++ rules.faults_of_test env model bodies test ++ rules.faults_of_option env model bodies step) _ h in
          let front = nil_left (rules.faults_of_start env model bodies start ++ rules.faults_of_test env model bodies test) _ head in
          let p = start_sound start u.0.0 (nil_left _ _ front) in
          let q = test_sound test u.0.1 (nil_right (rules.faults_of_start env model bodies start) _ front) in
          let v = option_sound step u.0.2 (nil_right (rules.faults_of_start env model bodies start ++ rules.faults_of_test env model bodies test) _ head) in
          let r = statement_sound s u.1 (nil_right (rules.faults_of_start env model bodies start ++ rules.faults_of_test env model bodies test ++ rules.faults_of_option env model bodies step) _ h) in
          (((p.0, q.0, v.0), r.0), ((p.1, q.1, v.1), r.1))
      statement_sound (t.sCase at e b s) u h = statement_sound s u (nil_right (rules.faults_of_constant env model bodies e) _ h)
      statement_sound (t.sDefault at b s) u h = statement_sound s u h
      statement_sound (t.sLabel n at b ats s) u h = statement_sound s u h
      statement_sound (t.sGoto at n x b) u h = (tt, tt)
      statement_sound (t.sBreak at b) u h = (tt, tt)
      statement_sound (t.sContinue at b) u h = (tt, tt)
      statement_sound (t.sReturn at e b) u h = return_sound result e u h

      pub statements_sound : (ss : t.Sts) → StatementsHold env ss → rules.faults_of_statements env model bodies result ss ≡ [] → StatementsFit env bodies ss × StatementsAim env ss
      statements_sound t.no_statements u h = (tt, tt)
      statements_sound (t.statements_and ss s) u h =
          let r = statements_sound ss u.0 (nil_left _ _ h) in
          let q = statement_sound s u.1 (nil_right (rules.faults_of_statements env model bodies result ss) _ h) in
          ((r.0, q.0), (r.1, q.1))

  -- ---- Functions

  hold_front : (fs : List Function) (f : Function) → BodiesHold env (fs ++ f ∷ []) → BodiesHold env fs
  hold_front [] f u = tt
  hold_front (g ∷ fs) f u = (u.0, hold_front fs f u.1)

  hold_last : (fs : List Function) (f : Function) → BodiesHold env (fs ++ f ∷ []) → StatementsHold env f.body
  hold_last [] f u = u.0
  hold_last (g ∷ fs) f u = hold_last fs f u.1

  fit_more : (fs : List Function) (f : Function) → BodiesFit env bodies fs → StatementsFit env bodies f.body → BodiesFit env bodies (fs ++ f ∷ [])
  fit_more [] f r q = (q, tt)
  fit_more (g ∷ fs) f r q = (r.0, fit_more fs f r.1 q)

  aim_more : (fs : List Function) (f : Function) → BodiesAim env fs → StatementsAim env f.body → BodiesAim env (fs ++ f ∷ [])
  aim_more [] f r q = (q, tt)
  aim_more (g ∷ fs) f r q = (r.0, aim_more fs f r.1 q)

  bodies_sound : (is : t.Items) → BodiesHold env (functions_of env is) → rules.faults_of_items env model bodies is ≡ [] → BodiesFit env bodies (functions_of env is) × BodiesAim env (functions_of env is)
  bodies_sound t.no_items u h = (tt, tt)
  bodies_sound (t.items_and is (t.tSkipped x at r b)) u h = bodies_sound is u (nil_left _ _ h)
  bodies_sound (t.items_and is (t.tDeclaration d)) u h = bodies_sound is u (nil_left _ _ h)
  bodies_sound (t.items_and is (t.tEmpty at)) u h = bodies_sound is u (nil_left _ _ h)
  bodies_sound (t.items_and is (t.tFunction ws (t.named n at) ps ats (t.bSkipped a r b))) u h = bodies_sound is u (nil_left _ _ h)
  bodies_sound (t.items_and is (t.tFunction ws (t.named n at) ps ats (t.bBlock a ss b))) u h =
      let r = bodies_sound is (hold_front (functions_of env is) _ u) (nil_left _ _ h) in
      let own = nil_right (rules.faults_of_items env model bodies is) _ h in
      let q = statements_sound (kind_in (words_type env ws)) ss (hold_last (functions_of env is) _ u) (nil_right (rules.faults_of_words env model bodies ws ++ rules.faults_of_parameters env model bodies ps) _ own) in
      (fit_more (functions_of env is) _ r.0 q.0, aim_more (functions_of env is) _ r.1 q.1)

pub sources_fit_is : SourcesFit
sources_fit_is items model s h =
    let env = env_of items model in
    let names = map (λ f. f.name) (functions_of env items) in
    let front = nil_left (rules.faults_of_items env model names items ++ rules.redeclared env model names [] env.entries) _ h in
    let r = bodies_sound env model names s.takes items s.bodies (nil_left _ _ front) in
    (record { objects = s.objects; bodies = r.0 }, record { fits = r.0; aims = r.1; known = s.known })
