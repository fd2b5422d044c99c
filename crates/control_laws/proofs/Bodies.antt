-- The values of a typed body are the expressions of its source, in their order.
use Rattle.std.proofs.Common.{◌≡◌, ℕ, List, [], ◌∷◌, ◌++◌, map, Option, None, Some, refl, sym, subst, ◌∙◌, append_assoc, append-nil}
use Rattle.std.proofs.lemmas.List.{map-append}
use Rattle.lv_base.specs.declared.kind.Kind.{Kind}
use Rattle.lv_base.specs.declared.kind.Model.{Model}
use Rattle.c_tree.specs.Tree as t
use Rattle.c_meaning.specs.Bindings.{Env, object_number, declared_at}
use Rattle.c_meaning.specs.Jumps as source
use Rattle.c_typed.specs.Rules as typed
use Rattle.c_typed.specs.Tree as p
use Rattle.c_types.specs.Elaborated as elab
use Rattle.c_types.specs.Fit.{Fits, AllFit, OptionFits, InitialFits, DeclaratorsFit, StartFits, StatementFits, StatementsFit}
use Rattle.control_laws.specs.Aims.{Aims, AllAim, OptionAims, InitialAims, DeclaratorsAim, StartAims, StatementAims, StatementsAim, KnownHaveNone}
use Rattle.control_laws.proofs.Effects.{same_call, both, calls_same}
use Rattle.control_laws.proofs.Sequencing.{unsequenced_same}

module _ (env : Env) (model : Model) (bodies : List (List ℕ)) (known : KnownHaveNone bodies) where
  -- a value, which may be converted, and its expression
  pub record Alike (v : p.Val) (e : t.Ex) : Type 0 where
    pub unsequenced : typed.unsequenced v ≡ source.unsequenced env e
    pub calls : typed.calls v ≡ map same_call (source.calls env bodies e)

  abbrev pub AllAlike : List p.Val → List t.Ex → Type 0
  AllAlike [] [] = Unit {0}
  AllAlike (v ∷ vs) (e ∷ es) = Alike v e × AllAlike vs es
  AllAlike _ _ = ⊥

  joined : (vs : List p.Val) (es : List t.Ex) (ws : List p.Val) (fs : List t.Ex) → AllAlike vs es → AllAlike ws fs → AllAlike (vs ++ ws) (es ++ fs)
  joined [] [] ws fs a b = b
  joined [] (e ∷ es) ws fs a b = absurd a
  joined (v ∷ vs) [] ws fs a b = absurd a
  joined (v ∷ vs) (e ∷ es) ws fs a b = (a.0, joined vs es ws fs a.1 b)

  padded : (vs : List p.Val) (es : List t.Ex) → AllAlike vs es → AllAlike vs (es ++ [])
  padded vs es a = subst (AllAlike vs) (sym (append-nil es)) a

  grouped : (vs : List p.Val) (es fs gs : List t.Ex) → AllAlike vs (es ++ fs ++ gs) → AllAlike vs (es ++ (fs ++ gs))
  grouped vs es fs gs a = subst (AllAlike vs) (append_assoc es fs gs) a

  value_alike : (e : t.Ex) → Fits env bodies e → Aims env e → Alike (elab.value env model bodies e) e
  value_alike e f a = record { unsequenced = unsequenced_same env model bodies known e f a; calls = calls_same env model bodies known e f a }

  converted_alike : (k : Kind) (e : t.Ex) → Fits env bodies e → Aims env e → Alike (p.vConvert k (elab.value env model bodies e)) e
  converted_alike k e f a = record { unsequenced = unsequenced_same env model bodies known e f a; calls = calls_same env model bodies known e f a }

  -- ---- Declarations

  values_alike : (k : Kind) (es : t.Parts) → AllFit env bodies es → AllAim env es → AllAlike (typed.all_parts (elab.values_as env model bodies k es)) (source.all_parts es)
  values_alike k t.no_parts f a = tt
  values_alike k (t.parts_and es c e) f a = joined _ (source.all_parts es) _ (e ∷ []) (values_alike k es f.0 a.0) (converted_alike k e f.1 a.1, tt)

  begun : (ss : p.Steps) (xs : List t.Ex) (i : t.Initial) (o : Option ℕ) → AllAlike (typed.all_of_all ss) xs → InitialFits env bodies i o → InitialAims env i o →
      AllAlike (typed.all_of_all (elab.beginning env model bodies ss i o)) (xs ++ source.all_initial i)
  begun ss xs t.iNothing None h f a = padded (typed.all_of_all ss) xs h
  begun ss xs t.iNothing (Some o) h f a = joined (typed.all_of_all ss) xs [] [] h tt
  begun ss xs (t.iValue at e) None h f a = absurd a.0
  begun ss xs (t.iValue at e) (Some o) h f a = joined (typed.all_of_all ss) xs _ (e ∷ []) h (converted_alike (elab.object_kind env model bodies o) e f.1 a.1, tt)
  begun ss xs (t.iList at b es c d) None h f a = absurd a.0
  begun ss xs (t.iList at b es c d) (Some o) h f a = joined (typed.all_of_all ss) xs _ (source.all_parts es) h (values_alike (elab.object_kind env model bodies o) es f a.1)

  declaring_alike : (ss : p.Steps) (xs : List t.Ex) (ds : t.Decs) → AllAlike (typed.all_of_all ss) xs → DeclaratorsFit env bodies ds → DeclaratorsAim env ds →
      AllAlike (typed.all_of_all (elab.declaring env model bodies ss ds)) (xs ++ source.all_declarators ds)
  declaring_alike ss xs t.no_declarators h f a = padded (typed.all_of_all ss) xs h
  declaring_alike ss xs (t.declarators_and ds c (t.named n at) form ats i) h f a =
      grouped _ xs (source.all_declarators ds) (source.all_initial i)
      (begun (elab.declaring env model bodies ss ds) (xs ++ source.all_declarators ds) i (object_number (declared_at env at)) (declaring_alike ss xs ds h f.0 a.0) f.1 a.1)

  option_alike : (e : Option t.Ex) → OptionFits env bodies e → OptionAims env e → AllAlike (typed.all_option (elab.option_value env model bodies e)) (source.all_option e)
  option_alike None f a = tt
  option_alike (Some e) f a = (value_alike e f a, tt)

  start_alike : (s : t.ForStart) → StartFits env bodies s → StartAims env s → AllAlike (typed.all_of_all (elab.for_start env model bodies s)) (source.all_start s)
  start_alike (t.forDeclares (t.declares ws ds b)) f a = declaring_alike p.no_steps [] ds tt f a
  start_alike (t.forExpr None at) f a = tt
  start_alike (t.forExpr (Some e) at) f a = (value_alike e f a, tt)

  returned_alike : (r : Option Kind) (e : Option t.Ex) → OptionFits env bodies e → OptionAims env e → AllAlike (typed.all_option (elab.returned env model bodies r e)) (source.all_option e)
  returned_alike r None f a = tt
  returned_alike None (Some e) f a = (value_alike e f a, tt)
  returned_alike (Some k) (Some e) f a = (converted_alike k e f a, tt)

  -- ---- Statements

  module _ (result : Option Kind) where
    abbrev S : t.Sts → p.Steps
    S ss = elab.steps env model bodies result ss

    abbrev P : t.St → p.Step
    P s = elab.step env model bodies result s

    mutual
      step_alike : (s : t.St) → StatementFits env bodies s → StatementAims env s → AllAlike (typed.all_values (P s)) (source.all_expressions s)
      step_alike (t.sDeclaration (t.declares ws ds b)) f a = declaring_alike p.no_steps [] ds tt f a
      step_alike (t.sBlock x ss b) f a = steps_alike ss f a
      step_alike (t.sEmpty at) f a = tt
      step_alike (t.sExpr e at) f a = (value_alike e f a, tt)
      step_alike (t.sIf (t.head at x e b) s) f a = (value_alike e f.0 a.0, step_alike s f.1 a.1)
      step_alike (t.sIfElse (t.head at x e b) s y u) f a = (value_alike e f.0 a.0, joined _ (source.all_expressions s) _ (source.all_expressions u) (step_alike s f.1 a.1) (step_alike u f.2 a.2))
      step_alike (t.sWhile (t.head at x e b) s) f a = (value_alike e f.0 a.0, step_alike s f.1 a.1)
      step_alike (t.sSwitch (t.head at x e b) s) f a = (converted_alike _ e f.0 a.0, step_alike s f.1 a.1)
      step_alike (t.sDo at s (t.head w x e b) y) f a = joined _ (source.all_expressions s) _ (e ∷ []) (step_alike s f.1 a.1) (value_alike e f.0 a.0, tt)
      step_alike (t.sFor (t.for_head at x start test y step b) s) f a =
          joined _ (source.all_start start ++ source.all_option test ++ source.all_option step) _ (source.all_expressions s)
          (joined _ (source.all_start start ++ source.all_option test) _ (source.all_option step)
          (joined _ (source.all_start start) _ (source.all_option test) (start_alike start f.0.0 a.0.0) (option_alike test f.0.1 a.0.1)) (option_alike step f.0.2 a.0.2))
          (step_alike s f.1 a.1)
      step_alike (t.sCase at e b s) f a = step_alike s f a
      step_alike (t.sDefault at b s) f a = step_alike s f a
      step_alike (t.sLabel n at b ats s) f a = step_alike s f a
      step_alike (t.sGoto at n x b) f a = tt
      step_alike (t.sBreak at b) f a = tt
      step_alike (t.sContinue at b) f a = tt
      step_alike (t.sReturn at e b) f a = returned_alike result e f a

      pub steps_alike : (ss : t.Sts) → StatementsFit env bodies ss → StatementsAim env ss → AllAlike (typed.all_of_all (S ss)) (source.all_of_all ss)
      steps_alike t.no_statements f a = tt
      steps_alike (t.statements_and ss (t.sDeclaration (t.declares ws ds b))) f a = declaring_alike (S ss) (source.all_of_all ss) ds (steps_alike ss f.0 a.0) f.1 a.1
      steps_alike (t.statements_and ss s) f a = joined (typed.all_of_all (S ss)) (source.all_of_all ss) _ (source.all_expressions s) (steps_alike ss f.0 a.0) (step_alike s f.1 a.1)

  -- ---- Lists of values

  pub unsequenced_alike : (vs : List p.Val) (es : List t.Ex) → AllAlike vs es → typed.unsequenced_of vs ≡ source.unsequenced_of env es
  unsequenced_alike [] [] h = refl
  unsequenced_alike [] (e ∷ es) h = absurd h
  unsequenced_alike (v ∷ vs) [] h = absurd h
  unsequenced_alike (v ∷ vs) (e ∷ es) h = both h.0.unsequenced (unsequenced_alike vs es h.1)

  pub calls_alike : (vs : List p.Val) (es : List t.Ex) → AllAlike vs es → typed.calls_of vs ≡ map same_call (source.calls_of env bodies es)
  calls_alike [] [] h = refl
  calls_alike [] (e ∷ es) h = absurd h
  calls_alike (v ∷ vs) [] h = absurd h
  calls_alike (v ∷ vs) (e ∷ es) h = both h.0.calls (calls_alike vs es h.1) ∙ sym (map-append same_call (source.calls env bodies e) (source.calls_of env bodies es))
