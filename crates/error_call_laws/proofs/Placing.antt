-- A typed value calls `reach_error` where its expression does.
use Rattle.std.proofs.Common.{◌≡◌, ℕ, List, [], ◌∷◌, ◌++◌, map, append-nil, append_assoc, Option, None, Some, bytes_eq, refl, ap, sym, ◌∙◌, subst}
use Rattle.std.specs.Prelude.{position, slice_get}
use Rattle.lv_base.specs.declared.kind.Kind.{Kind}
use Rattle.lv_base.specs.declared.kind.Model.{Model}
use Rattle.c_run.specs.Breaking.{Broken}
use Rattle.c_tree.specs.declared.symbol.BinaryOp.TheVariants as op
use Rattle.c_tree.specs.declared.symbol.AssignOp.TheVariants as to
use Rattle.c_tree.specs.declared.tree.PrefixOp.TheVariants as pre
use Rattle.c_tree.specs.Tree as t
use Rattle.c_tree.specs.Denotes.{tree_of}
use Rattle.c_tree.specs.Symbols.{signs_of}
use Rattle.c_meaning.specs.Kinds.{CType, tKind, tVoid, tArray, tFunction, tNone}
use Rattle.c_meaning.specs.Bindings.{Env, Entity, anObjectOf, aFunctionOf, aConstantOf, aTypeOf, aTagOf, aNameOf, nothingOf, Object, entity_of, object_number, declared_at, words_type}
use Rattle.c_meaning.specs.Good.{or_control}
use Rattle.c_meaning.specs.Jumps as source
use Rattle.c_meaning.specs.Known.{Known, reaches, aborts, draws, known_of}
use Rattle.c_meaning.specs.Program.{Function, functions_of, env_of}
use Rattle.c_meaning.specs.Types.{type_of}
use Rattle.c_meaning.specs.Value.{parameters_of}
use Rattle.c_typed.specs.Rules as typed
use Rattle.c_typed.specs.Tree as p
use Rattle.c_types.specs.Elaborated as elab
use Rattle.c_types.specs.Fit.{AreNone, IsThere, NumberFits, EntityFits, NameFits, Fits, AllFit, OptionFits, InitialFits, DeclaratorsFit, StartFits, StatementFits, StatementsFit, BodiesFit}
use Rattle.control_laws.specs.Aims.{Aims, AllAim, OptionAims, InitialAims, DeclaratorsAim, StartAims, StatementAims, StatementsAim, BodiesAim}
use Rattle.elaboration_fit_laws.specs.Whole.{SourcesFit}
use Rattle.elaboration_offset_laws.specs.Laws.{SourcesHold}
use Rattle.elaboration_source_laws.specs.Laws.{TokensRise}
use Rattle.error_call_laws.specs.Reaches.{place_of, place_in, places, places_in, place_by, places_of, reached_in, value_places, list_places, goal_places, values_places, typed_reached}
use Rattle.error_call_laws.specs.Laws.{CallsKept, ReachesKept}

both : {A : Type 0} (xs ys us vs : List A) → xs ≡ ys → us ≡ vs → xs ++ us ≡ ys ++ vs
both xs ys us vs h k = ap (λ z. z ++ us) h ∙ ap (λ z. ys ++ z) k

-- ---- Names, casts and choices

scalar_none : (number : ℕ) (k : Kind) (n : Option ℕ) → value_places (elab.scalar_or_array number k n) ≡ []
scalar_none number k None = refl
scalar_none number k (Some n) = refl

object_none : (number : ℕ) (o : Option Object) → value_places (elab.object_value number o) ≡ []
object_none number None = refl
object_none number (Some o) = scalar_none number o.kind o.length

named_none : (env : Env) (e : Entity) → value_places (elab.named_value env e) ≡ []
named_none env (anObjectOf number) = object_none number (slice_get env.objects number)
named_none env (aFunctionOf r ps) = refl
named_none env (aConstantOf v) = refl
named_none env (aTypeOf k c) = refl
named_none env (aTagOf k) = refl
named_none env (aNameOf k c) = refl
named_none env nothingOf = refl

cast_same : (k : CType) (v : p.Val) → value_places (elab.cast_to k v) ≡ value_places v
cast_same (tKind k) v = refl
cast_same tVoid v = refl
cast_same (tArray k n) v = refl
cast_same (tFunction r ps) v = refl
cast_same tNone v = refl

choice_same : (k : CType) (c a b : p.Val) → value_places (elab.choice k c a b) ≡ value_places c ++ value_places a ++ value_places b
choice_same (tKind k) c a b = refl
choice_same tVoid c a b = refl
choice_same (tArray k n) c a b = refl
choice_same (tFunction r ps) c a b = refl
choice_same tNone c a b = refl

module _ (env : Env) (model : Model) (bodies : List (List ℕ)) where
  abbrev E : t.Ex → p.Val
  E e = elab.value env model bodies e

  abbrev G : t.Ex → p.Goal
  G e = elab.goal env model bodies e

  -- ---- Calls

  none_in : (es : t.Parts) → AreNone es → places_in env es ≡ []
  none_in t.no_parts h = refl
  none_in (t.parts_and es c e) h = absurd h

  called_same : (r : Option Kind) (at bracket : ℕ) (o : Option ℕ) (vs : p.Vals) → IsThere o → value_places (elab.called env model bodies r at bracket o vs) ≡ list_places vs
  called_same r at bracket None vs h = absurd h
  called_same r at bracket (Some f) vs h = refl

  drawn_none : (r : Option Kind) (k : Kind) → value_places (elab.drawn_as r (p.vDraw k)) ≡ []
  drawn_none None k = refl
  drawn_none (Some l) k = refl

  number_same : (k : Option Known) (r : Option Kind) (n : List ℕ) (at bracket : ℕ) (es : t.Parts) (vs : p.Vals) → NumberFits env bodies k n es → list_places vs ≡ places_in env es →
      value_places (elab.called_known env model bodies k r n at bracket vs) ≡ place_of k at ++ places_in env es
  number_same (Some reaches) r n at bracket es vs h l = ap (λ xs. at ∷ xs) (sym (none_in es h))
  number_same (Some aborts) r n at bracket es vs h l = sym (none_in es h)
  number_same (Some (draws k)) r n at bracket es vs h l = drawn_none r k ∙ sym (none_in es h)
  number_same None r n at bracket es vs h l = called_same r at bracket (position (λ m. bytes_eq m n) bodies) vs h ∙ l

  entity_same : (x : Entity) (n : List ℕ) (at bracket : ℕ) (es : t.Parts) (vs : p.Vals) → EntityFits env bodies x n es → list_places vs ≡ places_in env es →
      value_places (elab.called_entity env model bodies x n at bracket vs) ≡ place_in x n at ++ places_in env es
  entity_same (aFunctionOf r ps) n at bracket es vs h l = number_same (known_of n) r n at bracket es vs h l
  entity_same (anObjectOf m) n at bracket es vs h l = absurd h
  entity_same (aConstantOf v) n at bracket es vs h l = absurd h
  entity_same (aTypeOf k c) n at bracket es vs h l = absurd h
  entity_same (aTagOf k) n at bracket es vs h l = absurd h
  entity_same (aNameOf k c) n at bracket es vs h l = absurd h
  entity_same nothingOf n at bracket es vs h l = absurd h

  call_same : (f : t.Ex) (bracket : ℕ) (es : t.Parts) (vs : p.Vals) → NameFits env bodies f es → list_places vs ≡ places_in env es → value_places (elab.called_name env model bodies f bracket vs) ≡ place_by env f ++ places_in env es
  call_same (t.eName n at) bracket es vs h l = entity_same (entity_of env n at) n at bracket es vs h l
  call_same f bracket es vs h l = absurd h

  -- ---- Expressions

  mutual
    same : (e : t.Ex) → Fits env bodies e → Aims env e → value_places (E e) ≡ places env e
    same (t.eName n at) f a = named_none env (entity_of env n at)
    same (t.eNumber v form at) f a = refl
    same (t.eLetter v at) f a = refl
    same (t.eParen x e y) f a = same e f a
    same (t.eCall g x es y) f a = call_same g x es (elab.arguments env model bodies (parameters_of env g) es) f.0 (arguments_same (parameters_of env g) es f.1 a)
    same (t.eIndex b x i y) f a = same i f.1 a
    same (t.ePostfix e c at) f a = goal_same e f a.0 a.1
    same (t.ePrefix pre.Increment at e) f a = goal_same e f a.0 a.1
    same (t.ePrefix pre.Decrement at e) f a = goal_same e f a.0 a.1
    same (t.ePrefix pre.Plus at e) f a = same e f a
    same (t.ePrefix pre.Minus at e) f a = same e f a
    same (t.ePrefix pre.Complement at e) f a = same e f a
    same (t.ePrefix pre.Not at e) f a = same e f a
    same (t.ePrefix pre.Extension at e) f a = same e f a
    same (t.ePrefix pre.Sizeof at e) f a = refl
    same (t.eSizeof at x ws y) f a = refl
    same (t.eCast x ws y e) f a = cast_same (words_type env ws) (E e) ∙ same e f a
    same (t.eBinary x op.AndAlso at y) f a = both _ _ _ _ (same x f.0 a.0) (same y f.1 a.1)
    same (t.eBinary x op.OrElse at y) f a = both _ _ _ _ (same x f.0 a.0) (same y f.1 a.1)
    same (t.eBinary x o at y) f a = both _ _ _ _ (same x f.0 a.0) (same y f.1 a.1)
    same (t.eCond c q x r y) f a = choice_same (type_of env model (t.eCond c q x r y)) (E c) (E x) (E y) ∙ both _ _ _ _ (both _ _ _ _ (same c f.0 a.0) (same x f.1 a.1)) (same y f.2 a.2)
    same (t.eAssign x to.Plain at y) f a = both _ _ _ _ (goal_same x f.0 a.0 a.1) (same y f.1 a.2)
    same (t.eAssign x o at y) f a = both _ _ _ _ (goal_same x f.0 a.0 a.1) (same y f.1 a.2)
    same (t.eComma t.no_parts) f a = refl
    same (t.eComma (t.parts_and es c e)) f a = both _ _ _ _ (values_same es f.0 a.0) (same e f.1 a.1)

    goal_same : (e : t.Ex) → Fits env bodies e → IsThere (source.object_in env e) → Aims env e → goal_places (G e) ≡ places env e
    goal_same (t.eName n at) f h a = refl
    goal_same (t.eIndex b x i y) f h a = same i f.1 a
    goal_same (t.eParen x e y) f h a = goal_same e f h a
    goal_same (t.ePrefix pre.Extension at e) f h a = goal_same e f h a
    goal_same e f h a = absurd h

    values_same : (es : t.Parts) → AllFit env bodies es → AllAim env es → list_places (elab.values env model bodies es) ≡ places_in env es
    values_same t.no_parts f a = refl
    values_same (t.parts_and es c e) f a = both _ _ _ _ (values_same es f.0 a.0) (same e f.1 a.1)

    arguments_same : (ks : List Kind) (es : t.Parts) → AllFit env bodies es → AllAim env es → list_places (elab.arguments env model bodies ks es) ≡ places_in env es
    arguments_same ks t.no_parts f a = refl
    arguments_same ks (t.parts_and es c e) f a = both _ _ _ _ (arguments_same ks es f.0 a.0) (same e f.1 a.1)

  -- ---- Lists of values and of expressions

  abbrev Alike : p.Val → t.Ex → Type 0
  Alike v e = value_places v ≡ places env e

  abbrev AllAlike : List p.Val → List t.Ex → Type 0
  AllAlike [] [] = Unit {0}
  AllAlike (v ∷ vs) (e ∷ es) = Alike v e × AllAlike vs es
  AllAlike _ _ = ⊥

  joined : (vs : List p.Val) (es : List t.Ex) (ws : List p.Val) (fs : List t.Ex) → AllAlike vs es → AllAlike ws fs → AllAlike (vs ++ ws) (es ++ fs)
  joined [] [] ws fs a b = b
  joined [] (e ∷ es) ws fs a b = absurd a
  joined (v ∷ vs) [] ws fs a b = absurd a
  joined (v ∷ vs) (e ∷ es) ws fs a b = (a.0, joined vs es ws fs a.1 b)

  padded : (vs : List p.Val) (es : List t.Ex) → AllAlike vs es → AllAlike vs (es ++ [])
  padded vs es a = subst (AllAlike vs) (sym (append-nil es)) a

  grouped : (vs : List p.Val) (es fs gs : List t.Ex) → AllAlike vs (es ++ fs ++ gs) → AllAlike vs (es ++ (fs ++ gs))
  grouped vs es fs gs a = subst (AllAlike vs) (append_assoc es fs gs) a

  all_same : (vs : List p.Val) (es : List t.Ex) → AllAlike vs es → values_places vs ≡ places_of env es
  all_same [] [] h = refl
  all_same [] (e ∷ es) h = absurd h
  all_same (v ∷ vs) [] h = absurd h
  all_same (v ∷ vs) (e ∷ es) h = both _ _ _ _ h.0 (all_same vs es h.1)

  -- ---- Declarations

  values_alike : (k : Kind) (es : t.Parts) → AllFit env bodies es → AllAim env es → AllAlike (typed.all_parts (elab.values_as env model bodies k es)) (source.all_parts es)
  values_alike k t.no_parts f a = tt
  values_alike k (t.parts_and es c e) f a = joined _ (source.all_parts es) _ (e ∷ []) (values_alike k es f.0 a.0) (same e f.1 a.1, tt)

  begun : (ss : p.Steps) (xs : List t.Ex) (i : t.Initial) (o : Option ℕ) → AllAlike (typed.all_of_all ss) xs → InitialFits env bodies i o → InitialAims env i o →
      AllAlike (typed.all_of_all (elab.beginning env model bodies ss i o)) (xs ++ source.all_initial i)
  begun ss xs t.iNothing None h f a = padded (typed.all_of_all ss) xs h
  begun ss xs t.iNothing (Some o) h f a = joined (typed.all_of_all ss) xs [] [] h tt
  begun ss xs (t.iValue at e) None h f a = absurd a.0
  begun ss xs (t.iValue at e) (Some o) h f a = joined (typed.all_of_all ss) xs _ (e ∷ []) h (same e f.1 a.1, tt)
  begun ss xs (t.iList at b es c d) None h f a = absurd a.0
  begun ss xs (t.iList at b es c d) (Some o) h f a = joined (typed.all_of_all ss) xs _ (source.all_parts es) h (values_alike (elab.object_kind env model bodies o) es f a.1)

  declaring_alike : (ss : p.Steps) (xs : List t.Ex) (ds : t.Decs) → AllAlike (typed.all_of_all ss) xs → DeclaratorsFit env bodies ds → DeclaratorsAim env ds →
      AllAlike (typed.all_of_all (elab.declaring env model bodies ss ds)) (xs ++ source.all_declarators ds)
  declaring_alike ss xs t.no_declarators h f a = padded (typed.all_of_all ss) xs h
  declaring_alike ss xs (t.declarators_and ds c (t.named n at) form ats i) h f a =
      grouped _ xs (source.all_declarators ds) (source.all_initial i)
      (begun (elab.declaring env model bodies ss ds) (xs ++ source.all_declarators ds) i (object_number (declared_at env at)) (declaring_alike ss xs ds h f.0 a.0) f.1 a.1)

  option_alike : (e : Option t.Ex) → OptionFits env bodies e → OptionAims env e → AllAlike (typed.all_option (elab.option_value env model bodies e)) (source.all_option e)
  option_alike None f a = tt
  option_alike (Some e) f a = (same e f a, tt)

  start_alike : (s : t.ForStart) → StartFits env bodies s → StartAims env s → AllAlike (typed.all_of_all (elab.for_start env model bodies s)) (source.all_start s)
  start_alike (t.forDeclares (t.declares ws ds b)) f a = declaring_alike p.no_steps [] ds tt f a
  start_alike (t.forExpr None at) f a = tt
  start_alike (t.forExpr (Some e) at) f a = (same e f a, tt)

  returned_alike : (r : Option Kind) (e : Option t.Ex) → OptionFits env bodies e → OptionAims env e → AllAlike (typed.all_option (elab.returned env model bodies r e)) (source.all_option e)
  returned_alike r None f a = tt
  returned_alike None (Some e) f a = (same e f a, tt)
  returned_alike (Some k) (Some e) f a = (same e f a, tt)

  -- ---- Statements

  module _ (result : Option Kind) where
    abbrev S : t.Sts → p.Steps
    S ss = elab.steps env model bodies result ss

    abbrev P : t.St → p.Step
    P s = elab.step env model bodies result s

    mutual
      step_alike : (s : t.St) → StatementFits env bodies s → StatementAims env s → AllAlike (typed.all_values (P s)) (source.all_expressions s)
      step_alike (t.sDeclaration (t.declares ws ds b)) f a = declaring_alike p.no_steps [] ds tt f a
      step_alike (t.sBlock x ss b) f a = steps_alike ss f a
      step_alike (t.sEmpty at) f a = tt
      step_alike (t.sExpr e at) f a = (same e f a, tt)
      step_alike (t.sIf (t.head at x e b) s) f a = (same e f.0 a.0, step_alike s f.1 a.1)
      step_alike (t.sIfElse (t.head at x e b) s y u) f a = (same e f.0 a.0, joined _ (source.all_expressions s) _ (source.all_expressions u) (step_alike s f.1 a.1) (step_alike u f.2 a.2))
      step_alike (t.sWhile (t.head at x e b) s) f a = (same e f.0 a.0, step_alike s f.1 a.1)
      step_alike (t.sSwitch (t.head at x e b) s) f a = (same e f.0 a.0, step_alike s f.1 a.1)
      step_alike (t.sDo at s (t.head w x e b) y) f a = joined _ (source.all_expressions s) _ (e ∷ []) (step_alike s f.1 a.1) (same e f.0 a.0, tt)
      step_alike (t.sFor (t.for_head at x start test y step b) s) f a =
          joined _ (source.all_start start ++ source.all_option test ++ source.all_option step) _ (source.all_expressions s)
          (joined _ (source.all_start start ++ source.all_option test) _ (source.all_option step)
          (joined _ (source.all_start start) _ (source.all_option test) (start_alike start f.0.0 a.0.0) (option_alike test f.0.1 a.0.1)) (option_alike step f.0.2 a.0.2))
          (step_alike s f.1 a.1)
      step_alike (t.sCase at e b s) f a = step_alike s f a
      step_alike (t.sDefault at b s) f a = step_alike s f a
      step_alike (t.sLabel n at b ats s) f a = step_alike s f a
      step_alike (t.sGoto at n x b) f a = tt
      step_alike (t.sBreak at b) f a = tt
      step_alike (t.sContinue at b) f a = tt
      step_alike (t.sReturn at e b) f a = returned_alike result e f a

      steps_alike : (ss : t.Sts) → StatementsFit env bodies ss → StatementsAim env ss → AllAlike (typed.all_of_all (S ss)) (source.all_of_all ss)
      steps_alike t.no_statements f a = tt
      steps_alike (t.statements_and ss (t.sDeclaration (t.declares ws ds b))) f a = declaring_alike (S ss) (source.all_of_all ss) ds (steps_alike ss f.0 a.0) f.1 a.1
      steps_alike (t.statements_and ss s) f a = joined (typed.all_of_all (S ss)) (source.all_of_all ss) _ (source.all_expressions s) (steps_alike ss f.0 a.0) (step_alike s f.1 a.1)

  functions_same : (fs : List Function) → BodiesFit env bodies fs → BodiesAim env fs → map typed_reached (map (elab.function_of env model bodies) fs) ≡ map (reached_in env) fs
  functions_same [] f a = refl
  functions_same (g ∷ fs) f a =
      ap (λ xs. (record { name = g.name; places = xs }) ∷ map typed_reached (map (elab.function_of env model bodies) fs)) (all_same _ _ (steps_alike g.result g.body f.0 a.0))
      ∙ ap (λ xs. reached_in env g ∷ xs) (functions_same fs f.1 a.1)

or_left : (xs ys : List Broken) → or_control xs ys ≡ [] → xs ≡ []
or_left [] ys h = refl
or_left (x ∷ xs) ys h = cc

pub calls_kept_are : SourcesHold → SourcesFit → CallsKept
calls_kept_are holds fits tokens items model spelled rises right =
    let env = env_of items model in
    let fit = fits items model (holds tokens items model spelled rises right) right in
    functions_same env model (map (λ f. f.name) (functions_of env items)) (functions_of env items) fit.1.fits fit.1.aims

pub reaches_kept_are : TokensRise → SourcesHold → SourcesFit → ReachesKept
reaches_kept_are rise holds fits text list tree model tokens denotes good =
    calls_kept_are holds fits (signs_of list) (tree_of tree) model denotes (rise text list tokens) (or_left _ _ good)
