-- Statements, functions and whole programs run the same with each arithmetic that agrees with C's, in each way that suits the objects.
use Rattle.std.proofs.Common.{◌≡◌, ℕ, zero, suc, ◌+◌, ◌-◌, List, [], ◌∷◌, ◌++◌, length, replicate, Option, Some, None, ℤ, pos, slice_get, slice_index_or, refl, sym, ap, ◌∙◌, subst}
use Rattle.std.specs.List.{All}
use Rattle.std.proofs.lemmas.List.Elements.{All-head, All-tail}
use Rattle.lv_base.specs.declared.kind.Kind.{Kind}
use Rattle.lv_base.specs.declared.kind.Model.{Model}
use Rattle.lv_base.specs.Integers.{InRange, arith_of, converted}
use Rattle.c_run.specs.Run.{State, Spent, Run, Compute, give, after, turn, choose, store_all, padded, is_true}
use Rattle.c_run.specs.Operators.{Use, used, dropped}
use Rattle.c_run.specs.Loops.{Place, toLabel, toCase, toDefault, From, Start, Seek, Exit, Normal, Broke, Continued, Returned, Jumped, Absent, Calls, leave_switch, bind_parameters, enter}
use Rattle.c_typed.specs.Tree.{Val, Vals, no_values, values_and, Step, pDraw, pBegin, pBlock, pEmpty, pEffect, pIf, pIfElse, pWhile, pSwitch, pDo, pFor, pCase, pDefault, pLabel, pGoto, pBreak, pContinue, pReturn, Steps, no_steps, steps_and, Owner, static, local, Object, Function, Program}
use Rattle.c_typed.specs.Facts.{Fits, AllOf, OptionFits, TestFits, ReturnFits, StepFits, StepsFit, IsParameter, FunctionFits, FunctionsFit, ObjectFits, FirstFits, IsTyped}
use Rattle.c_typed.specs.Run as run
use Rattle.typed_range_laws.specs.Guards.{guarded}
use Rattle.typed_range_laws.specs.Ways.{Agrees, Way, Suits, as_it_is}
use Rattle.typed_range_laws.specs.Keeping.{bind_kept}
use Rattle.typed_range_laws.specs.Keeping as keeping
use Rattle.typed_range_laws.specs.Laws.{run_by, run_with, RunsAgreeing, RunsEachWay, RunsGuarded}
use Rattle.typed_range_laws.proofs.Ranging.{guard_open, converted_in_range}
use Rattle.typed_range_laws.proofs.Agreeing.{Good, Alike, binds, gives, stops, weaker, chosen, turns, stores, Each, each_more, each_none, each_both, each_zero, all_draws, all_kept, Left, Gave, Entered, rows, elses, founds, nexts, loops, switches, enters}
use Rattle.typed_range_laws.proofs.Typing.{Arguments, CallsAlike, T, P, OfVal, of_kind, value_alike}

module _ (model : Model) (objects : List Object) (functions : List Function) (inputs : List ℤ) (compute compute' : Compute) (agrees : Agrees model compute) (agrees' : Agrees model compute') (way : Way) (suits : Suits model objects way) (call call' : Calls) (hc : CallsAlike model objects functions inputs call call') where
  abbrev V : Use → Val → Run ℤ
  V u e = T model objects functions inputs compute compute' agrees agrees' way suits call call' hc u e

  abbrev W : Use → Val → Run ℤ
  W u e = P model objects functions inputs compute compute' agrees agrees' way suits call call' hc u e

  abbrev In : Val → ℤ → Type 0
  In e v = OfVal model objects functions inputs compute compute' agrees agrees' way suits call call' hc e v

  value : (u : Use) (e : Val) → Fits model objects functions e → Alike model objects ℤ (In e) (V u e) (W u e)
  value u e f = value_alike model objects functions inputs compute compute' agrees agrees' way suits call call' hc u e f

  abbrev Any : ℤ → Type 0
  Any v = Unit {0}

  each_alike : (k : Kind) (es : Vals) → AllOf model objects functions k es → Alike model objects (List ℤ) (Each model objects k) (keeping.values model objects compute way inputs call es) (run.values model objects compute' inputs call' es)
  each_alike k no_values f = gives model objects (List ℤ) (Each model objects k) [] (each_none model objects k)
  each_alike k (values_and es e) f =
      binds model objects (List ℤ) (List ℤ) (Each model objects k) (Each model objects k) _ _ _ _ (each_alike k es f.0)
      (λ vs h. binds model objects ℤ (List ℤ) (In e) (Each model objects k) (V used e) (W used e) _ _ (value used e f.2)
      (λ v o. gives model objects (List ℤ) (Each model objects k) (vs ++ v ∷ []) (each_both model objects k vs (v ∷ []) h (each_more model objects k v [] (of_kind model objects functions inputs compute compute' agrees agrees' way suits call call' hc e k v f.1 o) (each_none model objects k)))))

  effect_alike : (e : Option Val) → OptionFits model objects functions e → Alike model objects (Unit {0}) (λ v. Unit {0}) (keeping.effect_of model objects compute way inputs call e) (run.effect_of model objects compute' inputs call' e)
  effect_alike None f = gives model objects (Unit {0}) (λ v. Unit {0}) tt tt
  effect_alike (Some e) f = binds model objects ℤ (Unit {0}) (In e) (λ v. Unit {0}) (V dropped e) (W dropped e) _ _ (value dropped e f) (λ v h. gives model objects (Unit {0}) (λ x. Unit {0}) tt tt)

  test_alike : (e : Option Val) → TestFits model objects functions e → Alike model objects ℤ Any (keeping.test_of model objects compute way inputs call e) (run.test_of model objects compute' inputs call' e)
  test_alike None f = gives model objects ℤ Any (pos 1) tt
  test_alike (Some e) f = weaker model objects ℤ (In e) Any (V used e) (W used e) (λ v h. tt) (value used e f.1)

  module _ (function : ℕ) (result : Option Kind) (n : ℕ) where
    abbrev L : Exit → Type 0
    L = Left model objects result

    abbrev X : Step → From → Run Exit
    X s from = keeping.exec model objects compute way inputs call result n s from

    abbrev Y : Step → From → Run Exit
    Y s from = run.exec model objects compute' inputs call' result n s from

    abbrev Xs : Steps → From → Run Exit
    Xs ss from = keeping.exec_all model objects compute way inputs call result n ss from

    abbrev Ys : Steps → From → Run Exit
    Ys ss from = run.exec_all model objects compute' inputs call' result n ss from

    returned_alike : (r : Option Kind) (e : Option Val) → ReturnFits model objects functions r e → Alike model objects Exit (Left model objects r) (keeping.returned model objects compute way inputs call r e) (run.returned model objects compute' inputs call' r e)
    returned_alike r None f = gives model objects Exit (Left model objects r) (Returned None) tt
    returned_alike None (Some e) f = binds model objects ℤ Exit (In e) (Left model objects None) (V dropped e) (W dropped e) _ _ (value dropped e f) (λ v h. gives model objects Exit (Left model objects None) (Returned None) tt)
    returned_alike (Some k) (Some e) f =
        binds model objects ℤ Exit (In e) (Left model objects (Some k)) (V used e) (W used e) _ _ (value used e f.1)
        (λ v h. gives model objects Exit (Left model objects (Some k)) (Returned (Some v)) (of_kind model objects functions inputs compute compute' agrees agrees' way suits call call' hc e k v f.0 h))

    left_switch : (x : Exit) → L x → L (leave_switch x)
    left_switch Normal l = tt
    left_switch Broke l = tt
    left_switch Continued l = tt
    left_switch (Returned r) l = l
    left_switch (Jumped m) l = tt
    left_switch Absent l = tt

    stored : (o : ℕ) (vs : List ℤ) → ((told : Object) → slice_get objects o ≡ Some told → Each model objects told.kind vs) → Alike model objects Exit L (λ st. after (store_all o vs st) (λ v. give Normal)) (λ st. after (store_all o vs st) (λ v. give Normal))
    stored o vs h = binds model objects (Unit {0}) Exit (λ v. Unit {0}) L (store_all o vs) (store_all o vs) _ _ (stores model objects o vs h) (λ v u. gives model objects Exit L Normal tt)

    abbrev room : ℕ → ℕ
    room o = run.size_of (slice_get objects o)

    abbrev begun : ℕ → List ℤ → Run Exit
    begun o vs st = after (store_all o (padded (room o) vs) st) (λ v. give Normal)

    same_kind : (a b : Object) (o : ℕ) → slice_get objects o ≡ Some a → slice_get objects o ≡ Some b → a.kind ≡ b.kind
    same_kind a b o x y = let e : a ≡ b = cc in ap (λ z. z.kind) e

    absent : Alike model objects Exit L (give Absent) (give Absent)
    absent = gives model objects Exit L Absent tt

    round : (at : ℕ) (e : Val) (s : Step) → Fits model objects functions e → Alike model objects Exit L (X s Start) (Y s Start) →
        Alike model objects Exit L (Rattle.c_run.specs.Loops.loop at n (V used e) (X s Start) (give tt)) (Rattle.c_run.specs.Loops.loop at n (W used e) (Y s Start) (give tt))
    round at e s f h = loops model objects result n at (V used e) (W used e) (X s Start) (Y s Start) (give tt) (give tt) (In e) (value used e f) h (gives model objects (Unit {0}) (λ v. Unit {0}) tt tt)

    -- a case is told as by equality
    case_told : (p : Place) (v : ℤ) → Entered model objects (Seek p) → keeping.is_case model objects compute way inputs call p v ≡ run.is_case model objects compute' inputs call' p v
    case_told (toLabel l) v r = refl
    case_told (toCase k x) v r = suits.tells k x (converted k model v) r (converted_in_range k model v)
    case_told toDefault v r = refl

    mutual
      step_alike : (s : Step) (from : From) → StepFits model objects functions function result s → Entered model objects from → Alike model objects Exit L (X s from) (Y s from)
      step_alike (pDraw o) Start f j =
          binds model objects (List ℤ) Exit (Each model objects (run.kind_of (slice_get objects o))) L _ _ _ _ (all_draws model objects inputs (run.kind_of (slice_get objects o)) (run.count_of model objects compute' inputs call o))
          (λ vs h. stored o vs (λ told there. subst (λ k. Each model objects k vs) (ap (λ x. run.kind_of x) there) h))
      step_alike (pBegin o es) Start f j =
          binds model objects (List ℤ) Exit (Each model objects f.told.kind) L _ _ _ _ (each_alike f.told.kind es f.values)
          (λ vs h. subst (λ ws. Alike model objects Exit L (begun o ws) (begun o vs)) (sym (all_kept model objects way suits o f.told vs f.there h))
          (stored o (padded (room o) vs)
          (λ told there. subst (λ k. Each model objects k (padded (room o) vs)) (same_kind f.told told o f.there there)
          (each_both model objects f.told.kind vs (replicate (room o - length vs) (pos 0)) h (each_zero model objects f.told.kind (room o - length vs))))))
      step_alike (pBlock ss) from f j = steps_alike ss from f j
      step_alike pEmpty Start f j = gives model objects Exit L Normal tt
      step_alike (pEffect e) Start f j = binds model objects ℤ Exit (In e) L (V dropped e) (W dropped e) _ _ (value dropped e f) (λ v h. gives model objects Exit L Normal tt)
      step_alike (pIf e s) Start f j = binds model objects ℤ Exit (In e) L (V used e) (W used e) _ _ (value used e f.1) (λ v h. chosen model objects Exit L (is_true v) _ _ _ _ (step_alike s Start f.2 tt) (gives model objects Exit L Normal tt))
      step_alike (pIf e s) (Seek p) f j = step_alike s (Seek p) f.2 j
      step_alike (pIfElse e s r) Start f j = binds model objects ℤ Exit (In e) L (V used e) (W used e) _ _ (value used e f.1) (λ v h. chosen model objects Exit L (is_true v) _ _ _ _ (step_alike s Start f.2 tt) (step_alike r Start f.3 tt))
      step_alike (pIfElse e s r) (Seek p) f j = elses model objects result (X s (Seek p)) (Y s (Seek p)) (X r (Seek p)) (Y r (Seek p)) (step_alike s (Seek p) f.2 j) (step_alike r (Seek p) f.3 j)
      step_alike (pWhile at e s) Start f j = round at e s f.1 (step_alike s Start f.2 tt)
      step_alike (pWhile at e s) (Seek p) f j = nexts model objects result (X s (Seek p)) (Y s (Seek p)) _ _ (step_alike s (Seek p) f.2 j) (round at e s f.1 (step_alike s Start f.2 tt))
      step_alike (pDo at s e) from f j = nexts model objects result (X s from) (Y s from) _ _ (step_alike s from f.0 j) (round at e s f.2 (step_alike s Start f.0 tt))
      step_alike (pFor at start e step s) Start f j =
          rows model objects result (Xs start Start) (Ys start Start) _ _ (steps_alike start Start f.0 tt) (loops model objects result n at _ _ (X s Start) (Y s Start) _ _ Any (test_alike e f.1) (step_alike s Start f.3 tt) (effect_alike step f.2))
      step_alike (pFor at start e step s) (Seek p) f j =
          nexts model objects result (X s (Seek p)) (Y s (Seek p)) _ _ (step_alike s (Seek p) f.3 j)
          (binds model objects (Unit {0}) Exit (λ v. Unit {0}) L _ _ _ _ (effect_alike step f.2) (λ v h. loops model objects result n at _ _ (X s Start) (Y s Start) _ _ Any (test_alike e f.1) (step_alike s Start f.3 tt) (effect_alike step f.2)))
      step_alike (pSwitch at k e s) Start f j = binds model objects ℤ Exit (In e) L (V used e) (W used e) _ _ (value used e f.2) (λ v h. switches model objects result (X s) (Y s) k v (of_kind model objects functions inputs compute compute' agrees agrees' way suits call call' hc e k v f.1 h) (λ from. step_alike s from f.3))
      step_alike (pSwitch at k e s) (Seek (toLabel l)) f j = binds model objects Exit Exit L L (X s (Seek (toLabel l))) (Y s (Seek (toLabel l))) _ _ (step_alike s (Seek (toLabel l)) f.3 j) (λ x lx. gives model objects Exit L (leave_switch x) (left_switch x lx))
      step_alike (pCase at v s) Start f j = step_alike s Start f tt
      step_alike (pCase at v s) (Seek p) f j =
          subst (λ b. Alike model objects Exit L (choose b (X s Start) (X s (Seek p))) (choose (run.is_case model objects compute' inputs call' p v) (Y s Start) (Y s (Seek p)))) (sym (case_told p v j))
          (chosen model objects Exit L (run.is_case model objects compute' inputs call' p v) _ _ _ _ (step_alike s Start f tt) (step_alike s (Seek p) f j))
      step_alike (pDefault at s) Start f j = step_alike s Start f tt
      step_alike (pDefault at s) (Seek p) f j = chosen model objects Exit L (run.is_default p) _ _ _ _ (step_alike s Start f tt) (step_alike s (Seek p) f j)
      step_alike (pLabel l at s) Start f j = step_alike s Start f tt
      step_alike (pLabel l at s) (Seek p) f j = chosen model objects Exit L (run.is_this_label p l) _ _ _ _ (step_alike s Start f tt) (step_alike s (Seek p) f j)
      step_alike (pGoto at l x) Start f j = binds model objects (Unit {0}) Exit (λ v. Unit {0}) L (turn at) (turn at) _ _ (turns model objects at) (λ v h. gives model objects Exit L (Jumped l) tt)
      step_alike (pBreak at) Start f j = gives model objects Exit L Broke tt
      step_alike (pContinue at) Start f j = gives model objects Exit L Continued tt
      step_alike (pReturn at e) Start f j = returned_alike result e f
      step_alike s (Seek p) f j = absent

      pub steps_alike : (ss : Steps) (from : From) → StepsFit model objects functions function result ss → Entered model objects from → Alike model objects Exit L (Xs ss from) (Ys ss from)
      steps_alike no_steps Start f j = gives model objects Exit L Normal tt
      steps_alike no_steps (Seek p) f j = absent
      steps_alike (steps_and ss s) Start f j = rows model objects result (Xs ss Start) (Ys ss Start) (X s Start) (Y s Start) (steps_alike ss Start f.0 tt) (step_alike s Start f.1 tt)
      steps_alike (steps_and ss s) (Seek p) f j = founds model objects result (Xs ss (Seek p)) (Ys ss (Seek p)) (X s Start) (Y s Start) (X s (Seek p)) (Y s (Seek p)) (steps_alike ss (Seek p) f.0 j) (step_alike s Start f.1 tt) (step_alike s (Seek p) f.1 j)

-- ---- Programs

module _ (model : Model) (objects : List Object) (functions : List Function) (inputs : List ℤ) (way : Way) (suits : Suits model objects way) where
  bound_alike : (number : ℕ) (os : List ℕ) (vs : List ℤ) → All (IsParameter model objects functions number) os → Arguments model objects functions inputs os vs →
      Alike model objects (Unit {0}) (λ v. Unit {0}) (bind_kept way os vs) (bind_parameters os vs)
  bound_alike number [] vs ps h = gives model objects (Unit {0}) (λ v. Unit {0}) tt tt
  bound_alike number (o ∷ os) [] ps h = gives model objects (Unit {0}) (λ v. Unit {0}) tt tt
  bound_alike number (o ∷ os) (v ∷ vs) ps h =
      let p = All-head (IsParameter model objects functions number) o os ps in
      let same : way.keep o v ≡ v = suits.keeps o p.told v p.there (h.0 p.told p.there) in
      binds model objects (Unit {0}) (Unit {0}) (λ x. Unit {0}) (λ x. Unit {0}) (store_all o (way.keep o v ∷ [])) (store_all o (v ∷ [])) _ _
      (subst (λ x. Alike model objects (Unit {0}) (λ y. Unit {0}) (store_all o (x ∷ [])) (store_all o (v ∷ []))) (sym same)
      (stores model objects o (v ∷ []) (λ told there. each_more model objects told.kind v [] (h.0 told there) (each_none model objects told.kind))))
      (λ x u. bound_alike number os vs (All-tail (IsParameter model objects functions number) o os ps) h.1)

pub fits_at : (model : Model) (objects : List Object) (functions fs : List Function) (m i : ℕ) (told : Function) → FunctionsFit model objects functions m fs → slice_get fs i ≡ Some told → (k : ℕ) × FunctionFits model objects functions k told
fits_at model objects functions [] m i told h e = absurd cc
fits_at model objects functions (f ∷ fs) m zero told h e = let same : f ≡ told = cc in (m, subst (λ x. FunctionFits model objects functions m x) same h.0)
fits_at model objects functions (f ∷ fs) m (suc i) told h e = fits_at model objects functions fs (m + 1) i told h.1 e

all_at : {A : Type 0} (Q : A → Type 0) (xs : List A) (i : ℕ) (x : A) → All Q xs → slice_get xs i ≡ Some x → Q x
all_at Q [] i x h e = absurd cc
all_at Q (y ∷ ys) zero x h e = let same : y ≡ x = cc in subst Q same (All-head Q y ys h)
all_at Q (y ∷ ys) (suc i) x h e = all_at Q ys i x (All-tail Q y ys h) e

all_each : (model : Model) (objects : List Object) (k : Kind) (vs : List ℤ) → All (InRange k model) vs → Each model objects k vs
all_each model objects k [] h = each_none model objects k
all_each model objects k (v ∷ vs) h = each_more model objects k v vs (All-head (InRange k model) v vs h) (all_each model objects k vs (All-tail (InRange k model) v vs h))

module _ (program : Program) (typed : IsTyped program) (inputs : List ℤ) (compute compute' : Compute) (agrees : Agrees program.model compute) (agrees' : Agrees program.model compute') (way : Way) (suits : Suits program.model program.objects way) where
  abbrev model : Model
  model = program.model

  abbrev objects : List Object
  objects = program.objects

  first_each : (o : Object) (w : Owner) → FirstFits model objects program.functions o w → Each model objects o.kind (elim w [ static ↦ o.first | local f ↦ replicate (run.size_of (Some o)) (pos 0) ])
  first_each o static h = all_each model objects o.kind o.first h.1
  first_each o (local f) h = each_zero model objects o.kind (run.size_of (Some o))

  started : (os : List Object) (i : ℕ) (told : Object) → slice_get os i ≡ Some told → slice_index_or (run.start_store os) i [] ≡ run.start_values told
  started [] i told e = absurd cc
  started (o ∷ os) zero told e = let same : o ≡ told = cc in ap (λ x. run.start_values x) same
  started (o ∷ os) (suc i) told e = started os i told e

  start_good : Good model objects (run.start_store objects)
  start_good o told there i =
      subst (λ vs. InRange told.kind model (slice_index_or vs i (pos 0))) (sym (started objects o told there))
      (first_each told told.owner (all_at (ObjectFits model objects program.functions) objects o told typed.objects there) i)

  body_alike : (n : ℕ) (call call' : Calls) → CallsAlike model objects program.functions inputs call call' → (f : ℕ) (vs : List ℤ) (told : Function) → slice_get program.functions f ≡ Some told → Arguments model objects program.functions inputs told.parameters vs →
      Alike model objects (Option ℤ) (Gave model objects told.result) (keeping.body_of program compute way inputs call n (Some told) vs) (run.body_of program compute' inputs call' n (Some told) vs)
  body_alike n call call' hc f vs told there args =
      let fits = fits_at model objects program.functions program.functions 0 f told typed.functions there in
      binds model objects (Unit {0}) (Option ℤ) (λ x. Unit {0}) (Gave model objects told.result) (bind_kept way told.parameters vs) (bind_parameters told.parameters vs) _ _ (bound_alike model objects program.functions inputs way suits fits.0 told.parameters vs fits.1.parameters args)
      (λ x u. enters model objects told.result (suc n) _ _ Start tt (λ from. steps_alike model objects program.functions inputs compute compute' agrees agrees' way suits call call' hc fits.0 told.result n told.body from fits.1.body))

  calls_alike : (n : ℕ) → CallsAlike model objects program.functions inputs (keeping.call_at program compute way inputs n) (run.call_at program compute' inputs n)
  calls_alike zero f at vs told there args = stops model objects (Option ℤ) (Gave model objects told.result) (λ st. Spent at st.store st.taken)
  calls_alike (suc n) f at vs told there args =
      binds model objects (Unit {0}) (Option ℤ) (λ x. Unit {0}) (Gave model objects told.result) (turn at) (turn at) _ _ (turns model objects at)
      (λ x u. subst
      (λ o. Alike model objects (Option ℤ) (Gave model objects told.result) (keeping.body_of program compute way inputs (keeping.call_at program compute way inputs n) n o vs) (run.body_of program compute' inputs (run.call_at program compute' inputs n) n o vs))
      (sym there) (body_alike n (keeping.call_at program compute way inputs n) (run.call_at program compute' inputs n) (calls_alike n) f vs told there args))

  no_arguments : (os : List ℕ) → Arguments model objects program.functions inputs os []
  no_arguments [] = tt
  no_arguments (o ∷ os) = tt

  main_same : (n : ℕ) (main : ℕ) (o : Option Function) (st : State) → slice_get program.functions main ≡ o → Good model objects st.store →
      keeping.body_of program compute way inputs (keeping.call_at program compute way inputs n) n o [] st ≡ run.body_of program compute' inputs (run.call_at program compute' inputs n) n o [] st
  main_same n main None st e g = refl
  main_same n main (Some told) st e g = (body_alike n (keeping.call_at program compute way inputs n) (run.call_at program compute' inputs n) (calls_alike n) main [] told e (no_arguments told.parameters) st g).0

  pub run_same : (n : ℕ) (main : Option ℕ) (st : State) → Good model objects st.store → keeping.run_main program compute way inputs n main st ≡ run.run_main program compute' inputs n main st
  run_same n None st g = refl
  run_same n (Some main) st g = main_same n main (slice_get program.functions main) st refl g

abbrev start : ℕ → Program → State
start turns program = record { store = run.start_store program.objects; taken = 0; turns = turns }

-- with two such arithmetics, one of them in such a way
ways_same : (program : Program) → IsTyped program → (compute compute' : Compute) → Agrees program.model compute → Agrees program.model compute' → (way : Way) → Suits program.model program.objects way → (turns : ℕ) (inputs : List ℤ) →
    run_with compute way turns program inputs ≡ run_by compute' turns program inputs
ways_same program typed compute compute' agrees agrees' way suits turns inputs =
    ap (λ g. run.end_of_run g)
    (run_same program typed inputs compute compute' agrees agrees' way suits turns (run.main_number program.functions) (start turns program) (start_good program typed inputs compute compute' agrees agrees' way suits))

-- C's own arithmetic, and the plain way
pub plain_agrees : (model : Model) → Agrees model (λ op kind x y. arith_of op kind model x y)
plain_agrees _ = record { same = λ op kind x y p h r. refl }

pub plain_suits : (model : Model) (objects : List Object) → Suits model objects as_it_is
plain_suits _ _ = record { keeps = λ object told v there h. refl; picks = λ object n h. refl; backs = λ object n value h. refl; tells = λ kind a b h k. refl }

pub runs_each_way : RunsEachWay
runs_each_way program typed compute agrees way suits turns inputs = ways_same program typed compute (λ op kind x y. arith_of op kind program.model x y) agrees (plain_agrees program.model) way suits turns inputs

pub runs_agreeing : RunsAgreeing
runs_agreeing program typed compute agrees turns inputs =
    let plain : Compute = λ op kind x y. arith_of op kind program.model x y in
    sym (ways_same program typed plain compute (plain_agrees program.model) agrees as_it_is (plain_suits program.model program.objects) turns inputs)
    ∙ runs_each_way program typed plain (plain_agrees program.model) as_it_is (plain_suits program.model program.objects) turns inputs

-- tests of operands leave what C computes
pub guarded_agrees : (model : Model) → Agrees model (λ op kind x y. guarded model op kind x y)
guarded_agrees m = record { same = λ op kind x y p h r. guard_open op kind m x y p h r }

pub runs_guarded : RunsGuarded
runs_guarded program typed turns inputs = runs_agreeing program typed (λ op kind x y. guarded program.model op kind x y) (guarded_agrees program.model) turns inputs
