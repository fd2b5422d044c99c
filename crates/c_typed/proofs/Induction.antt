-- What is kept by the words of runs is kept by the run of each typed tree.
use Rattle.std.proofs.Common.{◌≡◌, ◌⊎◌, ℕ, zero, suc, ◌≤◌, List, [], ◌∷◌, Option, Some, None, ℤ, pos, slice_get, inl, inr, ⊎_elim, refl, ap, ◌∙◌, arith}
use Rattle.lv_base.specs.declared.kind.Kind.{Kind}
use Rattle.lv_base.specs.declared.kind.Model.{Model}
use Rattle.lv_base.specs.declared.fault.ErrorKind.{ErrorKind}
use Rattle.lv_base.specs.declared.fault.ErrorKind.TheVariants as error
use Rattle.lv_base.specs.Integers.{arith_of}
use Rattle.c_tree.specs.declared.symbol.BinaryOp.{BinaryOp}
use Rattle.c_tree.specs.declared.symbol.Crement.{Crement}
use Rattle.c_run.specs.Run.{End, Error, Ended, NoInput, BadInput, Spent, Got, Value, Stop, Run, choose, Element, scalar, draw, Compute, is_true}
use Rattle.c_run.specs.Operators.{Use, used, dropped, called_value}
use Rattle.c_run.specs.Loops.{toLabel, From, Start, Seek, Exit, Normal, Broke, Continued, Jumped, Absent, Calls, leave_switch, bind_parameters}
use Rattle.c_run.proofs.Related.{Kept, chosen, then_next, after_value, computes, locates, draws, then_kept, else_kept, found_kept, next_kept, loop_kept, switch_kept, enter_kept}
use Rattle.c_run.proofs.Relations.{More, IsSpentEnd, IsSpentGot, Follows, more_kept, more_draw, Alike, Beyond, alike_kept, alike_draw}
use Rattle.c_typed.specs.Tree.{Val, vConstant, vRead, vElement, vWhole, vNothing, vConvert, vDiscard, vNegate, vComplement, vNot, vBinary, vBoth, vEither, vCond, vAssign, vUpdate, vChange, vCall, vReach, vAbort, vDraw, vComma, Goal, gObject, gElement, Vals, no_values, values_and, Step, pDraw, pBegin, pBlock, pEmpty, pEffect, pIf, pIfElse, pWhile, pSwitch, pDo, pFor, pCase, pDefault, pLabel, pGoto, pBreak, pContinue, pReturn, Steps, no_steps, steps_and, Object, Function, Program}
use Rattle.c_typed.specs.Run.{count_of, to_kind, applied, stepped, value, values, drop_values, target_of, effect_of, test_of, returned, is_case, is_default, is_this_label, exec, exec_all, body_of, call_at, run_main, end_of_run, main_number}
use Rattle.c_typed.specs.Laws.{IsSpent, MoreTurns, DrawnInputs}

module _ (R : (A : Type 0) → Run A → Run A → Type 0) (k : Kept R (λ at. Unit {0})) where
  abbrev P : ℕ → Type 0
  P at = Unit {0}

  module _ (model : Model) (objects : List Object) (compute : Compute) (inputs inputs' : List ℤ) (call call' : Calls)
      (hd : (kind : Kind) → R ℤ (draw inputs model kind) (draw inputs' model kind))
      (hc : (f at : ℕ) (vs : List ℤ) → R (Option ℤ) (call f at vs) (call' f at vs)) where
    called_kept : (u : Use) (t : Option Kind) (at : ℕ) (r : Option ℤ) → R ℤ (called_value u t at r) (called_value u t at r)
    called_kept u t at (Some v) = k.gives ℤ v
    called_kept used (Some kind) at None = k.fails ℤ error.Missing at tt
    called_kept u t at None = k.gives ℤ (pos 0)

    applied_kept : (at : ℕ) (o : BinaryOp) (a : Kind) (x y : ℤ) → R ℤ (applied model objects compute inputs call at o a x y) (applied model objects compute inputs' call' at o a x y)
    applied_kept at o a x y = k.binds ℤ ℤ _ _ _ _ (computes R P k at _ tt) (λ v. k.gives ℤ _)

    stepped_kept : (at : ℕ) (b : Crement) (a : Kind) (e : Element) (v : ℤ) → R ℤ (stepped model objects compute inputs call at b a e v) (stepped model objects compute inputs' call' at b a e v)
    stepped_kept at b a e v = k.binds ℤ ℤ _ _ _ _ (computes R P k at _ tt) (λ new. k.writes e _)

    mutual
      value_kept : (u : Use) (e : Val) → R ℤ (value model objects compute inputs call u e) (value model objects compute inputs' call' u e)
      value_kept u (vConstant a v) = k.gives ℤ v
      value_kept u (vRead a object) = k.reads (scalar object)
      value_kept u (vElement a at object i) = k.binds ℤ ℤ _ _ _ _ (value_kept used i) (λ v. k.binds Element ℤ _ _ _ _ (locates R P k at object (count_of model objects compute inputs call object) v tt) (λ e. k.reads e))
      value_kept u (vWhole object) = k.reads (scalar object)
      value_kept u vNothing = k.gives ℤ (pos 0)
      value_kept u (vConvert a e) = k.binds ℤ ℤ _ _ _ _ (value_kept used e) (λ v. k.gives ℤ _)
      value_kept u (vDiscard e) = after_value R P k ℤ _ _ _ _ (value_kept dropped e) (k.gives ℤ (pos 0))
      value_kept u (vNegate a at e) = k.binds ℤ ℤ _ _ _ _ (value_kept used e) (λ v. computes R P k at _ tt)
      value_kept u (vComplement a at e) = k.binds ℤ ℤ _ _ _ _ (value_kept used e) (λ v. computes R P k at _ tt)
      value_kept u (vNot e) = k.binds ℤ ℤ _ _ _ _ (value_kept used e) (λ v. k.gives ℤ _)
      value_kept u (vBinary o a at x y) = k.binds ℤ ℤ _ _ _ _ (value_kept used x) (λ v. k.binds ℤ ℤ _ _ _ _ (value_kept used y) (λ w. applied_kept at o a v w))
      value_kept u (vBoth a b) = k.binds ℤ ℤ _ _ _ _ (value_kept used a) (λ x. chosen R P k ℤ (is_true x) _ _ _ _ (k.binds ℤ ℤ _ _ _ _ (value_kept used b) (λ y. k.gives ℤ _)) (k.gives ℤ _))
      value_kept u (vEither a b) = k.binds ℤ ℤ _ _ _ _ (value_kept used a) (λ x. chosen R P k ℤ (is_true x) _ _ _ _ (k.gives ℤ _) (k.binds ℤ ℤ _ _ _ _ (value_kept used b) (λ y. k.gives ℤ _)))
      value_kept u (vCond a t x y) = k.binds ℤ ℤ _ _ _ _ (value_kept used t) (λ v. k.binds ℤ ℤ _ _ _ _ (chosen R P k ℤ (is_true v) _ _ _ _ (value_kept used x) (value_kept used y)) (λ r. k.gives ℤ _))
      value_kept u (vAssign a at g e) = k.binds Element ℤ _ _ _ _ (target_kept g) (λ t. k.binds ℤ ℤ _ _ _ _ (value_kept used e) (λ v. k.writes t v))
      value_kept u (vUpdate o a b at g e) =
          k.binds Element ℤ _ _ _ _ (target_kept g) (λ t. k.binds ℤ ℤ _ _ _ _ (k.reads t) (λ x. k.binds ℤ ℤ _ _ _ _ (value_kept used e) (λ y. k.binds ℤ ℤ _ _ _ _ (applied_kept at o a (to_kind model objects compute inputs call a x) y) (λ v. k.writes t (to_kind model objects compute inputs call b v)))))
      value_kept u (vChange before b a at g) = k.binds Element ℤ _ _ _ _ (target_kept g) (λ t. k.binds ℤ ℤ _ _ _ _ (k.reads t) (λ old. k.binds ℤ ℤ _ _ _ _ (stepped_kept at b a t old) (λ new. k.gives ℤ (choose before new old))))
      value_kept u (vCall result at x f es) = k.binds (List ℤ) ℤ _ _ _ _ (values_kept es) (λ vs. k.binds (Option ℤ) ℤ _ _ _ _ (hc f at vs) (λ r. called_kept u result at r))
      value_kept u (vReach at) = k.fails ℤ error.Reach at tt
      value_kept u vAbort = k.stops ℤ
      value_kept u (vDraw a) = hd a
      value_kept u (vComma es e) = then_next R P k ℤ _ _ _ _ (drop_kept es) (value_kept used e)

      values_kept : (es : Vals) → R (List ℤ) (values model objects compute inputs call es) (values model objects compute inputs' call' es)
      values_kept no_values = k.gives (List ℤ) []
      values_kept (values_and es e) = k.binds (List ℤ) (List ℤ) _ _ _ _ (values_kept es) (λ vs. k.binds ℤ (List ℤ) _ _ _ _ (value_kept used e) (λ v. k.gives (List ℤ) _))

      drop_kept : (es : Vals) → R (Unit {0}) (drop_values model objects compute inputs call es) (drop_values model objects compute inputs' call' es)
      drop_kept no_values = k.gives (Unit {0}) tt
      drop_kept (values_and es e) = then_next R P k (Unit {0}) _ _ _ _ (drop_kept es) (after_value R P k (Unit {0}) _ _ _ _ (value_kept dropped e) (k.gives (Unit {0}) tt))

      target_kept : (g : Goal) → R Element (target_of model objects compute inputs call g) (target_of model objects compute inputs' call' g)
      target_kept (gObject object) = k.gives Element (scalar object)
      target_kept (gElement at object i) = k.binds ℤ Element _ _ _ _ (value_kept used i) (λ v. locates R P k at object (count_of model objects compute inputs call object) v tt)

    effect_kept : (e : Option Val) → R (Unit {0}) (effect_of model objects compute inputs call e) (effect_of model objects compute inputs' call' e)
    effect_kept None = k.gives (Unit {0}) tt
    effect_kept (Some e) = after_value R P k (Unit {0}) _ _ _ _ (value_kept dropped e) (k.gives (Unit {0}) tt)

    test_kept : (e : Option Val) → R ℤ (test_of model objects compute inputs call e) (test_of model objects compute inputs' call' e)
    test_kept None = k.gives ℤ (pos 1)
    test_kept (Some e) = value_kept used e

    returned_kept : (result : Option Kind) (e : Option Val) → R Exit (returned model objects compute inputs call result e) (returned model objects compute inputs' call' result e)
    returned_kept result None = k.gives Exit _
    returned_kept None (Some e) = after_value R P k Exit _ _ _ _ (value_kept dropped e) (k.gives Exit _)
    returned_kept (Some a) (Some e) = k.binds ℤ Exit _ _ _ _ (value_kept used e) (λ v. k.gives Exit _)

    module _ (result : Option Kind) (n n' : ℕ) (le : n ≤ n') where
      mutual
        exec_kept : (s : Step) (from : From) → R Exit (exec model objects compute inputs call result n s from) (exec model objects compute inputs' call' result n' s from)
        exec_kept (pDraw object) Start = k.binds (List ℤ) Exit _ _ _ _ (draws R P k inputs inputs' model _ (hd _) _) (λ vs. then_next R P k Exit _ _ _ _ (k.stores object vs) (k.gives Exit Normal))
        exec_kept (pBegin object es) Start = k.binds (List ℤ) Exit _ _ _ _ (values_kept es) (λ vs. then_next R P k Exit _ _ _ _ (k.stores object _) (k.gives Exit Normal))
        exec_kept (pBlock ss) from = all_kept ss from
        exec_kept pEmpty Start = k.gives Exit Normal
        exec_kept (pEffect e) Start = after_value R P k Exit _ _ _ _ (value_kept dropped e) (k.gives Exit Normal)
        exec_kept (pIf e s) Start = k.binds ℤ Exit _ _ _ _ (value_kept used e) (λ v. chosen R P k Exit (is_true v) _ _ _ _ (exec_kept s Start) (k.gives Exit Normal))
        exec_kept (pIf e s) (Seek q) = exec_kept s (Seek q)
        exec_kept (pIfElse e s t) Start = k.binds ℤ Exit _ _ _ _ (value_kept used e) (λ v. chosen R P k Exit (is_true v) _ _ _ _ (exec_kept s Start) (exec_kept t Start))
        exec_kept (pIfElse e s t) (Seek q) = k.binds Exit Exit _ _ _ _ (exec_kept s (Seek q)) (λ x. else_kept R P k x _ _ (exec_kept t (Seek q)))
        exec_kept (pWhile at e s) Start = loop_kept R P k at n n' _ _ _ _ _ _ le (value_kept used e) (exec_kept s Start) (k.gives (Unit {0}) tt)
        exec_kept (pWhile at e s) (Seek q) = k.binds Exit Exit _ _ _ _ (exec_kept s (Seek q)) (λ x. next_kept R P k x _ _ (loop_kept R P k at n n' _ _ _ _ _ _ le (value_kept used e) (exec_kept s Start) (k.gives (Unit {0}) tt)))
        exec_kept (pDo at s e) from = k.binds Exit Exit _ _ _ _ (exec_kept s from) (λ x. next_kept R P k x _ _ (loop_kept R P k at n n' _ _ _ _ _ _ le (value_kept used e) (exec_kept s Start) (k.gives (Unit {0}) tt)))
        exec_kept (pFor at start e step s) Start = k.binds Exit Exit _ _ _ _ (all_kept start Start) (λ x. then_kept R P k x _ _ (loop_kept R P k at n n' _ _ _ _ _ _ le (test_kept e) (exec_kept s Start) (effect_kept step)))
        exec_kept (pFor at start e step s) (Seek q) =
            k.binds Exit Exit _ _ _ _ (exec_kept s (Seek q)) (λ x. next_kept R P k x _ _ (then_next R P k Exit _ _ _ _ (effect_kept step) (loop_kept R P k at n n' _ _ _ _ _ _ le (test_kept e) (exec_kept s Start) (effect_kept step))))
        exec_kept (pSwitch at a e s) Start = k.binds ℤ Exit _ _ _ _ (value_kept used e) (λ v. switch_kept R P k _ _ _ _ (λ from. exec_kept s from))
        exec_kept (pSwitch at a e s) (Seek (toLabel l)) = k.binds Exit Exit _ _ _ _ (exec_kept s (Seek (toLabel l))) (λ x. k.gives Exit (leave_switch x))
        exec_kept (pCase at v s) Start = exec_kept s Start
        exec_kept (pCase at v s) (Seek q) = chosen R P k Exit (is_case model objects compute inputs call q v) _ _ _ _ (exec_kept s Start) (exec_kept s (Seek q))
        exec_kept (pDefault at s) Start = exec_kept s Start
        exec_kept (pDefault at s) (Seek q) = chosen R P k Exit (is_default q) _ _ _ _ (exec_kept s Start) (exec_kept s (Seek q))
        exec_kept (pLabel l at s) Start = exec_kept s Start
        exec_kept (pLabel l at s) (Seek q) = chosen R P k Exit (is_this_label q l) _ _ _ _ (exec_kept s Start) (exec_kept s (Seek q))
        exec_kept (pGoto at l x) Start = then_next R P k Exit _ _ _ _ (k.turns at) (k.gives Exit (Jumped l))
        exec_kept (pBreak at) Start = k.gives Exit Broke
        exec_kept (pContinue at) Start = k.gives Exit Continued
        exec_kept (pReturn at e) Start = returned_kept result e
        exec_kept s (Seek q) = k.gives Exit Absent

        all_kept : (ss : Steps) (from : From) → R Exit (exec_all model objects compute inputs call result n ss from) (exec_all model objects compute inputs' call' result n' ss from)
        all_kept no_steps Start = k.gives Exit Normal
        all_kept no_steps (Seek q) = k.gives Exit Absent
        all_kept (steps_and ss s) Start = k.binds Exit Exit _ _ _ _ (all_kept ss Start) (λ x. then_kept R P k x _ _ (exec_kept s Start))
        all_kept (steps_and ss s) (Seek q) = k.binds Exit Exit _ _ _ _ (all_kept ss (Seek q)) (λ x. found_kept R P k x _ _ _ _ (exec_kept s Start) (exec_kept s (Seek q)))

  -- ---- Calls and runs

  module _ (program : Program) (compute : Compute) (inputs inputs' : List ℤ) (hd : (kind : Kind) → R ℤ (draw inputs program.model kind) (draw inputs' program.model kind)) where
    bound_kept : (objects : List ℕ) (vs : List ℤ) → R (Unit {0}) (bind_parameters objects vs) (bind_parameters objects vs)
    bound_kept [] vs = k.gives (Unit {0}) tt
    bound_kept (o ∷ os) [] = k.gives (Unit {0}) tt
    bound_kept (o ∷ os) (v ∷ vs) = then_next R P k (Unit {0}) _ _ _ _ (k.stores o (v ∷ [])) (bound_kept os vs)

    body_kept : (call call' : Calls) (n n' : ℕ) → n ≤ n' → ((f at : ℕ) (vs : List ℤ) → R (Option ℤ) (call f at vs) (call' f at vs)) → (f : Option Function) → (vs : List ℤ) →
        R (Option ℤ) (body_of program compute inputs call n f vs) (body_of program compute inputs' call' n' f vs)
    body_kept call call' n n' le hc None vs = k.gives (Option ℤ) None
    body_kept call call' n n' le hc (Some f) vs =
        then_next R P k (Option ℤ) _ _ _ _ (bound_kept f.parameters vs)
        (enter_kept R P k (suc n) (suc n') _ _ Start (omega (arith, le)) (λ from. all_kept program.model program.objects compute inputs inputs' call call' hd hc f.result n n' le f.body from))

    calls_kept : (n n' : ℕ) → n ≤ n' → (f at : ℕ) (vs : List ℤ) → R (Option ℤ) (call_at program compute inputs n f at vs) (call_at program compute inputs' n' f at vs)
    calls_kept zero n' le f at vs = k.spends (Option ℤ) at _
    calls_kept (suc n) zero le f at vs = absurd (omega arith)
    calls_kept (suc n) (suc n') le f at vs =
        then_next R P k (Option ℤ) _ _ _ _ (k.turns at) (body_kept _ _ n n' (omega arith) (calls_kept n n' (omega arith)) (slice_get program.functions f) vs)

    pub main_kept : (n n' : ℕ) → n ≤ n' → (main : Option ℕ) → R (Option ℤ) (run_main program compute inputs n main) (run_main program compute inputs' n' main)
    main_kept n n' le None = k.gives (Option ℤ) None
    main_kept n n' le (Some main) = body_kept _ _ n n' le (calls_kept n n' le) (slice_get program.functions main) []

-- ---- The laws

spent_end : (e : End) → IsSpentEnd e → IsSpent e
spent_end (Spent at store n) h = tt
spent_end (Error kind at taken) h = absurd h
spent_end Ended h = absurd h
spent_end NoInput h = absurd h
spent_end (BadInput n) h = absurd h

ends_more : (g g' : Got (Option ℤ)) → IsSpentGot g ⊎ Follows g g' → IsSpent (end_of_run g) ⊎ (end_of_run g ≡ end_of_run g')
ends_more (Value v st) (Value w st') x = inr refl
ends_more (Value v st) (Stop e) x = ⊎_elim (λ h. absurd h) (λ h. absurd h) x
ends_more (Stop e) (Value w st') x = ⊎_elim (λ h. inl (spent_end e h)) (λ h. absurd h) x
ends_more (Stop e) (Stop e') x = ⊎_elim (λ h. inl (spent_end e h)) (λ h. inr h) x

pub more_turns : MoreTurns
more_turns program inputs turns more le =
    ends_more _ _ (main_kept More more_kept program (λ op kind x y. arith_of op kind program.model x y) inputs inputs (λ kind. more_draw inputs program.model kind) turns more le (main_number program.functions) _ _
    (record { store = refl; taken = refl; turns = le }))

taken_of : End → ℕ
taken_of (Error l b u) = u
taken_of _ = 0

not_beyond : (t : ℕ) (g g' : Got (Option ℤ)) (kind : ErrorKind) (at : ℕ) → Beyond t g ⊎ (g' ≡ g) → end_of_run g ≡ Error kind at t → end_of_run g' ≡ Error kind at t
unfolding taken_of
not_beyond t (Value v st) g' kind at x h = cc
not_beyond t (Stop (Error l b u)) g' kind at x h = ⊎_elim (λ lt. absurd (omega (arith, lt, ap taken_of h))) (λ e. ap end_of_run e ∙ h) x
not_beyond t (Stop Ended) g' kind at x h = cc
not_beyond t (Stop NoInput) g' kind at x h = cc
not_beyond t (Stop (BadInput n)) g' kind at x h = cc
not_beyond t (Stop (Spent b s n)) g' kind at x h = cc

same_turns : (n : ℕ) → n ≤ n
same_turns n = omega arith

pub drawn_inputs : DrawnInputs
drawn_inputs program turns inputs others kind at taken h same =
    not_beyond taken _ _ kind at
    ((main_kept (Alike taken) (alike_kept taken) program (λ op kind x y. arith_of op kind program.model x y) inputs others (λ kind. alike_draw taken inputs others program.model kind same) turns turns (same_turns turns) (main_number program.functions)).same _)
    h
