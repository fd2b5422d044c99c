-- The run of a typed tree in a way of its own: each value that gets into an object by an assignment, an initializer or a call becomes
-- what is kept of it there; what is assigned to is the element that its index picks; and a switch goes to the case that is told to
-- be its value's. All else is as in the run of a typed tree.
use Rattle.std.specs.Prelude.{ℕ, zero, suc, Bool, false, List, [], ◌∷◌, ◌++◌, map, Option, Some, None, slice_get, ℤ, pos, negsuc}
use Rattle.lv_base.specs.declared.kind.Kind.{Kind}
use Rattle.lv_base.specs.declared.kind.Model.{Model}
use Rattle.lv_base.specs.declared.kind.Op.TheVariants as arith
use Rattle.lv_base.specs.declared.fault.ErrorKind.TheVariants as error
use Rattle.lv_base.specs.Integers.{converted, truth, is_zero}
use Rattle.c_tree.specs.declared.symbol.BinaryOp.{BinaryOp}
use Rattle.c_tree.specs.declared.symbol.Crement.{Crement}
use Rattle.c_run.specs.Run.{Ended, Run, give, ◌>>=◌, ◌>>◌, choose, stop, fail, spent, turn, Element, read, write, scalar, located, store_all, padded, draw, draw_all, Compute, computed, is_true}
use Rattle.c_run.specs.Operators.{Use, used, dropped, called_value}
use Rattle.c_run.specs.Loops.{Place, toLabel, toCase, From, Start, Seek, Exit, Normal, Broke, Continued, Returned, Jumped, Absent, then_do, or_else, found, next_turn, loop, leave_switch, switch_on, Calls, enter}
use Rattle.c_typed.specs.Tree.{Val, vConstant, vRead, vElement, vWhole, vNothing, vConvert, vDiscard, vNegate, vComplement, vNot, vBinary, vBoth, vEither, vCond, vAssign, vUpdate, vChange, vCall, vReach, vAbort, vDraw, vComma, Goal, gObject, gElement, Vals, no_values, values_and, Step, pDraw, pBegin, pBlock, pEmpty, pEffect, pIf, pIfElse, pWhile, pSwitch, pDo, pFor, pCase, pDefault, pLabel, pGoto, pBreak, pContinue, pReturn, Steps, no_steps, steps_and, Object, Function, Program}
use Rattle.c_typed.specs.Run.{size_of, kind_of, kept, is_this_label, is_default}
use Rattle.c_typed.specs.Run as typed
use Rattle.typed_range_laws.specs.Ways.{Way, picked, write_kept}

module _ (model : Model) (objects : List Object) (compute : Compute) (way : Way) (inputs : List ℤ) (call : Calls) where
  abbrev pub count_of : ℕ → ℕ
  count_of object = size_of (slice_get objects object)

  abbrev pub to_kind : Kind → ℤ → ℤ
  to_kind k v = converted k model v

  abbrev pub applied : ℕ → BinaryOp → Kind → ℤ → ℤ → Run ℤ
  applied at o k x y = typed.applied model objects compute inputs call at o k x y

  abbrev pub stepped : ℕ → Crement → Kind → Element → ℤ → Run ℤ
  stepped at by k e v = typed.stepped model objects compute inputs call at by k e v

  abbrev mutual
    pub value : Use → Val → Run ℤ
    value u (vConstant k v) = give v
    value u (vRead k object) = read (scalar object)
    value u (vElement k at object i) = do
      v ← value used i
      e ← located at object (count_of object) v
      read e
    -- an array's value is not used
    value u (vWhole object) = read (scalar object)
    value u vNothing = give (pos 0)
    value u (vConvert k e) = do
      v ← value used e
      give (to_kind k v)
    value u (vDiscard e) = do
      value dropped e
      give (pos 0)
    value u (vNegate k at e) = do
      v ← value used e
      computed at (compute arith.Sub k (pos 0) v)
    value u (vComplement k at e) = do
      v ← value used e
      computed at (compute arith.Xor k v (to_kind k (negsuc 0)))
    value u (vNot e) = do
      v ← value used e
      give (truth (is_zero v))
    value u (vBinary o k at a b) = do
      x ← value used a
      y ← value used b
      applied at o k x y
    value u (vBoth a b) = do
      x ← value used a
      choose (is_true x) (do y ← value used b; give (truth (is_true y))) (give (pos 0))
    value u (vEither a b) = do
      x ← value used a
      choose (is_true x) (give (pos 1)) (do y ← value used b; give (truth (is_true y)))
    value u (vCond k t a b) = do
      v ← value used t
      r ← choose (is_true v) (value used a) (value used b)
      give (kept k r)
    value u (vAssign k at g e) = do
      target ← target_of g
      v ← value used e
      write_kept way target.object (pos target.index) v
    value u (vUpdate o k l at g e) = do
      target ← target_of g
      x ← read (picked way target)
      y ← value used e
      v ← applied at o k (to_kind k x) y
      write (picked way target) (to_kind l v)
    value u (vChange before by k at g) = do
      target ← target_of g
      old ← read (picked way target)
      new ← stepped at by k (picked way target) old
      give (choose before (way.back target.object (pos target.index) new) old)
    value u (vCall result at x f es) = do
      vs ← values es
      v ← call f at vs
      called_value u result at v
    value u (vReach at) = fail error.Reach at
    value u vAbort = stop Ended
    value u (vDraw k) = draw inputs model k
    value u (vComma es e) = do
      drop_values es
      value used e

    pub values : Vals → Run (List ℤ)
    values no_values = give []
    values (values_and es e) = do
      vs ← values es
      v ← value used e
      give (vs ++ v ∷ [])

    pub drop_values : Vals → Run (Unit {0})
    drop_values no_values = give tt
    drop_values (values_and es e) = do
      drop_values es
      value dropped e
      give tt

    pub target_of : Goal → Run Element
    target_of (gObject object) = give (scalar object)
    target_of (gElement at object i) = do
      v ← value used i
      located at object (count_of object) v

  abbrev pub effect_of : Option Val → Run (Unit {0})
  effect_of None = give tt
  effect_of (Some e) = do
    value dropped e
    give tt

  abbrev pub test_of : Option Val → Run ℤ
  test_of None = give (pos 1)
  test_of (Some e) = value used e

  abbrev pub returned : Option Kind → Option Val → Run Exit
  returned result None = give (Returned None)
  returned None (Some e) = do
    value dropped e
    give (Returned None)
  returned (Some k) (Some e) = do
    v ← value used e
    give (Returned (Some v))

  abbrev pub is_case : Place → ℤ → Bool
  is_case (toCase k v) w = way.same v (to_kind k w)
  is_case _ w = false

  module _ (result : Option Kind) (n : ℕ) where
    abbrev mutual
      pub exec : Step → From → Run Exit
      exec (pDraw object) Start = do
        vs ← draw_all inputs model (kind_of (slice_get objects object)) (count_of object)
        store_all object vs
        give Normal
      exec (pBegin object es) Start = do
        vs ← values es
        store_all object (padded (count_of object) (map (way.keep object) vs))
        give Normal
      exec (pBlock ss) from = exec_all ss from
      exec pEmpty Start = give Normal
      exec (pEffect e) Start = do
        value dropped e
        give Normal
      exec (pIf e s) Start = do
        v ← value used e
        choose (is_true v) (exec s Start) (give Normal)
      exec (pIf e s) (Seek p) = exec s (Seek p)
      exec (pIfElse e s t) Start = do
        v ← value used e
        choose (is_true v) (exec s Start) (exec t Start)
      exec (pIfElse e s t) (Seek p) = do
        exit ← exec s (Seek p)
        or_else exit (exec t (Seek p))
      exec (pWhile at e s) Start = loop at n (value used e) (exec s Start) (give tt)
      exec (pWhile at e s) (Seek p) = do
        exit ← exec s (Seek p)
        next_turn exit (loop at n (value used e) (exec s Start) (give tt))
      exec (pDo at s e) from = do
        exit ← exec s from
        next_turn exit (loop at n (value used e) (exec s Start) (give tt))
      exec (pFor at start test step s) Start = do
        exit ← exec_all start Start
        then_do exit (loop at n (test_of test) (exec s Start) (effect_of step))
      exec (pFor at start test step s) (Seek p) = do
        exit ← exec s (Seek p)
        next_turn exit (do effect_of step; loop at n (test_of test) (exec s Start) (effect_of step))
      exec (pSwitch at k e s) Start = do
        v ← value used e
        switch_on (exec s) k v
      exec (pSwitch at k e s) (Seek (toLabel l)) = do
        exit ← exec s (Seek (toLabel l))
        give (leave_switch exit)
      exec (pCase at v s) Start = exec s Start
      exec (pCase at v s) (Seek p) = choose (is_case p v) (exec s Start) (exec s (Seek p))
      exec (pDefault at s) Start = exec s Start
      exec (pDefault at s) (Seek p) = choose (is_default p) (exec s Start) (exec s (Seek p))
      exec (pLabel l at s) Start = exec s Start
      exec (pLabel l at s) (Seek p) = choose (is_this_label p l) (exec s Start) (exec s (Seek p))
      exec (pGoto at l x) Start = do
        turn at
        give (Jumped l)
      exec (pBreak at) Start = give Broke
      exec (pContinue at) Start = give Continued
      exec (pReturn at e) Start = returned result e
      exec _ (Seek p) = give Absent

      pub exec_all : Steps → From → Run Exit
      exec_all no_steps Start = give Normal
      exec_all no_steps (Seek p) = give Absent
      exec_all (steps_and ss s) Start = do
        exit ← exec_all ss Start
        then_do exit (exec s Start)
      exec_all (steps_and ss s) (Seek p) = do
        exit ← exec_all ss (Seek p)
        found exit (exec s Start) (exec s (Seek p))

-- ---- Whole runs

-- the arguments become the values of the parameters
abbrev pub bind_kept : Way → List ℕ → List ℤ → Run (Unit {0})
bind_kept way (object ∷ objects) (v ∷ vs) = do
  store_all object (way.keep object v ∷ [])
  bind_kept way objects vs
bind_kept way _ _ = give tt

module _ (program : Program) (compute : Compute) (way : Way) (inputs : List ℤ) where
  abbrev pub body_of : Calls → ℕ → Option Function → List ℤ → Run (Option ℤ)
  body_of call n None vs = give None
  body_of call n (Some f) vs = do
    bind_kept way f.parameters vs
    enter (suc n) (exec_all program.model program.objects compute way inputs call f.result n f.body) Start

  abbrev pub call_at : ℕ → Calls
  call_at zero f at vs = spent at
  call_at (suc n) f at vs = do
    turn at
    body_of (call_at n) n (slice_get program.functions f) vs

  abbrev pub run_main : ℕ → Option ℕ → Run (Option ℤ)
  run_main n None = give None
  run_main n (Some main) = body_of (call_at n) n (slice_get program.functions main) []
