-- Execution of statements (C11 6.8), and of declarations in a block (C11 6.7.9).
use Rattle.std.specs.Prelude.{ℕ, Bool, true, false, ◌&&◌, List, [], ◌∷◌, map, Option, Some, None, bytes_eq, ℤ, pos, int_le}
use Rattle.lv_base.specs.declared.kind.Kind.{Kind}
use Rattle.c_tree.specs.Tree.{Ex, named, Initial, iNothing, iValue, iList, Decs, no_declarators, declarators_and, Declaration, declares, Head, head, ForStart, forDeclares, forExpr, ForHead, for_head, St, sDeclaration, sBlock, sEmpty, sExpr, sIf, sIfElse, sWhile, sSwitch, sDo, sFor, sCase, sDefault, sLabel, sGoto, sBreak, sContinue, sReturn, Sts, no_statements, statements_and}
use Rattle.c_run.specs.Run.{Run, give, ◌>>=◌, ◌>>◌, choose, turn, is_true, store_all, padded, draw_all}
use Rattle.c_run.specs.Loops.{Place, toLabel, toCase, toDefault, From, Start, Seek, Exit, Normal, Broke, Continued, Returned, Jumped, Absent, then_do, or_else, found, next_turn, loop, leave_switch, switch_on}
use Rattle.c_meaning.specs.Kinds.{promoted}
use Rattle.c_meaning.specs.Bindings.{object_number, declared_at, count_of, kind_of_object}
use Rattle.c_meaning.specs.Constants.{constant_of, or_zero}
use Rattle.c_run.specs.Operators.{used, dropped}
use Rattle.c_meaning.specs.Value.{Context, value, values, kind_at, to_kind}
use Rattle.std.specs.Prelude.{slice_get}

abbrev pub is_equal : ℤ → ℤ → Bool
is_equal x y = int_le x y && int_le y x

abbrev pub is_label : Place → Bool
is_label (toLabel l) = true
is_label _ = false

abbrev pub is_this_label : Place → List ℕ → Bool
is_this_label (toLabel l) name = bytes_eq l name
is_this_label _ name = false

abbrev pub is_default : Place → Bool
is_default toDefault = true
is_default _ = false

module _ (c : Context) where
  -- ---- Declarations

  abbrev pub object_kind : ℕ → Kind
  object_kind object = kind_of_object (slice_get c.env.objects object)

  -- Without an initial value a local object takes inputs, one to an element, its index rising: C11 leaves its value open. A
  -- list gives the first elements their values, and the rest is 0; an array holds its old values until all are evaluated.
  abbrev pub begin_object : Initial → Option ℕ → Run (Unit {0})
  begin_object i None = give tt
  begin_object iNothing (Some object) = do
    vs ← draw_all c.inputs c.model (object_kind object) (count_of c.env object)
    store_all object vs
  begin_object (iValue at e) (Some object) = do
    v ← value c used e
    store_all object (to_kind c (object_kind object) v ∷ [])
  begin_object (iList at a es x b) (Some object) = do
    vs ← values c es
    store_all object (padded (count_of c.env object) (map (to_kind c (object_kind object)) vs))

  -- the declared names in their order; a typedef's name is no object
  abbrev pub begin_objects : Decs → Run (Unit {0})
  begin_objects no_declarators = give tt
  begin_objects (declarators_and ds x (named n at) f ats i) = do
    begin_objects ds
    begin_object i (object_number (declared_at c.env at))

  abbrev pub declared : Declaration → Run (Unit {0})
  declared (declares ws ds b) = begin_objects ds

  -- ---- Expressions in statements

  abbrev pub effect_of : Option Ex → Run (Unit {0})
  effect_of None = give tt
  effect_of (Some e) = do
    value c dropped e
    give tt

  -- a condition that is left out holds (C11 6.8.5.3 p2)
  abbrev pub test_of : Option Ex → Run ℤ
  test_of None = give (pos 1)
  test_of (Some e) = value c used e

  abbrev pub condition : Head → Run ℤ
  condition (head at a e b) = value c used e

  abbrev pub keyword : Head → ℕ
  keyword (head at a e b) = at

  -- the kind to which a switch promotes its value and converts its cases (C11 6.8.4.2 p5)
  abbrev pub switch_kind : Head → Kind
  switch_kind (head at a e b) = promoted (kind_at c e)

  abbrev pub start_for : ForStart → Run (Unit {0})
  start_for (forDeclares d) = declared d
  start_for (forExpr e at) = effect_of e

  abbrev pub for_start : ForHead → Run (Unit {0})
  for_start (for_head at a start test x step b) = start_for start

  abbrev pub for_test : ForHead → Run ℤ
  for_test (for_head at a start test x step b) = test_of test

  abbrev pub for_step : ForHead → Run (Unit {0})
  for_step (for_head at a start test x step b) = effect_of step

  abbrev pub for_keyword : ForHead → ℕ
  for_keyword (for_head at a start test x step b) = at

  -- this case has the value that is sought
  abbrev pub is_case : Place → Ex → Bool
  is_case (toCase k v) e = is_equal v (to_kind c k (or_zero (constant_of c.env c.model e)))
  is_case _ e = false

  -- a value is returned as one of the function's kind; a void function returns none (C11 6.8.6.4)
  abbrev pub returned : Option Kind → Option Ex → Run Exit
  returned result None = give (Returned None)
  returned None (Some e) = do
    value c dropped e
    give (Returned None)
  returned (Some k) (Some e) = do
    v ← value c used e
    give (Returned (Some (to_kind c k v)))

  -- ---- Statements

  -- In a function with this result, with at most `n` turns. A jump goes to the one part that holds its place, and nothing
  -- before it is evaluated: no turn, no condition and no declaration.
  module _ (result : Option Kind) (n : ℕ) where
    abbrev mutual
      pub exec : St → From → Run Exit
      exec (sDeclaration d) Start = do
        declared d
        give Normal
      -- compound, null and expression statements (C11 6.8.2, 6.8.3)
      exec (sBlock a ss b) from = exec_all ss from
      exec (sEmpty at) Start = give Normal
      exec (sExpr e at) Start = do
        value c dropped e
        give Normal
      -- `if` (C11 6.8.4.1)
      exec (sIf h s) Start = do
        v ← condition h
        choose (is_true v) (exec s Start) (give Normal)
      exec (sIf h s) (Seek p) = exec s (Seek p)
      exec (sIfElse h s at t) Start = do
        v ← condition h
        choose (is_true v) (exec s Start) (exec t Start)
      exec (sIfElse h s at t) (Seek p) = do
        exit ← exec s (Seek p)
        or_else exit (exec t (Seek p))
      -- loops (C11 6.8.5); behind a jump into its body a loop goes on as if it had begun there
      exec (sWhile h s) Start = loop (keyword h) n (condition h) (exec s Start) (give tt)
      exec (sWhile h s) (Seek p) = do
        exit ← exec s (Seek p)
        next_turn exit (loop (keyword h) n (condition h) (exec s Start) (give tt))
      exec (sDo at s h b) from = do
        exit ← exec s from
        next_turn exit (loop at n (condition h) (exec s Start) (give tt))
      exec (sFor h s) Start = do
        for_start h
        loop (for_keyword h) n (for_test h) (exec s Start) (for_step h)
      exec (sFor h s) (Seek p) = do
        exit ← exec s (Seek p)
        next_turn exit (do for_step h; loop (for_keyword h) n (for_test h) (exec s Start) (for_step h))
      -- `switch` (C11 6.8.4.2); a case of a switch in the body is none of this one
      exec (sSwitch h s) Start = do
        v ← condition h
        switch_on (exec s) (switch_kind h) (to_kind c (switch_kind h) v)
      exec (sSwitch h s) (Seek (toLabel l)) = do
        exit ← exec s (Seek (toLabel l))
        give (leave_switch exit)
      -- labels (C11 6.8.1)
      exec (sCase at e b s) Start = exec s Start
      exec (sCase at e b s) (Seek p) = choose (is_case p e) (exec s Start) (exec s (Seek p))
      exec (sDefault at b s) Start = exec s Start
      exec (sDefault at b s) (Seek p) = choose (is_default p) (exec s Start) (exec s (Seek p))
      exec (sLabel l at b ats s) Start = exec s Start
      exec (sLabel l at b ats s) (Seek p) = choose (is_this_label p l) (exec s Start) (exec s (Seek p))
      -- jumps (C11 6.8.6)
      exec (sGoto at l x b) Start = do
        turn at
        give (Jumped l)
      exec (sBreak at b) Start = give Broke
      exec (sContinue at b) Start = give Continued
      exec (sReturn at e b) Start = returned result e
      -- in any other statement no place is found
      exec _ (Seek p) = give Absent

      pub exec_all : Sts → From → Run Exit
      exec_all no_statements Start = give Normal
      exec_all no_statements (Seek p) = give Absent
      exec_all (statements_and ss s) Start = do
        exit ← exec_all ss Start
        then_do exit (exec s Start)
      exec_all (statements_and ss s) (Seek p) = do
        exit ← exec_all ss (Seek p)
        found exit (exec s Start) (exec s (Seek p))
