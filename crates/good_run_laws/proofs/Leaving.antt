-- How statements are left whose jumps have their labels.
use Rattle.std.proofs.Common.{◌≡◌, ℕ, zero, suc, Bool, true, false, ◌||◌, not, List, [], ◌∷◌, ◌++◌, Option, None, Some, bytes_eq, ℤ, refl, sym, ap, ◌∙◌, subst}
use Rattle.std.proofs.lemmas.Slice.Eq.{bytes_eq-Decides}
use Rattle.lv_base.specs.declared.kind.Kind.{Kind}
use Rattle.c_tree.specs.Tree as t
use Rattle.c_run.specs.Run.{State, Got, Value, Stop, Run, give, after, ◌>>=◌, ◌>>◌, choose, turn, is_true}
use Rattle.c_run.specs.Loops.{Place, toLabel, toCase, toDefault, From, Start, Seek, Exit, Normal, Broke, Continued, Returned, Jumped, Absent, then_do, or_else, found, next_turn, loop, leave_switch, leave_cases, switch_on}
use Rattle.c_run.specs.Operators.{used, dropped}
use Rattle.c_meaning.specs.Bindings.{Env}
use Rattle.c_meaning.specs.Value.{Context, value, to_kind}
use Rattle.c_meaning.specs.Execution.{exec, exec_all, declared, condition, keyword, switch_kind, for_start, for_test, for_step, for_keyword, is_case, is_default, returned}
use Rattle.c_meaning.specs.Jumps.{Jump, labels_of, labels_of_all, gotos_of, gotos_of_all, declared_for, declared_in, has_name}
use Rattle.good_run_laws.specs.Laws.{may_lack, IsLeftBy, IsLeft}

-- ---- Names among labels

has_both : (name : List ℕ) (xs ys : List Jump) → has_name name (xs ++ ys) ≡ has_name name xs || has_name name ys
has_both name [] ys = refl
has_both name (x ∷ xs) ys = or_or (bytes_eq x.name name) _ _ _ (has_both name xs ys)
  where
    or_or : (b p q r : Bool) → p ≡ q || r → b || p ≡ b || q || r
    or_or true p q r h = refl
    or_or false p q r h = h

not_or : (p q : Bool) → not p ≡ true → not (p || q) ≡ not q
not_or true q h = cc
not_or false q h = refl

-- where the first part lacks the place the whole lacks it if the second does
lack_both : (p : Place) (xs ys : List Jump) → may_lack (Seek p) xs ≡ true → may_lack (Seek p) (xs ++ ys) ≡ may_lack (Seek p) ys
lack_both (toLabel name) xs ys h = ap not (has_both name xs ys) ∙ not_or (has_name name xs) (has_name name ys) h
lack_both (toCase kind v) xs ys h = refl
lack_both toDefault xs ys h = refl

same_name : (x y : List ℕ) → bytes_eq x y ≡ bytes_eq y x
same_name x y = by_test (bytes_eq x y) (bytes_eq y x) refl refl
  where
    by_test : (b c : Bool) → bytes_eq x y ≡ b → bytes_eq y x ≡ c → b ≡ c
    by_test true true h k = refl
    by_test false false h k = refl
    by_test true false h k = sym ((bytes_eq-Decides y x).1 (sym ((bytes_eq-Decides x y).0 h))) ∙ k
    by_test false true h k = sym h ∙ (bytes_eq-Decides x y).1 (sym ((bytes_eq-Decides y x).0 k))

module _ (labels : List Jump) where
  abbrev L : Bool → Got Exit → Type 0
  L lacking g = IsLeft labels lacking g

  abbrev pub AllThere : List Jump → Type 0
  AllThere [] = Unit {0}
  AllThere (g ∷ gs) = (has_name g.name labels ≡ true) × AllThere gs

  there_left : (xs ys : List Jump) → AllThere (xs ++ ys) → AllThere xs
  there_left [] ys h = tt
  there_left (x ∷ xs) ys h = (h.0, there_left xs ys h.1)

  there_right : (xs ys : List Jump) → AllThere (xs ++ ys) → AllThere ys
  there_right [] ys h = h
  there_right (x ∷ xs) ys h = there_right xs ys h.1

  -- ---- Exits

  -- nothing is absent, so whatever may be
  any_by : (lacking : Bool) (x : Exit) → IsLeftBy labels false x → IsLeftBy labels lacking x
  any_by lacking Normal h = tt
  any_by lacking Broke h = tt
  any_by lacking Continued h = tt
  any_by lacking (Returned v) h = tt
  any_by lacking (Jumped l) h = h
  any_by lacking Absent h = cc

  anyway : (lacking : Bool) (g : Got Exit) → L false g → L lacking g
  anyway lacking (Value x st) h = any_by lacking x h
  anyway lacking (Stop e) h = tt

  behind : {A : Type 0} (lacking : Bool) (g : Got A) (k : A → Run Exit) → ((v : A) (st : State) → L lacking (k v st)) → L lacking (after g k)
  behind lacking (Value v st) k h = h v st
  behind lacking (Stop e) k h = tt

  behind_exit : (first lacking : Bool) (g : Got Exit) (k : Exit → Run Exit) → L first g → ((x : Exit) (st : State) → IsLeftBy labels first x → L lacking (k x st)) → L lacking (after g k)
  behind_exit first lacking (Value x st) k h f = f x st h
  behind_exit first lacking (Stop e) k h f = tt

  chosen : (lacking : Bool) (b : Bool) (m n : Run Exit) (st : State) → L lacking (m st) → L lacking (n st) → L lacking (choose b m n st)
  chosen lacking true m n st h k = h
  chosen lacking false m n st h k = k

  then_left : (x : Exit) (next : Run Exit) (st : State) → IsLeftBy labels false x → L false (next st) → L false (then_do x next st)
  then_left Normal next st h k = k
  then_left Broke next st h k = tt
  then_left Continued next st h k = tt
  then_left (Returned v) next st h k = tt
  then_left (Jumped l) next st h k = h
  then_left Absent next st h k = h

  turn_left : (lacking : Bool) (x : Exit) (again : Run Exit) (st : State) → IsLeftBy labels lacking x → L false (again st) → L lacking (next_turn x again st)
  turn_left lacking Normal again st h k = anyway lacking (again st) k
  turn_left lacking Continued again st h k = anyway lacking (again st) k
  turn_left lacking Broke again st h k = tt
  turn_left lacking (Returned v) again st h k = tt
  turn_left lacking (Jumped l) again st h k = h
  turn_left lacking Absent again st h k = h

  else_left : (p : Place) (xs ys : List Jump) (x : Exit) (next : Run Exit) (st : State) → IsLeftBy labels (may_lack (Seek p) xs) x → L (may_lack (Seek p) ys) (next st) → L (may_lack (Seek p) (xs ++ ys)) (or_else x next st)
  else_left p xs ys Normal next st h k = tt
  else_left p xs ys Broke next st h k = tt
  else_left p xs ys Continued next st h k = tt
  else_left p xs ys (Returned v) next st h k = tt
  else_left p xs ys (Jumped l) next st h k = h
  else_left p xs ys Absent next st h k = subst (λ b. L b (next st)) (sym (lack_both p xs ys h)) k

  found_left : (p : Place) (xs ys : List Jump) (x : Exit) (start next : Run Exit) (st : State) → IsLeftBy labels (may_lack (Seek p) xs) x → L false (start st) → L (may_lack (Seek p) ys) (next st) → L (may_lack (Seek p) (xs ++ ys)) (found x start next st)
  found_left p xs ys Normal start next st h s k = anyway (may_lack (Seek p) (xs ++ ys)) (start st) s
  found_left p xs ys Broke start next st h s k = tt
  found_left p xs ys Continued start next st h s k = tt
  found_left p xs ys (Returned v) start next st h s k = tt
  found_left p xs ys (Jumped l) start next st h s k = h
  found_left p xs ys Absent start next st h s k = subst (λ b. L b (next st)) (sym (lack_both p xs ys h)) k

  loop_left : (at n : ℕ) (test : Run ℤ) (body : Run Exit) (step : Run (Unit {0})) → ((st : State) → L false (body st)) → (st : State) → L false (loop at n test body step st)
  loop_left at zero test body step h st = tt
  loop_left at (suc n) test body step h st =
      behind false (turn at st) (λ _. test >>= (λ v. choose (is_true v) (body >>= (λ x. next_turn x (step >> loop at n test body step))) (give Normal)))
      (λ _ st1. behind false (test st1) (λ v. choose (is_true v) (body >>= (λ x. next_turn x (step >> loop at n test body step))) (give Normal))
      (λ v st2. chosen false (is_true v) (body >>= (λ x. next_turn x (step >> loop at n test body step))) (give Normal) st2
      (behind_exit false false (body st2) (λ x. next_turn x (step >> loop at n test body step)) (h st2)
      (λ x st3 q. turn_left false x (step >> loop at n test body step) st3 q (behind false (step st3) (λ _. loop at n test body step) (λ _ st4. loop_left at n test body step h st4)))) tt))

  cases_left : (x : Exit) → IsLeftBy labels true x → IsLeftBy labels false (leave_cases x)
  cases_left Normal h = tt
  cases_left Broke h = tt
  cases_left Continued h = tt
  cases_left (Returned v) h = tt
  cases_left (Jumped l) h = h
  cases_left Absent h = tt

  or_left : (x : Exit) (next : Run Exit) (st : State) → IsLeftBy labels true x → L true (next st) → L true (or_else x next st)
  or_left Normal next st h k = tt
  or_left Broke next st h k = tt
  or_left Continued next st h k = tt
  or_left (Returned v) next st h k = tt
  or_left (Jumped l) next st h k = h
  or_left Absent next st h k = k

  switch_left : (lacking : Bool) (x : Exit) → IsLeftBy labels lacking x → IsLeftBy labels lacking (leave_switch x)
  switch_left lacking Normal h = tt
  switch_left lacking Broke h = tt
  switch_left lacking Continued h = tt
  switch_left lacking (Returned v) h = tt
  switch_left lacking (Jumped l) h = h
  switch_left lacking Absent h = h

  switched : (body : From → Run Exit) (k : Kind) (v : ℤ) → ((kind : Kind) (w : ℤ) (st : State) → L true (body (Seek (toCase kind w)) st)) → ((st : State) → L true (body (Seek toDefault) st)) → (st : State) → L false (switch_on body k v st)
  switched body k v h d st =
      behind_exit true false (body (Seek (toCase k v)) st) (λ x. or_else x (body (Seek toDefault)) >>= (λ y. give (leave_cases y))) (h k v st)
      (λ x st1 q. behind_exit true false (or_else x (body (Seek toDefault)) st1) (λ y. give (leave_cases y)) (or_left x (body (Seek toDefault)) st1 q (d st1)) (λ y st2 r. cases_left y r))

  lack_none : (p : Place) → may_lack (Seek p) [] ≡ true
  lack_none (toLabel name) = refl
  lack_none (toCase k v) = refl
  lack_none toDefault = refl

  label_pick : (m l : List ℕ) (rest : List Jump) (a b : Run Exit) (st : State) (test : Bool) → bytes_eq m l ≡ test → L false (a st) → L (not (has_name m rest)) (b st) → L (not (bytes_eq l m || has_name m rest)) (choose test a b st)
  label_pick m l rest a b st true e h k = anyway (not (bytes_eq l m || has_name m rest)) (a st) h
  label_pick m l rest a b st false e h k = subst (λ x. L x (b st)) (sym (ap (λ z. not (z || has_name m rest)) (same_name l m ∙ e))) k

  -- ---- Statements

  module _ (c : Context) (env : Env) (result : Option Kind) (n : ℕ) where
    returned_left : (r : Option Kind) (e : Option t.Ex) (st : State) → L false (returned c r e st)
    returned_left r None st = tt
    returned_left None (Some e) st = behind {A = ℤ} false (value c dropped e st) (λ v. give (Returned None)) (λ v st1. tt)
    returned_left (Some k) (Some e) st = behind {A = ℤ} false (value c used e st) (λ v. give (Returned (Some (to_kind c k v)))) (λ v st1. tt)

    mutual
      statement_left : (s : t.St) (scope : List ℕ) (from : From) (st : State) → AllThere (gotos_of env scope s) → L (may_lack from (labels_of env scope s)) (exec c result n s from st)
      statement_left (t.sDeclaration d) scope Start st g = behind {A = Unit {0}} false (declared c d st) (λ _. give Normal) (λ _ st1. tt)
      statement_left (t.sDeclaration d) scope (Seek p) st g = lack_none p
      statement_left (t.sBlock a ss b) scope from st g = statements_left ss scope from st g
      statement_left (t.sEmpty at) scope Start st g = tt
      statement_left (t.sEmpty at) scope (Seek p) st g = lack_none p
      statement_left (t.sExpr e at) scope Start st g = behind {A = ℤ} false (value c dropped e st) (λ _. give Normal) (λ _ st1. tt)
      statement_left (t.sExpr e at) scope (Seek p) st g = lack_none p
      statement_left (t.sIf h s) scope Start st g =
          behind {A = ℤ} false (condition c h st) (λ v. choose (is_true v) (exec c result n s Start) (give Normal))
          (λ v st1. chosen false (is_true v) (exec c result n s Start) (give Normal) st1 (statement_left s scope Start st1 g) tt)
      statement_left (t.sIf h s) scope (Seek p) st g = statement_left s scope (Seek p) st g
      statement_left (t.sIfElse h s at x) scope Start st g =
          behind {A = ℤ} false (condition c h st) (λ v. choose (is_true v) (exec c result n s Start) (exec c result n x Start))
          (λ v st1. chosen false (is_true v) (exec c result n s Start) (exec c result n x Start) st1 (statement_left s scope Start st1 (there_left (gotos_of env scope s) _ g)) (statement_left x scope Start st1 (there_right (gotos_of env scope s) _ g)))
      statement_left (t.sIfElse h s at x) scope (Seek p) st g =
          behind_exit (may_lack (Seek p) (labels_of env scope s)) (may_lack (Seek p) (labels_of env scope s ++ labels_of env scope x)) (exec c result n s (Seek p) st) (λ y. or_else y (exec c result n x (Seek p)))
          (statement_left s scope (Seek p) st (there_left (gotos_of env scope s) _ g))
          (λ y st1 q. else_left p (labels_of env scope s) (labels_of env scope x) y (exec c result n x (Seek p)) st1 q (statement_left x scope (Seek p) st1 (there_right (gotos_of env scope s) _ g)))
      statement_left (t.sWhile h s) scope Start st g = loop_left (keyword c h) n (condition c h) (exec c result n s Start) (give tt) (λ st1. statement_left s scope Start st1 g) st
      statement_left (t.sWhile h s) scope (Seek p) st g =
          behind_exit (may_lack (Seek p) (labels_of env scope s)) (may_lack (Seek p) (labels_of env scope s)) (exec c result n s (Seek p) st) (λ x. next_turn x (loop (keyword c h) n (condition c h) (exec c result n s Start) (give tt)))
          (statement_left s scope (Seek p) st g)
          (λ x st1 q. turn_left (may_lack (Seek p) (labels_of env scope s)) x (loop (keyword c h) n (condition c h) (exec c result n s Start) (give tt)) st1 q
          (loop_left (keyword c h) n (condition c h) (exec c result n s Start) (give tt) (λ st2. statement_left s scope Start st2 g) st1))
      statement_left (t.sDo at s h b) scope from st g =
          behind_exit (may_lack from (labels_of env scope s)) (may_lack from (labels_of env scope s)) (exec c result n s from st) (λ x. next_turn x (loop at n (condition c h) (exec c result n s Start) (give tt)))
          (statement_left s scope from st g)
          (λ x st1 q. turn_left (may_lack from (labels_of env scope s)) x (loop at n (condition c h) (exec c result n s Start) (give tt)) st1 q
          (loop_left at n (condition c h) (exec c result n s Start) (give tt) (λ st2. statement_left s scope Start st2 g) st1))
      statement_left (t.sFor h s) scope Start st g =
          behind {A = Unit {0}} false (for_start c h st) (λ _. loop (for_keyword c h) n (for_test c h) (exec c result n s Start) (for_step c h))
          (λ _ st1. loop_left (for_keyword c h) n (for_test c h) (exec c result n s Start) (for_step c h) (λ st2. statement_left s (scope ++ declared_for env h) Start st2 g) st1)
      statement_left (t.sFor h s) scope (Seek p) st g =
          let ls = labels_of env (scope ++ declared_for env h) s in
          behind_exit (may_lack (Seek p) ls) (may_lack (Seek p) ls) (exec c result n s (Seek p) st) (λ x. next_turn x (for_step c h >> loop (for_keyword c h) n (for_test c h) (exec c result n s Start) (for_step c h)))
          (statement_left s (scope ++ declared_for env h) (Seek p) st g)
          (λ x st1 q. turn_left (may_lack (Seek p) ls) x (for_step c h >> loop (for_keyword c h) n (for_test c h) (exec c result n s Start) (for_step c h)) st1 q
          (behind {A = Unit {0}} false (for_step c h st1) (λ _. loop (for_keyword c h) n (for_test c h) (exec c result n s Start) (for_step c h))
          (λ _ st2. loop_left (for_keyword c h) n (for_test c h) (exec c result n s Start) (for_step c h) (λ st3. statement_left s (scope ++ declared_for env h) Start st3 g) st2)))
      statement_left (t.sSwitch h s) scope Start st g =
          behind {A = ℤ} false (condition c h st) (λ v. switch_on (exec c result n s) (switch_kind c h) (to_kind c (switch_kind c h) v))
          (λ v st1. switched (exec c result n s) (switch_kind c h) (to_kind c (switch_kind c h) v) (λ k w st2. statement_left s scope (Seek (toCase k w)) st2 g) (λ st2. statement_left s scope (Seek toDefault) st2 g) st1)
      statement_left (t.sSwitch h s) scope (Seek (toLabel l)) st g =
          behind_exit (may_lack (Seek (toLabel l)) (labels_of env scope s)) (may_lack (Seek (toLabel l)) (labels_of env scope s)) (exec c result n s (Seek (toLabel l)) st) (λ x. give (leave_switch x))
          (statement_left s scope (Seek (toLabel l)) st g) (λ x st1 q. switch_left (may_lack (Seek (toLabel l)) (labels_of env scope s)) x q)
      statement_left (t.sSwitch h s) scope (Seek (toCase k v)) st g = refl
      statement_left (t.sSwitch h s) scope (Seek toDefault) st g = refl
      statement_left (t.sCase at e b s) scope Start st g = statement_left s scope Start st g
      statement_left (t.sCase at e b s) scope (Seek p) st g =
          chosen (may_lack (Seek p) (labels_of env scope s)) (is_case c p e) (exec c result n s Start) (exec c result n s (Seek p)) st
          (anyway (may_lack (Seek p) (labels_of env scope s)) (exec c result n s Start st) (statement_left s scope Start st g)) (statement_left s scope (Seek p) st g)
      statement_left (t.sDefault at b s) scope Start st g = statement_left s scope Start st g
      statement_left (t.sDefault at b s) scope (Seek p) st g =
          chosen (may_lack (Seek p) (labels_of env scope s)) (is_default p) (exec c result n s Start) (exec c result n s (Seek p)) st
          (anyway (may_lack (Seek p) (labels_of env scope s)) (exec c result n s Start st) (statement_left s scope Start st g)) (statement_left s scope (Seek p) st g)
      statement_left (t.sLabel l at b ats s) scope Start st g = statement_left s scope Start st g
      statement_left (t.sLabel l at b ats s) scope (Seek (toLabel m)) st g =
          label_pick m l (labels_of env scope s) (exec c result n s Start) (exec c result n s (Seek (toLabel m))) st (bytes_eq m l) refl (statement_left s scope Start st g) (statement_left s scope (Seek (toLabel m)) st g)
      statement_left (t.sLabel l at b ats s) scope (Seek (toCase k v)) st g = statement_left s scope (Seek (toCase k v)) st g
      statement_left (t.sLabel l at b ats s) scope (Seek toDefault) st g = statement_left s scope (Seek toDefault) st g
      statement_left (t.sGoto at l x b) scope Start st g = behind {A = Unit {0}} false (turn at st) (λ _. give (Jumped l)) (λ _ st1. g.0)
      statement_left (t.sGoto at l x b) scope (Seek p) st g = lack_none p
      statement_left (t.sBreak at b) scope Start st g = tt
      statement_left (t.sBreak at b) scope (Seek p) st g = lack_none p
      statement_left (t.sContinue at b) scope Start st g = tt
      statement_left (t.sContinue at b) scope (Seek p) st g = lack_none p
      statement_left (t.sReturn at e b) scope Start st g = returned_left result e st
      statement_left (t.sReturn at e b) scope (Seek p) st g = lack_none p

      pub statements_left : (ss : t.Sts) (scope : List ℕ) (from : From) (st : State) → AllThere (gotos_of_all env scope ss) → L (may_lack from (labels_of_all env scope ss)) (exec_all c result n ss from st)
      statements_left t.no_statements scope Start st g = tt
      statements_left t.no_statements scope (Seek p) st g = lack_none p
      statements_left (t.statements_and ss s) scope Start st g =
          behind_exit false false (exec_all c result n ss Start st) (λ x. then_do x (exec c result n s Start)) (statements_left ss scope Start st (there_left (gotos_of_all env scope ss) _ g))
          (λ x st1 q. then_left x (exec c result n s Start) st1 q (statement_left s (scope ++ declared_in env ss) Start st1 (there_right (gotos_of_all env scope ss) _ g)))
      statements_left (t.statements_and ss s) scope (Seek p) st g =
          let own = scope ++ declared_in env ss in
          let rest = there_right (gotos_of_all env scope ss) (gotos_of env own s) g in
          behind_exit (may_lack (Seek p) (labels_of_all env scope ss)) (may_lack (Seek p) (labels_of_all env scope ss ++ labels_of env own s)) (exec_all c result n ss (Seek p) st) (λ x. found x (exec c result n s Start) (exec c result n s (Seek p)))
          (statements_left ss scope (Seek p) st (there_left (gotos_of_all env scope ss) _ g))
          (λ x st1 q. found_left p (labels_of_all env scope ss) (labels_of env own s) x (exec c result n s Start) (exec c result n s (Seek p)) st1 q (statement_left s own Start st1 rest) (statement_left s own (Seek p) st1 rest))
