-- Each function that is called in a typed tree is there.
use Rattle.std.proofs.Common.{◌≡◌, ℕ, ◌<◌, ◌+◌, Bool, true, false, List, [], ◌∷◌, ◌++◌, length, map, Option, None, Some, refl, ap, ◌∙◌, sym, arith}
use Rattle.std.specs.Prelude.{nat_lt, ◌&&◌, slice_get}
use Rattle.std.specs.List.{list_all}
use Rattle.std.proofs.lemmas.Bool.{lt-ltb}
use Rattle.std.proofs.lemmas.List.{length-map}
use Rattle.std.proofs.lemmas.Option.{slice_get_within}
use Rattle.lv_base.specs.declared.kind.Kind.{Kind}
use Rattle.lv_base.specs.declared.kind.Model.{Model}
use Rattle.c_typed.specs.Tree as t
use Rattle.c_typed.specs.Rules as r
use Rattle.c_typed.specs.Facts as f
use Rattle.call_order.specs.Order.{callees}
use Rattle.call_order.specs.Layers.{IsBounded}

and_first : (a b : Bool) → (a && b) ≡ true → a ≡ true
and_first true b h = refl
and_first false b h = h

and_both : (a b : Bool) → a ≡ true → b ≡ true → (a && b) ≡ true
and_both a b p q = ap (λ z. z && b) p ∙ q

all_two : {A : Type 0} (p : A → Bool) (xs ys : List A) → list_all p xs ≡ true → list_all p ys ≡ true → list_all p (xs ++ ys) ≡ true
all_two p [] ys h k = k
all_two p (x ∷ xs) ys h k = and_both (p x) (list_all p (xs ++ ys)) (and_first (p x) (list_all p xs) h) (all_two p xs ys (second (p x) (list_all p xs) h) k)
  where
    second : (a b : Bool) → (a && b) ≡ true → b ≡ true
    second true b h = h
    second false true h = refl
    second false false h = h

calls_append : (xs ys : List t.Val) → r.calls_of (xs ++ ys) ≡ r.calls_of xs ++ r.calls_of ys
calls_append [] ys = refl
calls_append (x ∷ xs) ys = ap (λ z. r.calls x ++ z) (calls_append xs ys) ∙ sym (assoc (r.calls x) (r.calls_of xs) (r.calls_of ys))
  where
    assoc : (a b c : List r.Call) → (a ++ b) ++ c ≡ a ++ (b ++ c)
    assoc [] b c = refl
    assoc (z ∷ a) b c = ap (λ w. z ∷ w) (assoc a b c)

module _ (model : Model) (objects : List t.Object) (functions : List t.Function) where
  abbrev is_there : r.Call → Bool
  is_there c = nat_lt c.to (length functions)

  abbrev There : List r.Call → Type 0
  There cs = list_all is_there cs ≡ true

  both_there : (xs ys : List r.Call) → There xs → There ys → There (xs ++ ys)
  both_there xs ys h k = all_two is_there xs ys h k

  mutual
    calls_there : (e : t.Val) → f.Fits model objects functions e → There (r.calls e)
    calls_there (t.vConstant k v) h = refl
    calls_there (t.vRead k object) h = refl
    calls_there (t.vElement k at object i) h = calls_there i h.2
    calls_there (t.vWhole object) h = refl
    calls_there t.vNothing h = refl
    calls_there (t.vConvert k e) h = calls_there e h.1
    calls_there (t.vDiscard e) h = calls_there e h
    calls_there (t.vNegate k at e) h = calls_there e h.2
    calls_there (t.vComplement k at e) h = calls_there e h.2
    calls_there (t.vNot e) h = calls_there e h.1
    calls_there (t.vBinary o k at a b) h = both_there (r.calls a) (r.calls b) (calls_there a h.4) (calls_there b h.5)
    calls_there (t.vBoth a b) h = both_there (r.calls a) (r.calls b) (calls_there a h.2) (calls_there b h.3)
    calls_there (t.vEither a b) h = both_there (r.calls a) (r.calls b) (calls_there a h.2) (calls_there b h.3)
    calls_there (t.vCond k c a b) h = both_there (r.calls c ++ r.calls a) (r.calls b) (both_there (r.calls c) (r.calls a) (calls_there c h.3) (calls_there a h.4)) (calls_there b h.5)
    calls_there (t.vAssign k at g e) h = both_there (r.calls_of_goal g) (r.calls e) (goal_there k g h.0) (calls_there e h.2)
    calls_there (t.vUpdate o k l at g e) h = both_there (r.calls_of_goal g) (r.calls e) (goal_there l g h.3) (calls_there e h.5)
    calls_there (t.vChange before by k at g) h = goal_there k g h
    calls_there (t.vCall result at x fn es) h =
        and_both (nat_lt fn (length functions)) (list_all is_there (r.calls_in es)) (lt-ltb fn (length functions) (slice_get_within functions fn h.0.told h.0.there)) (all_there es h.1)
    calls_there (t.vReach at) h = refl
    calls_there t.vAbort h = refl
    calls_there (t.vDraw k) h = refl
    calls_there (t.vComma es e) h = both_there (r.calls_in es) (r.calls e) (all_there es h.0) (calls_there e h.1)

    all_there : (es : t.Vals) → f.AllFit model objects functions es → There (r.calls_in es)
    all_there t.no_values h = refl
    all_there (t.values_and es e) h = both_there (r.calls_in es) (r.calls e) (all_there es h.0) (calls_there e h.1)

    goal_there : (k : Kind) (g : t.Goal) → f.GoalFits model objects functions k g → There (r.calls_of_goal g)
    goal_there k (t.gObject object) h = refl
    goal_there k (t.gElement at object i) h = calls_there i h.2

  -- ---- Values of a body

  abbrev AllThere : List t.Val → Type 0
  AllThere es = There (r.calls_of es)

  two_there : (xs ys : List t.Val) → AllThere xs → AllThere ys → AllThere (xs ++ ys)
  two_there xs ys h k = ap (list_all is_there) (calls_append xs ys) ∙ both_there (r.calls_of xs) (r.calls_of ys) h k

  one_there : (e : t.Val) → f.Fits model objects functions e → AllThere (e ∷ [])
  one_there e h = both_there (r.calls e) [] (calls_there e h) refl

  parts_there : (k : Kind) (es : t.Vals) → f.AllOf model objects functions k es → AllThere (r.all_parts es)
  parts_there k t.no_values h = refl
  parts_there k (t.values_and es e) h = two_there (r.all_parts es) (e ∷ []) (parts_there k es h.0) (one_there e h.2)

  option_there : (e : Option t.Val) → f.OptionFits model objects functions e → AllThere (r.all_option e)
  option_there None h = refl
  option_there (Some e) h = one_there e h

  test_there : (e : Option t.Val) → f.TestFits model objects functions e → AllThere (r.all_option e)
  test_there None h = refl
  test_there (Some e) h = one_there e h.1

  return_there : (k : Option Kind) (e : Option t.Val) → f.ReturnFits model objects functions k e → AllThere (r.all_option e)
  return_there k None h = refl
  return_there None (Some e) h = one_there e h
  return_there (Some k) (Some e) h = one_there e h.1

  module _ (function : ℕ) (result : Option Kind) where
    mutual
      step_there : (s : t.Step) → f.StepFits model objects functions function result s → AllThere (r.all_values s)
      step_there (t.pDraw object) h = refl
      step_there (t.pBegin object es) h = parts_there h.told.kind es h.values
      step_there (t.pBlock ss) h = steps_there ss h
      step_there t.pEmpty h = refl
      step_there (t.pEffect e) h = one_there e h
      step_there (t.pIf e s) h = two_there (e ∷ []) (r.all_values s) (one_there e h.1) (step_there s h.2)
      step_there (t.pIfElse e s u) h = two_there (e ∷ r.all_values s) (r.all_values u) (two_there (e ∷ []) (r.all_values s) (one_there e h.1) (step_there s h.2)) (step_there u h.3)
      step_there (t.pWhile at e s) h = two_there (e ∷ []) (r.all_values s) (one_there e h.1) (step_there s h.2)
      step_there (t.pSwitch at k e s) h = two_there (e ∷ []) (r.all_values s) (one_there e h.2) (step_there s h.3)
      step_there (t.pDo at s e) h = two_there (r.all_values s) (e ∷ []) (step_there s h.0) (one_there e h.2)
      step_there (t.pFor at start e third s) h =
          two_there (r.all_of_all start ++ r.all_option e ++ r.all_option third) (r.all_values s)
          (two_there (r.all_of_all start ++ r.all_option e) (r.all_option third) (two_there (r.all_of_all start) (r.all_option e) (steps_there start h.0) (test_there e h.1)) (option_there third h.2))
          (step_there s h.3)
      step_there (t.pCase at v s) h = step_there s h
      step_there (t.pDefault at s) h = step_there s h
      step_there (t.pLabel n at s) h = step_there s h
      step_there (t.pGoto at n x) h = refl
      step_there (t.pBreak at) h = refl
      step_there (t.pContinue at) h = refl
      step_there (t.pReturn at e) h = return_there result e h

      steps_there : (ss : t.Steps) → f.StepsFit model objects functions function result ss → AllThere (r.all_of_all ss)
      steps_there t.no_steps h = refl
      steps_there (t.steps_and ss s) h = two_there (r.all_of_all ss) (r.all_values s) (steps_there ss h.0) (step_there s h.1)

-- ---- Functions

all_targets : (n : ℕ) (cs : List r.Call) → list_all (λ c. nat_lt c.to n) cs ≡ true → list_all (λ g. nat_lt g n) (map (λ c. c.to) cs) ≡ true
all_targets n [] h = refl
all_targets n (c ∷ cs) h = and_both (nat_lt c.to n) _ (and_first (nat_lt c.to n) _ h) (all_targets n cs (second (nat_lt c.to n) _ h))
  where
    second : (a b : Bool) → (a && b) ≡ true → b ≡ true
    second true b h = h
    second false true h = refl
    second false false h = h

functions_there : (model : Model) (objects : List t.Object) (functions : List t.Function) (number : ℕ) (fs : List t.Function) → f.FunctionsFit model objects functions number fs →
    list_all (λ gs. list_all (λ g. nat_lt g (length functions)) gs) (map (λ cs. map (λ c. c.to) cs) (r.calls_of_functions fs)) ≡ true
functions_there model objects functions number [] h = refl
functions_there model objects functions number (fn ∷ fs) h =
    and_both _ _ (all_targets (length functions) (r.calls_of (r.all_of_all fn.body)) (steps_there model objects functions number fn.result fn.body h.0.body))
    (functions_there model objects functions (number + 1) fs h.1)

pub count_is : (program : t.Program) → length (callees program) ≡ length program.functions
count_is program = length-map (r.calls_of_functions program.functions) (λ cs. map (λ c. c.to) cs) ∙ length-map program.functions (λ fn. r.calls_of (r.all_of_all fn.body))

pub bounded : (program : t.Program) → f.IsTyped program → IsBounded (callees program)
bounded program h =
    ap (λ z. list_all (λ gs. list_all (λ g. nat_lt g z) gs) (callees program)) (count_is program) ∙ functions_there program.model program.objects program.functions 0 program.functions h.functions
