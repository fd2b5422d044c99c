-- Code in which all turns at an offset go to one place, and no call stands at it.
use Rattle.std.proofs.Common.{◌≡◌, ◌⊎◌, inl, inr, ℕ, zero, suc, ◌+◌, ◌≤◌, ◌<◌, Bool, List, [], ◌∷◌, ◌++◌, length, Option, None, Some, slice_get, ℤ, refl, sym, ap, ◌∙◌, subst, arith}
use Rattle.lv_base.specs.declared.kind.Kind.{Kind}
use Rattle.lv_base.specs.declared.kind.Model.{Model}
use Rattle.lv_base.specs.Integers.{converted}
use Rattle.c_run.specs.Operators.{Use, used, dropped}
use Rattle.c_typed.specs.Tree as t
use Rattle.c_typed.specs.Tree.{Object, Function}
use Rattle.slot_code.specs.declared.flat.Instruction.{Instruction}
use Rattle.slot_code.specs.declared.flat.Instruction.TheVariants as i
use Rattle.slot_code.specs.Values.{Link, link_of, number_of, parameters_of, is_needed, bind_code, call_code, kept_code, value_code, values_code, drops_code, goal_code, effect_code, test_code}
use Rattle.slot_code.specs.Statements.{Name, aLabel, aCase, aDefault, Mark, cases_code, loop_code, return_code, return_value, marks_of, step_code, steps_code}
use Rattle.cfg_build.specs.Looped.{loops_of, loops_in}
use Rattle.call_order.specs.Order.{times}
use Rattle.loop_listing_laws.specs.Asking.{calls_of, calls_to, calls_in, calls_if, asks_of, asks_in}
use Rattle.loop_listing_laws.proofs.Counting.{times-both, times-here, times-one}

-- an instruction: a turn at the offset goes to the place, and it is no call at it
abbrev pub Calm : (x goal : ℕ) → Instruction → Type 0
Calm x goal (i.Turn at to) = at ≡ x → to ≡ goal
Calm x goal (i.Call at entry slot) = at ≡ x → ⊥
Calm x goal _ = Unit {0}

abbrev pub AllCalm : (x goal : ℕ) → List Instruction → Type 0
AllCalm x goal [] = Unit {0}
AllCalm x goal (c ∷ cs) = Calm x goal c × AllCalm x goal cs

pub calm-both : (x goal : ℕ) (xs ys : List Instruction) → AllCalm x goal xs → AllCalm x goal ys → AllCalm x goal (xs ++ ys)
calm-both x goal [] ys h k = k
calm-both x goal (c ∷ xs) ys h k = (h.0, calm-both x goal xs ys h.1 k)

-- an offset that is none of two lists is none of either
pub none-left : (x : ℕ) (xs ys : List ℕ) → times x (xs ++ ys) ≡ 0 → times x xs ≡ 0
none-left x xs ys h = let e = times-both x xs ys in omega (arith, e, h)

pub none-right : (x : ℕ) (xs ys : List ℕ) → times x (xs ++ ys) ≡ 0 → times x ys ≡ 0
none-right x xs ys h = let e = times-both x xs ys in omega (arith, e, h)

pub none-here : (x y : ℕ) (xs : List ℕ) → times x (y ∷ xs) ≡ 0 → y ≡ x → ⊥
none-here x y xs h is = let e = subst (λ (z : ℕ). times x (z ∷ xs) ≡ 0) is h in let f = times-here x xs in absurd (omega (arith, e, f))

pub none-behind : (x y : ℕ) (xs : List ℕ) → times x (y ∷ xs) ≡ 0 → times x xs ≡ 0
none-behind x y xs h = omega (arith, h)

-- ---- Values

binds-calm : (x goal slot : ℕ) (objects : List ℕ) (count : ℕ) → AllCalm x goal (bind_code slot objects count)
binds-calm x goal slot [] count = tt
binds-calm x goal slot (object ∷ objects) zero = tt
binds-calm x goal slot (object ∷ objects) (suc count) = (tt, binds-calm x goal (suc slot) objects count)

call-calm : (x goal slot at : ℕ) (needed : Bool) (objects : List ℕ) (count : ℕ) (l : Option Link) → (at ≡ x → ⊥) → AllCalm x goal (call_code slot at needed objects count l)
call-calm x goal slot at needed objects count None other = (tt, tt)
call-calm x goal slot at needed objects count (Some l) other = calm-both x goal (bind_code slot objects count) _ (binds-calm x goal slot objects count) (other, (tt, tt))

kept-calm : (x goal slot : ℕ) (k : Option Kind) → AllCalm x goal (kept_code slot k)
kept-calm x goal slot None = (tt, tt)
kept-calm x goal slot (Some k) = tt

module _ (objects : List Object) (functions : List Function) (links : List Link) (x goal : ℕ) where
  abbrev both : (xs ys : List Instruction) → AllCalm x goal xs → AllCalm x goal ys → AllCalm x goal (xs ++ ys)
  both xs ys h k = calm-both x goal xs ys h k

  abbrev code : Use → ℕ → t.Val → List Instruction
  code u slot e = value_code objects functions links u slot e

  mutual
    pub value-calm : (u : Use) (slot : ℕ) (e : t.Val) → times x (calls_of e) ≡ 0 → AllCalm x goal (value_code objects functions links u slot e)
    value-calm u slot (t.vConstant k v) h = (tt, tt)
    value-calm u slot (t.vRead k object) h = (tt, tt)
    value-calm u slot (t.vElement k at object e) h = both (code used slot e) _ (value-calm used slot e h) (tt, tt)
    value-calm u slot (t.vWhole object) h = (tt, tt)
    value-calm u slot t.vNothing h = (tt, tt)
    value-calm u slot (t.vConvert k e) h = both (code used slot e) _ (value-calm used slot e h) (tt, tt)
    value-calm u slot (t.vDiscard e) h = both (code dropped slot e) _ (value-calm dropped slot e h) (tt, tt)
    value-calm u slot (t.vNegate k at e) h = both (code used slot e) _ (value-calm used slot e h) (tt, tt)
    value-calm u slot (t.vComplement k at e) h = both (code used slot e) _ (value-calm used slot e h) (tt, tt)
    value-calm u slot (t.vNot e) h = both (code used slot e) _ (value-calm used slot e h) (tt, tt)
    value-calm u slot (t.vBinary o k at a b) h =
        both (code used slot a ++ code used (suc slot) b) _ (both (code used slot a) (code used (suc slot) b) (value-calm used slot a (none-left x (calls_of a) (calls_of b) h)) (value-calm used (suc slot) b (none-right x (calls_of a) (calls_of b) h))) (tt, tt)
    value-calm u slot (t.vBoth a b) h =
        both (code used slot a ++ i.SkipZero slot _ ∷ code used slot b) _ (both (code used slot a) (i.SkipZero slot _ ∷ code used slot b) (value-calm used slot a (none-left x (calls_of a) (calls_of b) h)) (tt, value-calm used slot b (none-right x (calls_of a) (calls_of b) h)))
        (tt, (tt, (tt, tt)))
    value-calm u slot (t.vEither a b) h =
        both (code used slot a ++ i.SkipZero slot 2 ∷ i.Constant slot _ ∷ i.Jump _ ∷ code used slot b) _
        (both (code used slot a) (i.SkipZero slot 2 ∷ i.Constant slot _ ∷ i.Jump _ ∷ code used slot b) (value-calm used slot a (none-left x (calls_of a) (calls_of b) h)) (tt, (tt, (tt, value-calm used slot b (none-right x (calls_of a) (calls_of b) h)))))
        (tt, tt)
    value-calm u slot (t.vCond k c a b) h =
        let two = none-left x (calls_of c ++ calls_of a) (calls_of b) h in
        both (code used slot c ++ i.SkipZero slot _ ∷ code used slot a ++ i.Jump _ ∷ code used slot b) (kept_code slot k)
        (both (code used slot c ++ i.SkipZero slot _ ∷ code used slot a) (i.Jump _ ∷ code used slot b)
        (both (code used slot c) (i.SkipZero slot _ ∷ code used slot a) (value-calm used slot c (none-left x (calls_of c) (calls_of a) two)) (tt, value-calm used slot a (none-right x (calls_of c) (calls_of a) two)))
        (tt, value-calm used slot b (none-right x (calls_of c ++ calls_of a) (calls_of b) h)))
        (kept-calm x goal slot k)
    value-calm u slot (t.vAssign k at g e) h =
        both (goal_code objects functions links slot g ++ code used (suc slot) e) _
        (both (goal_code objects functions links slot g) (code used (suc slot) e) (goal-calm slot g (none-left x (calls_to g) (calls_of e) h)) (value-calm used (suc slot) e (none-right x (calls_to g) (calls_of e) h))) (tt, tt)
    value-calm u slot (t.vUpdate o k l at g e) h =
        both (goal_code objects functions links slot g ++ i.Load slot _ ∷ code used (suc (suc slot)) e) _
        (both (goal_code objects functions links slot g) (i.Load slot _ ∷ code used (suc (suc slot)) e) (goal-calm slot g (none-left x (calls_to g) (calls_of e) h)) (tt, value-calm used (suc (suc slot)) e (none-right x (calls_to g) (calls_of e) h))) (tt, tt)
    value-calm u slot (t.vChange before by k at g) h = both (goal_code objects functions links slot g) _ (goal-calm slot g h) (tt, tt)
    value-calm u slot (t.vCall k at name f es) h =
        both (values_code objects functions links slot es) _ (values-calm slot es (none-behind x at (calls_in es) h))
        (call-calm x goal slot at (is_needed u k) (parameters_of (slice_get functions f)) (number_of es) (link_of f links) (none-here x at (calls_in es) h))
    value-calm u slot (t.vReach at) h = (tt, tt)
    value-calm u slot t.vAbort h = (tt, tt)
    value-calm u slot (t.vDraw k) h = (tt, tt)
    value-calm u slot (t.vComma es e) h =
        both (drops_code objects functions links slot es) (code used slot e) (drops-calm slot es (none-left x (calls_in es) (calls_of e) h)) (value-calm used slot e (none-right x (calls_in es) (calls_of e) h))

    pub values-calm : (slot : ℕ) (es : t.Vals) → times x (calls_in es) ≡ 0 → AllCalm x goal (values_code objects functions links slot es)
    values-calm slot t.no_values h = tt
    values-calm slot (t.values_and es e) h =
        both (values_code objects functions links slot es) (code used (slot + number_of es) e) (values-calm slot es (none-left x (calls_in es) (calls_of e) h)) (value-calm used (slot + number_of es) e (none-right x (calls_in es) (calls_of e) h))

    drops-calm : (slot : ℕ) (es : t.Vals) → times x (calls_in es) ≡ 0 → AllCalm x goal (drops_code objects functions links slot es)
    drops-calm slot t.no_values h = tt
    drops-calm slot (t.values_and es e) h =
        both (drops_code objects functions links slot es) (code dropped slot e) (drops-calm slot es (none-left x (calls_in es) (calls_of e) h)) (value-calm dropped slot e (none-right x (calls_in es) (calls_of e) h))

    goal-calm : (slot : ℕ) (g : t.Goal) → times x (calls_to g) ≡ 0 → AllCalm x goal (goal_code objects functions links slot g)
    goal-calm slot (t.gObject object) h = (tt, tt)
    goal-calm slot (t.gElement at object e) h = both (code used slot e) _ (value-calm used slot e h) (tt, tt)

  pub effect-calm : (slot : ℕ) (e : Option t.Val) → times x (calls_if e) ≡ 0 → AllCalm x goal (effect_code objects functions links slot e)
  effect-calm slot None h = tt
  effect-calm slot (Some e) h = value-calm dropped slot e h

  pub test-calm : (slot : ℕ) (e : Option t.Val) → times x (calls_if e) ≡ 0 → AllCalm x goal (test_code objects functions links slot e)
  test-calm slot None h = (tt, tt)
  test-calm slot (Some e) h = value-calm used slot e h

-- ---- Statements

-- code that loops where neither its parts nor its turn asks at the offset, or all go to the place
pub loop-calm : (x goal at place slot : ℕ) (test body step : List Instruction) → AllCalm x goal test → AllCalm x goal body → AllCalm x goal step → (at ≡ x → place ≡ goal) → AllCalm x goal (loop_code at place slot test body step)
loop-calm x goal at place slot test body step a b c d =
    calm-both x goal (test ++ i.SkipZero slot _ ∷ body ++ step) _
    (calm-both x goal (test ++ i.SkipZero slot _ ∷ body) step (calm-both x goal test (i.SkipZero slot _ ∷ body) a (tt, b)) c) (d, tt)

case-calm : (x goal : ℕ) (model : Model) (slot : ℕ) (k : Kind) (place : ℕ) (rest : List Instruction) (n : Name) → AllCalm x goal rest
    → AllCalm x goal (elim n [ aLabel l ↦ rest | aCase v ↦ i.SkipEqual slot (converted k model v) (length rest + 1 + place) ∷ rest | aDefault ↦ rest ])
case-calm x goal model slot k place rest (aLabel l) h = h
case-calm x goal model slot k place rest (aCase v) h = (tt, h)
case-calm x goal model slot k place rest aDefault h = h

pub cases-calm : (x goal : ℕ) (model : Model) (slot : ℕ) (k : Kind) (ms : List Mark) → AllCalm x goal (cases_code model slot k ms)
cases-calm x goal model slot k [] = tt
cases-calm x goal model slot k (m ∷ ms) = case-calm x goal model slot k m.place (cases_code model slot k ms) m.name (cases-calm x goal model slot k ms)

return-calm : (x goal slot place end : ℕ) (k : Option Kind) (value : List Instruction) (e : Option t.Val) → AllCalm x goal value → AllCalm x goal (return_code slot place end k value e)
return-calm x goal slot place end k value None h = (tt, tt)
return-calm x goal slot place end None value (Some e) h = calm-both x goal value _ h (tt, tt)
return-calm x goal slot place end (Some k) value (Some e) h = calm-both x goal value _ h (tt, (tt, tt))

module _ (model : Model) (objects : List Object) (functions : List Function) (links : List Link) (result : Option Kind) (slot end : ℕ) (labels : List ℕ → ℕ) (x : ℕ) where
  abbrev part : (b d p : ℕ) → t.Step → List Instruction
  part b d p s = step_code model objects functions links result slot end labels b d p s

  abbrev parts : (b d p : ℕ) → t.Steps → List Instruction
  parts b d p ss = steps_code model objects functions links result slot end labels b d p ss

  returned-calm : (goal : ℕ) (e : Option t.Val) → times x (calls_if e) ≡ 0 → AllCalm x goal (return_value model objects functions links result slot e)
  returned-calm goal None h = tt
  returned-calm goal (Some e) h = value-calm objects functions links x goal _ slot e h

  module _ (goal : ℕ) where
    abbrev value : (u : Use) (e : t.Val) → times x (calls_of e) ≡ 0 → AllCalm x goal (value_code objects functions links u slot e)
    value u e h = value-calm objects functions links x goal u slot e h

    -- that doesn't ask at the offset at all
    mutual
      pub step-calm : (s : t.Step) (b d p : ℕ) → times x (asks_of s) ≡ 0 → AllCalm x goal (part b d p s)
      step-calm (t.pDraw object) b d p h = (tt, tt)
      step-calm (t.pBegin object es) b d p h = calm-both x goal (values_code objects functions links slot es) _ (values-calm objects functions links x goal slot es h) (tt, tt)
      step-calm (t.pBlock ss) b d p h = steps-calm ss b d p h
      step-calm t.pEmpty b d p h = tt
      step-calm (t.pEffect e) b d p h = value dropped e h
      step-calm (t.pIf e s) b d p h =
          calm-both x goal (value_code objects functions links used slot e) _ (value used e (none-left x (calls_of e) (asks_of s) h)) (tt, step-calm s _ _ _ (none-right x (calls_of e) (asks_of s) h))
      step-calm (t.pIfElse e s r) b d p h =
          let two = none-left x (calls_of e ++ asks_of s) (asks_of r) h in
          calm-both x goal (value_code objects functions links used slot e ++ i.SkipZero slot _ ∷ part b d _ s) _
          (calm-both x goal (value_code objects functions links used slot e) (i.SkipZero slot _ ∷ part b d _ s) (value used e (none-left x (calls_of e) (asks_of s) two)) (tt, step-calm s b d _ (none-right x (calls_of e) (asks_of s) two)))
          (tt, step-calm r b d _ (none-right x (calls_of e ++ asks_of s) (asks_of r) h))
      step-calm (t.pWhile at e s) b d p h =
          let no = none-here x at (calls_of e ++ asks_of s) h in
          let rest = none-behind x at (calls_of e ++ asks_of s) h in
          ((λ is. absurd (no is)), loop-calm x goal at (suc p) slot (value_code objects functions links used slot e) (part _ _ _ s) [] (value used e (none-left x (calls_of e) (asks_of s) rest)) (step-calm s _ _ _ (none-right x (calls_of e) (asks_of s) rest)) tt (λ is. absurd (no is)))
      step-calm (t.pDo at s e) b d p h =
          let no = none-here x at (calls_of e ++ asks_of s) h in
          let rest = none-behind x at (calls_of e ++ asks_of s) h in
          (tt, loop-calm x goal at (suc p) slot (value_code objects functions links used slot e) (part _ _ _ s) [] (value used e (none-left x (calls_of e) (asks_of s) rest)) (step-calm s _ _ _ (none-right x (calls_of e) (asks_of s) rest)) tt (λ is. absurd (no is)))
      step-calm (t.pFor at start e step s) b d p h =
          let no = none-here x at (asks_in start ++ calls_if e ++ calls_if step ++ asks_of s) h in
          let rest = none-behind x at (asks_in start ++ calls_if e ++ calls_if step ++ asks_of s) h in
          let three = none-left x (asks_in start ++ calls_if e ++ calls_if step) (asks_of s) rest in
          let two = none-left x (asks_in start ++ calls_if e) (calls_if step) three in
          calm-both x goal (parts b d p start) _ (steps-calm start b d p (none-left x (asks_in start) (calls_if e) two)) (
            (λ is. absurd (no is)),
            loop-calm x goal at _ slot (test_code objects functions links slot e) (part _ _ _ s) (effect_code objects functions links slot step)
                (test-calm objects functions links x goal slot e (none-right x (asks_in start) (calls_if e) two))
                (step-calm s _ _ _ (none-right x (asks_in start ++ calls_if e ++ calls_if step) (asks_of s) rest))
                (effect-calm objects functions links x goal slot step (none-right x (asks_in start ++ calls_if e) (calls_if step) three)) (λ is. absurd (no is)),
          )
      step-calm (t.pSwitch at k e s) b d p h =
          calm-both x goal (value_code objects functions links used slot e ++ cases_code model slot k (marks_of model objects functions links result slot s)) _
          (calm-both x goal (value_code objects functions links used slot e) (cases_code model slot k (marks_of model objects functions links result slot s)) (value used e (none-left x (calls_of e) (asks_of s) h)) (cases-calm x goal model slot k (marks_of model objects functions links result slot s)))
          (tt, step-calm s _ _ _ (none-right x (calls_of e) (asks_of s) h))
      step-calm (t.pCase at v s) b d p h = step-calm s b d p h
      step-calm (t.pDefault at s) b d p h = step-calm s b d p h
      step-calm (t.pLabel l at s) b d p h = step-calm s b d p h
      step-calm (t.pGoto at l y) b d p h = ((λ is. absurd (none-here x at [] h is)), tt)
      step-calm (t.pBreak at) b d p h = (tt, tt)
      step-calm (t.pContinue at) b d p h = (tt, tt)
      step-calm (t.pReturn at e) b d p h = return-calm x goal slot p end result (return_value model objects functions links result slot e) e (returned-calm goal e h)

      pub steps-calm : (ss : t.Steps) (b d p : ℕ) → times x (asks_in ss) ≡ 0 → AllCalm x goal (parts b d p ss)
      steps-calm t.no_steps b d p h = tt
      steps-calm (t.steps_and ss s) b d p h =
          calm-both x goal (parts b d p ss) _ (steps-calm ss b d p (none-left x (asks_in ss) (asks_of s) h)) (step-calm s b d _ (none-right x (asks_in ss) (asks_of s) h))
