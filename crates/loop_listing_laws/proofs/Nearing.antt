-- In code that asks at a loop's offset once, all turns at it go to the loop's condition.
use Rattle.std.proofs.Common.{◌≡◌, ◌⊎◌, inl, inr, ℕ, zero, suc, ◌+◌, ◌≤◌, ◌<◌, List, [], ◌∷◌, ◌++◌, length, Option, None, Some, refl, sym, ap, ◌∙◌, subst, arith}
use Rattle.lv_base.specs.declared.kind.Kind.{Kind}
use Rattle.lv_base.specs.declared.kind.Model.{Model}
use Rattle.c_run.specs.Operators.{used}
use Rattle.c_typed.specs.Tree as t
use Rattle.c_typed.specs.Tree.{Object, Function}
use Rattle.slot_code.specs.declared.flat.Instruction.{Instruction}
use Rattle.slot_code.specs.declared.flat.Instruction.TheVariants as i
use Rattle.slot_code.specs.Values.{Link, value_code, effect_code, test_code}
use Rattle.slot_code.specs.Statements.{cases_code, loop_code, marks_of, step_code, steps_code}
use Rattle.cfg_build.specs.Looped.{loops_of, loops_in}
use Rattle.call_order.specs.Order.{times}
use Rattle.loop_listing_laws.specs.Asking.{calls_of, calls_if, asks_of, asks_in}
use Rattle.loop_listing_laws.proofs.Counting.{times-both, times-here, times-one, times-other, some-of}
use Rattle.loop_listing_laws.proofs.Calming.{AllCalm, calm-both, value-calm, effect-calm, test-calm, loop-calm, cases-calm, step-calm, steps-calm}

-- ---- A loop asks at its offset

within : (x y : ℕ) (xs ys : List ℕ) → times x xs ≤ times x ys → times x (y ∷ xs) ≤ times x (y ∷ ys)
within x y xs ys h = omega (arith, h)

behind : (x : ℕ) (xs ys zs : List ℕ) → times x xs ≤ times x zs → times x xs ≤ times x (ys ++ zs)
behind x xs ys zs h = let e = times-both x ys zs in omega (arith, e, h)

mutual
  pub loops-ask : (x : ℕ) (s : t.Step) → times x (loops_of s) ≤ times x (asks_of s)
  loops-ask x (t.pDraw object) = omega arith
  loops-ask x (t.pBegin object es) = omega arith
  loops-ask x (t.pBlock ss) = all-loops-ask x ss
  loops-ask x t.pEmpty = omega arith
  loops-ask x (t.pEffect e) = omega arith
  loops-ask x (t.pIf e s) = behind x (loops_of s) (calls_of e) (asks_of s) (loops-ask x s)
  loops-ask x (t.pIfElse e a b) =
      let p = times-both x (calls_of e ++ asks_of a) (asks_of b) in
      let q = times-both x (calls_of e) (asks_of a) in
      let r = times-both x (loops_of a) (loops_of b) in
      let m = loops-ask x a in
      let n = loops-ask x b in
      omega (arith, p, q, r, m, n)
  loops-ask x (t.pWhile at e s) = within x at (loops_of s) (calls_of e ++ asks_of s) (behind x (loops_of s) (calls_of e) (asks_of s) (loops-ask x s))
  loops-ask x (t.pSwitch at k e s) = behind x (loops_of s) (calls_of e) (asks_of s) (loops-ask x s)
  loops-ask x (t.pDo at s e) = let h = behind x (loops_of s) (calls_of e) (asks_of s) (loops-ask x s) in omega (arith, h)
  loops-ask x (t.pFor at start e step s) = within x at (loops_of s) _ (behind x (loops_of s) (asks_in start ++ calls_if e ++ calls_if step) (asks_of s) (loops-ask x s))
  loops-ask x (t.pCase at v s) = loops-ask x s
  loops-ask x (t.pDefault at s) = loops-ask x s
  loops-ask x (t.pLabel l at s) = loops-ask x s
  loops-ask x (t.pGoto at l y) = omega arith
  loops-ask x (t.pBreak at) = omega arith
  loops-ask x (t.pContinue at) = omega arith
  loops-ask x (t.pReturn at e) = omega arith

  pub all-loops-ask : (x : ℕ) (ss : t.Steps) → times x (loops_in ss) ≤ times x (asks_in ss)
  all-loops-ask x t.no_steps = omega arith
  all-loops-ask x (t.steps_and ss s) =
      let p = times-both x (asks_in ss) (asks_of s) in
      let q = times-both x (loops_in ss) (loops_of s) in
      let m = all-loops-ask x ss in
      let n = loops-ask x s in
      omega (arith, p, q, m, n)

-- ---- Where its turns go

abbrev pub Near : ℕ → List Instruction → Type 0
Near x code = (goal : ℕ) × AllCalm x goal code

-- What is asked for once is asked for by one of two.
left-alone : (x : ℕ) (xs ys : List ℕ) → times x (xs ++ ys) ≡ 1 → 1 ≤ times x xs → (times x xs ≡ 1) × (times x ys ≡ 0)
left-alone x xs ys h k = let e = times-both x xs ys in (omega (arith, e, h, k), omega (arith, e, h, k))

right-alone : (x : ℕ) (xs ys : List ℕ) → times x (xs ++ ys) ≡ 1 → 1 ≤ times x ys → (times x xs ≡ 0) × (times x ys ≡ 1)
right-alone x xs ys h k = let e = times-both x xs ys in (omega (arith, e, h, k), omega (arith, e, h, k))

-- another asks behind it
not-here : (x y : ℕ) (xs : List ℕ) → times x (y ∷ xs) ≡ 1 → 1 ≤ times x xs → y ≡ x → ⊥
not-here x y xs h k is = let e = subst (λ (z : ℕ). times x (z ∷ xs) ≡ 1) is h in let f = times-here x xs in absurd (omega (arith, e, f, k))

here-alone : (x y : ℕ) (xs : List ℕ) → times x (y ∷ xs) ≡ 1 → y ≡ x → times x xs ≡ 0
here-alone x y xs h is = let e = subst (λ (z : ℕ). times x (z ∷ xs) ≡ 1) is h in let f = times-here x xs in omega (arith, e, f)

none-of : (x : ℕ) (xs ys : List ℕ) → times x (xs ++ ys) ≡ 0 → (times x xs ≡ 0) × (times x ys ≡ 0)
none-of x xs ys h = let e = times-both x xs ys in (omega (arith, e, h), omega (arith, e, h))

module _ (model : Model) (objects : List Object) (functions : List Function) (links : List Link) (result : Option Kind) (slot end : ℕ) (labels : List ℕ → ℕ) (x : ℕ) where
  abbrev part : (b d p : ℕ) → t.Step → List Instruction
  part b d p s = step_code model objects functions links result slot end labels b d p s

  abbrev parts : (b d p : ℕ) → t.Steps → List Instruction
  parts b d p ss = steps_code model objects functions links result slot end labels b d p ss

  abbrev value : t.Val → List Instruction
  value e = value_code objects functions links used slot e

  abbrev test : Option t.Val → List Instruction
  test e = test_code objects functions links slot e

  abbrev effect : Option t.Val → List Instruction
  effect e = effect_code objects functions links slot e

  calm : (goal : ℕ) (e : t.Val) → times x (calls_of e) ≡ 0 → AllCalm x goal (value e)
  calm goal e h = value-calm objects functions links x goal used slot e h

  quiet : (goal : ℕ) (s : t.Step) (b d p : ℕ) → times x (asks_of s) ≡ 0 → AllCalm x goal (part b d p s)
  quiet goal s b d p h = step-calm model objects functions links result slot end labels x goal s b d p h

  all-quiet : (goal : ℕ) (ss : t.Steps) (b d p : ℕ) → times x (asks_in ss) ≡ 0 → AllCalm x goal (parts b d p ss)
  all-quiet goal ss b d p h = steps-calm model objects functions links result slot end labels x goal ss b d p h

  -- a loop that goes on at its condition, which stands at this place
  while-here : (at place : ℕ) (e : t.Val) (s : t.Step) (b d p : ℕ) → at ≡ x → times x (at ∷ calls_of e ++ asks_of s) ≡ 1 → Near x (i.Turn at place ∷ loop_code at place slot (value e) (part b d p s) [])
  while-here at place e s b d p is h =
      let n = none-of x (calls_of e) (asks_of s) (here-alone x at (calls_of e ++ asks_of s) h is) in
      (place, ((λ q. refl), loop-calm x place at place slot (value e) (part b d p s) [] (calm place e n.0) (quiet place s b d p n.1) tt (λ q. refl)))

  for-here : (at place : ℕ) (start : t.Steps) (e step : Option t.Val) (s : t.Step) (b d p b2 d2 p2 : ℕ) → at ≡ x → times x (at ∷ asks_in start ++ calls_if e ++ calls_if step ++ asks_of s) ≡ 1
      → Near x (parts b2 d2 p2 start ++ i.Turn at place ∷ loop_code at place slot (test e) (part b d p s) (effect step))
  for-here at place start e step s b d p b2 d2 p2 is h =
      let n = none-of x (asks_in start ++ calls_if e ++ calls_if step) (asks_of s) (here-alone x at _ h is) in
      let m = none-of x (asks_in start ++ calls_if e) (calls_if step) n.0 in
      let l = none-of x (asks_in start) (calls_if e) m.0 in (
        place,
        calm-both x place (parts b2 d2 p2 start) _ (all-quiet place start b2 d2 p2 l.0)
            ((λ q. refl), loop-calm x place at place slot (test e) (part b d p s) (effect step) (test-calm objects functions links x place slot e l.1) (quiet place s b d p n.1) (effect-calm objects functions links x place slot step m.1) (λ q. refl)),
      )

  mutual
    pub step-near : (s : t.Step) (b d p : ℕ) → 1 ≤ times x (loops_of s) → times x (asks_of s) ≡ 1 → Near x (part b d p s)
    step-near (t.pDraw object) b d p k h = absurd (omega (arith, k))
    step-near (t.pBegin object es) b d p k h = absurd (omega (arith, k))
    step-near (t.pBlock ss) b d p k h = steps-near ss b d p k h
    step-near t.pEmpty b d p k h = absurd (omega (arith, k))
    step-near (t.pEffect e) b d p k h = absurd (omega (arith, k))
    step-near (t.pIf e s) b d p k h =
        let m = loops-ask x s in
        let a = right-alone x (calls_of e) (asks_of s) h (omega (arith, k, m)) in
        let r = step-near s b d _ k a.1 in
        (r.0, calm-both x r.0 (value e) _ (calm r.0 e a.0) (tt, r.1))
    step-near (t.pIfElse e s o) b d p k h = elim (some-of (times x (loops_of s)) (times x (loops_of o)) (let q = times-both x (loops_of s) (loops_of o) in omega (arith, k, q))) [
      | inl k1 ↦
          let m = loops-ask x s in
          let q = times-both x (calls_of e) (asks_of s) in
          let a = left-alone x (calls_of e ++ asks_of s) (asks_of o) h (omega (arith, k1, m, q)) in
          let c = right-alone x (calls_of e) (asks_of s) a.0 (omega (arith, k1, m)) in
          let r = step-near s b d _ k1 c.1 in
          (r.0, calm-both x r.0 (value e ++ i.SkipZero slot _ ∷ part b d _ s) _ (calm-both x r.0 (value e) _ (calm r.0 e c.0) (tt, r.1)) (tt, quiet r.0 o b d _ a.1))
      | inr k2 ↦
          let m = loops-ask x o in
          let a = right-alone x (calls_of e ++ asks_of s) (asks_of o) h (omega (arith, k2, m)) in
          let c = none-of x (calls_of e) (asks_of s) a.0 in
          let r = step-near o b d _ k2 a.1 in
          (r.0, calm-both x r.0 (value e ++ i.SkipZero slot _ ∷ part b d _ s) _ (calm-both x r.0 (value e) _ (calm r.0 e c.0) (tt, quiet r.0 s b d _ c.1)) (tt, r.1))
    ]
    step-near (t.pWhile at e s) b d p k h = elim (times-one x at (loops_of s)) [
      | inl q ↦ while-here at (suc p) e s _ _ _ q.0 h
      | inr q ↦
          let m = loops-ask x s in
          let k1 : 1 ≤ times x (loops_of s) = (let z = q.1 in omega (arith, k, z)) in
          let a = right-alone x (calls_of e) (asks_of s) (sym (times-other x at (calls_of e ++ asks_of s) q.0) ∙ h) (omega (arith, k1, m)) in
          let r = step-near s _ _ _ k1 a.1 in
          (r.0, ((λ is. absurd (q.0 is)), loop-calm x r.0 at (suc p) slot (value e) (part _ _ _ s) [] (calm r.0 e a.0) r.1 tt (λ is. absurd (q.0 is))))
    ]
    step-near (t.pDo at s e) b d p k h =
        let m = loops-ask x s in
        let z = times-both x (calls_of e) (asks_of s) in
        let no = not-here x at (calls_of e ++ asks_of s) h (omega (arith, k, m, z)) in
        let a = right-alone x (calls_of e) (asks_of s) (sym (times-other x at (calls_of e ++ asks_of s) no) ∙ h) (omega (arith, k, m)) in
        let r = step-near s _ _ _ k a.1 in
        (r.0, (tt, loop-calm x r.0 at (suc p) slot (value e) (part _ _ _ s) [] (calm r.0 e a.0) r.1 tt (λ is. absurd (no is))))
    step-near (t.pFor at start e step s) b d p k h = elim (times-one x at (loops_of s)) [
      | inl q ↦ for-here at _ start e step s _ _ _ b d p q.0 h
      | inr q ↦
          let m = loops-ask x s in
          let k1 : 1 ≤ times x (loops_of s) = (let z = q.1 in omega (arith, k, z)) in
          let a = right-alone x (asks_in start ++ calls_if e ++ calls_if step) (asks_of s) (sym (times-other x at _ q.0) ∙ h) (omega (arith, k1, m)) in
          let c = none-of x (asks_in start ++ calls_if e) (calls_if step) a.0 in
          let l = none-of x (asks_in start) (calls_if e) c.0 in
          let r = step-near s _ _ _ k1 a.1 in (
            r.0,
            calm-both x r.0 (parts b d p start) _ (all-quiet r.0 start b d p l.0)
                ((λ is. absurd (q.0 is)), loop-calm x r.0 at _ slot (test e) (part _ _ _ s) (effect step) (test-calm objects functions links x r.0 slot e l.1) r.1 (effect-calm objects functions links x r.0 slot step c.1) (λ is. absurd (q.0 is))),
          )
    ]
    step-near (t.pSwitch at kind e s) b d p k h =
        let m = loops-ask x s in
        let a = right-alone x (calls_of e) (asks_of s) h (omega (arith, k, m)) in
        let r = step-near s _ _ _ k a.1 in (
          r.0,
          calm-both x r.0 (value e ++ cases_code model slot kind (marks_of model objects functions links result slot s)) _
              (calm-both x r.0 (value e) _ (calm r.0 e a.0) (cases-calm x r.0 model slot kind (marks_of model objects functions links result slot s))) (tt, r.1),
        )
    step-near (t.pCase at v s) b d p k h = step-near s b d p k h
    step-near (t.pDefault at s) b d p k h = step-near s b d p k h
    step-near (t.pLabel l at s) b d p k h = step-near s b d p k h
    step-near (t.pGoto at l y) b d p k h = absurd (omega (arith, k))
    step-near (t.pBreak at) b d p k h = absurd (omega (arith, k))
    step-near (t.pContinue at) b d p k h = absurd (omega (arith, k))
    step-near (t.pReturn at e) b d p k h = absurd (omega (arith, k))

    pub steps-near : (ss : t.Steps) (b d p : ℕ) → 1 ≤ times x (loops_in ss) → times x (asks_in ss) ≡ 1 → Near x (parts b d p ss)
    steps-near t.no_steps b d p k h = absurd (omega (arith, k))
    steps-near (t.steps_and ss s) b d p k h = elim (some-of (times x (loops_in ss)) (times x (loops_of s)) (let q = times-both x (loops_in ss) (loops_of s) in omega (arith, k, q))) [
      | inl k1 ↦
          let m = all-loops-ask x ss in
          let a = left-alone x (asks_in ss) (asks_of s) h (omega (arith, k1, m)) in
          let r = steps-near ss b d p k1 a.0 in
          (r.0, calm-both x r.0 (parts b d p ss) _ r.1 (quiet r.0 s b d _ a.1))
      | inr k2 ↦
          let m = loops-ask x s in
          let a = right-alone x (asks_in ss) (asks_of s) h (omega (arith, k2, m)) in
          let r = step-near s b d _ k2 a.1 in
          (r.0, calm-both x r.0 (parts b d p ss) _ (all-quiet r.0 ss b d p a.0) r.1)
    ]
