-- The instructions of a typed tree's code fit: constants are of some kind, operations are in promoted kinds, and kinds and counts are those
-- of the objects.
use Rattle.std.proofs.Common.{◌≡◌, ℕ, zero, suc, ◌+◌, Bool, List, [], ◌∷◌, ◌++◌, length, Option, Some, None, pos, slice_get, refl, sym, ap, ◌∙◌, subst, arith}
use Rattle.std.proofs.lemmas.Int.{ints}
use Rattle.std.proofs.lemmas.Option.{same_Some}
use Rattle.lv_base.specs.declared.kind.Kind.{Kind}
use Rattle.lv_base.specs.declared.kind.Model.{Model}
use Rattle.lv_base.specs.Integers.{InAny, converted}
use Rattle.typed_range_laws.proofs.Bounds.{in_any}
use Rattle.c_run.specs.Operators.{Use, used, dropped}
use Rattle.c_typed.specs.Tree.{Val, vConstant, vRead, vElement, vWhole, vNothing, vConvert, vDiscard, vNegate, vComplement, vNot, vBinary, vBoth, vEither, vCond, vAssign, vUpdate, vChange, vCall, vReach, vAbort, vDraw, vComma, Goal, gObject, gElement, Vals, no_values, values_and, Step, pDraw, pBegin, pBlock, pEmpty, pEffect, pIf, pIfElse, pWhile, pSwitch, pDo, pFor, pCase, pDefault, pLabel, pGoto, pBreak, pContinue, pReturn, Steps, no_steps, steps_and, Object, Function, Program}
use Rattle.c_typed.specs.Facts.{Fits, AllFit, GoalFits, OptionFits, TestFits, AllOf, ReturnFits, StepFits, StepsFit, IsTyped}
use Rattle.c_typed.specs.Run.{kind_of}
use Rattle.c_typed.specs.Rules.{object_in}
use Rattle.typed_range_laws.proofs.Running.{fits_at}
use Rattle.slot_code.specs.declared.flat.Instruction.{Instruction}
use Rattle.slot_code.specs.declared.flat.Instruction.TheVariants as i
use Rattle.slot_code.specs.Slots.{slots_in}
use Rattle.slot_code.specs.Values.{Link, link_of, number_of, parameters_of, bind_code, call_code, is_needed, kept_code, value_code, values_code, drops_code, goal_code, effect_code, test_code}
use Rattle.slot_code.specs.Statements.{Mark, Name, aLabel, aCase, aDefault, cases_code, loop_code, return_code, return_value, marks_of, step_code, steps_code}
use Rattle.slot_code.specs.Programs.{Code, body_end, label_place, function_code, with_function, code_behind, code_of}
use Rattle.cfg_build.specs.Fitting.{IsFit, AreFit}

zero_any : InAny (pos 0)
zero_any = (omega (arith, ints), omega (arith, ints))

one_any : InAny (pos 1)
one_any = (omega (arith, ints), omega (arith, ints))

module _ (model : Model) (objects : List Object) where
  -- each instruction of a list
  abbrev pub AllFitted : List Instruction → Type 0
  AllFitted [] = Unit {0}
  AllFitted (x ∷ xs) = IsFit model objects x × AllFitted xs

  abbrev S : List Instruction → Type 0
  S xs = AllFitted xs

  pub both : (xs ys : List Instruction) → S xs → S ys → S (xs ++ ys)
  both [] ys a b = b
  both (x ∷ xs) ys a b = (a.0, both xs ys a.1 b)

  three : (xs ys zs : List Instruction) → S xs → S ys → S zs → S ((xs ++ ys) ++ zs)
  three xs ys zs a b d = both (xs ++ ys) zs (both xs ys a b) d

  fitted_at : (xs : List Instruction) → S xs → (place : ℕ) (x : Instruction) → slice_get xs place ≡ Some x → IsFit model objects x
  fitted_at [] h place x e = absurd cc
  fitted_at (y ∷ ys) h zero x e = subst (λ z. IsFit model objects z) (same_Some y x e) h.0
  fitted_at (y ∷ ys) h (suc place) x e = fitted_at ys h.1 place x e

  bind_fitted : (os : List ℕ) (d n : ℕ) → S (bind_code d os n)
  bind_fitted [] d n = tt
  bind_fitted (o ∷ os) d zero = tt
  bind_fitted (o ∷ os) d (suc n) = (tt, bind_fitted os (suc d) n)

  call_fitted : (d at n : ℕ) (needed : Bool) (os : List ℕ) (l : Option Link) → S (call_code d at needed os n l)
  call_fitted d at n needed os None = (tt, tt)
  call_fitted d at n needed os (Some l) = both (bind_code d os n) (i.Call at l.entry l.slot ∷ i.Take d at l.slot needed ∷ []) (bind_fitted os d n) (tt, (tt, tt))

  kept_fitted : (d : ℕ) (k : Option Kind) → S (kept_code d k)
  kept_fitted d None = (zero_any, tt)
  kept_fitted d (Some k) = tt

  module _ (functions : List Function) (links : List Link) where
    abbrev code : Use → ℕ → Val → List Instruction
    code u d e = value_code objects functions links u d e

    abbrev F : Val → Type 0
    F e = Fits model objects functions e

    -- the kind of what is assigned to is that of its object
    goal_kind : (k : Kind) (g : Goal) → GoalFits model objects functions k g → k ≡ kind_of (slice_get objects (object_in g))
    goal_kind k (gObject o) f = sym (ap (λ x. kind_of x) f.there ∙ f.kind)
    goal_kind k (gElement at o e) f = sym (ap (λ x. kind_of x) f.0.there ∙ f.0.kind)

    all_of : (k : Kind) (es : Vals) → AllOf model objects functions k es → AllFit model objects functions es
    all_of k no_values f = tt
    all_of k (values_and es e) f = (all_of k es f.0, f.2)

    mutual
      value_fitted : (u : Use) (d : ℕ) (e : Val) → F e → S (code u d e)
      value_fitted u d (vConstant k v) f = (in_any k model v f, tt)
      value_fitted u d (vRead k o) f = (tt, tt)
      value_fitted u d (vElement k at o e) f = both (code used d e) _ (value_fitted used d e f.2) (refl, tt)
      value_fitted u d (vWhole o) f = (tt, tt)
      value_fitted u d vNothing f = (zero_any, tt)
      value_fitted u d (vConvert k e) f = both (code used d e) _ (value_fitted used d e f.1) (tt, tt)
      value_fitted u d (vDiscard e) f = both (code dropped d e) _ (value_fitted dropped d e f) (zero_any, tt)
      value_fitted u d (vNegate k at e) f = both (code used d e) _ (value_fitted used d e f.2) (f.0, tt)
      value_fitted u d (vComplement k at e) f = both (code used d e) _ (value_fitted used d e f.2) (f.0, tt)
      value_fitted u d (vNot e) f = both (code used d e) _ (value_fitted used d e f.1) (tt, tt)
      value_fitted u d (vBinary o k at a b) f = three (code used d a) (code used (suc d) b) (i.Binary d o k at ∷ []) (value_fitted used d a f.4) (value_fitted used (suc d) b f.5) ((f.0, f.1), tt)
      value_fitted u d (vBoth a b) f =
          three (code used d a) (i.SkipZero d (length (code used d b) + 2) ∷ code used d b) (i.Truth d ∷ i.Jump 1 ∷ i.Constant d (pos 0) ∷ []) (value_fitted used d a f.2) (tt, value_fitted used d b f.3) (tt, (tt, (zero_any, tt)))
      value_fitted u d (vEither a b) f =
          three (code used d a) (i.SkipZero d 2 ∷ i.Constant d (pos 1) ∷ i.Jump (length (code used d b) + 1) ∷ code used d b) (i.Truth d ∷ []) (value_fitted used d a f.2) (tt, (one_any, (tt, value_fitted used d b f.3))) (tt, tt)
      value_fitted u d (vCond k e a b) f =
          let xs : List Instruction = i.SkipZero d (length (code used d a) + 1) ∷ code used d a in
          let ys : List Instruction = i.Jump (length (code used d b)) ∷ code used d b in
          both ((code used d e ++ xs) ++ ys) (kept_code d k) (three (code used d e) xs ys (value_fitted used d e f.3) (tt, value_fitted used d a f.4) (tt, value_fitted used d b f.5)) (kept_fitted d k)
      value_fitted u d (vAssign k at g e) f = three (goal_code objects functions links d g) (code used (suc d) e) _ (goal_fitted d k g f.0) (value_fitted used (suc d) e f.2) (tt, tt)
      value_fitted u d (vUpdate o k l at g e) f =
          three (goal_code objects functions links d g) (_ ∷ code used (suc (suc d)) e) _ (goal_fitted d l g f.3) (tt, value_fitted used (suc (suc d)) e f.5) ((f.0, f.1, goal_kind l g f.3), tt)
      value_fitted u d (vChange before by k at g) f = both (goal_code objects functions links d g) _ (goal_fitted d k g f) (goal_kind k g f, tt)
      value_fitted u d (vCall result at x function es) f =
          both (values_code objects functions links d es) _ (values_fitted d es f.1) (call_fitted d at (number_of es) (is_needed u result) (parameters_of (slice_get functions function)) (link_of function links))
      value_fitted u d (vReach at) f = (tt, tt)
      value_fitted u d vAbort f = (tt, tt)
      value_fitted u d (vDraw k) f = (tt, tt)
      value_fitted u d (vComma es e) f = both (drops_code objects functions links d es) (code used d e) (drops_fitted d es f.0) (value_fitted used d e f.1)

      values_fitted : (d : ℕ) (es : Vals) → AllFit model objects functions es → S (values_code objects functions links d es)
      values_fitted d no_values f = tt
      values_fitted d (values_and es e) f = both (values_code objects functions links d es) (code used (d + number_of es) e) (values_fitted d es f.0) (value_fitted used (d + number_of es) e f.1)

      drops_fitted : (d : ℕ) (es : Vals) → AllFit model objects functions es → S (drops_code objects functions links d es)
      drops_fitted d no_values f = tt
      drops_fitted d (values_and es e) f = both (drops_code objects functions links d es) (code dropped d e) (drops_fitted d es f.0) (value_fitted dropped d e f.1)

      goal_fitted : (d : ℕ) (k : Kind) (g : Goal) → GoalFits model objects functions k g → S (goal_code objects functions links d g)
      goal_fitted d k (gObject o) f = (zero_any, tt)
      goal_fitted d k (gElement at o e) f = both (code used d e) _ (value_fitted used d e f.2) (refl, tt)

    effect_fitted : (d : ℕ) (e : Option Val) → OptionFits model objects functions e → S (effect_code objects functions links d e)
    effect_fitted d None f = tt
    effect_fitted d (Some e) f = value_fitted dropped d e f

    test_fitted : (d : ℕ) (e : Option Val) → TestFits model objects functions e → S (test_code objects functions links d e)
    test_fitted d None f = (one_any, tt)
    test_fitted d (Some e) f = value_fitted used d e f.1

    tried_fitted : (d place : ℕ) (k : Kind) (x : Name) (cs : List Instruction) → S cs
        → S (elim x [ aLabel l ↦ cs | aCase v ↦ i.SkipEqual d (converted k model v) (length cs + 1 + place) ∷ cs | aDefault ↦ cs ])
    tried_fitted d place k (aLabel l) cs s = s
    tried_fitted d place k (aCase v) cs s = (tt, s)
    tried_fitted d place k aDefault cs s = s

    cases_fitted : (d : ℕ) (k : Kind) (ms : List Mark) → S (cases_code model d k ms)
    cases_fitted d k [] = tt
    cases_fitted d k (m ∷ ms) = tried_fitted d m.place k m.name (cases_code model d k ms) (cases_fitted d k ms)

    loop_fitted : (at place d : ℕ) (xs ys zs : List Instruction) → S xs → S ys → S zs → S (loop_code at place d xs ys zs)
    loop_fitted at place d xs ys zs a b e =
        both ((xs ++ (i.SkipZero d (length ys + length zs + 1) ∷ ys)) ++ zs) (i.Turn at place ∷ []) (three xs (i.SkipZero d (length ys + length zs + 1) ∷ ys) zs a (tt, b) e) (tt, tt)

    return_fitted : (d place end : ℕ) (r : Option Kind) (e : Option Val) → ReturnFits model objects functions r e
        → S (return_code d place end r (return_value model objects functions links r d e) e)
    return_fitted d place end r None f = (tt, tt)
    return_fitted d place end None (Some e) f = both (code dropped d e) _ (value_fitted dropped d e f) (tt, tt)
    return_fitted d place end (Some k) (Some e) f = both (code used d e) _ (value_fitted used d e f.1) (one_any, (tt, tt))

    module _ (function : ℕ) (result : Option Kind) (d end : ℕ) (labels : List ℕ → ℕ) where
      abbrev coded : ℕ → ℕ → ℕ → Step → List Instruction
      coded b e p s = step_code model objects functions links result d end labels b e p s

      abbrev coded_all : ℕ → ℕ → ℕ → Steps → List Instruction
      coded_all b e p ss = steps_code model objects functions links result d end labels b e p ss

      mutual
        step_fitted : (s : Step) (b e p : ℕ) → StepFits model objects functions function result s → S (coded b e p s)
        step_fitted (pDraw o) b e p f = (refl, tt)
        step_fitted (pBegin o es) b e p f = both (values_code objects functions links d es) _ (values_fitted d es (all_of f.told.kind es f.values)) (tt, tt)
        step_fitted (pBlock ss) b e p f = steps_fitted ss b e p f
        step_fitted pEmpty b e p f = tt
        step_fitted (pEffect v) b e p f = value_fitted dropped d v f
        step_fitted (pIf v s) b e p f = both (code used d v) _ (value_fitted used d v f.1) (tt, step_fitted s b e _ f.2)
        step_fitted (pIfElse v s r) b e p f = three (code used d v) _ _ (value_fitted used d v f.1) (tt, step_fitted s b e _ f.2) (tt, step_fitted r b e _ f.3)
        step_fitted (pWhile at v s) b e p f = (tt, loop_fitted at (suc p) d (code used d v) _ [] (value_fitted used d v f.1) (step_fitted s _ _ _ f.2) tt)
        step_fitted (pDo at s v) b e p f = (tt, loop_fitted at (suc p) d (code used d v) _ [] (value_fitted used d v f.2) (step_fitted s _ _ _ f.0) tt)
        step_fitted (pFor at start v step s) b e p f =
            both (coded_all b e p start) _ (steps_fitted start b e p f.0)
            (tt, loop_fitted at _ d (test_code objects functions links d v) _ (effect_code objects functions links d step) (test_fitted d v f.1) (step_fitted s _ _ _ f.3) (effect_fitted d step f.2))
        step_fitted (pSwitch at k v s) b e p f =
            three (code used d v) (cases_code model d k (marks_of model objects functions links result d s)) _ (value_fitted used d v f.2) (cases_fitted d k (marks_of model objects functions links result d s)) (tt, step_fitted s _ _ _ f.3)
        step_fitted (pCase at v s) b e p f = step_fitted s b e p f
        step_fitted (pDefault at s) b e p f = step_fitted s b e p f
        step_fitted (pLabel l at s) b e p f = step_fitted s b e p f
        step_fitted (pGoto at l x) b e p f = (tt, tt)
        step_fitted (pBreak at) b e p f = (tt, tt)
        step_fitted (pContinue at) b e p f = (tt, tt)
        step_fitted (pReturn at v) b e p f = return_fitted d p end result v f

        pub steps_fitted : (ss : Steps) (b e p : ℕ) → StepsFit model objects functions function result ss → S (coded_all b e p ss)
        steps_fitted no_steps b e p f = tt
        steps_fitted (steps_and ss s) b e p f = both (coded_all b e p ss) _ (steps_fitted ss b e p f.0) (step_fitted s b e _ f.1)

-- ---- Programs

module _ (program : Program) (typed : IsTyped program) where
  abbrev P : Code → Type 0
  P c = AllFitted program.model program.objects c.instructions

  added : (c : Code) (number : ℕ) (o : Option Function) → slice_get program.functions number ≡ o → P c → P (with_function program c number o)
  added c number None e h = h
  added c number (Some f) e h =
      let fits = fits_at program.model program.objects program.functions program.functions 0 number f typed.functions e in
      let slot : ℕ = slots_in c.instructions in
      let place : ℕ = length c.instructions in
      let end : ℕ = body_end program c.links slot place f in
      let labels : List ℕ → ℕ = label_place program c.links slot place f in
      let body : List Instruction = steps_code program.model program.objects program.functions c.links f.result (suc slot) end labels end end place f.body in
      both program.model program.objects c.instructions (function_code program c.links slot place f) h
      (both program.model program.objects body (i.Constant (suc (suc slot)) (pos 0) ∷ i.Return slot ∷ [])
      (steps_fitted program.model program.objects program.functions c.links fits.0 f.result (suc slot) end labels f.body end end place fits.1.body) (zero_any, (tt, tt)))

  all_fitted : (numbers : List ℕ) (c : Code) → P c → P (code_behind program c numbers)
  all_fitted [] c h = h
  all_fitted (n ∷ ns) c h = all_fitted ns (with_function program c n (slice_get program.functions n)) (added c n (slice_get program.functions n) refl h)

-- each instruction of a typed program's code fits
pub code_fits : (program : Program) (order : List ℕ) → IsTyped program → AreFit program.model program.objects (code_of program order).instructions
code_fits program order typed place x e =
    fitted_at program.model program.objects (code_of program order).instructions (all_fitted program typed order (record { instructions = []; links = [] }) tt) place x e
