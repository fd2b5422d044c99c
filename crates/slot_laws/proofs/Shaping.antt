-- The instructions that store all values of an object have as many as it has elements.
use Rattle.std.proofs.Common.{◌≡◌, ℕ, zero, suc, ◌+◌, List, [], ◌∷◌, ◌++◌, length, Option, Some, None, pos, slice_get, refl, ap, ◌∙◌, arith, if◌then◌else◌}
use Rattle.std.specs.Prelude.{nat_eq}
use Rattle.std.specs.List.{All}
use Rattle.std.proofs.lemmas.List.Elements.{All-head, All-tail}
use Rattle.lv_base.specs.declared.kind.Kind.{Kind}
use Rattle.lv_base.specs.declared.kind.Model.{Model}
use Rattle.lv_base.specs.Integers.{converted}
use Rattle.c_run.specs.Operators.{Use, used, dropped}
use Rattle.c_typed.specs.Tree.{Val, vConstant, vRead, vElement, vWhole, vNothing, vConvert, vDiscard, vNegate, vComplement, vNot, vBinary, vBoth, vEither, vCond, vAssign, vUpdate, vChange, vCall, vReach, vAbort, vDraw, vComma, Goal, gObject, gElement, Vals, no_values, values_and, Step, pDraw, pBegin, pBlock, pEmpty, pEffect, pIf, pIfElse, pWhile, pSwitch, pDo, pFor, pCase, pDefault, pLabel, pGoto, pBreak, pContinue, pReturn, Steps, no_steps, steps_and, Object, Function, Program}
use Rattle.c_typed.specs.Facts.{count, IsParameter, StepFits, StepsFit, IsTyped}
use Rattle.c_typed.specs.Run.{size_of}
use Rattle.slot_code.specs.declared.flat.Instruction.{Instruction}
use Rattle.slot_code.specs.declared.flat.Instruction.TheVariants as i
use Rattle.slot_code.specs.Slots.{slots_in}
use Rattle.slot_code.specs.Values.{Link, link_of, number_of, parameters_of, bind_code, call_code, is_needed, kept_code, value_code, values_code, drops_code, goal_code, effect_code, test_code}
use Rattle.slot_code.specs.Statements.{Mark, Name, aLabel, aCase, aDefault, cases_code, loop_code, return_code, return_value, marks_of, step_code, steps_code}
use Rattle.slot_code.specs.Programs.{Code, body_end, label_place, function_code, with_function, code_behind}
use Rattle.typed_range_laws.proofs.Running.{fits_at}
use Rattle.slot_laws.specs.Laws.{AreShaped, CodeShaped}

module _ (objects : List Object) where
  abbrev S : List Instruction → Type 0
  S xs = AreShaped objects xs

  pub both : (xs ys : List Instruction) → S xs → S ys → S (xs ++ ys)
  both [] ys a b = b
  both (x ∷ xs) ys a b = (a.0, both xs ys a.1 b)

  three : (xs ys zs : List Instruction) → S xs → S ys → S zs → S ((xs ++ ys) ++ zs)
  three xs ys zs a b d = both (xs ++ ys) zs (both xs ys a b) d

  -- scalars alone
  abbrev pub Scalars : List ℕ → Type 0
  Scalars [] = Unit {0}
  Scalars (o ∷ os) = (size_of (slice_get objects o) ≡ 1) × Scalars os

  bind_shaped : (os : List ℕ) (d n : ℕ) → Scalars os → S (bind_code d os n)
  bind_shaped [] d n h = tt
  bind_shaped (o ∷ os) d zero h = tt
  bind_shaped (o ∷ os) d (suc n) h = (h.0, bind_shaped os (suc d) n h.1)

  call_shaped : (d at n : ℕ) (needed : _) (os : List ℕ) (l : Option Link) → Scalars os → S (call_code d at needed os n l)
  call_shaped d at n needed os None h = (tt, tt)
  call_shaped d at n needed os (Some l) h = both (bind_code d os n) (i.Call at l.entry l.slot ∷ i.Take d at l.slot needed ∷ []) (bind_shaped os d n h) (tt, (tt, tt))

  module _ (functions : List Function) (links : List Link) (parameters : (f : ℕ) → Scalars (parameters_of (slice_get functions f))) where
    abbrev code : Use → ℕ → Val → List Instruction
    code u d e = value_code objects functions links u d e

    kept_shaped : (d : ℕ) (k : Option Kind) → S (kept_code d k)
    kept_shaped d None = (tt, tt)
    kept_shaped d (Some k) = tt

    mutual
      pub value_shaped : (u : Use) (d : ℕ) (e : Val) → S (code u d e)
      value_shaped u d (vConstant k v) = (tt, tt)
      value_shaped u d (vRead k o) = (tt, tt)
      value_shaped u d (vElement k at o e) = both (code used d e) _ (value_shaped used d e) (tt, tt)
      value_shaped u d (vWhole o) = (tt, tt)
      value_shaped u d vNothing = (tt, tt)
      value_shaped u d (vConvert k e) = both (code used d e) _ (value_shaped used d e) (tt, tt)
      value_shaped u d (vDiscard e) = both (code dropped d e) _ (value_shaped dropped d e) (tt, tt)
      value_shaped u d (vNegate k at e) = both (code used d e) _ (value_shaped used d e) (tt, tt)
      value_shaped u d (vComplement k at e) = both (code used d e) _ (value_shaped used d e) (tt, tt)
      value_shaped u d (vNot e) = both (code used d e) _ (value_shaped used d e) (tt, tt)
      value_shaped u d (vBinary o k at a b) = three (code used d a) (code used (suc d) b) (i.Binary d o k at ∷ []) (value_shaped used d a) (value_shaped used (suc d) b) (tt, tt)
      value_shaped u d (vBoth a b) = three (code used d a) (i.SkipZero d (length (code used d b) + 2) ∷ code used d b) (i.Truth d ∷ i.Jump 1 ∷ i.Constant d (pos 0) ∷ []) (value_shaped used d a) (tt, value_shaped used d b) (tt, (tt, (tt, tt)))
      value_shaped u d (vEither a b) =
          three (code used d a) (i.SkipZero d 2 ∷ i.Constant d (pos 1) ∷ i.Jump (length (code used d b) + 1) ∷ code used d b) (i.Truth d ∷ []) (value_shaped used d a) (tt, (tt, (tt, value_shaped used d b))) (tt, tt)
      value_shaped u d (vCond k e a b) =
          let xs : List Instruction = i.SkipZero d (length (code used d a) + 1) ∷ code used d a in
          let ys : List Instruction = i.Jump (length (code used d b)) ∷ code used d b in
          both ((code used d e ++ xs) ++ ys) (kept_code d k) (three (code used d e) xs ys (value_shaped used d e) (tt, value_shaped used d a) (tt, value_shaped used d b)) (kept_shaped d k)
      value_shaped u d (vAssign k at g e) = three (goal_code objects functions links d g) (code used (suc d) e) _ (goal_shaped d g) (value_shaped used (suc d) e) (tt, tt)
      value_shaped u d (vUpdate o k l at g e) = three (goal_code objects functions links d g) (_ ∷ code used (suc (suc d)) e) _ (goal_shaped d g) (tt, value_shaped used (suc (suc d)) e) (tt, tt)
      value_shaped u d (vChange before by k at g) = both (goal_code objects functions links d g) _ (goal_shaped d g) (tt, tt)
      value_shaped u d (vCall result at x f es) = both (values_code objects functions links d es) _ (values_shaped d es) (call_shaped d at (number_of es) (is_needed u result) (parameters_of (slice_get functions f)) (link_of f links) (parameters f))
      value_shaped u d (vReach at) = (tt, tt)
      value_shaped u d vAbort = (tt, tt)
      value_shaped u d (vDraw k) = (tt, tt)
      value_shaped u d (vComma es e) = both (drops_code objects functions links d es) (code used d e) (drops_shaped d es) (value_shaped used d e)

      values_shaped : (d : ℕ) (es : Vals) → S (values_code objects functions links d es)
      values_shaped d no_values = tt
      values_shaped d (values_and es e) = both (values_code objects functions links d es) (code used (d + number_of es) e) (values_shaped d es) (value_shaped used (d + number_of es) e)

      drops_shaped : (d : ℕ) (es : Vals) → S (drops_code objects functions links d es)
      drops_shaped d no_values = tt
      drops_shaped d (values_and es e) = both (drops_code objects functions links d es) (code dropped d e) (drops_shaped d es) (value_shaped dropped d e)

      goal_shaped : (d : ℕ) (g : Goal) → S (goal_code objects functions links d g)
      goal_shaped d (gObject o) = (tt, tt)
      goal_shaped d (gElement at o e) = both (code used d e) _ (value_shaped used d e) (tt, tt)

    effect_shaped : (d : ℕ) (e : Option Val) → S (effect_code objects functions links d e)
    effect_shaped d None = tt
    effect_shaped d (Some e) = value_shaped dropped d e

    test_shaped : (d : ℕ) (e : Option Val) → S (test_code objects functions links d e)
    test_shaped d None = (tt, tt)
    test_shaped d (Some e) = value_shaped used d e

    module _ (model : Model) where
      tried_shaped : (d place : ℕ) (k : Kind) (x : Name) (cs : List Instruction) → S cs → S (elim x [ aLabel l ↦ cs | aCase v ↦ i.SkipEqual d (converted k model v) (length cs + 1 + place) ∷ cs | aDefault ↦ cs ])
      tried_shaped d place k (aLabel l) cs s = s
      tried_shaped d place k (aCase v) cs s = (tt, s)
      tried_shaped d place k aDefault cs s = s

      cases_shaped : (d : ℕ) (k : Kind) (ms : List Mark) → S (cases_code model d k ms)
      cases_shaped d k [] = tt
      cases_shaped d k (m ∷ ms) = tried_shaped d m.place k m.name (cases_code model d k ms) (cases_shaped d k ms)

      number_is : (es : Vals) → number_of es ≡ count model objects functions es
      number_is no_values = refl
      number_is (values_and es e) = let h = number_is es in omega (arith, h)

      loop_shaped : (at place d : ℕ) (xs ys zs : List Instruction) → S xs → S ys → S zs → S (loop_code at place d xs ys zs)
      loop_shaped at place d xs ys zs a b e =
          both ((xs ++ (i.SkipZero d (length ys + length zs + 1) ∷ ys)) ++ zs) (i.Turn at place ∷ []) (three xs (i.SkipZero d (length ys + length zs + 1) ∷ ys) zs a (tt, b) e) (tt, tt)

      return_shaped : (d place end : ℕ) (r : Option Kind) (e : Option Val) → S (return_code d place end r (return_value model objects functions links r d e) e)
      return_shaped d place end r None = (tt, tt)
      return_shaped d place end None (Some e) = both (code dropped d e) _ (value_shaped dropped d e) (tt, tt)
      return_shaped d place end (Some k) (Some e) = both (code used d e) _ (value_shaped used d e) (tt, (tt, tt))

      module _ (function : ℕ) (result : Option Kind) (d end : ℕ) (labels : List ℕ → ℕ) where
        abbrev coded : ℕ → ℕ → ℕ → Step → List Instruction
        coded b e p s = step_code model objects functions links result d end labels b e p s

        abbrev coded_all : ℕ → ℕ → ℕ → Steps → List Instruction
        coded_all b e p ss = steps_code model objects functions links result d end labels b e p ss

        mutual
          step_shaped : (s : Step) (b e p : ℕ) → StepFits model objects functions function result s → S (coded b e p s)
          step_shaped (pDraw o) b e p f = (refl, tt)
          step_shaped (pBegin o es) b e p f =
              both (values_code objects functions links d es) _ (values_shaped d es) ((refl, let same : size_of (slice_get objects o) ≡ size_of (Some f.told) = ap (λ x. size_of x) f.there in omega (arith, same, f.enough, number_is es)), tt)
          step_shaped (pBlock ss) b e p f = steps_shaped ss b e p f
          step_shaped pEmpty b e p f = tt
          step_shaped (pEffect v) b e p f = value_shaped dropped d v
          step_shaped (pIf v s) b e p f = both (code used d v) _ (value_shaped used d v) (tt, step_shaped s b e _ f.2)
          step_shaped (pIfElse v s r) b e p f = three (code used d v) _ _ (value_shaped used d v) (tt, step_shaped s b e _ f.2) (tt, step_shaped r b e _ f.3)
          step_shaped (pWhile at v s) b e p f = (tt, loop_shaped at (suc p) d (code used d v) _ [] (value_shaped used d v) (step_shaped s _ _ _ f.2) tt)
          step_shaped (pDo at s v) b e p f = (tt, loop_shaped at (suc p) d (code used d v) _ [] (value_shaped used d v) (step_shaped s _ _ _ f.0) tt)
          step_shaped (pFor at start v step s) b e p f =
              both (coded_all b e p start) _ (steps_shaped start b e p f.0) (tt, loop_shaped at _ d (test_code objects functions links d v) _ (effect_code objects functions links d step) (test_shaped d v) (step_shaped s _ _ _ f.3) (effect_shaped d step))
          step_shaped (pSwitch at k v s) b e p f =
              three (code used d v) (cases_code model d k (marks_of model objects functions links result d s)) _ (value_shaped used d v) (cases_shaped d k (marks_of model objects functions links result d s)) (tt, step_shaped s _ _ _ f.3)
          step_shaped (pCase at v s) b e p f = step_shaped s b e p f
          step_shaped (pDefault at s) b e p f = step_shaped s b e p f
          step_shaped (pLabel l at s) b e p f = step_shaped s b e p f
          step_shaped (pGoto at l x) b e p f = (tt, tt)
          step_shaped (pBreak at) b e p f = (tt, tt)
          step_shaped (pContinue at) b e p f = (tt, tt)
          step_shaped (pReturn at v) b e p f = return_shaped d p end result v

          pub steps_shaped : (ss : Steps) (b e p : ℕ) → StepsFit model objects functions function result ss → S (coded_all b e p ss)
          steps_shaped no_steps b e p f = tt
          steps_shaped (steps_and ss s) b e p f = both (coded_all b e p ss) _ (steps_shaped ss b e p f.0) (step_shaped s b e _ f.1)

-- ---- Programs

module _ (program : Program) (typed : IsTyped program) where
  scalar_size : (told : Object) → told.length ≡ 0 → size_of (Some told) ≡ 1
  scalar_size told e = ap (λ n. if nat_eq n 0 then 1 else n) e

  all_scalars : (k : ℕ) (os : List ℕ) → All (IsParameter program.model program.objects program.functions k) os → Scalars program.objects os
  all_scalars k [] h = tt
  all_scalars k (o ∷ os) h =
      let first = All-head (IsParameter program.model program.objects program.functions k) o os h in
      (ap (λ x. size_of x) first.there ∙ scalar_size first.told first.scalar, all_scalars k os (All-tail (IsParameter program.model program.objects program.functions k) o os h))

  of_function : (f : ℕ) (o : Option Function) → slice_get program.functions f ≡ o → Scalars program.objects (parameters_of o)
  of_function f None e = tt
  of_function f (Some told) e = let fits = fits_at program.model program.objects program.functions program.functions 0 f told typed.functions e in all_scalars fits.0 told.parameters fits.1.parameters

  parameters : (f : ℕ) → Scalars program.objects (parameters_of (slice_get program.functions f))
  parameters f = of_function f (slice_get program.functions f) refl

  added : (c : Code) (number : ℕ) (o : Option Function) → slice_get program.functions number ≡ o → AreShaped program.objects c.instructions → AreShaped program.objects (with_function program c number o).instructions
  added c number None e h = h
  added c number (Some f) e h =
      let fits = fits_at program.model program.objects program.functions program.functions 0 number f typed.functions e in
      let slot : ℕ = slots_in c.instructions in
      let place : ℕ = length c.instructions in
      let end : ℕ = body_end program c.links slot place f in
      let labels : List ℕ → ℕ = label_place program c.links slot place f in
      let body : List Instruction = steps_code program.model program.objects program.functions c.links f.result (suc slot) end labels end end place f.body in
      both program.objects c.instructions (function_code program c.links slot place f) h
      (both program.objects body (i.Constant (suc (suc slot)) (pos 0) ∷ i.Return slot ∷ [])
      (steps_shaped program.objects program.functions c.links parameters program.model fits.0 f.result (suc slot) end labels f.body end end place fits.1.body) (tt, (tt, tt)))

  all_shaped : (numbers : List ℕ) (c : Code) → AreShaped program.objects c.instructions → AreShaped program.objects (code_behind program c numbers).instructions
  all_shaped [] c h = h
  all_shaped (n ∷ ns) c h = all_shaped ns (with_function program c n (slice_get program.functions n)) (added c n (slice_get program.functions n) refl h)

pub shaped_code : CodeShaped
shaped_code program order typed = all_shaped program typed order (record { instructions = []; links = [] }) tt
