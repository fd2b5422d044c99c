-- The calls of flat code go to links of functions that stand before.
use Rattle.std.proofs.Common.{◌≡◌, ◌⊎◌, inl, inr, ℕ, zero, suc, ◌+◌, Bool, true, false, if◌then◌else◌, List, [], ◌∷◌, ◌++◌, length, Option, Some, None, pos, slice_get, refl, sym, subst}
use Rattle.std.specs.Prelude.{nat_eq}
use Rattle.std.proofs.lemmas.Option.{same_Some}
use Rattle.lv_base.specs.declared.kind.Kind.{Kind}
use Rattle.lv_base.specs.declared.kind.Model.{Model}
use Rattle.lv_base.specs.Integers.{converted}
use Rattle.c_run.specs.Operators.{Use, used, dropped}
use Rattle.c_typed.specs.Tree.{Val, vConstant, vRead, vElement, vWhole, vNothing, vConvert, vDiscard, vNegate, vComplement, vNot, vBinary, vBoth, vEither, vCond, vAssign, vUpdate, vChange, vCall, vReach, vAbort, vDraw, vComma, Goal, gObject, gElement, Vals, no_values, values_and, Step, pDraw, pBegin, pBlock, pEmpty, pEffect, pIf, pIfElse, pWhile, pSwitch, pDo, pFor, pCase, pDefault, pLabel, pGoto, pBreak, pContinue, pReturn, Steps, no_steps, steps_and, Object, Function, Program}
use Rattle.slot_code.specs.declared.flat.Instruction.{Instruction}
use Rattle.slot_code.specs.declared.flat.Instruction.TheVariants as i
use Rattle.slot_code.specs.Slots.{slots_in}
use Rattle.slot_code.specs.Values.{Link, link_of, number_of, parameters_of, bind_code, call_code, is_needed, kept_code, value_code, values_code, drops_code, goal_code, effect_code, test_code}
use Rattle.slot_code.specs.Statements.{Mark, Name, aLabel, aCase, aDefault, cases_code, loop_code, return_code, return_value, marks_of, step_code, steps_code}
use Rattle.slot_code.specs.Programs.{Code, body_end, label_place, function_code, with_function, code_behind, code_of}
use Rattle.cfg_build.specs.Fitting.{IsEntry, CallsEnter}

-- ---- Links

abbrev pub Among : Link → List Link → Type 0
Among l [] = ⊥
Among l (x ∷ xs) = (x ≡ l) ⊎ Among l xs

among_by : (k : ℕ) (x : Link) (xs : List Link) (l : Link) → (link_of k xs ≡ Some l → Among l xs) → (b : Bool) → (if b then Some x else link_of k xs) ≡ Some l
    → Among l (x ∷ xs)
among_by k x xs l later true q = inl (same_Some x l q)
among_by k x xs l later false q = inr (later q)

pub link_among : (k : ℕ) (ls : List Link) (l : Link) → link_of k ls ≡ Some l → Among l ls
link_among k [] l e = absurd cc
link_among k (x ∷ xs) l e = among_by k x xs l (λ q. link_among k xs l q) (nat_eq x.function k) e

-- the function of this link is called
pub record Called (links : List Link) (goal slot : ℕ) : Type 0 where
  pub link : Link
  pub among : Among link links
  pub entry : link.entry ≡ goal
  pub by : link.slot ≡ slot

abbrev pub Calls : List Link → Instruction → Type 0
Calls links (i.Call at goal slot) = Called links goal slot
Calls links _ = Unit {0}

module _ (links : List Link) where
  abbrev pub AllCalls : List Instruction → Type 0
  AllCalls [] = Unit {0}
  AllCalls (x ∷ xs) = Calls links x × AllCalls xs

  abbrev S : List Instruction → Type 0
  S xs = AllCalls xs

  pub both : (xs ys : List Instruction) → S xs → S ys → S (xs ++ ys)
  both [] ys a b = b
  both (x ∷ xs) ys a b = (a.0, both xs ys a.1 b)

  three : (xs ys zs : List Instruction) → S xs → S ys → S zs → S ((xs ++ ys) ++ zs)
  three xs ys zs a b d = both (xs ++ ys) zs (both xs ys a b) d

  pub calls_at : (xs : List Instruction) → S xs → (place : ℕ) (x : Instruction) → slice_get xs place ≡ Some x → Calls links x
  calls_at [] h place x e = absurd cc
  calls_at (y ∷ ys) h zero x e = subst (λ z. Calls links z) (same_Some y x e) h.0
  calls_at (y ∷ ys) h (suc place) x e = calls_at ys h.1 place x e

  bind_calls : (os : List ℕ) (d n : ℕ) → S (bind_code d os n)
  bind_calls [] d n = tt
  bind_calls (o ∷ os) d zero = tt
  bind_calls (o ∷ os) d (suc n) = (tt, bind_calls os (suc d) n)

  call_calls : (d at n k : ℕ) (needed : Bool) (os : List ℕ) (l : Option Link) → link_of k links ≡ l → S (call_code d at needed os n l)
  call_calls d at n k needed os None e = (tt, tt)
  call_calls d at n k needed os (Some l) e =
      both (bind_code d os n) (i.Call at l.entry l.slot ∷ i.Take d at l.slot needed ∷ []) (bind_calls os d n)
      (record { link = l; among = link_among k links l e; entry = refl; by = refl }, (tt, tt))

  kept_calls : (d : ℕ) (k : Option Kind) → S (kept_code d k)
  kept_calls d None = (tt, tt)
  kept_calls d (Some k) = tt

  module _ (objects : List Object) (functions : List Function) where
    abbrev code : Use → ℕ → Val → List Instruction
    code u d e = value_code objects functions links u d e

    mutual
      value_calls : (u : Use) (d : ℕ) (e : Val) → S (code u d e)
      value_calls u d (vConstant k v) = (tt, tt)
      value_calls u d (vRead k o) = (tt, tt)
      value_calls u d (vElement k at o e) = both (code used d e) _ (value_calls used d e) (tt, tt)
      value_calls u d (vWhole o) = (tt, tt)
      value_calls u d vNothing = (tt, tt)
      value_calls u d (vConvert k e) = both (code used d e) _ (value_calls used d e) (tt, tt)
      value_calls u d (vDiscard e) = both (code dropped d e) _ (value_calls dropped d e) (tt, tt)
      value_calls u d (vNegate k at e) = both (code used d e) _ (value_calls used d e) (tt, tt)
      value_calls u d (vComplement k at e) = both (code used d e) _ (value_calls used d e) (tt, tt)
      value_calls u d (vNot e) = both (code used d e) _ (value_calls used d e) (tt, tt)
      value_calls u d (vBinary o k at a b) = three (code used d a) (code used (suc d) b) (i.Binary d o k at ∷ []) (value_calls used d a) (value_calls used (suc d) b) (tt, tt)
      value_calls u d (vBoth a b) =
          three (code used d a) (i.SkipZero d (length (code used d b) + 2) ∷ code used d b) (i.Truth d ∷ i.Jump 1 ∷ i.Constant d (pos 0) ∷ []) (value_calls used d a) (tt, value_calls used d b) (tt, (tt, (tt, tt)))
      value_calls u d (vEither a b) =
          three (code used d a) (i.SkipZero d 2 ∷ i.Constant d (pos 1) ∷ i.Jump (length (code used d b) + 1) ∷ code used d b) (i.Truth d ∷ []) (value_calls used d a) (tt, (tt, (tt, value_calls used d b))) (tt, tt)
      value_calls u d (vCond k e a b) =
          let xs : List Instruction = i.SkipZero d (length (code used d a) + 1) ∷ code used d a in
          let ys : List Instruction = i.Jump (length (code used d b)) ∷ code used d b in
          both ((code used d e ++ xs) ++ ys) (kept_code d k) (three (code used d e) xs ys (value_calls used d e) (tt, value_calls used d a) (tt, value_calls used d b)) (kept_calls d k)
      value_calls u d (vAssign k at g e) = three (goal_code objects functions links d g) (code used (suc d) e) _ (goal_calls d g) (value_calls used (suc d) e) (tt, tt)
      value_calls u d (vUpdate o k l at g e) = three (goal_code objects functions links d g) (_ ∷ code used (suc (suc d)) e) _ (goal_calls d g) (tt, value_calls used (suc (suc d)) e) (tt, tt)
      value_calls u d (vChange before by k at g) = both (goal_code objects functions links d g) _ (goal_calls d g) (tt, tt)
      value_calls u d (vCall result at x f es) =
          both (values_code objects functions links d es) _ (values_calls d es) (call_calls d at (number_of es) f (is_needed u result) (parameters_of (slice_get functions f)) (link_of f links) refl)
      value_calls u d (vReach at) = (tt, tt)
      value_calls u d vAbort = (tt, tt)
      value_calls u d (vDraw k) = (tt, tt)
      value_calls u d (vComma es e) = both (drops_code objects functions links d es) (code used d e) (drops_calls d es) (value_calls used d e)

      values_calls : (d : ℕ) (es : Vals) → S (values_code objects functions links d es)
      values_calls d no_values = tt
      values_calls d (values_and es e) = both (values_code objects functions links d es) (code used (d + number_of es) e) (values_calls d es) (value_calls used (d + number_of es) e)

      drops_calls : (d : ℕ) (es : Vals) → S (drops_code objects functions links d es)
      drops_calls d no_values = tt
      drops_calls d (values_and es e) = both (drops_code objects functions links d es) (code dropped d e) (drops_calls d es) (value_calls dropped d e)

      goal_calls : (d : ℕ) (g : Goal) → S (goal_code objects functions links d g)
      goal_calls d (gObject o) = (tt, tt)
      goal_calls d (gElement at o e) = both (code used d e) _ (value_calls used d e) (tt, tt)

    effect_calls : (d : ℕ) (e : Option Val) → S (effect_code objects functions links d e)
    effect_calls d None = tt
    effect_calls d (Some e) = value_calls dropped d e

    test_calls : (d : ℕ) (e : Option Val) → S (test_code objects functions links d e)
    test_calls d None = (tt, tt)
    test_calls d (Some e) = value_calls used d e

    module _ (model : Model) where
      tried_calls : (d place : ℕ) (k : Kind) (x : Name) (cs : List Instruction) → S cs
          → S (elim x [ aLabel l ↦ cs | aCase v ↦ i.SkipEqual d (converted k model v) (length cs + 1 + place) ∷ cs | aDefault ↦ cs ])
      tried_calls d place k (aLabel l) cs s = s
      tried_calls d place k (aCase v) cs s = (tt, s)
      tried_calls d place k aDefault cs s = s

      cases_calls : (d : ℕ) (k : Kind) (ms : List Mark) → S (cases_code model d k ms)
      cases_calls d k [] = tt
      cases_calls d k (m ∷ ms) = tried_calls d m.place k m.name (cases_code model d k ms) (cases_calls d k ms)

      loop_calls : (at place d : ℕ) (xs ys zs : List Instruction) → S xs → S ys → S zs → S (loop_code at place d xs ys zs)
      loop_calls at place d xs ys zs a b e =
          both ((xs ++ (i.SkipZero d (length ys + length zs + 1) ∷ ys)) ++ zs) (i.Turn at place ∷ []) (three xs (i.SkipZero d (length ys + length zs + 1) ∷ ys) zs a (tt, b) e) (tt, tt)

      return_calls : (d place end : ℕ) (r : Option Kind) (e : Option Val) → S (return_code d place end r (return_value model objects functions links r d e) e)
      return_calls d place end r None = (tt, tt)
      return_calls d place end None (Some e) = both (code dropped d e) _ (value_calls dropped d e) (tt, tt)
      return_calls d place end (Some k) (Some e) = both (code used d e) _ (value_calls used d e) (tt, (tt, tt))

      module _ (result : Option Kind) (d end : ℕ) (labels : List ℕ → ℕ) where
        abbrev coded : ℕ → ℕ → ℕ → Step → List Instruction
        coded b e p s = step_code model objects functions links result d end labels b e p s

        abbrev coded_all : ℕ → ℕ → ℕ → Steps → List Instruction
        coded_all b e p ss = steps_code model objects functions links result d end labels b e p ss

        mutual
          step_calls : (s : Step) (b e p : ℕ) → S (coded b e p s)
          step_calls (pDraw o) b e p = (tt, tt)
          step_calls (pBegin o es) b e p = both (values_code objects functions links d es) _ (values_calls d es) (tt, tt)
          step_calls (pBlock ss) b e p = steps_calls ss b e p
          step_calls pEmpty b e p = tt
          step_calls (pEffect v) b e p = value_calls dropped d v
          step_calls (pIf v s) b e p = both (code used d v) _ (value_calls used d v) (tt, step_calls s b e _)
          step_calls (pIfElse v s r) b e p = three (code used d v) _ _ (value_calls used d v) (tt, step_calls s b e _) (tt, step_calls r b e _)
          step_calls (pWhile at v s) b e p = (tt, loop_calls at (suc p) d (code used d v) _ [] (value_calls used d v) (step_calls s _ _ _) tt)
          step_calls (pDo at s v) b e p = (tt, loop_calls at (suc p) d (code used d v) _ [] (value_calls used d v) (step_calls s _ _ _) tt)
          step_calls (pFor at start v step s) b e p =
              both (coded_all b e p start) _ (steps_calls start b e p)
              (tt, loop_calls at _ d (test_code objects functions links d v) _ (effect_code objects functions links d step) (test_calls d v) (step_calls s _ _ _) (effect_calls d step))
          step_calls (pSwitch at k v s) b e p =
              three (code used d v) (cases_code model d k (marks_of model objects functions links result d s)) _ (value_calls used d v) (cases_calls d k (marks_of model objects functions links result d s)) (tt, step_calls s _ _ _)
          step_calls (pCase at v s) b e p = step_calls s b e p
          step_calls (pDefault at s) b e p = step_calls s b e p
          step_calls (pLabel l at s) b e p = step_calls s b e p
          step_calls (pGoto at l x) b e p = (tt, tt)
          step_calls (pBreak at) b e p = (tt, tt)
          step_calls (pContinue at) b e p = (tt, tt)
          step_calls (pReturn at v) b e p = return_calls d p end result v

          pub steps_calls : (ss : Steps) (b e p : ℕ) → S (coded_all b e p ss)
          steps_calls no_steps b e p = tt
          steps_calls (steps_and ss s) b e p = both (coded_all b e p ss) _ (steps_calls ss b e p) (step_calls s b e _)

-- ---- Programs

called_more : (l : Link) (ls : List Link) (goal slot : ℕ) → Called ls goal slot → Called (l ∷ ls) goal slot
called_more l ls goal slot h = record { link = h.link; among = inr h.among; entry = h.entry; by = h.by }

calls_more : (l : Link) (ls : List Link) (x : Instruction) → Calls ls x → Calls (l ∷ ls) x
calls_more l ls (i.Call at goal slot) h = called_more l ls goal slot h
calls_more l ls x h = tt

all_more : (l : Link) (ls : List Link) (xs : List Instruction) → AllCalls ls xs → AllCalls (l ∷ ls) xs
all_more l ls [] h = tt
all_more l ls (x ∷ xs) h = (calls_more l ls x h.0, all_more l ls xs h.1)

module _ (program : Program) where
  -- the calls of one function's code
  pub function_calls : (links : List Link) (slot place : ℕ) (f : Function) → AllCalls links (function_code program links slot place f)
  function_calls links slot place f =
      let end : ℕ = body_end program links slot place f in
      let labels : List ℕ → ℕ = label_place program links slot place f in
      let body : List Instruction = steps_code program.model program.objects program.functions links f.result (suc slot) end labels end end place f.body in
      both links body (i.Constant (suc (suc slot)) (pos 0) ∷ i.Return slot ∷ [])
      (steps_calls links program.objects program.functions program.model f.result (suc slot) end labels f.body end end place) (tt, (tt, tt))

  abbrev P : Code → Type 0
  P c = AllCalls c.links c.instructions

  added : (c : Code) (number : ℕ) (o : Option Function) → P c → P (with_function program c number o)
  added c number None h = h
  added c number (Some f) h =
      let slot : ℕ = slots_in c.instructions in
      let place : ℕ = length c.instructions in
      let l : Link = record { function = number; entry = place; slot = slot } in
      both (l ∷ c.links) c.instructions (function_code program c.links slot place f) (all_more l c.links c.instructions h)
      (all_more l c.links (function_code program c.links slot place f) (function_calls c.links slot place f))

  all_added : (numbers : List ℕ) (c : Code) → P c → P (code_behind program c numbers)
  all_added [] c h = h
  all_added (n ∷ ns) c h = all_added ns (with_function program c n (slice_get program.functions n)) (added c n (slice_get program.functions n) h)

entry_among : (ls : List Link) (l : Link) (goal : ℕ) → Among l ls → l.entry ≡ goal → IsEntry ls goal
entry_among [] l goal h e = absurd h
entry_among (x ∷ xs) l goal (inl same) e = inl (subst (λ (z : Link). z.entry ≡ goal) (sym same) e)
entry_among (x ∷ xs) l goal (inr h) e = inr (entry_among xs l goal h e)

-- each call of a program's code goes to the entry of a function
pub calls_enter : (program : Program) (order : List ℕ) → CallsEnter (code_of program order).links (code_of program order).instructions
calls_enter program order place at goal slot e =
    let c : Code = code_of program order in
    let h : Called c.links goal slot = calls_at c.links c.instructions (all_added program order (record { instructions = []; links = [] }) tt) place (i.Call at goal slot) e in
    entry_among c.links h.link goal h.among h.entry
