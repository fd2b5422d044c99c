-- The code of statements and of bodies goes on within its function, and fills slots behind the one by which the function returns.
use Rattle.std.proofs.Common.{◌≡◌, ℕ, suc, ◌+◌, ◌<◌, ◌≤◌, ◌==◌, List, [], ◌∷◌, ◌++◌, length, Option, Some, None, pos, slice_get, refl, arith, length-append, eq-eqb}
use Rattle.std.proofs.lemmas.Bool.{and_from}
use Rattle.lv_base.specs.declared.kind.Kind.{Kind}
use Rattle.lv_base.specs.declared.kind.Model.{Model}
use Rattle.c_run.specs.Operators.{used, dropped}
use Rattle.c_typed.specs.Tree.{Val, Step, pDraw, pBegin, pBlock, pEmpty, pEffect, pIf, pIfElse, pWhile, pSwitch, pDo, pFor, pCase, pDefault, pLabel, pGoto, pBreak, pContinue, pReturn, Steps, no_steps, steps_and, Object, Function, Program}
use Rattle.c_typed.specs.Run.{kind_of}
use Rattle.slot_code.specs.declared.flat.Instruction.{Instruction}
use Rattle.slot_code.specs.declared.flat.Instruction.TheVariants as i
use Rattle.slot_code.specs.Values.{Link, number_of, count_of, value_code, values_code, effect_code, test_code}
use Rattle.slot_code.specs.Statements.{Mark, cases_code, return_code, return_value, marks_of, marks_in, label_in, or_place, size_of, size_in, step_code, steps_code}
use Rattle.slot_code.specs.Programs.{body_end, label_place, function_code}
use Rattle.slot_laws.proofs.Sizes.{step_length, steps_length}
use Rattle.code_fit_laws.specs.Ranges.{Range}
use Rattle.code_fit_laws.proofs.Marking.{UpTo, label_within, marks_within, all_within}
use Rattle.code_fit_laws.proofs.Staying.{Stay, there, joined, inside, jump_stays, constant_stays, one, both}
use Rattle.code_fit_laws.proofs.Keeping.{value_stays, values_stay, effect_stays, test_stays, return_none, return_dropped, return_used, if_stays, else_stays, while_stays, for_stays, switch_stays}

module _ (r : Range) (model : Model) (objects : List Object) (functions : List Function) (links : List Link) (result : Option Kind) (d end : ℕ) (labels : List ℕ → ℕ)
    (lt : r.slot < d) (behind : suc end < r.end) (known : (l : List ℕ) → (r.entry ≤ labels l) × (labels l < r.end)) where
  abbrev coded : ℕ → ℕ → ℕ → Step → List Instruction
  coded b e p s = step_code model objects functions links result d end labels b e p s

  abbrev coded_all : ℕ → ℕ → ℕ → Steps → List Instruction
  coded_all b e p ss = steps_code model objects functions links result d end labels b e p ss

  abbrev size : Step → ℕ
  size s = size_of model objects functions links result d s

  abbrev marks : Step → List Mark
  marks s = marks_of model objects functions links result d s

  abbrev code : Val → List Instruction
  code v = value_code objects functions links used d v

  measured : (s : Step) (b e p : ℕ) → length (coded b e p s) ≡ size s
  measured s b e p = step_length model objects functions links result d end labels s b e p

  returns_stay : (k : Option Kind) (v : Option Val) (p : ℕ) → r.entry ≤ p
      → p + length (return_code d p end k (return_value model objects functions links k d v) v) < r.end
      → Stay r p (return_code d p end k (return_value model objects functions links k d v) v)
  returns_stay k None p a m = return_none r d p end k [] a (omega (arith, m)) behind
  returns_stay None (Some v) p a m = return_dropped r d p end (value_code objects functions links dropped d v) v (value_stays r objects functions links dropped d v lt) a m behind
  returns_stay (Some k) (Some v) p a m = return_used r d p end k (code v) v lt (value_stays r objects functions links used d v lt) a m behind

  mutual
    step_stays : (s : Step) (b e p : ℕ) → b < r.end → e < r.end → r.entry ≤ p → p + length (coded b e p s) < r.end → Stay r p (coded b e p s)
    step_stays (pDraw o) b e p lb le a m = one r (i.Fill o (kind_of (slice_get objects o)) (count_of objects functions links o)) (λ q. refl) tt p a m
    step_stays (pBegin o es) b e p lb le a m = both r (values_code objects functions links d es) _ (values_stay r objects functions links d es lt) (one r (i.Begin d o (count_of objects functions links o) (number_of es)) (λ q. refl) tt) p a m
    step_stays (pBlock ss) b e p lb le a m = steps_stay ss b e p lb le a m
    step_stays pEmpty b e p lb le a m = tt
    step_stays (pEffect v) b e p lb le a m = value_stays r objects functions links dropped d v lt p a m
    step_stays (pIf v s) b e p lb le a m =
        let q : ℕ = p + (length (code v) + 1) in
        let n : length (coded b e p (pIf v s)) ≡ length (code v) + 1 + size s = measured (pIf v s) b e p in
        let k : length (coded b e q s) ≡ size s = measured s b e q in
        if_stays r d p (size s) (code v) (coded b e q s) (value_stays r objects functions links used d v lt) k a m (step_stays s b e q lb le (omega (arith, a)) (omega (arith, m, n, k)))
    step_stays (pIfElse v s t) b e p lb le a m =
        let q : ℕ = p + (length (code v) + 1) in
        let o : ℕ = p + (length (code v) + 1 + size s + 1) in
        let n : length (coded b e p (pIfElse v s t)) ≡ length (code v) + 1 + size s + 1 + size t = measured (pIfElse v s t) b e p in
        let k : length (coded b e q s) ≡ size s = measured s b e q in
        let j : length (coded b e o t) ≡ size t = measured t b e o in
        else_stays r d p (size s) (size t) (code v) (coded b e q s) (coded b e o t) (value_stays r objects functions links used d v lt) k j a m
        (step_stays s b e q lb le (omega (arith, a)) (omega (arith, m, n, k))) (step_stays t b e o lb le (omega (arith, a)) (omega (arith, m, n, j)))
    step_stays (pWhile at v s) b e p lb le a m =
        let n : length (coded b e p (pWhile at v s)) ≡ 1 + (length (code v) + 1 + size s + 0 + 1) = measured (pWhile at v s) b e p in
        let q : ℕ = p + (1 + length (code v) + 1) in
        let c : ℕ = p + (1 + length (code v) + 1 + size s) in
        let f : ℕ = p + (1 + (length (code v) + 1 + size s + 0 + 1)) in
        let k : length (coded f c q s) ≡ size s = measured s f c q in
        while_stays r at d p (code v) (coded f c q s) (i.Turn at (suc p)) (inside r (suc p) (omega (arith, a)) (omega (arith, m, n)), tt) (value_stays r objects functions links used d v lt) a m
        (step_stays s f c q (omega (arith, m, n)) (omega (arith, m, n)) (omega (arith, a)) (omega (arith, m, n, k)))
    step_stays (pDo at s v) b e p lb le a m =
        let n : length (coded b e p (pDo at s v)) ≡ 1 + (length (code v) + 1 + size s + 0 + 1) = measured (pDo at s v) b e p in
        let q : ℕ = p + (1 + length (code v) + 1) in
        let c : ℕ = p + (1 + length (code v) + 1 + size s) in
        let f : ℕ = p + (1 + (length (code v) + 1 + size s + 0 + 1)) in
        let k : length (coded f c q s) ≡ size s = measured s f c q in
        while_stays r at d p (code v) (coded f c q s) (i.Jump (length (code v) + 1)) (inside r (p + 1 + (length (code v) + 1)) (omega (arith, a)) (omega (arith, m, n)), tt) (value_stays r objects functions links used d v lt) a m
        (step_stays s f c q (omega (arith, m, n)) (omega (arith, m, n)) (omega (arith, a)) (omega (arith, m, n, k)))
    step_stays (pFor at start v step s) b e p lb le a m =
        let w : ℕ = size_in model objects functions links result d start in
        let test : List Instruction = test_code objects functions links d v in
        let last : List Instruction = effect_code objects functions links d step in
        let n : length (coded b e p (pFor at start v step s)) ≡ w + 1 + (length test + 1 + size s + length last + 1) = measured (pFor at start v step s) b e p in
        let q : ℕ = p + (w + 1 + length test + 1) in
        let c : ℕ = p + (w + 1 + length test + 1 + size s) in
        let f : ℕ = p + (w + 1 + (length test + 1 + size s + length last + 1)) in
        let k : length (coded f c q s) ≡ size s = measured s f c q in
        let j : length (coded_all b e p start) ≡ w = steps_length model objects functions links result d end labels start b e p in
        for_stays r at d p w (coded_all b e p start) test (coded f c q s) last (steps_stay start b e p lb le a (omega (arith, m, n, j))) j (test_stays r objects functions links d v lt) (effect_stays r objects functions links d step lt) a m
        (step_stays s f c q (omega (arith, m, n)) (omega (arith, m, n)) (omega (arith, a)) (omega (arith, m, n, k)))
    step_stays (pSwitch at k v s) b e p lb le a m =
        let cs : List Instruction = cases_code model d k (marks s) in
        let n : length (coded b e p (pSwitch at k v s)) ≡ length (code v) + length cs + 1 + size s = measured (pSwitch at k v s) b e p in
        let q : ℕ = p + (length (code v) + length cs + 1) in
        let f : ℕ = p + (length (code v) + length cs + 1 + size s) in
        let j : length (coded f e q s) ≡ size s = measured s f e q in
        switch_stays r model d p (size s) k (marks s) (code v) (coded f e q s) (value_stays r objects functions links used d v lt) (marks_within model objects functions links result d s) j a m
        (step_stays s f e q (omega (arith, m, n)) le (omega (arith, a)) (omega (arith, m, n, j)))
    step_stays (pCase at v s) b e p lb le a m = step_stays s b e p lb le a m
    step_stays (pDefault at s) b e p lb le a m = step_stays s b e p lb le a m
    step_stays (pLabel l at s) b e p lb le a m = step_stays s b e p lb le a m
    step_stays (pGoto at l x) b e p lb le a m = ((inside r (labels l) (known l).0 (known l).1, tt), tt)
    step_stays (pBreak at) b e p lb le a m = (jump_stays r p b a m lb, tt)
    step_stays (pContinue at) b e p lb le a m = (jump_stays r p e a m le, tt)
    step_stays (pReturn at v) b e p lb le a m = returns_stay result v p a m

    pub steps_stay : (ss : Steps) (b e p : ℕ) → b < r.end → e < r.end → r.entry ≤ p → p + length (coded_all b e p ss) < r.end → Stay r p (coded_all b e p ss)
    steps_stay no_steps b e p lb le a m = tt
    steps_stay (steps_and ss s) b e p lb le a m =
        let w : ℕ = size_in model objects functions links result d ss in
        let n : length (coded_all b e p (steps_and ss s)) ≡ w + size s = steps_length model objects functions links result d end labels (steps_and ss s) b e p in
        let j : length (coded_all b e p ss) ≡ w = steps_length model objects functions links result d end labels ss b e p in
        let k : length (coded b e (p + w) s) ≡ size s = measured s b e (p + w) in
        joined r p (coded_all b e p ss) (coded b e (p + w) s) (steps_stay ss b e p lb le a (omega (arith, m, n, j)))
        (there r (p + w) (p + length (coded_all b e p ss)) (coded b e (p + w) s) (omega (arith, j)) (step_stays s b e (p + w) lb le (omega (arith, a)) (omega (arith, m, n, k))))

-- ---- Functions

module _ (program : Program) (links : List Link) (f : Function) (r : Range) where
  abbrev end : ℕ
  end = body_end program links r.slot r.entry f

  abbrev labels : List ℕ → ℕ
  labels = label_place program links r.slot r.entry f

  abbrev body : List Instruction
  body = steps_code program.model program.objects program.functions links f.result (suc r.slot) end labels end end r.entry f.body

  abbrev size_body : ℕ
  size_body = size_in program.model program.objects program.functions links f.result (suc r.slot) f.body

  label_known : (o : Option ℕ) → UpTo size_body o → suc end < r.end
      → (r.entry ≤ or_place end (elim o [ None ↦ None | Some n ↦ Some (r.entry + n) ])) × (or_place end (elim o [ None ↦ None | Some n ↦ Some (r.entry + n) ]) < r.end)
  label_known None h lt = (omega arith, omega (arith, lt))
  label_known (Some n) h lt = (omega arith, omega (arith, h, lt))

  known : suc end < r.end → (l : List ℕ) → (r.entry ≤ labels l) × (labels l < r.end)
  known lt l =
      let ms : List Mark = marks_in program.model program.objects program.functions links f.result (suc r.slot) f.body in
      label_known (label_in l ms) (label_within size_body l ms (all_within program.model program.objects program.functions links f.result (suc r.slot) f.body)) lt

  -- the code of a function that fills the range
  pub function_stays : r.end ≡ r.entry + length (function_code program links r.slot r.entry f) → Stay r r.entry (function_code program links r.slot r.entry f)
  function_stays e =
      let last : List Instruction = i.Constant (suc (suc r.slot)) (pos 0) ∷ i.Return r.slot ∷ [] in
      let n : length (body ++ last) ≡ length body + 2 = length-append body last in
      let k : length body ≡ size_body = steps_length program.model program.objects program.functions links f.result (suc r.slot) end labels f.body end end r.entry in
      let lt : suc end < r.end = omega (arith, e, n, k) in
      let t : ℕ = r.entry + length body in
      joined r r.entry body last
      (steps_stay r program.model program.objects program.functions links f.result (suc r.slot) end labels (omega arith) lt (known lt) f.body end end r.entry (omega (arith, lt)) (omega (arith, lt)) (omega arith) (omega (arith, e, n))) (
        constant_stays r t (suc (suc r.slot)) (pos 0) (omega arith) (omega arith) (omega (arith, e, n)),
        ((and_from (r.slot == r.slot) (suc t + 1 == r.end) (eq-eqb r.slot r.slot refl) (eq-eqb (suc t + 1) r.end (omega (arith, e, n))), tt), tt),
      )
