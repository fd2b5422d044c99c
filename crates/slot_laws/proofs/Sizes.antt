-- A statement has as many instructions as its size says.
use Rattle.std.proofs.Common.{◌≡◌, ℕ, suc, ◌+◌, List, [], ◌∷◌, ◌++◌, length, Option, Some, None, refl, arith, length-append}
use Rattle.lv_base.specs.declared.kind.Kind.{Kind}
use Rattle.lv_base.specs.declared.kind.Model.{Model}
use Rattle.c_run.specs.Operators.{used}
use Rattle.c_typed.specs.Tree.{Val, Step, pDraw, pBegin, pBlock, pEmpty, pEffect, pIf, pIfElse, pWhile, pSwitch, pDo, pFor, pCase, pDefault, pLabel, pGoto, pBreak, pContinue, pReturn, Steps, no_steps, steps_and, Object, Function}
use Rattle.slot_code.specs.declared.flat.Instruction.{Instruction}
use Rattle.slot_code.specs.declared.flat.Instruction.TheVariants as i
use Rattle.slot_code.specs.Values.{Link, value_code, values_code, effect_code, test_code}
use Rattle.slot_code.specs.Statements.{loop_code, loop_size, return_code, return_size, return_value, cases_code, marks_of, size_of, size_in, step_code, steps_code}

pub loop_length : (at place slot : ℕ) (xs ys zs : List Instruction) → length (loop_code at place slot xs ys zs) ≡ loop_size (length xs) (length ys) (length zs)
loop_length at place slot xs ys zs =
    let a : length (xs ++ (i.SkipZero slot (length ys + length zs + 1) ∷ ys)) ≡ length xs + suc (length ys) = length-append xs (i.SkipZero slot (length ys + length zs + 1) ∷ ys) in
    let b : length ((xs ++ (i.SkipZero slot (length ys + length zs + 1) ∷ ys)) ++ zs) ≡ length (xs ++ (i.SkipZero slot (length ys + length zs + 1) ∷ ys)) + length zs = length-append (xs ++ (i.SkipZero slot (length ys + length zs + 1) ∷ ys)) zs in
    let d : length (((xs ++ (i.SkipZero slot (length ys + length zs + 1) ∷ ys)) ++ zs) ++ i.Turn at place ∷ []) ≡ length ((xs ++ (i.SkipZero slot (length ys + length zs + 1) ∷ ys)) ++ zs) + 1 =
    length-append ((xs ++ (i.SkipZero slot (length ys + length zs + 1) ∷ ys)) ++ zs) (i.Turn at place ∷ []) in
    omega (arith, a, b, d)

pub return_length : (slot place end : ℕ) (result : Option Kind) (xs : List Instruction) (e : Option Val) → length (return_code slot place end result xs e) ≡ return_size result (length xs) e
return_length slot place end result xs None = refl
return_length slot place end None xs (Some e) = length-append xs _
return_length slot place end (Some k) xs (Some e) = length-append xs _

two_length : (xs ys : List Instruction) (x : Instruction) (n : ℕ) → length ys ≡ n → length (xs ++ x ∷ ys) ≡ length xs + 1 + n
two_length xs ys x n e = let a : length (xs ++ x ∷ ys) ≡ length xs + suc (length ys) = length-append xs (x ∷ ys) in omega (arith, a, e)

both_length : (xs ys : List Instruction) (n m : ℕ) → length xs ≡ n → length ys ≡ m → length (xs ++ ys) ≡ n + m
both_length xs ys n m e f = let a : length (xs ++ ys) ≡ length xs + length ys = length-append xs ys in omega (arith, a, e, f)

three_length : (xs ys zs : List Instruction) (x y : Instruction) (n m : ℕ) → length ys ≡ n → length zs ≡ m → length (xs ++ x ∷ ys ++ y ∷ zs) ≡ length xs + 1 + n + 1 + m
three_length xs ys zs x y n m e f =
    let a : length (xs ++ x ∷ ys) ≡ length xs + suc (length ys) = length-append xs (x ∷ ys) in
    let b : length (xs ++ x ∷ ys ++ y ∷ zs) ≡ length (xs ++ x ∷ ys) + suc (length zs) = length-append (xs ++ x ∷ ys) (y ∷ zs) in
    omega (arith, a, b, e, f)

switch_length : (xs ys zs : List Instruction) (y : Instruction) (m : ℕ) → length zs ≡ m → length (xs ++ ys ++ y ∷ zs) ≡ length xs + length ys + 1 + m
switch_length xs ys zs y m f =
    let a : length (xs ++ ys) ≡ length xs + length ys = length-append xs ys in
    let b : length (xs ++ ys ++ y ∷ zs) ≡ length (xs ++ ys) + suc (length zs) = length-append (xs ++ ys) (y ∷ zs) in
    omega (arith, a, b, f)

module _ (model : Model) (objects : List Object) (functions : List Function) (links : List Link) (result : Option Kind) (slot end : ℕ) (labels : List ℕ → ℕ) where
  abbrev sized : Step → ℕ
  sized s = size_of model objects functions links result slot s

  abbrev coded : ℕ → ℕ → ℕ → Step → List Instruction
  coded b d p s = step_code model objects functions links result slot end labels b d p s

  while_length : (at place n : ℕ) (xs ys : List Instruction) (x : Instruction) → length ys ≡ n → length (x ∷ loop_code at place slot xs ys []) ≡ 1 + loop_size (length xs) n 0
  while_length at place n xs ys x e = let a = loop_length at place slot xs ys [] in omega (arith, a, e)

  for_length : (at place n m : ℕ) (ws xs ys zs : List Instruction) (x : Instruction) → length ws ≡ m → length ys ≡ n → length (ws ++ x ∷ loop_code at place slot xs ys zs) ≡ m + 1 + loop_size (length xs) n (length zs)
  for_length at place n m ws xs ys zs x e f =
      let a = loop_length at place slot xs ys zs in
      let b : length (ws ++ x ∷ loop_code at place slot xs ys zs) ≡ length ws + suc (length (loop_code at place slot xs ys zs)) = length-append ws (x ∷ loop_code at place slot xs ys zs) in
      omega (arith, a, b, e, f)

  mutual
    pub step_length : (s : Step) (b d p : ℕ) → length (coded b d p s) ≡ sized s
    step_length (pDraw object) b d p = refl
    step_length (pBegin object es) b d p = length-append (values_code objects functions links slot es) _
    step_length (pBlock ss) b d p = steps_length ss b d p
    step_length pEmpty b d p = refl
    step_length (pEffect e) b d p = refl
    step_length (pIf e s) b d p = two_length (value_code objects functions links used slot e) _ _ (sized s) (step_length s _ _ _)
    step_length (pIfElse e s r) b d p = three_length (value_code objects functions links used slot e) _ _ _ _ (sized s) (sized r) (step_length s _ _ _) (step_length r _ _ _)
    step_length (pWhile at e s) b d p = while_length at (suc p) (sized s) (value_code objects functions links used slot e) _ (i.Turn at (suc p)) (step_length s _ _ _)
    step_length (pDo at s e) b d p = while_length at (suc p) (sized s) (value_code objects functions links used slot e) _ (i.Jump (length (value_code objects functions links used slot e) + 1)) (step_length s _ _ _)
    step_length (pFor at start e step s) b d p =
        for_length at _ (sized s) (size_in model objects functions links result slot start) _ (test_code objects functions links slot e) _ (effect_code objects functions links slot step) _ (steps_length start _ _ _) (step_length s _ _ _)
    step_length (pSwitch at k e s) b d p = switch_length (value_code objects functions links used slot e) (cases_code model slot k (marks_of model objects functions links result slot s)) _ _ (sized s) (step_length s _ _ _)
    step_length (pCase at v s) b d p = step_length s b d p
    step_length (pDefault at s) b d p = step_length s b d p
    step_length (pLabel l at s) b d p = step_length s b d p
    step_length (pGoto at l x) b d p = refl
    step_length (pBreak at) b d p = refl
    step_length (pContinue at) b d p = refl
    step_length (pReturn at e) b d p = return_length slot p end result (return_value model objects functions links result slot e) e

    pub steps_length : (ss : Steps) (b d p : ℕ) → length (steps_code model objects functions links result slot end labels b d p ss) ≡ size_in model objects functions links result slot ss
    steps_length no_steps b d p = refl
    steps_length (steps_and ss s) b d p =
        both_length (steps_code model objects functions links result slot end labels b d p ss) (coded b d (p + size_in model objects functions links result slot ss) s) _ _ (steps_length ss b d p) (step_length s b d (p + size_in model objects functions links result slot ss))
