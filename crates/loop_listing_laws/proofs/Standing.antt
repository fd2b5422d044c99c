-- The loops of a statement stand in its code: the first turn of each, in the order of the loops.
use Rattle.std.proofs.Common.{◌≡◌, ◌⊎◌, inl, inr, ℕ, suc, ◌+◌, List, [], ◌∷◌, ◌++◌, length, Option, None, Some, refl}
use Rattle.lv_base.specs.declared.kind.Kind.{Kind}
use Rattle.lv_base.specs.declared.kind.Model.{Model}
use Rattle.c_run.specs.Operators.{used}
use Rattle.c_typed.specs.Tree as t
use Rattle.c_typed.specs.Tree.{Object, Function}
use Rattle.slot_code.specs.declared.flat.Instruction.{Instruction}
use Rattle.slot_code.specs.declared.flat.Instruction.TheVariants as i
use Rattle.slot_code.specs.Values.{Link, value_code, effect_code, test_code}
use Rattle.slot_code.specs.Statements.{cases_code, loop_code, marks_of, step_code, steps_code}
use Rattle.cfg_build.specs.Looped.{loops_of, loops_in}

abbrev pub TurnsAt : ℕ → Instruction → Type 0
TurnsAt x (i.Turn at to) = at ≡ x
TurnsAt x _ = ⊥

-- turns at these offsets stand in the code, in this order
abbrev pub Standing : List ℕ → List Instruction → Type 0
Standing [] [] = Unit {0}
Standing [] (c ∷ cs) = Unit {0}
Standing (x ∷ xs) [] = ⊥
Standing (x ∷ xs) (c ∷ cs) = (TurnsAt x c × Standing xs cs) ⊎ Standing (x ∷ xs) cs

pub stands-none : (cs : List Instruction) → Standing [] cs
stands-none [] = tt
stands-none (c ∷ cs) = tt

pub stands-next : (xs : List ℕ) (c : Instruction) (cs : List Instruction) → Standing xs cs → Standing xs (c ∷ cs)
stands-next [] c cs h = tt
stands-next (x ∷ xs) c cs h = inr h

pub stands-behind : (xs : List ℕ) (bs cs : List Instruction) → Standing xs cs → Standing xs (bs ++ cs)
stands-behind xs [] cs h = h
stands-behind xs (b ∷ bs) cs h = stands-next xs b (bs ++ cs) (stands-behind xs bs cs h)

pub stands-before : (xs : List ℕ) (cs ds : List Instruction) → Standing xs cs → Standing xs (cs ++ ds)
stands-before [] cs ds h = stands-none (cs ++ ds)
stands-before (x ∷ xs) [] ds h = absurd h
stands-before (x ∷ xs) (c ∷ cs) ds (inl (turn, rest)) = inl (turn, stands-before xs cs ds rest)
stands-before (x ∷ xs) (c ∷ cs) ds (inr rest) = inr (stands-before (x ∷ xs) cs ds rest)

pub stands-both : (xs ys : List ℕ) (cs ds : List Instruction) → Standing xs cs → Standing ys ds → Standing (xs ++ ys) (cs ++ ds)
stands-both [] ys cs ds h k = stands-behind ys cs ds k
stands-both (x ∷ xs) ys [] ds h k = absurd h
stands-both (x ∷ xs) ys (c ∷ cs) ds (inl (turn, rest)) k = inl (turn, stands-both xs ys cs ds rest k)
stands-both (x ∷ xs) ys (c ∷ cs) ds (inr rest) k = inr (stands-both (x ∷ xs) ys cs ds rest k)

pub stands-later : (x : ℕ) (xs : List ℕ) (cs : List Instruction) → Standing (x ∷ xs) cs → Standing xs cs
stands-later x xs [] h = absurd h
stands-later x xs (c ∷ cs) (inl (turn, rest)) = stands-next xs c cs rest
stands-later x xs (c ∷ cs) (inr rest) = stands-next xs c cs (stands-later x xs cs rest)

-- ---- Statements

loop-stands : (xs : List ℕ) (at place slot : ℕ) (test body step : List Instruction) → Standing xs body → Standing xs (loop_code at place slot test body step)
loop-stands xs at place slot test body step h =
    stands-before xs (test ++ i.SkipZero slot _ ∷ body ++ step) _
    (stands-before xs (test ++ i.SkipZero slot _ ∷ body) step (stands-behind xs test (i.SkipZero slot _ ∷ body) (stands-next xs _ body h)))

module _ (model : Model) (objects : List Object) (functions : List Function) (links : List Link) (result : Option Kind) (slot end : ℕ) (labels : List ℕ → ℕ) where
  abbrev part : (b d p : ℕ) → t.Step → List Instruction
  part b d p s = step_code model objects functions links result slot end labels b d p s

  abbrev parts : (b d p : ℕ) → t.Steps → List Instruction
  parts b d p ss = steps_code model objects functions links result slot end labels b d p ss

  abbrev value : t.Val → List Instruction
  value e = value_code objects functions links used slot e

  mutual
    pub step-stands : (s : t.Step) (b d p : ℕ) → Standing (loops_of s) (part b d p s)
    step-stands (t.pDraw object) b d p = tt
    step-stands (t.pBegin object es) b d p = stands-none (part b d p (t.pBegin object es))
    step-stands (t.pBlock ss) b d p = steps-stand ss b d p
    step-stands t.pEmpty b d p = tt
    step-stands (t.pEffect e) b d p = stands-none (part b d p (t.pEffect e))
    step-stands (t.pIf e s) b d p = stands-behind (loops_of s) (value e) _ (stands-next (loops_of s) _ _ (step-stands s b d _))
    step-stands (t.pIfElse e s o) b d p =
        stands-both (loops_of s) (loops_of o) (value e ++ i.SkipZero slot _ ∷ part b d _ s) (i.Jump _ ∷ part b d _ o)
        (stands-behind (loops_of s) (value e) _ (stands-next (loops_of s) _ (part b d _ s) (step-stands s b d _)))
        (stands-next (loops_of o) _ (part b d _ o) (step-stands o b d _))
    step-stands (t.pWhile at e s) b d p = inl (refl, loop-stands (loops_of s) at (suc p) slot (value e) (part _ _ _ s) [] (step-stands s _ _ _))
    step-stands (t.pDo at s e) b d p = stands-next (loops_of s) _ _ (loop-stands (loops_of s) at (suc p) slot (value e) (part _ _ _ s) [] (step-stands s _ _ _))
    step-stands (t.pFor at start e step s) b d p =
        stands-behind (at ∷ loops_of s) (parts b d p start) _
        (inl (refl, loop-stands (loops_of s) at _ slot (test_code objects functions links slot e) (part _ _ _ s) (effect_code objects functions links slot step) (step-stands s _ _ _)))
    step-stands (t.pSwitch at k e s) b d p =
        stands-behind (loops_of s) (value e ++ cases_code model slot k (marks_of model objects functions links result slot s)) _ (stands-next (loops_of s) _ (part _ _ _ s) (step-stands s _ _ _))
    step-stands (t.pCase at v s) b d p = step-stands s b d p
    step-stands (t.pDefault at s) b d p = step-stands s b d p
    step-stands (t.pLabel l at s) b d p = step-stands s b d p
    step-stands (t.pGoto at l y) b d p = tt
    step-stands (t.pBreak at) b d p = tt
    step-stands (t.pContinue at) b d p = tt
    step-stands (t.pReturn at e) b d p = stands-none (part b d p (t.pReturn at e))

    pub steps-stand : (ss : t.Steps) (b d p : ℕ) → Standing (loops_in ss) (parts b d p ss)
    steps-stand t.no_steps b d p = tt
    steps-stand (t.steps_and ss s) b d p = stands-both (loops_in ss) (loops_of s) (parts b d p ss) (part b d _ s) (steps-stand ss b d p) (step-stands s b d _)
