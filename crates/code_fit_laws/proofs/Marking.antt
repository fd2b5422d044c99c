-- The marks of a statement lie within its code.
use Rattle.std.proofs.Common.{ℕ, ◌+◌, ◌≤◌, Bool, true, false, if◌then◌else◌, List, [], ◌∷◌, ◌++◌, Option, Some, None, arith}
use Rattle.std.specs.Prelude.{bytes_eq}
use Rattle.lv_base.specs.declared.kind.Kind.{Kind}
use Rattle.lv_base.specs.declared.kind.Model.{Model}
use Rattle.c_typed.specs.Tree.{Step, pDraw, pBegin, pBlock, pEmpty, pEffect, pIf, pIfElse, pWhile, pSwitch, pDo, pFor, pCase, pDefault, pLabel, pGoto, pBreak, pContinue, pReturn, Steps, no_steps, steps_and, Object, Function}
use Rattle.slot_code.specs.Values.{Link}
use Rattle.slot_code.specs.Statements.{Mark, Name, aLabel, aCase, aDefault, moved, labels_alone, label_in, default_in, marks_of, marks_in, size_of, size_in}

-- each mark stands at most so many instructions behind the start
abbrev pub Within : ℕ → List Mark → Type 0
Within n [] = Unit {0}
Within n (m ∷ ms) = (m.place ≤ n) × Within n ms

within_moved : (n k most : ℕ) (ms : List Mark) → n + k ≤ most → Within k ms → Within most (moved n ms)
within_moved n k most [] le h = tt
within_moved n k most (m ∷ ms) le h = (omega (arith, le, h.0), within_moved n k most ms le h.1)

within_more : (n most : ℕ) (ms : List Mark) → n ≤ most → Within n ms → Within most ms
within_more n most [] le h = tt
within_more n most (m ∷ ms) le h = (omega (arith, le, h.0), within_more n most ms le h.1)

within_both : (n : ℕ) (xs ys : List Mark) → Within n xs → Within n ys → Within n (xs ++ ys)
within_both n [] ys a b = b
within_both n (x ∷ xs) ys a b = (a.0, within_both n xs ys a.1 b)

alone_by : (n : ℕ) (x : Name) (m : Mark) (ms : List Mark) → m.place ≤ n → Within n (labels_alone ms)
    → Within n (elim x [ aLabel l ↦ m ∷ labels_alone ms | aCase v ↦ labels_alone ms | aDefault ↦ labels_alone ms ])
alone_by n (aLabel l) m ms le h = (le, h)
alone_by n (aCase v) m ms le h = h
alone_by n aDefault m ms le h = h

within_alone : (n : ℕ) (ms : List Mark) → Within n ms → Within n (labels_alone ms)
within_alone n [] h = tt
within_alone n (m ∷ ms) h = alone_by n m.name m ms h.0 (within_alone n ms h.1)

-- ---- What is sought among them

abbrev pub UpTo : ℕ → Option ℕ → Type 0
UpTo n None = Unit {0}
UpTo n (Some m) = m ≤ n

label_if : (n place : ℕ) (o : Option ℕ) (b : Bool) → place ≤ n → UpTo n o → UpTo n (if b then Some place else o)
label_if n place o true le h = le
label_if n place o false le h = h

label_by : (n place : ℕ) (name : List ℕ) (x : Name) (o : Option ℕ) → place ≤ n → UpTo n o
    → UpTo n (elim x [ aLabel l ↦ if bytes_eq name l then Some place else o | aCase v ↦ o | aDefault ↦ o ])
label_by n place name (aLabel l) o le h = label_if n place o (bytes_eq name l) le h
label_by n place name (aCase v) o le h = h
label_by n place name aDefault o le h = h

pub label_within : (n : ℕ) (name : List ℕ) (ms : List Mark) → Within n ms → UpTo n (label_in name ms)
label_within n name [] h = tt
label_within n name (m ∷ ms) h = label_by n m.place name m.name (label_in name ms) h.0 (label_within n name ms h.1)

default_by : (n place : ℕ) (x : Name) (o : Option ℕ) → place ≤ n → UpTo n o → UpTo n (elim x [ aLabel l ↦ o | aCase v ↦ o | aDefault ↦ Some place ])
default_by n place (aLabel l) o le h = h
default_by n place (aCase v) o le h = h
default_by n place aDefault o le h = le

pub default_within : (n : ℕ) (ms : List Mark) → Within n ms → UpTo n (default_in ms)
default_within n [] h = tt
default_within n (m ∷ ms) h = default_by n m.place m.name (default_in ms) h.0 (default_within n ms h.1)

-- ---- The marks of statements

module _ (model : Model) (objects : List Object) (functions : List Function) (links : List Link) (result : Option Kind) (slot : ℕ) where
  abbrev marks : Step → List Mark
  marks s = marks_of model objects functions links result slot s

  abbrev all : Steps → List Mark
  all ss = marks_in model objects functions links result slot ss

  abbrev size : Step → ℕ
  size s = size_of model objects functions links result slot s

  abbrev size_all : Steps → ℕ
  size_all ss = size_in model objects functions links result slot ss

  mutual
    pub marks_within : (s : Step) → Within (size s) (marks s)
    marks_within (pDraw o) = tt
    marks_within (pBegin o es) = tt
    marks_within (pBlock ss) = all_within ss
    marks_within pEmpty = tt
    marks_within (pEffect e) = tt
    marks_within (pIf e s) = within_moved _ (size s) _ (marks s) (omega arith) (marks_within s)
    marks_within (pIfElse e s r) = within_both (size (pIfElse e s r)) _ _ (within_moved _ (size s) _ (marks s) (omega arith) (marks_within s)) (within_moved _ (size r) _ (marks r) (omega arith) (marks_within r))
    marks_within (pWhile at e s) = within_moved _ (size s) _ (marks s) (omega arith) (marks_within s)
    marks_within (pDo at s e) = within_moved _ (size s) _ (marks s) (omega arith) (marks_within s)
    marks_within (pFor at start e step s) = within_moved _ (size s) _ (marks s) (omega arith) (marks_within s)
    marks_within (pSwitch at k e s) = within_alone (size (pSwitch at k e s)) _ (within_moved _ (size s) _ (marks s) (omega arith) (marks_within s))
    marks_within (pCase at v s) = (omega arith, marks_within s)
    marks_within (pDefault at s) = (omega arith, marks_within s)
    marks_within (pLabel l at s) = (omega arith, marks_within s)
    marks_within (pGoto at l x) = tt
    marks_within (pBreak at) = tt
    marks_within (pContinue at) = tt
    marks_within (pReturn at e) = tt

    pub all_within : (ss : Steps) → Within (size_all ss) (all ss)
    all_within no_steps = tt
    all_within (steps_and ss s) =
        within_both (size_all (steps_and ss s)) (all ss) _ (within_more (size_all ss) _ (all ss) (omega arith) (all_within ss)) (within_moved (size_all ss) (size s) _ (marks s) (omega arith) (marks_within s))
