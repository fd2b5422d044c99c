-- The code of a statement. It goes to its end where the statement ends normally, and behind a `break`, a `continue`, a
-- `return` or a `goto` to a place that is known before: each statement has so many instructions, whatever those places are.
use Rattle.std.specs.Prelude.{ℕ, suc, ◌+◌, ◌-◌, if◌then◌else◌, List, [], ◌∷◌, ◌++◌, length, Option, Some, None, slice_get, bytes_eq, ℤ, pos}
use Rattle.lv_base.specs.declared.kind.Kind.{Kind}
use Rattle.lv_base.specs.declared.kind.Model.{Model}
use Rattle.lv_base.specs.Integers.{converted}
use Rattle.c_run.specs.Operators.{Use, used, dropped}
use Rattle.c_typed.specs.Tree.{Val, Step, pDraw, pBegin, pBlock, pEmpty, pEffect, pIf, pIfElse, pWhile, pSwitch, pDo, pFor, pCase, pDefault, pLabel, pGoto, pBreak, pContinue, pReturn, Steps, no_steps, steps_and, Object, Function}
use Rattle.c_typed.specs.Run.{kind_of}
use Rattle.slot_code.specs.declared.flat.Instruction.{Instruction}
use Rattle.slot_code.specs.declared.flat.Instruction.TheVariants as i
use Rattle.slot_code.specs.Values.{Link, number_of, count_of, value_code, values_code, effect_code, test_code}

-- ---- Places that are jumped to

pub data Name : Type 0 where
  aLabel : (name : List ℕ) → Name
  aCase : (value : ℤ) → Name
  aDefault : Name

-- a place in a statement, counted from its start
pub record Mark : Type 0 where
  pub name : Name
  pub place : ℕ

abbrev pub mark : Name → Mark
mark name = record { name = name; place = 0 }

-- counted from so many instructions before
abbrev pub moved : ℕ → List Mark → List Mark
moved n [] = []
moved n (m ∷ ms) = (record { name = m.name; place = n + m.place }) ∷ moved n ms

-- a jump into a switch goes to a label
abbrev pub labels_alone : List Mark → List Mark
labels_alone [] = []
labels_alone (m ∷ ms) = elim (m.name) [ aLabel l ↦ m ∷ labels_alone ms | aCase v ↦ labels_alone ms | aDefault ↦ labels_alone ms ]

abbrev pub label_in : List ℕ → List Mark → Option ℕ
label_in name [] = None
label_in name (m ∷ ms) = elim (m.name) [ aLabel l ↦ if bytes_eq name l then Some m.place else label_in name ms | aCase v ↦ label_in name ms | aDefault ↦ label_in name ms ]

abbrev pub default_in : List Mark → Option ℕ
default_in [] = None
default_in (m ∷ ms) = elim (m.name) [ aLabel l ↦ default_in ms | aCase v ↦ default_in ms | aDefault ↦ Some m.place ]

abbrev pub or_place : ℕ → Option ℕ → ℕ
or_place place None = place
or_place place (Some other) = other

-- tries the cases in their order; behind the tries and one more jump stands the body
abbrev pub cases_code : Model → ℕ → Kind → List Mark → List Instruction
cases_code model slot k [] = []
cases_code model slot k (m ∷ ms) =
    elim (m.name) [
      | aLabel l ↦ cases_code model slot k ms
      | aCase v ↦ i.SkipEqual slot (converted k model v) (length (cases_code model slot k ms) + 1 + m.place) ∷ cases_code model slot k ms
      | aDefault ↦ cases_code model slot k ms
    ]

-- from this place forward to that one
abbrev pub jump_from : ℕ → ℕ → Instruction
jump_from place goal = i.Jump (goal - suc place)

-- ---- Loops: the condition, the body, the third part, and a turn back to the condition

abbrev pub loop_size : (test body step : ℕ) → ℕ
loop_size test body step = test + 1 + body + step + 1

abbrev pub loop_code : ℕ → ℕ → ℕ → (test body step : List Instruction) → List Instruction
loop_code at place slot test body step = test ++ i.SkipZero slot (length body + length step + 1) ∷ body ++ step ++ i.Turn at place ∷ []

-- ---- Returns: the value stands in the slot of a statement's values, and the next one says whether there is one

-- behind the code of a function's body stand two instructions, for a body that is left without a value, and for the way back
abbrev pub return_code : ℕ → ℕ → ℕ → Option Kind → (value : List Instruction) → Option Val → List Instruction
return_code slot place end result value None = jump_from place end ∷ []
return_code slot place end None value (Some e) = value ++ jump_from (place + length value) end ∷ []
return_code slot place end (Some k) value (Some e) = value ++ i.Constant (suc slot) (pos 1) ∷ jump_from (suc (place + length value)) (suc end) ∷ []

abbrev pub return_size : Option Kind → (value : ℕ) → Option Val → ℕ
return_size result value None = 1
return_size None value (Some e) = value + 1
return_size (Some k) value (Some e) = value + 2

abbrev pub return_use : Option Kind → Use
return_use None = dropped
return_use (Some k) = used

module _ (model : Model) (objects : List Object) (functions : List Function) (links : List Link) (result : Option Kind) (slot : ℕ) where
  abbrev pub value_size : Use → Val → ℕ
  value_size u e = length (value_code objects functions links u slot e)

  abbrev pub return_value : Option Val → List Instruction
  return_value None = []
  return_value (Some e) = value_code objects functions links (return_use result) slot e

  -- ---- How many instructions a statement has

  abbrev pub effect_size : Option Val → ℕ
  effect_size e = length (effect_code objects functions links slot e)

  abbrev pub test_size : Option Val → ℕ
  test_size e = length (test_code objects functions links slot e)

  abbrev mutual
    pub marks_of : Step → List Mark
    marks_of (pBlock ss) = marks_in ss
    marks_of (pIf e s) = moved (value_size used e + 1) (marks_of s)
    marks_of (pIfElse e s t) = moved (value_size used e + 1) (marks_of s) ++ moved (value_size used e + 1 + size_of s + 1) (marks_of t)
    marks_of (pWhile at e s) = moved (1 + value_size used e + 1) (marks_of s)
    marks_of (pDo at s e) = moved (1 + value_size used e + 1) (marks_of s)
    marks_of (pFor at start e step s) = moved (size_in start + 1 + test_size e + 1) (marks_of s)
    marks_of (pSwitch at k e s) = labels_alone (moved (value_size used e + length (cases_code model slot k (marks_of s)) + 1) (marks_of s))
    marks_of (pCase at v s) = mark (aCase v) ∷ marks_of s
    marks_of (pDefault at s) = mark aDefault ∷ marks_of s
    marks_of (pLabel l at s) = mark (aLabel l) ∷ marks_of s
    marks_of _ = []

    pub marks_in : Steps → List Mark
    marks_in no_steps = []
    marks_in (steps_and ss s) = marks_in ss ++ moved (size_in ss) (marks_of s)

    pub size_of : Step → ℕ
    size_of (pDraw object) = 1
    size_of (pBegin object es) = length (values_code objects functions links slot es) + 1
    size_of (pBlock ss) = size_in ss
    size_of pEmpty = 0
    size_of (pEffect e) = value_size dropped e
    size_of (pIf e s) = value_size used e + 1 + size_of s
    size_of (pIfElse e s t) = value_size used e + 1 + size_of s + 1 + size_of t
    size_of (pWhile at e s) = 1 + loop_size (value_size used e) (size_of s) 0
    size_of (pDo at s e) = 1 + loop_size (value_size used e) (size_of s) 0
    size_of (pFor at start e step s) = size_in start + 1 + loop_size (test_size e) (size_of s) (effect_size step)
    size_of (pSwitch at k e s) = value_size used e + length (cases_code model slot k (marks_of s)) + 1 + size_of s
    size_of (pCase at v s) = size_of s
    size_of (pDefault at s) = size_of s
    size_of (pLabel l at s) = size_of s
    size_of (pGoto at l x) = 1
    size_of (pBreak at) = 1
    size_of (pContinue at) = 1
    size_of (pReturn at e) = return_size result (length (return_value e)) e

    pub size_in : Steps → ℕ
    size_in no_steps = 0
    size_in (steps_and ss s) = size_in ss + size_of s

  -- ---- The code of a statement that begins at a place

  -- `end` is the place behind the function's body, and `labels` are the places of its labels
  module _ (end : ℕ) (labels : List ℕ → ℕ) where
    abbrev mutual
      pub step_code : (broke continued place : ℕ) → Step → List Instruction
      step_code broke continued place (pDraw object) = i.Fill object (kind_of (slice_get objects object)) (count_of objects functions links object) ∷ []
      step_code broke continued place (pBegin object es) = values_code objects functions links slot es ++ i.Begin slot object (count_of objects functions links object) (number_of es) ∷ []
      step_code broke continued place (pBlock ss) = steps_code broke continued place ss
      step_code broke continued place pEmpty = []
      step_code broke continued place (pEffect e) = value_code objects functions links dropped slot e
      step_code broke continued place (pIf e s) =
          value_code objects functions links used slot e ++ i.SkipZero slot (size_of s) ∷ step_code broke continued (place + (value_size used e + 1)) s
      step_code broke continued place (pIfElse e s t) =
          value_code objects functions links used slot e ++ i.SkipZero slot (size_of s + 1) ∷ step_code broke continued (place + (value_size used e + 1)) s
          ++ i.Jump (size_of t) ∷ step_code broke continued (place + (value_size used e + 1 + size_of s + 1)) t
      step_code broke continued place (pWhile at e s) =
          i.Turn at (suc place) ∷ loop_code at (suc place) slot (value_code objects functions links used slot e)
          (step_code (place + size_of (pWhile at e s)) (place + (1 + value_size used e + 1 + size_of s)) (place + (1 + value_size used e + 1)) s) []
      step_code broke continued place (pDo at s e) =
          i.Jump (value_size used e + 1) ∷ loop_code at (suc place) slot (value_code objects functions links used slot e)
          (step_code (place + size_of (pDo at s e)) (place + (1 + value_size used e + 1 + size_of s)) (place + (1 + value_size used e + 1)) s) []
      step_code broke continued place (pFor at start e step s) =
          steps_code broke continued place start ++ i.Turn at (suc (place + size_in start)) ∷ loop_code at (suc (place + size_in start)) slot (test_code objects functions links slot e)
          (step_code (place + size_of (pFor at start e step s)) (place + (size_in start + 1 + test_size e + 1 + size_of s)) (place + (size_in start + 1 + test_size e + 1)) s)
          (effect_code objects functions links slot step)
      step_code broke continued place (pSwitch at k e s) =
          value_code objects functions links used slot e ++ cases_code model slot k (marks_of s) ++ i.Jump (or_place (size_of s) (default_in (marks_of s))) ∷
          step_code (place + size_of (pSwitch at k e s)) continued (place + (value_size used e + length (cases_code model slot k (marks_of s)) + 1)) s
      step_code broke continued place (pCase at v s) = step_code broke continued place s
      step_code broke continued place (pDefault at s) = step_code broke continued place s
      step_code broke continued place (pLabel l at s) = step_code broke continued place s
      step_code broke continued place (pGoto at l x) = i.Turn at (labels l) ∷ []
      step_code broke continued place (pBreak at) = jump_from place broke ∷ []
      step_code broke continued place (pContinue at) = jump_from place continued ∷ []
      step_code broke continued place (pReturn at e) = return_code slot place end result (return_value e) e

      pub steps_code : (broke continued place : ℕ) → Steps → List Instruction
      steps_code broke continued place no_steps = []
      steps_code broke continued place (steps_and ss s) = steps_code broke continued place ss ++ step_code broke continued (place + size_in ss) s
