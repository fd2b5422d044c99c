-- The code of a value: its instructions leave the value in a slot, and use this slot and those behind it. It is the same
-- wherever it stands. An operand that has to be kept while the next one is evaluated has a slot of its own before that
-- one's.
use Rattle.std.specs.Prelude.{ℕ, suc, nat_eq, ◌+◌, Bool, true, false, if◌then◌else◌, List, [], ◌∷◌, ◌++◌, length, Option, Some, None, slice_get, pos}
use Rattle.lv_base.specs.declared.kind.Kind.{Kind}
use Rattle.lv_base.specs.declared.fault.ErrorKind.TheVariants as error
use Rattle.c_run.specs.Operators.{Use, used, dropped}
use Rattle.c_typed.specs.Tree.{Val, vConstant, vRead, vElement, vWhole, vNothing, vConvert, vDiscard, vNegate, vComplement, vNot, vBinary, vBoth, vEither, vCond, vAssign, vUpdate, vChange, vCall, vReach, vAbort, vDraw, vComma, Goal, gObject, gElement, Vals, no_values, values_and, Object, Function}
use Rattle.c_typed.specs.Run.{size_of}
use Rattle.c_typed.specs.Rules.{object_in}
use Rattle.slot_code.specs.declared.flat.Instruction.{Instruction}
use Rattle.slot_code.specs.declared.flat.Instruction.TheVariants as i

-- A function whose code stands: its number, its first place, and the slot that holds the place to return to. The two slots
-- behind that one hold what was returned, and whether a value was.
pub record Link : Type 0 where
  pub function : ℕ
  pub entry : ℕ
  pub slot : ℕ

-- the newest one of this function
abbrev pub link_of : ℕ → List Link → Option Link
link_of function [] = None
link_of function (l ∷ ls) = if nat_eq l.function function then Some l else link_of function ls

abbrev pub number_of : Vals → ℕ
number_of no_values = 0
number_of (values_and es e) = suc (number_of es)

abbrev pub parameters_of : Option Function → List ℕ
parameters_of None = []
parameters_of (Some f) = f.parameters

-- a call of a function with a result has a value where it is used
abbrev pub is_needed : Use → Option Kind → Bool
is_needed used (Some k) = true
is_needed _ _ = false

-- the parameters get the values of so many slots
abbrev pub bind_code : ℕ → List ℕ → ℕ → List Instruction
bind_code slot (object ∷ objects) (suc count) = i.Bind slot object ∷ bind_code (suc slot) objects count
bind_code slot _ _ = []

-- a call behind its arguments; a function that doesn't stand there is not called
abbrev pub call_code : ℕ → ℕ → Bool → List ℕ → ℕ → Option Link → List Instruction
call_code slot at needed objects count None = i.Stop ∷ []
call_code slot at needed objects count (Some l) = bind_code slot objects count ++ i.Call at l.entry l.slot ∷ i.Take slot at l.slot needed ∷ []

-- ---- Parts that are skipped

abbrev pub both_code : ℕ → (first second : List Instruction) → List Instruction
both_code slot first second = first ++ i.SkipZero slot (length second + 2) ∷ second ++ i.Truth slot ∷ i.Jump 1 ∷ i.Constant slot (pos 0) ∷ []

abbrev pub either_code : ℕ → (first second : List Instruction) → List Instruction
either_code slot first second = first ++ i.SkipZero slot 2 ∷ i.Constant slot (pos 1) ∷ i.Jump (length second + 1) ∷ second ++ i.Truth slot ∷ []

-- a void one has no value
abbrev pub kept_code : ℕ → Option Kind → List Instruction
kept_code slot None = i.Constant slot (pos 0) ∷ []
kept_code slot (Some k) = []

abbrev pub choice_code : ℕ → Option Kind → (test first second : List Instruction) → List Instruction
choice_code slot k test first second = test ++ i.SkipZero slot (length first + 1) ∷ first ++ i.Jump (length second) ∷ second ++ kept_code slot k

-- ---- Values

module _ (objects : List Object) (functions : List Function) (links : List Link) where
  abbrev pub count_of : ℕ → ℕ
  count_of object = size_of (slice_get objects object)

  abbrev mutual
    pub value_code : Use → ℕ → Val → List Instruction
    value_code u slot (vConstant k v) = i.Constant slot v ∷ []
    value_code u slot (vRead k object) = i.Read slot object ∷ []
    value_code u slot (vElement k at object e) = value_code used slot e ++ i.Element slot at object (count_of object) ∷ []
    value_code u slot (vWhole object) = i.Read slot object ∷ []
    value_code u slot vNothing = i.Constant slot (pos 0) ∷ []
    value_code u slot (vConvert k e) = value_code used slot e ++ i.Convert slot k ∷ []
    value_code u slot (vDiscard e) = value_code dropped slot e ++ i.Constant slot (pos 0) ∷ []
    value_code u slot (vNegate k at e) = value_code used slot e ++ i.Negate slot k at ∷ []
    value_code u slot (vComplement k at e) = value_code used slot e ++ i.Complement slot k at ∷ []
    value_code u slot (vNot e) = value_code used slot e ++ i.Not slot ∷ []
    value_code u slot (vBinary o k at a b) = value_code used slot a ++ value_code used (suc slot) b ++ i.Binary slot o k at ∷ []
    value_code u slot (vBoth a b) = both_code slot (value_code used slot a) (value_code used slot b)
    value_code u slot (vEither a b) = either_code slot (value_code used slot a) (value_code used slot b)
    value_code u slot (vCond k t a b) = choice_code slot k (value_code used slot t) (value_code used slot a) (value_code used slot b)
    value_code u slot (vAssign k at g e) = goal_code slot g ++ value_code used (suc slot) e ++ i.Store slot (object_in g) ∷ []
    value_code u slot (vUpdate o k l at g e) = goal_code slot g ++ i.Load slot (object_in g) ∷ value_code used (suc (suc slot)) e ++ i.Update slot o k l at (object_in g) ∷ []
    value_code u slot (vChange before by k at g) = goal_code slot g ++ i.Change slot before by k at (object_in g) ∷ []
    value_code u slot (vCall result at x f es) = values_code slot es ++ call_code slot at (is_needed u result) (parameters_of (slice_get functions f)) (number_of es) (link_of f links)
    value_code u slot (vReach at) = i.Fail error.Reach at ∷ []
    value_code u slot vAbort = i.Stop ∷ []
    value_code u slot (vDraw k) = i.Draw slot k ∷ []
    value_code u slot (vComma es e) = drops_code slot es ++ value_code used slot e

    -- each value into a slot of its own
    pub values_code : ℕ → Vals → List Instruction
    values_code slot no_values = []
    values_code slot (values_and es e) = values_code slot es ++ value_code used (slot + number_of es) e

    -- values that are not used
    pub drops_code : ℕ → Vals → List Instruction
    drops_code slot no_values = []
    drops_code slot (values_and es e) = drops_code slot es ++ value_code dropped slot e

    -- the index of the element that is assigned to; a scalar is its element 0
    pub goal_code : ℕ → Goal → List Instruction
    goal_code slot (gObject object) = i.Constant slot (pos 0) ∷ []
    goal_code slot (gElement at object e) = value_code used slot e ++ i.Locate slot at object (count_of object) ∷ []

  -- a part that may be left out
  abbrev pub effect_code : ℕ → Option Val → List Instruction
  effect_code slot None = []
  effect_code slot (Some e) = value_code dropped slot e

  -- a condition that may be left out
  abbrev pub test_code : ℕ → Option Val → List Instruction
  test_code slot None = i.Constant slot (pos 1) ∷ []
  test_code slot (Some e) = value_code used slot e
