-- Statements' code, put together from that of their parts.
use Rattle.std.specs.Prelude.{ℕ, suc, ◌+◌, List, [], ◌∷◌, ◌++◌, length, Option, slice_get, pos}
use Rattle.c_run.specs.Operators.{used}
use Rattle.c_typed.specs.Tree as t
use Rattle.c_typed.specs.Run.{kind_of, size_of}
use Rattle.slot_code.specs.declared.flat.Instruction.{Instruction}
use Rattle.slot_code.specs.declared.flat.Instruction.TheVariants as i
use Rattle.slot_code.specs.Values.{number_of}
use Rattle.slot_code.specs.Statements as c
use Rattle.slot_values.specs.Seen.{objects_of, value_code, values_code, test_code, effect_code}
use Rattle.slot_statements.specs.Measures as me
use Rattle.lv_base.specs.declared.kind.Kind.{Kind}
use Rattle.slot_statements.specs.declared.frames.Frame.{Frame}
use Rattle.slot_statements.specs.declared.joints.Head.{Head}
use Rattle.slot_statements.specs.declared.frames.Exits.{Exits}
use Rattle.slot_statements.specs.Seen.{label_place, return_value}

abbrev pub fill_code : Frame → ℕ → List Instruction
fill_code f object = i.Fill object (kind_of (slice_get (objects_of f.scene) object)) (size_of (slice_get (objects_of f.scene) object)) ∷ []

abbrev pub begin_code : Frame → ℕ → t.Vals → List Instruction
begin_code f object es = values_code f.scene f.slot es ++ i.Begin f.slot object (size_of (slice_get (objects_of f.scene) object)) (number_of es) ∷ []

abbrev pub used_code : Frame → t.Val → List Instruction
used_code f e = value_code f.scene used f.slot e

abbrev pub if_code : ℕ → (test : List Instruction) → ℕ → (inner : List Instruction) → List Instruction
if_code slot test n inner = test ++ i.SkipZero slot n ∷ inner

abbrev pub else_code : ℕ → (test first : List Instruction) → ℕ → (second : List Instruction) → ℕ → List Instruction
else_code slot test first n second m = test ++ i.SkipZero slot (n + 1) ∷ first ++ i.Jump m ∷ second

-- behind other code
abbrev pub loop_code : (start : List Instruction) → Head → (test body third : List Instruction) → List Instruction
loop_code start head test body third = start ++ head.first ∷ c.loop_code head.at head.place head.slot test body third

abbrev pub while_code : (at place slot : ℕ) → (test body : List Instruction) → List Instruction
while_code at place slot test body = i.Turn at (suc place) ∷ c.loop_code at (suc place) slot test body []

abbrev pub do_code : (at place slot : ℕ) → (test body : List Instruction) → List Instruction
do_code at place slot test body = i.Jump (length test + 1) ∷ c.loop_code at (suc place) slot test body []

abbrev pub switch_code : (value cases : List Instruction) → ℕ → (body : List Instruction) → List Instruction
switch_code value cases n body = value ++ cases ++ i.Jump n ∷ body

-- a switch by its value, and by the measure and the code of its body
abbrev pub switch_step : Frame → Kind → t.Val → me.Measure → (body : List Instruction) → List Instruction
switch_step f k e m body = switch_code (used_code f e) (c.cases_code f.model f.slot k m.marks) (c.or_place m.size (c.default_in m.marks)) body

-- a `for` behind its first part
abbrev pub for_step : Frame → (at place : ℕ) → (start : List Instruction) → (test third : Option t.Val) → (body : List Instruction) → List Instruction
for_step f at place start test third body =
    start ++ i.Turn at (suc place) ∷ c.loop_code at (suc place) f.slot (test_code f.scene f.slot test) body (effect_code f.scene f.slot third)

abbrev pub goto_code : Exits → ℕ → List ℕ → List Instruction
goto_code e at name = i.Turn at (label_place e name) ∷ []

abbrev pub dropped_return : (place end : ℕ) → List Instruction → List Instruction
dropped_return place end value = value ++ c.jump_from (place + length value) end ∷ []

abbrev pub used_return : (slot place end : ℕ) → List Instruction → List Instruction
used_return slot place end value = value ++ i.Constant (suc slot) (pos 1) ∷ c.jump_from (suc (place + length value)) (suc end) ∷ []

abbrev pub return_code : Frame → (place end : ℕ) → Option t.Val → List Instruction
return_code f place end e = c.return_code f.slot place end f.result (return_value f e) e
