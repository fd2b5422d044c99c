-- Statements' code over a function's frame, and places that are jumped to, without where they lie in memory.
use Rattle.std.specs.Prelude.{ℕ, ◌+◌, List, Option, None, Some, length}
use Rattle.lv_base.specs.declared.kind.Kind.{Kind}
use Rattle.c_run.specs.Operators as o
use Rattle.c_typed.specs.Tree as t
use Rattle.slot_code.specs.declared.flat.Instruction.{Instruction}
use Rattle.slot_code.specs.Statements as c
use Rattle.slot_values.specs.Seen.{objects_of, functions_of}
use Rattle.slot_statements.specs.Measures as me
use Rattle.slot_statements.specs.declared.frames.Frame.{Frame}
use Rattle.slot_statements.specs.declared.frames.Exits.{Exits}
use Rattle.slot_statements.specs.declared.frames.Aims.{Aims}
use Rattle.slot_statements.specs.declared.measures.Measure.{Measure}
pub use Rattle.slot_statements.specs.Marked.{name_of, mark_of, marks_of}

abbrev pub measure_of : Measure → me.Measure
measure_of m = record { size = m.size; marks = marks_of m.marks.items }

-- ---- Sizes over a frame

abbrev pub value_size : Frame → o.Use → t.Val → ℕ
value_size f u e = c.value_size f.model (objects_of f.scene) (functions_of f.scene) f.scene.links.now f.result f.slot u e

abbrev pub test_size : Frame → Option t.Val → ℕ
test_size f e = c.test_size f.model (objects_of f.scene) (functions_of f.scene) f.scene.links.now f.result f.slot e

abbrev pub effect_size : Frame → Option t.Val → ℕ
effect_size f e = c.effect_size f.model (objects_of f.scene) (functions_of f.scene) f.scene.links.now f.result f.slot e

abbrev pub return_value : Frame → Option t.Val → List Instruction
return_value f e = c.return_value f.model (objects_of f.scene) (functions_of f.scene) f.scene.links.now f.result f.slot e

-- what stands before the body of a switch
abbrev pub switch_head : Frame → Kind → t.Val → me.Measure → ℕ
switch_head f k e m = value_size f o.used e + length (c.cases_code f.model f.slot k m.marks) + 1

abbrev pub measured : Frame → t.Step → me.Measure
measured f s = record {
  size = c.size_of f.model (objects_of f.scene) (functions_of f.scene) f.scene.links.now f.result f.slot s;
  marks = c.marks_of f.model (objects_of f.scene) (functions_of f.scene) f.scene.links.now f.result f.slot s;
}

abbrev pub measured_all : Frame → t.Steps → me.Measure
measured_all f ss = record {
  size = c.size_in f.model (objects_of f.scene) (functions_of f.scene) f.scene.links.now f.result f.slot ss;
  marks = c.marks_in f.model (objects_of f.scene) (functions_of f.scene) f.scene.links.now f.result f.slot ss;
}

-- ---- Code over a frame

-- a label that isn't there leaves the body
abbrev pub label_place : Exits → List ℕ → ℕ
label_place e name = c.or_place e.end (elim (c.label_in name e.labels.now) [ None ↦ None | Some n ↦ Some (e.start + n) ])

abbrev pub step_code : Frame → Exits → Aims → t.Step → List Instruction
step_code f e a s = c.step_code f.model (objects_of f.scene) (functions_of f.scene) f.scene.links.now f.result f.slot e.end (label_place e) a.broke a.continued a.place s

abbrev pub steps_code : Frame → Exits → Aims → t.Steps → List Instruction
steps_code f e a ss = c.steps_code f.model (objects_of f.scene) (functions_of f.scene) f.scene.links.now f.result f.slot e.end (label_place e) a.broke a.continued a.place ss
