-- The code of a function's body by its parts.
use Rattle.std.specs.Prelude.{ℕ, suc, ◌+◌, List, [], ◌∷◌, ◌++◌, Option, None, Some, pos}
use Rattle.lv_base.specs.declared.kind.Kind.{Kind}
use Rattle.lv_base.specs.declared.kind.Model.{Model}
use Rattle.c_typed.specs.Tree as t
use Rattle.slot_code.specs.declared.flat.Instruction.{Instruction}
use Rattle.slot_code.specs.declared.flat.Instruction.TheVariants as i
use Rattle.slot_code.specs.Values as c
use Rattle.slot_code.specs.Statements.{Mark, or_place, label_in, marks_in, size_in, steps_code}
use Rattle.slot_values.specs.declared.scene.Scene.{Scene}
use Rattle.slot_values.specs.Seen.{objects_of, functions_of}

-- a label that isn't there leaves the body
abbrev pub label_place : (end start : ℕ) → List Mark → List ℕ → ℕ
label_place end start marks name = or_place end (elim (label_in name marks) [ None ↦ None | Some n ↦ Some (start + n) ])

module _ (model : Model) (objects : List t.Object) (functions : List t.Function) (links : List c.Link) (result : Option Kind) (slot place : ℕ) (body : t.Steps) where
  abbrev pub end_of : ℕ
  end_of = place + size_in model objects functions links result (suc slot) body

  abbrev pub steps_of : List Instruction
  steps_of = steps_code model objects functions links result (suc slot) end_of (label_place end_of place (marks_in model objects functions links result (suc slot) body)) end_of end_of place body

  abbrev pub code_of : List Instruction
  code_of = steps_of ++ i.Constant (suc (suc slot)) (pos 0) ∷ i.Return slot ∷ []

abbrev pub body_steps : Scene → Model → Option Kind → (slot place : ℕ) → t.Steps → List Instruction
body_steps scene model kind slot place body = steps_of model (objects_of scene) (functions_of scene) scene.links.now kind slot place body

abbrev pub body_code : Scene → Model → Option Kind → (slot place : ℕ) → t.Steps → List Instruction
body_code scene model kind slot place body = code_of model (objects_of scene) (functions_of scene) scene.links.now kind slot place body
