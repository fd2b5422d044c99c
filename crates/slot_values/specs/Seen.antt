-- What the code of a value is made over, without where it lies in memory.
use Rattle.std.specs.Prelude.{ℕ, List, [], ◌∷◌, map, Option}
use Rattle.c_run.specs.Operators as o
use Rattle.c_typed.specs.Tree as t
use Rattle.c_typed.specs.View.{object_of, function_of}
use Rattle.slot_code.specs.declared.flat.Instruction.{Instruction}
use Rattle.slot_code.specs.Values as c
pub use Rattle.slot_values.specs.Linked.{link_of, links_behind, links_of}
use Rattle.slot_values.specs.declared.scene.Scene.{Scene}
use Rattle.slot_values.specs.declared.scene.Usage.{Usage}
use Rattle.slot_values.specs.declared.scene.Usage.TheVariants as us

abbrev pub use_of : Usage → o.Use
use_of us.Used = o.used
use_of us.Dropped = o.dropped

abbrev pub objects_of : Scene → List t.Object
objects_of scene = map object_of scene.objects.now

abbrev pub functions_of : Scene → List t.Function
functions_of scene = map function_of scene.functions.now

-- ---- Code over a scene

abbrev pub value_code : Scene → o.Use → ℕ → t.Val → List Instruction
value_code scene u slot e = c.value_code (objects_of scene) (functions_of scene) scene.links.now u slot e

abbrev pub values_code : Scene → ℕ → t.Vals → List Instruction
values_code scene slot es = c.values_code (objects_of scene) (functions_of scene) scene.links.now slot es

abbrev pub drops_code : Scene → ℕ → t.Vals → List Instruction
drops_code scene slot es = c.drops_code (objects_of scene) (functions_of scene) scene.links.now slot es

abbrev pub goal_code : Scene → ℕ → t.Goal → List Instruction
goal_code scene slot g = c.goal_code (objects_of scene) (functions_of scene) scene.links.now slot g

abbrev pub effect_code : Scene → ℕ → Option t.Val → List Instruction
effect_code scene slot e = c.effect_code (objects_of scene) (functions_of scene) scene.links.now slot e

abbrev pub test_code : Scene → ℕ → Option t.Val → List Instruction
test_code scene slot e = c.test_code (objects_of scene) (functions_of scene) scene.links.now slot e
