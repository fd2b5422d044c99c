-- The one `main` of a source that breaks no rule.
use Rattle.std.specs.Prelude.{◌≡◌, [], map}
use Rattle.lv_base.specs.declared.kind.Model.{Model}
use Rattle.c_tree.specs.Tree.{Items}
use Rattle.c_meaning.specs.Program.{functions_of, env_of}
use Rattle.c_meaning.specs.Rules.{typing_faults}
use Rattle.c_typed.specs.Facts.{HasMain}
use Rattle.c_types.specs.Elaborated.{elaborated}

abbrev pub MainFound : Type 0
MainFound = (items : Items) → (model : Model) → typing_faults (env_of items model) model (map (λ f. f.name) (functions_of (env_of items model) items)) items ≡ [] → HasMain (elaborated items model).functions
