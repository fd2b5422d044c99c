-- What holds of the names of all sources.
use Rattle.std.specs.Prelude.{◌≡◌}
use Rattle.lv_base.specs.declared.kind.Model.{Model}
use Rattle.c_tree.specs.Tree.{Items}
use Rattle.c_meaning.specs.Program.{env_of}
use Rattle.name_bindings.specs.Bound.{of_items}

-- Adding the declarations part by part, as a program does, is adding those of the list of all declarations.
abbrev pub PartByPart : Type 0
PartByPart = (items : Items) → (model : Model) → of_items model items ≡ env_of items model
