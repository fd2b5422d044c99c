-- A typed tree by its parts.
use Rattle.std.specs.Prelude.{List}
use Rattle.lv_base.specs.declared.kind.Model.{Model}
use Rattle.c_typed.specs.declared.tree.Object.{Object}
use Rattle.c_typed.specs.declared.tree.Function.{Function}
use Rattle.c_typed.specs.Tree.{Program}
use Rattle.c_typed.specs.View.{program_of}

pub record Parts : Type 0 where
  pub model : Model
  pub objects : List Object
  pub functions : List Function

-- what it is, without where it lies in memory
abbrev pub tree_of : Parts → Program
tree_of p = program_of p.model p.objects p.functions
