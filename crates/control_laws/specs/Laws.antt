-- The rules of jumps on a source and on its typed tree.
use Rattle.std.specs.Prelude.{◌≡◌, false, List, [], ◌∷◌, ◌++◌, None}
use Rattle.lv_base.specs.declared.kind.Model.{Model}
use Rattle.c_tree.specs.Tree.{Items}
use Rattle.c_run.specs.Breaking.{Broken}
use Rattle.c_meaning.specs.Bindings.{Env}
use Rattle.c_meaning.specs.Jumps as jumps
use Rattle.c_meaning.specs.Program.{Function, functions_of, env_of}
use Rattle.c_typed.specs.Rules as rules
use Rattle.c_typed.specs.Tree as t
use Rattle.c_types.specs.Elaborated.{elaborated}
use Rattle.control_laws.specs.Aims.{SourceAims}

-- labels, jumps into scopes, and jumps outside of their statements, of a function with a body
abbrev pub source_jumps : Env → Function → List Broken
source_jumps env f =
    jumps.repeated_labels [] (jumps.labels_of_all env [] f.body)
    ++ jumps.lost_gotos (jumps.labels_of_all env [] f.body) (jumps.gotos_of_all env [] f.body)
    ++ jumps.entering_gotos (jumps.labels_of_all env [] f.body) (jumps.gotos_of_all env [] f.body)
    ++ jumps.misplaced_all env f.result false None [] f.body

-- the same of a typed one
abbrev pub typed_jumps : t.Function → List Broken
typed_jumps f =
    rules.repeated_labels [] (rules.labels_of_all [] f.body)
    ++ rules.lost_gotos (rules.labels_of_all [] f.body) (rules.gotos_of_all [] f.body)
    ++ rules.entering_gotos (rules.labels_of_all [] f.body) (rules.gotos_of_all [] f.body)
    ++ rules.misplaced_all f.result false None [] f.body

abbrev pub all_source : Env → List Function → List Broken
all_source env [] = []
all_source env (f ∷ fs) = source_jumps env f ++ all_source env fs

abbrev pub all_typed : List t.Function → List Broken
all_typed [] = []
all_typed (f ∷ fs) = typed_jumps f ++ all_typed fs

abbrev pub SameJumps : Type 0
SameJumps = (items : Items) → (model : Model) → all_typed (elaborated items model).functions ≡ all_source (env_of items model) (functions_of (env_of items model) items)

-- all rules of labels, jumps, effects and calls
abbrev pub SameControl : Type 0
SameControl = (items : Items) → (model : Model) → SourceAims items model → rules.broken (elaborated items model) ≡ jumps.control_faults (env_of items model) (functions_of (env_of items model) items)
