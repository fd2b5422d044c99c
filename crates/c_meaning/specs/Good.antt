-- Which rules a source breaks, and which one is named.
use Rattle.std.specs.Prelude.{◌≡◌, List, [], ◌∷◌, map}
use Rattle.lv_base.specs.declared.kind.Model.{Model}
use Rattle.c_tree.specs.Tree.{Items}
use Rattle.c_run.specs.Breaking.{Broken}
use Rattle.c_meaning.specs.Rules.{typing_faults}
use Rattle.c_meaning.specs.Jumps.{control_faults}
use Rattle.c_meaning.specs.Bindings.{Env}
use Rattle.c_meaning.specs.Program.{Function, functions_of, env_of}

-- faults 11 to 14 and 19 are tried where no other rule is broken
abbrev pub or_control : List Broken → List Broken → List Broken
or_control [] control = control
or_control (b ∷ bs) control = b ∷ bs

abbrev pub broken_in : Env → Model → List Function → Items → List Broken
broken_in env model functions items = or_control (typing_faults env model (map (λ f. f.name) functions) items) (control_faults env functions)

-- all rules that are broken, each with its offset
abbrev pub broken : Items → Model → List Broken
broken items model = let env = env_of items model in broken_in env model (functions_of env items) items

-- a source that breaks no rule
abbrev pub Good : Items → Model → Type 0
Good items model = broken items model ≡ []
