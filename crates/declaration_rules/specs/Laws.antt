-- The walks over declarations and functions find what the rules say.
use Rattle.std.specs.Prelude.{◌≡◌, ℕ, List, []}
use Rattle.lv_base.specs.declared.kind.Model.{Model}
use Rattle.c_tree.specs.Tree.{Items}
use Rattle.c_meaning.specs.Bindings.{Env}
use Rattle.c_meaning.specs.Rules as r
use Rattle.first_broken.specs.Found.{summary}
use Rattle.declaration_rules.specs.Twice.{twice}
use Rattle.declaration_rules.specs.Mains.{main_found}

-- the names that are declared twice
abbrev pub TwiceTold : Type 0
TwiceTold = (env : Env) (model : Model) (bodies : List (List ℕ)) → twice env model [] env.entries ≡ r.redeclared env model bodies [] env.entries

-- `main`
abbrev pub MainTold : Type 0
MainTold = (env : Env) (model : Model) (bodies : List (List ℕ)) (items : Items) → main_found env items ≡ summary (r.main_line env model bodies (r.main_in env model bodies items))
