-- Functions that mean something without a body, in sources that break no rule of names.
use Rattle.std.specs.Prelude.{◌≡◌, ℕ, List, [], map}
use Rattle.lv_base.specs.declared.kind.Model.{Model}
use Rattle.c_tree.specs.Tree.{Items}
use Rattle.c_tree.specs.Shape.{ShapedItems}
use Rattle.c_meaning.specs.Program.{functions_of, env_of}
use Rattle.c_meaning.specs.Rules.{redeclared}
use Rattle.control_laws.specs.Aims.{KnownHaveNone}
use Rattle.elaboration_fit_laws.specs.Laws.{KnownTakeNone}

-- They take no arguments and have no body, where no name is declared against the rules: `abort` and those that draw by these
-- rules, and `reach_error` since its body is left out of the tree.
abbrev pub KnownHold : Type 0
KnownHold = (items : Items) → (model : Model) → (bodies : List (List ℕ)) → ShapedItems items → redeclared (env_of items model) model bodies [] (env_of items model).entries ≡ [] →
    KnownTakeNone (env_of items model) × KnownHaveNone (map (λ f. f.name) (functions_of (env_of items model) items))
