-- The typed tree of a source runs as the source does.
use Rattle.std.specs.Prelude.{◌≡◌, ℕ, List, map, ℤ}
use Rattle.lv_base.specs.declared.kind.Model.{Model}
use Rattle.c_tree.specs.Tree.{Items}
use Rattle.c_meaning.specs.Program.{env_of, functions_of, run}
use Rattle.c_typed.specs.Run as typed
use Rattle.c_types.specs.Elaborated.{elaborated}
use Rattle.c_types.specs.Fit.{ObjectsFit, BodiesFit}

-- what the rules of names, types and calls leave to a run
pub record SourceFits (items : Items) (model : Model) : Type 0 where
  pub objects : ObjectsFit (env_of items model).objects
  pub bodies : BodiesFit (env_of items model) (map (λ f. f.name) (functions_of (env_of items model) items)) (functions_of (env_of items model) items)

-- with any number of turns, on any inputs
abbrev pub SameRun : Type 0
SameRun = (items : Items) → (model : Model) → SourceFits items model → (turns : ℕ) → (inputs : List ℤ) →
    typed.run turns (elaborated items model) inputs ≡ run turns items model inputs
