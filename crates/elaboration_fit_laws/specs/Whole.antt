-- What sources that break no rule of names, types and calls leave to the typed tree.
use Rattle.std.specs.Prelude.{◌≡◌, List, [], map}
use Rattle.lv_base.specs.declared.kind.Model.{Model}
use Rattle.c_tree.specs.Tree.{Items}
use Rattle.c_meaning.specs.Program.{functions_of, env_of}
use Rattle.c_meaning.specs.Rules.{typing_faults}
use Rattle.c_types.specs.Fit.{ObjectsFit}
use Rattle.c_types.specs.Laws.{SourceFits}
use Rattle.control_laws.specs.Aims.{KnownHaveNone, SourceAims}
use Rattle.elaboration_fit_laws.specs.Laws.{KnownTakeNone}
use Rattle.elaboration_fit_laws.specs.Holds.{BodiesHold}

-- What scopes, offsets and the shape of the tree leave: the lengths of arrays, the names and initial values of bodies, and
-- the functions that mean something without a body.
pub record SourceHolds (items : Items) (model : Model) : Type 0 where
  pub objects : ObjectsFit (env_of items model).objects
  pub bodies : BodiesHold (env_of items model) (functions_of (env_of items model) items)
  pub takes : KnownTakeNone (env_of items model)
  pub known : KnownHaveNone (map (λ f. f.name) (functions_of (env_of items model) items))

abbrev pub SourcesFit : Type 0
SourcesFit = (items : Items) → (model : Model) → SourceHolds items model →
    typing_faults (env_of items model) model (map (λ f. f.name) (functions_of (env_of items model) items)) items ≡ [] → SourceFits items model × SourceAims items model
