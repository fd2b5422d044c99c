-- The calls of the definition are those by the names of the functions with a body.
use Rattle.std.proofs.Common.{◌≡◌, ℕ, List, Option, Some, None, refl}
use Rattle.std.specs.Prelude.{position, bytes_eq}
use Rattle.lv_base.specs.declared.kind.Kind.{Kind}
use Rattle.lv_base.specs.declared.kind.Model.{Model}
use Rattle.c_tree.specs.Tree as tr
use Rattle.c_meaning.specs.Bindings.{Env, Entity, anObjectOf, aFunctionOf, aConstantOf, aTypeOf, aTagOf, aNameOf, nothingOf, entity_of}
use Rattle.c_meaning.specs.Known as k
use Rattle.c_typed.specs.Tree.{Vals}
use Rattle.c_types.specs.Elaborated as el
use Rattle.typed_values.specs.Made as made

module _ (env : Env) (model : Model) (bodies : List (List ℕ)) where
  called_is : (r : Option Kind) (at x : ℕ) (o : Option ℕ) (vs : Vals) → el.called env model bodies r at x o vs ≡ made.called r at x o vs
  called_is r at x None vs = refl
  called_is r at x (Some f) vs = refl

  known_is : (o : Option k.Known) (r : Option Kind) (n : List ℕ) (at x : ℕ) (vs : Vals) → el.called_known env model bodies o r n at x vs ≡ made.called_known bodies o r n at x vs
  known_is (Some k.reaches) r n at x vs = refl
  known_is (Some k.aborts) r n at x vs = refl
  known_is (Some (k.draws kind)) r n at x vs = refl
  known_is None r n at x vs = called_is r at x (position (λ m. bytes_eq m n) bodies) vs

  entity_is : (e : Entity) (n : List ℕ) (at x : ℕ) (vs : Vals) → el.called_entity env model bodies e n at x vs ≡ made.called_entity bodies e n at x vs
  entity_is (aFunctionOf r ps) n at x vs = known_is (k.known_of n) r n at x vs
  entity_is (anObjectOf m) n at x vs = refl
  entity_is (aConstantOf v) n at x vs = refl
  entity_is (aTypeOf t c) n at x vs = refl
  entity_is (aTagOf t) n at x vs = refl
  entity_is (aNameOf t c) n at x vs = refl
  entity_is nothingOf n at x vs = refl

  pub name_is : (f : tr.Ex) (x : ℕ) (vs : Vals) → el.called_name env model bodies f x vs ≡ made.called_name bodies env f x vs
  name_is (tr.eName n at) x vs = entity_is (entity_of env n at) n at x vs
  name_is f x vs = refl
