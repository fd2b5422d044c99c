-- An object that is declared, or declared again.
use Rattle.std.proofs.Common.{◌≡◌, ℕ, Bool, true, false, if◌then◌else◌, None, Some, refl}
use Rattle.c_meaning.specs.Scope.{Declared, is_file}
use Rattle.c_meaning.specs.Bindings.{Object, Entity, anObjectOf, aFunctionOf, aConstantOf, aTypeOf, aTagOf, aNameOf, nothingOf, Env, object_number}
use Rattle.c_meaning.specs.Constants.{object_or_same, new_object, entered}
use Rattle.name_entries.specs.Placed.{object_or}

in_scope : (b : Bool) (env : Env) (d : Declared) (o : Object) (n : ℕ) → (if b then entered env d (anObjectOf n) else new_object env d o) ≡ object_or env d o (if b then Some n else None)
in_scope true env d o n = refl
in_scope false env d o n = refl

in_none : (b : Bool) (env : Env) (d : Declared) (o : Object) → new_object env d o ≡ object_or env d o (if b then None else None)
in_none true env d o = refl
in_none false env d o = refl

pub object_or_is : (env : Env) (d : Declared) (o : Object) (e : Entity) → object_or_same env d o e ≡ object_or env d o (if is_file d.scope then object_number e else None)
object_or_is env d o (anObjectOf n) = in_scope (is_file d.scope) env d o n
object_or_is env d o (aFunctionOf r ps) = in_none (is_file d.scope) env d o
object_or_is env d o (aConstantOf v) = in_none (is_file d.scope) env d o
object_or_is env d o (aTypeOf k c) = in_none (is_file d.scope) env d o
object_or_is env d o (aTagOf k) = in_none (is_file d.scope) env d o
object_or_is env d o (aNameOf k c) = in_none (is_file d.scope) env d o
object_or_is env d o nothingOf = in_none (is_file d.scope) env d o
