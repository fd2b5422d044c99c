-- An object that is declared for the first time, or again in the file.
use Rattle.std.specs.Prelude.{ℕ, if◌then◌else◌, List, Option, Some, None}
use Rattle.c_meaning.specs.Scope.{Declared, is_file, Scope}
use Rattle.c_meaning.specs.Bindings.{Object, anObjectOf, Env, object_number}
use Rattle.c_meaning.specs.Constants.{earlier_in_file, new_object, entered}

-- the object that a declaration in the file declares again
abbrev pub same_object : Env → Scope → List ℕ → Option ℕ
same_object env scope name = if is_file scope then object_number (earlier_in_file env name) else None

abbrev pub object_or : Env → Declared → Object → Option ℕ → Env
object_or env d o None = new_object env d o
object_or env d o (Some number) = entered env d (anObjectOf number)
