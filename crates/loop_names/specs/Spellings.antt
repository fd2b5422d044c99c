-- How objects are written at a loop.
use Rattle.std.specs.Prelude.{ℕ, suc, nat_eq, Bool, false, ◌&&◌, if◌then◌else◌, List, [], ◌∷◌, Option, Some, None}
use Rattle.c_meaning.specs.Bindings.{Env, Object, object_of}
use Rattle.witness_expressions.specs.declared.names.Spelling.{Spelling}
use Rattle.witness_expressions.specs.declared.names.Spelling.TheVariants.{Hidden, Scalar, Array}

abbrev pub is_number : Option ℕ → ℕ → Bool
is_number None number = false
is_number (Some k) number = nat_eq k number

-- the object's name means it at this token
abbrev pub means : Env → ℕ → List ℕ → ℕ → Bool
means env at name number = is_number (object_of env name at) number

abbrev pub spelled : List ℕ → Option ℕ → Spelling
spelled name None = Scalar name
spelled name (Some length) = Array name

-- an object is written by its name where that means it both at the loop's keyword and where the loop's condition begins
abbrev pub spelling_of : Env → ℕ → ℕ → ℕ → Object → Spelling
spelling_of env keyword condition number o =
    if means env keyword o.name number && means env condition o.name number then spelled o.name o.length else Hidden

-- the spellings of objects, which are numbered from this number on
abbrev pub spellings_from : Env → ℕ → ℕ → ℕ → List Object → List Spelling
spellings_from env keyword condition number [] = []
spellings_from env keyword condition number (o ∷ os) =
    spelling_of env keyword condition number o ∷ spellings_from env keyword condition (suc number) os

abbrev pub spellings_of : Env → ℕ → ℕ → List Spelling
spellings_of env keyword condition = spellings_from env keyword condition 0 env.objects
