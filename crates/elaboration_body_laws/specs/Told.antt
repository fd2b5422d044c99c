-- What scopes, offsets and the rules of declarations leave to the kinds of values.
use Rattle.std.specs.Prelude.{◌≡◌, ℕ, ◌≤◌, List, map, true, Option, Some, None, slice_get, position, bytes_eq, ℤ}
use Rattle.lv_base.specs.declared.kind.Kind.{Kind}
use Rattle.lv_base.specs.declared.kind.Kind.TheVariants as kind
use Rattle.lv_base.specs.declared.kind.Model.{Model}
use Rattle.lv_base.specs.Integers.{InRange}
use Rattle.c_meaning.specs.Bindings.{Env, anObjectOf, aFunctionOf, aConstantOf, Object, entity_of}
use Rattle.c_meaning.specs.Known.{Known, known_of}
use Rattle.c_meaning.specs.Rules.{is_known_right}
use Rattle.c_typed.specs.Facts.{parameter_kinds}
use Rattle.c_typed.specs.Tree as typed
use Rattle.c_types.specs.Elaborated.{objects_from}
use Rattle.c_types.specs.Fit.{LengthFits}
use Rattle.elaboration_fit_laws.specs.Laws.{KnownTakeNone}

-- An array has at most as many elements as all objects of a program may have together, so that `sizeof` of it is in range.
abbrev pub IsShort : Option ℕ → Type 0
IsShort None = Unit {0}
IsShort (Some n) = n ≤ 1024

-- what means something without a body is declared with the result that it has
abbrev pub KnownRight : Env → Model → List (List ℕ) → Type 0
KnownRight env model bodies = (n : List ℕ) → (at : ℕ) → (k : Known) → (result : Option Kind) → (parameters : List Kind) → known_of n ≡ Some k → entity_of env n at ≡ aFunctionOf result parameters → is_known_right env model bodies k result ≡ true

-- an object that a name stands for is there
abbrev pub ObjectsThere : Env → Type 0
ObjectsThere env = (n : List ℕ) → (at number : ℕ) → entity_of env n at ≡ anObjectOf number → (o : Object) × (slice_get env.objects number ≡ Some o)

-- an array has elements, and not too many
abbrev pub ArraysFit : Env → Type 0
ArraysFit env = (number : ℕ) → (o : Object) → slice_get env.objects number ≡ Some o → LengthFits o.length × IsShort o.length

-- an enumeration's constant is a value of `int`
abbrev pub ConstantsFit : Env → Model → Type 0
ConstantsFit env model = (n : List ℕ) → (at : ℕ) → (v : ℤ) → entity_of env n at ≡ aConstantOf v → InRange kind.Int model v

-- the function that a called name stands for has the result and the parameters that the name was declared with
abbrev pub CallsTold : Env → Model → List (List ℕ) → List typed.Function → Type 0
CallsTold env model bodies functions =
    (n : List ℕ) → (at number : ℕ) → (result : Option Kind) → (parameters : List Kind) → entity_of env n at ≡ aFunctionOf result parameters → position (λ m. bytes_eq m n) bodies ≡ Some number →
    (f : typed.Function) × (slice_get functions number ≡ Some f) × (f.result ≡ result) × (parameter_kinds model (objects_from env model 0 env.objects) functions f.parameters ≡ map Some parameters)

pub record Told (env : Env) (model : Model) (bodies : List (List ℕ)) (functions : List typed.Function) : Type 0 where
  pub takes : KnownTakeNone env
  pub known : KnownRight env model bodies
  pub there : ObjectsThere env
  pub arrays : ArraysFit env
  pub constants : ConstantsFit env model
  pub called : CallsTold env model bodies functions
