-- Constant expressions (C11 6.6), and what the declarations of a source bind their names to.
use Rattle.std.specs.Prelude.{ℕ, min, Bool, true, false, ◌&&◌, not, if◌then◌else◌, List, [], ◌∷◌, ◌++◌, length, Option, Some, None, bytes_eq, find, ℤ, pos, ◌+ℤ◌, int_le, int_lt, unsigned_abs}
use Rattle.lv_base.specs.declared.kind.Model.{Model}
use Rattle.lv_base.specs.Integers.{arith_of}
use Rattle.c_tree.specs.declared.tree.PrefixOp.TheVariants as pre
use Rattle.c_tree.specs.Tree.{Ex, eName, eNumber, eLetter, eParen, eCall, eIndex, ePostfix, ePrefix, eSizeof, eCast, eBinary, eCond, eAssign, eComma, Ens, no_enumerators, plain_and, valued_and, Form, fArray, Initial, iList}
use Rattle.c_run.specs.Run.{State, Got, Value, Stop, stop, Ended}
use Rattle.c_meaning.specs.Tokens.{count_parts}
use Rattle.c_meaning.specs.Kinds.{is_kind}
use Rattle.c_meaning.specs.Scope.{Declared, What, anObject, aParameter, aFunction, aTypedef, anEnumerator, aTag, aName, is_tag, is_file}
use Rattle.c_meaning.specs.Bindings.{Object, Entity, anObjectOf, aFunctionOf, aConstantOf, aTypeOf, aTagOf, aNameOf, Env, entity_of, entity_of_entry, declared_at, constant_value, enum_kind, words_type, has_const, kind_in, kind_or_int, parameter_kinds}
use Rattle.c_meaning.specs.Types.{type_of}
use Rattle.c_run.specs.Operators.{used}
use Rattle.c_meaning.specs.Value.{Context, value}

-- ---- Which expressions are constant

abbrev pub is_object : Entity → Bool
is_object (anObjectOf number) = true
is_object (aNameOf k c) = true
is_object _ = false

-- no object's name, call, assignment, `++`, `--` or comma stands outside of `sizeof`
abbrev pub is_constant : Env → Ex → Bool
is_constant env (eName n at) = not (is_object (entity_of env n at))
is_constant env (eNumber v f at) = true
is_constant env (eLetter v at) = true
is_constant env (eParen a e b) = is_constant env e
is_constant env (eCall f a es b) = false
is_constant env (eIndex a x i y) = is_constant env a && is_constant env i
is_constant env (ePostfix e c at) = false
is_constant env (ePrefix pre.Increment at e) = false
is_constant env (ePrefix pre.Decrement at e) = false
is_constant env (ePrefix pre.Sizeof at e) = true
is_constant env (ePrefix o at e) = is_constant env e
is_constant env (eSizeof at a ws b) = true
is_constant env (eCast a ws b e) = is_constant env e
is_constant env (eBinary a o at b) = is_constant env a && is_constant env b
is_constant env (eCond c x a y b) = is_constant env c && (is_constant env a && is_constant env b)
is_constant env (eAssign a o at b) = false
is_constant env (eComma es) = false

-- ---- Their values

-- where nothing is stored, drawn or called
abbrev pub constant_context : Env → Model → Context
constant_context env model = record { env = env; model = model; compute = (λ op kind x y. arith_of op kind model x y); inputs = []; call = (λ f at vs. stop Ended); bodies = [] }

abbrev pub no_state : State
no_state = record { store = []; taken = 0; turns = 0 }

abbrev pub got_value : Got ℤ → Option ℤ
got_value (Value v st) = Some v
got_value (Stop e) = None

abbrev pub only_if : {A : Type 0} → Bool → Option A → Option A
only_if true o = o
only_if false o = None

-- the value of a constant expression; none where it is no such expression, has no value, or is undefined, since its
-- evaluation ends in an error
abbrev pub constant_of : Env → Model → Ex → Option ℤ
constant_of env model e = only_if (is_constant env e && is_kind (type_of env model e)) (got_value (value (constant_context env model) used e no_state))

abbrev pub or_zero : Option ℤ → ℤ
or_zero None = pos 0
or_zero (Some v) = v

-- ---- Enumerations (C11 6.7.2.2)

-- the constant before the ones that follow
abbrev pub last_constant : Env → Ens → Option ℤ
last_constant env no_enumerators = None
last_constant env (plain_and es c n at) = Some (constant_value (declared_at env at))
last_constant env (valued_and es c n at a e) = Some (constant_value (declared_at env at))

-- A constant that follows another ends at 2^127 - 1. A program that breaks no rule has none above 2^31 - 1: a greater one is
-- refused, or stands behind one that is. No source of 200,000 tokens reaches the end.
abbrev pub next_constant : Option ℤ → ℤ
next_constant None = pos 0
next_constant (Some v) = if int_lt v (pos 170141183460469231731687303715884105727) then v +ℤ pos 1 else v

-- without `=` a constant is one more than the last, or 0
abbrev pub enumerator_value : Env → Model → Ens → ℤ
enumerator_value env model no_enumerators = pos 0
enumerator_value env model (plain_and es c n at) = next_constant (last_constant env es)
enumerator_value env model (valued_and es c n at a e) = or_zero (constant_of env model e)

-- ---- Arrays (C11 6.7.6.2, 6.7.9 p22)

abbrev pub listed : Initial → ℕ
listed (iList at a es c b) = count_parts es
listed _ = 0

-- A length below 1, or that is no constant, is broken, and stands as 0. One above 2^64 - 1, the greatest value of all kinds,
-- stands as that: it is an enumeration's constant that is refused, or `sizeof` of an array that passes the limit on cells.
abbrev pub length_from : Option ℤ → ℕ
length_from None = 0
length_from (Some v) = if int_le (pos 1) v then min (unsigned_abs v) 18446744073709551615 else 0

-- without a length an array has as many elements as values
abbrev pub array_length : Env → Model → Option Ex → Initial → ℕ
array_length env model None i = listed i
array_length env model (Some e) i = length_from (constant_of env model e)

abbrev pub object_length : Env → Model → Form → Initial → Option ℕ
object_length env model (fArray a e b) i = Some (array_length env model e i)
object_length env model _ i = None

-- ---- Binding

abbrev pub entered : Env → Declared → Entity → Env
entered env d entity = record { entries = env.entries ++ (record { declared = d; entity = entity }) ∷ []; objects = env.objects }

abbrev pub with_object : Env → Object → Env
with_object env o = record { entries = env.entries; objects = env.objects ++ o ∷ [] }

abbrev pub new_object : Env → Declared → Object → Env
new_object env d o = entered (with_object env o) d (anObjectOf (length env.objects))

-- the entity of an earlier declaration of this name in the file
abbrev pub earlier_in_file : Env → List ℕ → Entity
earlier_in_file env name = entity_of_entry (find (λ e. is_file e.declared.scope && (not (is_tag e.declared.what) && bytes_eq e.declared.name name)) env.entries)

-- in the file each declaration of an object's name declares the same object (C11 6.9.2)
abbrev pub object_or_same : Env → Declared → Object → Entity → Env
object_or_same env d o (anObjectOf number) = if is_file d.scope then entered env d (anObjectOf number) else new_object env d o
object_or_same env d o _ = new_object env d o

abbrev pub declare : Model → Env → Declared → What → Env
declare model env d (anObject ws form i) =
    object_or_same env d (record { name = d.name; at = d.at; kind = kind_or_int (words_type env ws); length = object_length env model form i; is_const = has_const env ws; owner = d.owner }) (earlier_in_file env d.name)
declare model env d (aParameter ws) =
    new_object env d (record { name = d.name; at = d.at; kind = kind_or_int (words_type env ws); length = None; is_const = has_const env ws; owner = d.owner })
declare model env d (aFunction ws ps body) = entered env d (aFunctionOf (kind_in (words_type env ws)) (parameter_kinds env ps))
declare model env d (aTypedef ws) = entered env d (aTypeOf (kind_or_int (words_type env ws)) (has_const env ws))
declare model env d (anEnumerator es) = entered env d (aConstantOf (enumerator_value env model es))
declare model env d (aTag es) = entered env d (aTagOf (enum_kind env es))
declare model env d (aName ws) = entered env d (aNameOf (kind_or_int (words_type env ws)) (has_const env ws))

abbrev pub no_names : Env
no_names = record { entries = []; objects = [] }

abbrev pub bind_from : Model → Env → List Declared → Env
bind_from model env [] = env
bind_from model env (d ∷ ds) = bind_from model (declare model env d d.what) ds

abbrev pub bind_all : Model → List Declared → Env
bind_all model ds = bind_from model no_names ds
