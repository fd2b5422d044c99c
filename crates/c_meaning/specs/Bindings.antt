-- What names stand for.
use Rattle.std.specs.Prelude.{ℕ, nat_eq, nat_le, Bool, true, false, ◌&&◌, not, if◌then◌else◌, List, [], ◌∷◌, ◌++◌, Option, Some, None, slice_get, find, bytes_eq, ℤ, pos, int_lt}
use Rattle.lv_base.specs.declared.kind.Kind.{Kind}
use Rattle.lv_base.specs.declared.kind.Kind.TheVariants as kind
use Rattle.c_tree.specs.declared.known.Typing.{Typing}
use Rattle.c_tree.specs.declared.known.Typing.TheVariants as ty
use Rattle.c_tree.specs.Words.{type_with}
use Rattle.c_tree.specs.Tree.{Words, no_words, words_and, Word, wType, wConst, wTypedef, wTag, wEnum, wTagEnum, Ens, no_enumerators, plain_and, valued_and, Params, no_params, params_and, Parameters, pSome}
use Rattle.c_meaning.specs.Kinds.{CType, tKind, tVoid, tArray, tFunction, tNone, words_kind}
use Rattle.c_meaning.specs.Scope.{holds, begin_of, Declared, is_tag}

-- An object. `length` is none of a scalar, and the elements of an array; `owner` is the function in which it is declared,
-- and none of an object that lives as long as the program.
pub record Object : Type 0 where
  pub name : List ℕ
  pub at : ℕ
  pub kind : Kind
  pub length : Option ℕ
  pub is_const : Bool
  pub owner : Option ℕ

pub data Entity : Type 0 where
  anObjectOf : (number : ℕ) → Entity
  aFunctionOf : (result : Option Kind) (parameters : List Kind) → Entity
  aConstantOf : (value : ℤ) → Entity
  aTypeOf : (kind : Kind) (is_const : Bool) → Entity
  aTagOf : (kind : Kind) → Entity
  aNameOf : (kind : Kind) (is_const : Bool) → Entity
  nothingOf : Entity

-- a declaration with what it declares
pub record Entry : Type 0 where
  pub declared : Declared
  pub entity : Entity

-- All declarations so far in their order, and the objects in the order of their first declarations: an object's number is
-- its place in this list.
pub record Env : Type 0 where
  pub entries : List Entry
  pub objects : List Object

-- ---- The declaration that an identifier names (C11 6.2.1 p4)

-- this name of this name space is declared before the token, and its scope holds the token
abbrev pub is_visible : Bool → List ℕ → ℕ → Entry → Bool
is_visible tag name at e =
    (if is_tag e.declared.what then tag else not tag) && (bytes_eq e.declared.name name && (nat_le e.declared.from at && holds e.declared.scope at))

-- of two such declarations the one in the inner scope, or the later one of one scope
abbrev pub inner : Option Entry → Entry → Entry
inner None e = e
inner (Some best) e = if nat_le (begin_of best.declared.scope) (begin_of e.declared.scope) then e else best

abbrev pub visible_in : Bool → List ℕ → ℕ → Option Entry → List Entry → Option Entry
visible_in tag name at best [] = best
visible_in tag name at best (e ∷ es) = visible_in tag name at (if is_visible tag name at e then Some (inner best e) else best) es

-- the last declaration of the name before this token, in the innermost scope that has one
abbrev pub visible : Env → Bool → List ℕ → ℕ → Option Entry
visible env tag name at = visible_in tag name at None env.entries

abbrev pub entity_of_entry : Option Entry → Entity
entity_of_entry None = nothingOf
entity_of_entry (Some e) = e.entity

abbrev pub entity_of : Env → List ℕ → ℕ → Entity
entity_of env name at = entity_of_entry (visible env false name at)

-- the declaration whose name is this token
abbrev pub declared_at : Env → ℕ → Entity
declared_at env at = entity_of_entry (find (λ e. nat_eq e.declared.at at && not (is_tag e.declared.what)) env.entries)

-- the object that an identifier names
abbrev pub object_number : Entity → Option ℕ
object_number (anObjectOf number) = Some number
object_number _ = None

abbrev pub object_of : Env → List ℕ → ℕ → Option ℕ
object_of env name at = object_number (entity_of env name at)

abbrev pub object_type : Option Object → CType
object_type None = tNone
object_type (Some o) = elim (o.length) [ None ↦ tKind o.kind | Some n ↦ tArray o.kind n ]

abbrev pub entity_type : Env → Entity → CType
entity_type env (anObjectOf number) = object_type (slice_get env.objects number)
entity_type env (aFunctionOf result parameters) = tFunction result parameters
entity_type env (aConstantOf v) = tKind kind.Int
entity_type env (aNameOf k c) = tKind k
entity_type env _ = tNone

-- the elements of an object, a scalar being one
abbrev pub size_of_object : Option Object → ℕ
size_of_object None = 0
size_of_object (Some o) = elim (o.length) [ None ↦ 1 | Some n ↦ n ]

abbrev pub count_of : Env → ℕ → ℕ
count_of env number = size_of_object (slice_get env.objects number)

abbrev pub kind_of_object : Option Object → Kind
kind_of_object None = kind.Int
kind_of_object (Some o) = o.kind

abbrev pub is_const_object : Option Object → Bool
is_const_object None = false
is_const_object (Some o) = o.is_const

-- ---- Types of declarations (C11 6.7.2, 6.7.3)

abbrev pub constant_value : Entity → ℤ
constant_value (aConstantOf v) = v
constant_value _ = pos 0

-- some constant of an enumeration is negative
abbrev pub has_negative : Env → Ens → Bool
has_negative env no_enumerators = false
has_negative env (plain_and es c n at) = if int_lt (constant_value (declared_at env at)) (pos 0) then true else has_negative env es
has_negative env (valued_and es c n at a e) = if int_lt (constant_value (declared_at env at)) (pos 0) then true else has_negative env es

-- C11 6.7.2.2 p4 leaves the type of an enumeration open: it is `unsigned int` where no constant is negative, else `int`
abbrev pub enum_kind : Env → Ens → Kind
enum_kind env es = if has_negative env es then kind.Int else kind.UInt

abbrev pub named_kind : Entity → Option Kind
named_kind (aTypeOf k c) = Some k
named_kind (aTagOf k) = Some k
named_kind _ = None

-- the kind that a typedef name or an enumeration stands for
abbrev pub word_kind : Env → Word → Option Kind
word_kind env (wTypedef n at) = named_kind (entity_of env n at)
word_kind env (wTag at n b) = named_kind (entity_of_entry (visible env true n b))
word_kind env (wEnum at a es c b) = Some (enum_kind env es)
word_kind env (wTagEnum at n x a es c b) = Some (enum_kind env es)
word_kind env _ = None

abbrev pub or_kind : Option Kind → Option Kind → Option Kind
or_kind (Some k) other = Some k
or_kind None other = other

abbrev pub named_in : Env → Words → Option Kind
named_in env no_words = None
named_in env (words_and ws w) = or_kind (word_kind env w) (named_in env ws)

abbrev pub typing_with : Typing → Option Typing → Typing
typing_with t None = t
typing_with t (Some u) = u

abbrev pub word_typing : Word → Typing → Typing
word_typing (wType w at) t = typing_with t (type_with w t)
word_typing w t = t

-- what the type words say together, in any order
abbrev pub typing_of : Words → Typing
typing_of no_words = ty.Untyped
typing_of (words_and ws w) = word_typing w (typing_of ws)

abbrev pub typing_type : Typing → CType
typing_type ty.Void = tVoid
typing_type ty.Bool = tKind kind.Bool
typing_type (ty.Basic s z i) = tKind (words_kind s z)
typing_type _ = tNone

abbrev pub or_typing : Option Kind → Typing → CType
or_typing (Some k) t = tKind k
or_typing None t = typing_type t

abbrev pub words_type : Env → Words → CType
words_type env ws = or_typing (named_in env ws) (typing_of ws)

abbrev pub is_const_entity : Entity → Bool
is_const_entity (aTypeOf k c) = c
is_const_entity _ = false

abbrev pub has_const : Env → Words → Bool
has_const env no_words = false
has_const env (words_and ws (wConst w at)) = true
has_const env (words_and ws (wTypedef n at)) = if is_const_entity (entity_of env n at) then true else has_const env ws
has_const env (words_and ws w) = has_const env ws

abbrev pub kind_in : CType → Option Kind
kind_in (tKind k) = Some k
kind_in _ = None

abbrev pub kind_or_int : CType → Kind
kind_or_int (tKind k) = k
kind_or_int _ = kind.Int

abbrev pub params_kinds : Env → Params → List Kind
params_kinds env no_params = []
params_kinds env (params_and ps c ws n) = params_kinds env ps ++ kind_or_int (words_type env ws) ∷ []

-- `( )` declares no parameters, as `( void )` does
abbrev pub parameter_kinds : Env → Parameters → List Kind
parameter_kinds env (pSome a ps b) = params_kinds env ps
parameter_kinds env _ = []
