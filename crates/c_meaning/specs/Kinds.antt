-- The types of expressions and constants (C11 6.2.5, 6.3.1, 6.4.4, 6.7.2).
use Rattle.std.specs.Prelude.{ℕ, zero, suc, ◌*◌, ◌/◌, nat_eq, nat_le, nat_lt, Bool, true, false, if◌then◌else◌, List, [], ◌∷◌, Option, Some, None, ℤ, pos}
use Rattle.lv_base.specs.declared.kind.Kind.{Kind}
use Rattle.lv_base.specs.declared.kind.Kind.TheVariants as kind
use Rattle.lv_base.specs.declared.kind.Model.{Model}
use Rattle.lv_base.specs.Integers.{width_of, is_signed, is_promoted, is_in_range, converted}
use Rattle.c_lexer.specs.declared.token.NumberForm.{NumberForm}
use Rattle.c_tree.specs.declared.symbol.BinaryOp.{BinaryOp}
use Rattle.c_tree.specs.declared.symbol.BinaryOp.TheVariants as op
use Rattle.c_tree.specs.declared.known.Signedness.{Signedness}
use Rattle.c_tree.specs.declared.known.Signedness.TheVariants as sign
use Rattle.c_tree.specs.declared.known.Size.{Size}
use Rattle.c_tree.specs.declared.known.Size.TheVariants as size

-- the type of an expression: `tNone` where the rules give it none
pub data CType : Type 0 where
  tKind : (kind : Kind) → CType
  tVoid : CType
  tArray : (kind : Kind) (length : ℕ) → CType
  tFunction : (result : Option Kind) (parameters : List Kind) → CType
  tNone : CType

-- ---- Ranks (C11 6.3.1.1)

abbrev pub rank : Kind → ℕ
rank kind.Bool = 0
rank kind.Char = 1
rank kind.UChar = 1
rank kind.Short = 2
rank kind.UShort = 2
rank kind.Int = 3
rank kind.UInt = 3
rank kind.Long = 4
rank kind.ULong = 4
rank kind.LongLong = 5
rank kind.ULongLong = 5

-- all values of a kind below `int` are values of `int`
abbrev pub promoted : Kind → Kind
promoted k = if is_promoted k then k else kind.Int

-- the unsigned kind of the same rank
abbrev pub unsigned_of : Kind → Kind
unsigned_of kind.Char = kind.UChar
unsigned_of kind.Short = kind.UShort
unsigned_of kind.Int = kind.UInt
unsigned_of kind.Long = kind.ULong
unsigned_of kind.LongLong = kind.ULongLong
unsigned_of k = k

-- ---- The usual arithmetic conversions (C11 6.3.1.8)

abbrev pub greater : Kind → Kind → Kind
greater k l = if nat_le (rank l) (rank k) then k else l

-- an unsigned and a signed kind, both promoted
abbrev pub mixed : Model → Kind → Kind → Kind
mixed model unsigned signed =
    if nat_le (rank signed) (rank unsigned) then unsigned else
    if nat_lt (width_of unsigned model) (width_of signed model) then signed else
    unsigned_of signed

abbrev pub common_promoted : Model → Bool → Bool → Kind → Kind → Kind
common_promoted model true true k l = greater k l
common_promoted model false false k l = greater k l
common_promoted model false true k l = mixed model k l
common_promoted model true false k l = mixed model l k

abbrev pub common : Model → Kind → Kind → Kind
common model k l = common_promoted model (is_signed (promoted k)) (is_signed (promoted l)) (promoted k) (promoted l)

-- ---- Operators (C11 6.5.5 to 6.5.14)

-- `<<` and `>>` promote each operand by itself, and the left one is the kind of the result (C11 6.5.7 p3)
abbrev pub is_shift : BinaryOp → Bool
is_shift op.ShiftLeft = true
is_shift op.ShiftRight = true
is_shift _ = false

-- the operators whose result is an `int` of 0 or 1
abbrev pub is_truth : BinaryOp → Bool
is_truth op.OrElse = true
is_truth op.AndAlso = true
is_truth op.Equal = true
is_truth op.NotEqual = true
is_truth op.Less = true
is_truth op.Greater = true
is_truth op.LessEqual = true
is_truth op.GreaterEqual = true
is_truth _ = false

-- the kind in which an operation is computed
abbrev pub operation_kind : Model → BinaryOp → Kind → Kind → Kind
operation_kind model o k l = if is_shift o then promoted k else common model k l

-- the kind to which the right operand is converted
abbrev pub right_kind : Model → BinaryOp → Kind → Kind → Kind
right_kind model o k l = if is_shift o then promoted l else common model k l

abbrev pub result_kind : Model → BinaryOp → Kind → Kind → Kind
result_kind model o k l = if is_truth o then kind.Int else operation_kind model o k l

-- ---- Constants (C11 6.4.4.1 p5)

abbrev pub first_holding : Model → ℕ → List Kind → Kind → Kind
first_holding model value [] last = last
first_holding model value (k ∷ ks) last = if is_in_range k model (pos value) then k else first_holding model value ks last

-- the kinds of at least `int`, `long` and `long long`, for no `l`, `l` and `ll`; the last of each list holds each value that
-- a constant of its form may have
abbrev pub number_kind_of : Model → ℕ → (decimal unsigned : Bool) → ℕ → Kind
number_kind_of model v decimal true zero = first_holding model v (kind.UInt ∷ kind.ULong ∷ []) kind.ULongLong
number_kind_of model v decimal true (suc zero) = first_holding model v (kind.ULong ∷ []) kind.ULongLong
number_kind_of model v decimal true _ = kind.ULongLong
number_kind_of model v true false zero = first_holding model v (kind.Int ∷ kind.Long ∷ []) kind.LongLong
number_kind_of model v true false (suc zero) = first_holding model v (kind.Long ∷ []) kind.LongLong
number_kind_of model v true false _ = kind.LongLong
number_kind_of model v false false zero = first_holding model v (kind.Int ∷ kind.UInt ∷ kind.Long ∷ kind.ULong ∷ kind.LongLong ∷ []) kind.ULongLong
number_kind_of model v false false (suc zero) = first_holding model v (kind.Long ∷ kind.ULong ∷ kind.LongLong ∷ []) kind.ULongLong
number_kind_of model v false false _ = first_holding model v (kind.LongLong ∷ []) kind.ULongLong

abbrev pub number_kind : Model → ℕ → NumberForm → Kind
number_kind model v form = number_kind_of model v form.decimal form.unsigned_suffix form.longs

-- ---- Sizes (C11 6.5.3.4)

-- in bytes; `_Bool` has one
abbrev pub bytes_of : Kind → Model → ℕ
bytes_of kind.Bool model = 1
bytes_of k model = width_of k model / 8

-- what `sizeof` gives is `unsigned int` where `long` has 32 bits, and `unsigned long` where it has 64
abbrev pub size_kind : Model → Kind
size_kind model = if nat_eq (width_of kind.Long model) 32 then kind.UInt else kind.ULong

-- void and functions have no size, and no value of them is taken
abbrev pub size_of : Model → CType → ℕ
size_of model (tKind k) = bytes_of k model
size_of model (tArray k n) = n * bytes_of k model
size_of model _ = 0

-- ---- Type words (C11 6.7.2); plain `char` is signed

abbrev pub with_sign : Signedness → (signed unsigned : Kind) → Kind
with_sign sign.Unsigned s u = u
with_sign _ s u = s

abbrev pub words_kind : Signedness → Size → Kind
words_kind s size.Unstated = with_sign s kind.Int kind.UInt
words_kind s size.Char = with_sign s kind.Char kind.UChar
words_kind s size.Short = with_sign s kind.Short kind.UShort
words_kind s size.Long = with_sign s kind.Long kind.ULong
words_kind s size.LongLong = with_sign s kind.LongLong kind.ULongLong

-- ---- Values that change their type

-- the kind of a type that has values; the rules refuse the use of any other as a value
abbrev pub kind_of : CType → Kind
kind_of (tKind k) = k
kind_of (tArray k n) = k
kind_of _ = kind.Int

abbrev pub is_kind : CType → Bool
is_kind (tKind k) = true
is_kind _ = false

abbrev pub is_array : CType → Bool
is_array (tArray k n) = true
is_array _ = false

abbrev pub is_void : CType → Bool
is_void tVoid = true
is_void _ = false

-- a value as one of this type; void drops it
abbrev pub as_type : Model → CType → ℤ → ℤ
as_type model (tKind k) v = converted k model v
as_type model _ v = pos 0

abbrev pub result_type : Option Kind → CType
result_type None = tVoid
result_type (Some k) = tKind k
