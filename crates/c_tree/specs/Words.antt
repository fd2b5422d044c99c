-- Which words of a declaration may stand together, in any order.
use Rattle.std.specs.Prelude.{Bool, true, false, ◌&&◌, ◌||◌, not, if◌then◌else◌, Option, Some, None}
use Rattle.std.specs.Option.{option_map, option_and_then}
use Rattle.c_tree.specs.declared.symbol.TypeWord.{TypeWord}
use Rattle.c_tree.specs.declared.symbol.TypeWord.TheVariants as type
use Rattle.c_tree.specs.declared.symbol.StorageWord.{StorageWord}
use Rattle.c_tree.specs.declared.symbol.StorageWord.TheVariants as word
use Rattle.c_tree.specs.declared.known.Signedness.TheVariants as sign
use Rattle.c_tree.specs.declared.known.Size.TheVariants as size
use Rattle.c_tree.specs.declared.known.Typing.{Typing}
use Rattle.c_tree.specs.declared.known.Typing.TheVariants as ty
use Rattle.c_tree.specs.declared.known.Storage.{Storage}
use Rattle.c_tree.specs.declared.known.Storage.TheVariants as storage
use Rattle.c_tree.specs.declared.known.Site.{Site}
use Rattle.c_tree.specs.declared.known.Site.TheVariants as site
use Rattle.c_tree.specs.declared.known.Known.{Known}
use Rattle.c_tree.specs.Tree.{Words, no_words, words_and, Word, wType, wStorage, wConst, wExtension, wAttribute, wTypedef, wTag, wEnum, wTagEnum}

-- `signed` stands with `char`, `short`, `int`, `long` and `long long`
abbrev pub with_signed : Typing → Option Typing
with_signed ty.Untyped = Some (ty.Basic sign.Signed size.Unstated false)
with_signed (ty.Basic sign.Unstated z i) = Some (ty.Basic sign.Signed z i)
with_signed _ = None

abbrev pub with_unsigned : Typing → Option Typing
with_unsigned ty.Untyped = Some (ty.Basic sign.Unsigned size.Unstated false)
with_unsigned (ty.Basic sign.Unstated z i) = Some (ty.Basic sign.Unsigned z i)
with_unsigned _ = None

-- `int` stands with `short`, `long`, `long long`, `signed` and `unsigned`
abbrev pub with_int : Typing → Option Typing
with_int ty.Untyped = Some (ty.Basic sign.Unstated size.Unstated true)
with_int (ty.Basic s size.Unstated false) = Some (ty.Basic s size.Unstated true)
with_int (ty.Basic s size.Short false) = Some (ty.Basic s size.Short true)
with_int (ty.Basic s size.Long false) = Some (ty.Basic s size.Long true)
with_int (ty.Basic s size.LongLong false) = Some (ty.Basic s size.LongLong true)
with_int _ = None

abbrev pub with_char : Typing → Option Typing
with_char ty.Untyped = Some (ty.Basic sign.Unstated size.Char false)
with_char (ty.Basic s size.Unstated false) = Some (ty.Basic s size.Char false)
with_char _ = None

abbrev pub with_short : Typing → Option Typing
with_short ty.Untyped = Some (ty.Basic sign.Unstated size.Short false)
with_short (ty.Basic s size.Unstated i) = Some (ty.Basic s size.Short i)
with_short _ = None

abbrev pub with_long : Typing → Option Typing
with_long ty.Untyped = Some (ty.Basic sign.Unstated size.Long false)
with_long (ty.Basic s size.Unstated i) = Some (ty.Basic s size.Long i)
with_long (ty.Basic s size.Long i) = Some (ty.Basic s size.LongLong i)
with_long _ = None

-- a type that stands alone
abbrev pub alone : Typing → Typing → Option Typing
alone whole ty.Untyped = Some whole
alone whole _ = None

-- C11 6.7.2, one more word
abbrev pub type_with : TypeWord → Typing → Option Typing
type_with type.Void k = alone ty.Void k
type_with type.Bool k = alone ty.Bool k
type_with type.Char k = with_char k
type_with type.Short k = with_short k
type_with type.Int k = with_int k
type_with type.Long k = with_long k
type_with type.Signed k = with_signed k
type_with type.SignedAlternate k = with_signed k
type_with type.Unsigned k = with_unsigned k

-- the one storage class, where none stands
abbrev pub only : Storage → Storage → Option Storage
only class storage.Unstated = Some class
only class _ = None

-- at file scope, C11 6.7.1 and 6.7.4
abbrev pub file_storage : StorageWord → Storage → Option Storage
file_storage word.Extern s = only storage.Other s
file_storage word.Static s = only storage.Other s
file_storage word.Typedef s = only storage.Typedef s
file_storage word.Inline s = Some s
file_storage word.InlineShort s = Some s
file_storage word.InlineLong s = Some s
file_storage word.Noreturn s = Some s
file_storage word.Auto s = None
file_storage word.Register s = None

-- in a block
abbrev pub block_storage : StorageWord → Storage → Option Storage
block_storage word.Typedef s = only storage.Typedef s
block_storage word.Auto s = only storage.Other s
block_storage word.Register s = only storage.Other s
block_storage _ s = None

abbrev pub storage_with : Site → StorageWord → Storage → Option Storage
storage_with site.File w s = file_storage w s
storage_with site.Block w s = block_storage w s
storage_with site.Cast w s = None
storage_with site.Bare w s = None

abbrev pub is_typedef : Storage → Bool
is_typedef storage.Typedef = true
is_typedef _ = false

abbrev pub is_void : Typing → Bool
is_void ty.Void = true
is_void _ = false

abbrev pub is_typed : Typing → Bool
is_typed ty.Untyped = false
is_typed _ = true

-- `void` is the type of functions, which stand at file scope, and of casts
abbrev pub may_be_void : Site → Bool
may_be_void site.File = true
may_be_void site.Cast = true
may_be_void _ = false

-- no typedef name is `void`
abbrev pub is_lawful : Site → Known → Bool
is_lawful s k = not (is_void k.typing && (is_typedef k.storage || not (may_be_void s)))

abbrev pub lawful : Site → Known → Option Known
lawful s k = if is_lawful s k then Some k else None

abbrev pub known_type : Known → Typing → Known
known_type k y = record { typing = y; storage = k.storage }

abbrev pub known_storage : Known → Storage → Known
known_storage k s = record { typing = k.typing; storage = s }

abbrev pub with_type : Site → TypeWord → Known → Option Known
with_type s w k = option_and_then (λ y. lawful s (known_type k y)) (type_with w k.typing)

abbrev pub with_storage : Site → StorageWord → Known → Option Known
with_storage s w k = option_and_then (λ c. lawful s (known_storage k c)) (storage_with s w k.storage)

-- a typedef name or an enumeration in the place of type words
abbrev pub with_named : Known → Option Known
with_named k = option_map (known_type k) (alone ty.Named k.typing)

abbrev pub with_word : Site → Word → Known → Option Known
with_word s (wType w at) k = with_type s w k
with_word s (wStorage w at) k = with_storage s w k
with_word s (wConst w at) k = Some k
with_word s (wExtension at) k = Some k
with_word s (wAttribute a) k = Some k
with_word s (wTypedef n at) k = with_named k
with_word s (wTag at n b) k = with_named k
with_word s (wEnum at a es c b) k = with_named k
with_word s (wTagEnum at n x a es c b) k = with_named k

abbrev pub nothing_known : Known
nothing_known = record { typing = ty.Untyped; storage = storage.Unstated }

-- what the words say, where they may stand together
abbrev pub known : Site → Words → Option Known
known s no_words = Some nothing_known
known s (words_and ws w) = option_and_then (with_word s w) (known s ws)
