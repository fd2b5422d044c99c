-- The words of declarations, of casts, of `sizeof` and of parameters.
use Rattle.std.specs.Prelude.{ℕ, List, Option, None, Some, not, if◌then◌else◌}
use Rattle.c_tree.specs.declared.symbol.AssignOp.TheVariants as to
use Rattle.c_tree.specs.declared.symbol.Bracket.TheVariants as br
use Rattle.c_tree.specs.declared.symbol.Symbol.{Symbol}
use Rattle.c_tree.specs.declared.symbol.Symbol.TheVariants as sy
use Rattle.c_tree.specs.declared.known.Site.{Site}
use Rattle.c_tree.specs.declared.known.Site.TheVariants as site
use Rattle.c_tree.specs.declared.known.Known.{Known}
use Rattle.c_tree.specs.Words.{with_type, with_storage, with_named, is_typed, is_void}
use Rattle.c_tree.specs.Shape.{has}
use Rattle.c_tree.specs.Tree.{eSizeof, Word, wType, wStorage, wConst, wExtension, wTypedef, wTag, no_enumerators, Params, pSome, fFunction}
use Rattle.parse_machine.specs.Tokens.{SpecKind, spType, spStorage, spConst, spExtension, spAttribute, spEnum, spTypedef, spOther, spec_of}
use Rattle.parse_machine.specs.Contexts.{Tall, Spoken, bCast, Place, Declared, EnumHead, headBare, headTagged, Inner, inBind, inConstant, Around, aroundCast, aroundSizeof, aroundParameter, aroundPlace, Listing, onWords, waitAttribute, Mode, Specifiers, Enumeration, Tagged, Constant, Named, Behind, Parameter, Wait, Operand, Value}
use Rattle.parse_machine.specs.Making.{above, tall, part, spoken, unspoken, said, tall_words, plain_more, listing, param_more, declaring, declared_plain, with_form, no_more}
use Rattle.parse_machine.specs.Expressions.{when, enumerated, ended}
use Rattle.parse_machine.specs.Heights.{site_of_place}

abbrev pub site_of : Around → Site
site_of (aroundCast a k) = site.Cast
site_of (aroundSizeof at a k) = site.Bare
site_of (aroundParameter d a ps c) = site.Bare
site_of (aroundPlace p) = site_of_place p

-- one word more, where it may stand with the others
abbrev pub with_word_said : Spoken → Around → Word → Option Known → Option Mode
with_word_said s w x None = None
with_word_said s w x (Some k) = Some (Specifiers (said s k x 0) w)

abbrev pub parameters_end : Declared → ℕ → Tall Params → ℕ → Mode
parameters_end d a ps at = Behind (with_form d (tall (fFunction (pSome a ps.value at)) (above ps.height)))

abbrev pub parameters_more : Declared → ℕ → Tall Params → ℕ → Mode
parameters_more d a ps at = Specifiers unspoken (aroundParameter d a ps (Some at))

abbrev pub behind_cast : Symbol → ℕ → Spoken → ℕ → Inner → Option Mode
behind_cast (sy.Close br.Round) at s a k = Some (Operand (inBind (bCast a (tall_words s) at) k))
behind_cast _ at s a k = None

abbrev pub behind_sizeof : Symbol → ℕ → Spoken → ℕ → ℕ → Inner → Option Mode
behind_sizeof (sy.Close br.Round) at s x a k = Some (Value (part 14 (above (above s.height)) (eSizeof x a s.words at)) k)
behind_sizeof _ at s x a k = None

abbrev pub behind_parameter : Symbol → ℕ → Spoken → Declared → ℕ → Tall Params → Option ℕ → Option Mode
behind_parameter (sy.Name n) at s d a ps c = Some (Parameter d a ps c s n at)
behind_parameter sy.Comma at s d a ps c = Some (parameters_more d a (param_more ps c s None) at)
behind_parameter (sy.Close br.Round) at s d a ps c = Some (parameters_end d a (param_more ps c s None) at)
behind_parameter _ at s d a ps c = None

abbrev pub behind_place : Symbol → ℕ → Spoken → Place → Option Mode
behind_place (sy.Name n) at s p = Some (Behind (declared_plain (declaring p s no_more) None n at))
behind_place sy.Semicolon at s p = when (not (is_void s.told.typing)) (ended (declaring p s no_more) at)
behind_place _ at s p = None

-- behind words that are whole
abbrev pub behind_words : Symbol → ℕ → Spoken → Around → Option Mode
behind_words t at s (aroundCast a k) = behind_cast t at s a k
behind_words t at s (aroundSizeof x a k) = behind_sizeof t at s x a k
behind_words t at s (aroundParameter d a ps c) = behind_parameter t at s d a ps c
behind_words t at s (aroundPlace p) = behind_place t at s p

abbrev pub enum_word : ℕ → Spoken → Around → Option Known → Option Mode
enum_word at s w None = None
enum_word at s w (Some k) = Some (Enumeration at (spoken s.words k s.height) w)

abbrev pub step_kind : SpecKind → Symbol → ℕ → Spoken → Around → Option Mode
step_kind (spType x) t at s w = with_word_said s w (wType x at) (with_type (site_of w) x s.told)
step_kind (spStorage x) t at s w = with_word_said s w (wStorage x at) (with_storage (site_of w) x s.told)
step_kind (spConst x) t at s w = with_word_said s w (wConst x at) (Some s.told)
step_kind spExtension t at s w = with_word_said s w (wExtension at) (Some s.told)
step_kind (spAttribute x) t at s w = Some (Wait (waitAttribute x at (onWords s w)))
step_kind spEnum t at s w = enum_word at s w (with_named s.told)
step_kind (spTypedef n) t at s w = with_word_said s w (wTypedef n at) (with_named s.told)
step_kind spOther t at s w = if is_typed s.told.typing then behind_words t at s w else None

abbrev pub step_specs : List (List ℕ) → Symbol → ℕ → Spoken → Around → Option Mode
step_specs names t at s w = step_kind (spec_of names t) t at s w

-- Enumerations.

abbrev pub list_start : Spoken → Around → EnumHead → Mode
list_start s w h = Constant (listing w s h (tall no_enumerators 0) None)

abbrev pub step_enumeration : List (List ℕ) → Symbol → ℕ → ℕ → Spoken → Around → Option Mode
step_enumeration names (sy.Name n) at x s w = when (not (has names n)) (Tagged x n at s w)
step_enumeration names (sy.Open br.Curly) at x s w = Some (list_start s w (headBare x at))
step_enumeration names _ at x s w = None

abbrev pub step_tagged : List (List ℕ) → Symbol → ℕ → ℕ → List ℕ → ℕ → Spoken → Around → Option Mode
step_tagged names (sy.Open br.Curly) at x n y s w = Some (list_start s w (headTagged x n y at))
step_tagged names t at x n y s w = step_specs names t at (said s s.told (wTag x n y) 1) w

-- the end of the list, behind a comma
abbrev pub list_end : ℕ → Listing → Option ℕ → Option Mode
list_end at l None = None
list_end at l (Some c) = Some (enumerated l l.before (Some c) at)

abbrev pub step_constant : List (List ℕ) → Symbol → ℕ → Listing → Option Mode
step_constant names (sy.Name n) at l = when (not (has names n)) (Named l n at)
step_constant names (sy.Close br.Curly) at l = list_end at l l.comma
step_constant names _ at l = None

abbrev pub step_named : Symbol → ℕ → Listing → List ℕ → ℕ → Option Mode
step_named (sy.Assign to.Plain) at l n x = Some (Operand (inConstant l.around l.spoken l.head l.before l.comma n x at))
step_named sy.Comma at l n x = Some (Constant (listing l.around l.spoken l.head (plain_more l n x) (Some at)))
step_named (sy.Close br.Curly) at l n x = Some (enumerated l (plain_more l n x) None at)
step_named _ at l n x = None
