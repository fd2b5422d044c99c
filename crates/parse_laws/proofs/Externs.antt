-- An item that begins with `extern` declares no typedef name: before its first `;`, `=` or `{` the names stay.
use Rattle.std.proofs.Common.{◌≡◌, ℕ, List, [], ◌∷◌, Option, None, Some, Bool, true, false, ◌&&◌, not, if◌then◌else◌, leb, refl, subst, sym, ap, ◌∙◌}
use Rattle.c_tree.specs.declared.symbol.AssignOp.TheVariants as to
use Rattle.c_tree.specs.declared.symbol.Bracket.TheVariants as br
use Rattle.c_tree.specs.declared.symbol.TypeWord.TheVariants as type
use Rattle.c_tree.specs.declared.symbol.StorageWord.TheVariants as storage
use Rattle.c_tree.specs.declared.symbol.AttributeWord.{AttributeWord}
use Rattle.c_tree.specs.declared.symbol.Symbol.{Symbol}
use Rattle.c_tree.specs.declared.symbol.Symbol.TheVariants as sy
use Rattle.c_tree.specs.declared.symbol.SymbolAt.{SymbolAt}
use Rattle.c_tree.specs.declared.tree.PrefixOp.TheVariants as pre
use Rattle.c_tree.specs.declared.known.Site.{Site}
use Rattle.c_tree.specs.declared.known.Site.TheVariants as site
use Rattle.c_tree.specs.declared.known.Known.{Known}
use Rattle.c_tree.specs.Spelling.{level}
use Rattle.c_tree.specs.Shape as sh
use Rattle.c_tree.specs.Words.{known, with_word, with_type, with_storage, with_named, is_typed, is_typedef, is_void, nothing_known}
use Rattle.c_tree.specs.Tree.{Raw, At, attribute, no_parts, Word, wType, wStorage, wConst, wExtension, wTypedef, wTag, Params, no_params, iNothing}
use Rattle.parse_machine.specs.Tokens.{Prefix, prefix_of, Suffix, suffix_of, spec_of, SpecKind, spTypedef, spOther, start_of, is_else, Skip, skipOn, skipClose, skipEnd, skip_of, is_awaited}
use Rattle.parse_machine.specs.Contexts.{Tall, Part, Spoken, Bind, bPrefix, bComma, Opened, oParen, oIndex, oArgument, oThen, Place, placeFile, Declaring, Declared, Base, baseStatement, baseTest, baseDo, baseCase, baseStep, baseLength, baseInitial, basePart, Inner, inBase, inBind, inOpen, inConstant, Around, aroundCast, aroundSizeof, aroundParameter, aroundPlace, Listing, Attributed, onWords, onDeclared, onLabel, Fork, forkCast, forkSizeof, forkBlock, forkFor, Waiting, waitTest, waitWhile, waitDo, waitDone, waitFor, waitDefault, waitGoto, waitBreak, waitContinue, waitVoid, waitList, waitAttribute, Mode, File, Ended, Specifiers, Enumeration, Tagged, Constant, Named, Attribute, Next, Behind, Listed, Parameters', Parameter, Skipped, Begin, Wait, Either, Goto, Operand, Maybe, Sizeof, Value, Label, Whole, Finished}
use Rattle.parse_machine.specs.Making as mk
use Rattle.parse_machine.specs.Making.{above, tall, part, bound, bind_level}
use Rattle.parse_machine.specs.Heights.{least}
use Rattle.parse_machine.specs.Expressions as ex
use Rattle.parse_machine.specs.Declarations as decl
use Rattle.parse_machine.specs.Specifiers as sp
use Rattle.parse_machine.specs.Declarations.{Turn, turn, kept}
use Rattle.parse_machine.specs.Statements as stt
use Rattle.parse_machine.specs.Tokens.{Awaited, awaitOpen, awaitClose, awaitSemicolon, awaitColon, awaitWhile}
use Rattle.parse_machine.specs.Steps as steps
use Rattle.std.proofs.Common.{◌⊎◌, inl, inr}
use Rattle.std.specs.Option.{option_map, option_and_then}
use Rattle.c_tree.specs.declared.known.Storage.{Storage}
use Rattle.c_tree.specs.declared.known.Storage.TheVariants as sto
use Rattle.c_tree.specs.declared.known.Typing.{Typing}
use Rattle.c_tree.specs.declared.known.Typing.TheVariants as ty
use Rattle.c_tree.specs.declared.symbol.StorageWord.{StorageWord}
use Rattle.c_tree.specs.Words as wd
use Rattle.parse_machine.specs.Tokens as tok

abbrev pub OutDeclaring : Declaring → Type 0
OutDeclaring d = d.spoken.told.storage ≡ sto.Other

abbrev OutBase : Base → Type 0
OutBase (baseLength d a) = OutDeclaring d.around
OutBase (baseInitial d at) = OutDeclaring d.around
OutBase (basePart d at a es c) = OutDeclaring d.around
OutBase _ = ⊥

-- the words of the item have a storage class that is no `typedef`
abbrev mutual
  OutInner : Inner → Type 0
  OutInner (inBase x) = OutBase x
  OutInner (inBind x k) = OutInner k
  OutInner (inOpen x k) = OutInner k
  OutInner (inConstant w s h es c n at a) = OutAround s.told w

  OutAround : Known → Around → Type 0
  OutAround k (aroundCast a i) = OutInner i
  OutAround k (aroundSizeof at a i) = OutInner i
  OutAround k (aroundParameter d a ps c) = OutDeclaring d.around
  OutAround k (aroundPlace p) = k.storage ≡ sto.Other

abbrev OutAttributed : Attributed → Type 0
OutAttributed (onWords s w) = OutAround s.told w
OutAttributed (onDeclared d) = OutDeclaring d.around
OutAttributed (onLabel n at c ats o) = ⊥

abbrev OutFork : Fork → Type 0
OutFork (forkCast a k) = OutInner k
OutFork (forkSizeof at a k) = OutInner k
OutFork _ = ⊥

abbrev OutWaiting : Waiting → Type 0
OutWaiting (waitVoid d a at) = OutDeclaring d.around
OutWaiting (waitList d at) = OutDeclaring d.around
OutWaiting (waitAttribute w at x) = OutAttributed x
OutWaiting _ = ⊥

abbrev pub Out : Mode → Type 0
Out (Specifiers s w) = OutAround s.told w
Out (Enumeration at s w) = OutAround s.told w
Out (Tagged at n x s w) = OutAround s.told w
Out (Constant l) = OutAround l.spoken.told l.around
Out (Named l n at) = OutAround l.spoken.told l.around
Out (Attribute w at a t n x) = OutAttributed x
Out (Next d at) = OutDeclaring d
Out (Behind d) = OutDeclaring d.around
Out (Listed d) = OutDeclaring d
Out (Parameters' d a) = OutDeclaring d.around
Out (Parameter d a ps c s n at) = OutDeclaring d.around
Out (Wait x) = OutWaiting x
Out (Either f ats) = OutFork f
Out (Operand k) = OutInner k
Out (Maybe k) = OutInner k
Out (Sizeof at k) = OutInner k
Out (Value e k) = OutInner k
Out _ = ⊥

abbrev OutMode : Option Mode → Type 0
OutMode None = Unit {0}
OutMode (Some m) = Out m

abbrev pub OutTurn : List (List ℕ) → Option Turn → Type 0
OutTurn names None = Unit {0}
OutTurn names (Some u) = (u.names ≡ names) × Out u.mode

kept_out : (names : List (List ℕ)) (o : Option Mode) → OutMode o → OutTurn names (kept names o)
kept_out names None g = tt
kept_out names (Some m) g = (refl, g)

when_out : (c : Bool) (m : Mode) → Out m → OutMode (ex.when c m)
when_out true m g = g
when_out false m g = tt

if_out : (c : Bool) (o : Option Mode) → OutMode o → OutMode (if c then o else None)
if_out true o g = g
if_out false o g = tt

-- Words.

some_known : (a c : Known) → Some a ≡ Some c → a ≡ c
some_known a c h = cc

lawful_keeps : (c : Bool) (k n : Known) → (if c then Some k else None) ≡ Some n → n.storage ≡ k.storage
lawful_keeps true k n h = ap (λ x. x.storage) (sym (some_known k n h))
lawful_keeps false k n h = cc

type_keeps : (s : Site) (k n : Known) (o : Option Typing) → option_and_then (λ y. wd.lawful s (wd.known_type k y)) o ≡ Some n → n.storage ≡ k.storage
type_keeps s k n None h = cc
type_keeps s k n (Some y) h = lawful_keeps (wd.is_lawful s (wd.known_type k y)) (wd.known_type k y) n h

named_keeps : (k n : Known) (o : Option Typing) → option_map (wd.known_type k) o ≡ Some n → n.storage ≡ k.storage
named_keeps k n None h = cc
named_keeps k n (Some y) h = ap (λ x. x.storage) (sym (some_known (wd.known_type k y) n h))

storage_other : (s : Site) (x : StorageWord) → (wd.storage_with s x sto.Other ≡ None) ⊎ (wd.storage_with s x sto.Other ≡ Some sto.Other)
storage_other site.File storage.Auto = inl refl
storage_other site.File storage.Extern = inl refl
storage_other site.File storage.Register = inl refl
storage_other site.File storage.Static = inl refl
storage_other site.File storage.Typedef = inl refl
storage_other site.File storage.Inline = inr refl
storage_other site.File storage.InlineShort = inr refl
storage_other site.File storage.InlineLong = inr refl
storage_other site.File storage.Noreturn = inr refl
storage_other site.Block storage.Auto = inl refl
storage_other site.Block storage.Extern = inl refl
storage_other site.Block storage.Register = inl refl
storage_other site.Block storage.Static = inl refl
storage_other site.Block storage.Typedef = inl refl
storage_other site.Block storage.Inline = inl refl
storage_other site.Block storage.InlineShort = inl refl
storage_other site.Block storage.InlineLong = inl refl
storage_other site.Block storage.Noreturn = inl refl
storage_other site.Cast x = inl refl
storage_other site.Bare x = inl refl

storage_then : (s : Site) (k n : Known) (o : Option Storage) → (o ≡ None) ⊎ (o ≡ Some sto.Other) → option_and_then (λ c. wd.lawful s (wd.known_storage k c)) o ≡ Some n → n.storage ≡ sto.Other
storage_then s k n None e h = cc
storage_then s k n (Some c) (inl e) h = cc
storage_then s k n (Some c) (inr e) h = lawful_keeps (wd.is_lawful s (wd.known_storage k c)) (wd.known_storage k c) n h ∙ same_storage c sto.Other e
  where
    same_storage : (a c : Storage) → Some a ≡ Some c → a ≡ c
    same_storage a c h = cc

storage_keeps : (s : Site) (x : StorageWord) (k n : Known) → with_storage s x k ≡ Some n → k.storage ≡ sto.Other → n.storage ≡ sto.Other
storage_keeps s x k n h e = storage_then s k n (wd.storage_with s x k.storage) (subst (λ c. (wd.storage_with s x c ≡ None) ⊎ (wd.storage_with s x c ≡ Some sto.Other)) (sym e) (storage_other s x)) h

-- `extern`, where no storage class stands
pub extern_stores : (k n : Known) → with_storage site.File storage.Extern k ≡ Some n → k.storage ≡ sto.Unstated → n.storage ≡ sto.Other
extern_stores k n h e = storage_then site.File k n (wd.storage_with site.File storage.Extern k.storage) (inr (ap (wd.storage_with site.File storage.Extern) e)) h

keep : (k n : Known) → (k.storage ≡ sto.Other → n.storage ≡ sto.Other) → (w : Around) → OutAround k w → OutAround n w
keep k n h (aroundCast a i) g = g
keep k n h (aroundSizeof at a i) g = g
keep k n h (aroundParameter d a ps c) g = g
keep k n h (aroundPlace p) g = h g

word_out : (s : Spoken) (w : Around) (x : Word) (o : Option Known) → ((n : Known) → o ≡ Some n → s.told.storage ≡ sto.Other → n.storage ≡ sto.Other) → OutAround s.told w → OutMode (sp.with_word_said s w x o)
word_out s w x None h g = tt
word_out s w x (Some n) h g = keep s.told n (h n refl) w g

enum_out : (at : ℕ) (s : Spoken) (w : Around) (o : Option Known) → ((n : Known) → o ≡ Some n → s.told.storage ≡ sto.Other → n.storage ≡ sto.Other) → OutAround s.told w → OutMode (sp.enum_word at s w o)
enum_out at s w None h g = tt
enum_out at s w (Some n) h g = keep s.told n (h n refl) w g

cast_out : (t : Symbol) (at : ℕ) (s : Spoken) (a : ℕ) (k : Inner) → OutInner k → OutMode (sp.behind_cast t at s a k)
cast_out (sy.Close br.Round) at s a k g = g
cast_out _ at s a k g = tt

sizeof_out : (t : Symbol) (at : ℕ) (s : Spoken) (x a : ℕ) (k : Inner) → OutInner k → OutMode (sp.behind_sizeof t at s x a k)
sizeof_out (sy.Close br.Round) at s x a k g = g
sizeof_out _ at s x a k g = tt

parameter_out : (t : Symbol) (at : ℕ) (s : Spoken) (d : Declared) (a : ℕ) (ps : Tall Params) (c : Option ℕ) → OutDeclaring d.around → OutMode (sp.behind_parameter t at s d a ps c)
parameter_out (sy.Name n) at s d a ps c g = g
parameter_out sy.Comma at s d a ps c g = g
parameter_out (sy.Close br.Round) at s d a ps c g = g
parameter_out _ at s d a ps c g = tt

place_out : (t : Symbol) (at : ℕ) (s : Spoken) (p : Place) → s.told.storage ≡ sto.Other → sh.is_stop t ≡ false → OutMode (sp.behind_place t at s p)
place_out (sy.Name n) at s p g h = g
place_out sy.Semicolon at s p g h = cc
place_out _ at s p g h = tt

behind_out : (t : Symbol) (at : ℕ) (s : Spoken) (w : Around) → OutAround s.told w → sh.is_stop t ≡ false → OutMode (sp.behind_words t at s w)
behind_out t at s (aroundCast a k) g h = cast_out t at s a k g
behind_out t at s (aroundSizeof x a k) g h = sizeof_out t at s x a k g
behind_out t at s (aroundParameter d a ps c) g h = parameter_out t at s d a ps c g
behind_out t at s (aroundPlace p) g h = place_out t at s p g h

name_out : (n : List ℕ) (at : ℕ) (s : Spoken) (w : Around) (c : Bool) → OutAround s.told w → OutMode (sp.step_kind (if c then spTypedef n else spOther) (sy.Name n) at s w)
name_out n at s w true g = word_out s w (wTypedef n at) (with_named s.told) (λ m e f. named_keeps s.told m (wd.alone ty.Named s.told.typing) e ∙ f) g
name_out n at s w false g = if_out (is_typed s.told.typing) _ (behind_out (sy.Name n) at s w g refl)

specs_out : (names : List (List ℕ)) (t : Symbol) (at : ℕ) (s : Spoken) (w : Around) → OutAround s.told w → sh.is_stop t ≡ false → OutMode (sp.step_specs names t at s w)
specs_out names (sy.Type x) at s w g h = word_out s w (wType x at) (with_type (sp.site_of w) x s.told) (λ m e f. type_keeps (sp.site_of w) s.told m (wd.type_with x s.told.typing) e ∙ f) g
specs_out names (sy.Storage x) at s w g h = word_out s w (wStorage x at) (with_storage (sp.site_of w) x s.told) (λ m e f. storage_keeps (sp.site_of w) x s.told m e f) g
specs_out names (sy.Const x) at s w g h = word_out s w (wConst x at) (Some s.told) (λ m e f. ap (λ k. k.storage) (sym (some_known s.told m e)) ∙ f) g
specs_out names sy.Extension at s w g h = word_out s w (wExtension at) (Some s.told) (λ m e f. ap (λ k. k.storage) (sym (some_known s.told m e)) ∙ f) g
specs_out names (sy.Attribute x) at s w g h = g
specs_out names sy.Enum at s w g h = enum_out at s w (with_named s.told) (λ m e f. named_keeps s.told m (wd.alone ty.Named s.told.typing) e ∙ f) g
specs_out names (sy.Name n) at s w g h = name_out n at s w (sh.has names n) g
specs_out names t at s w g h = if_out (is_typed s.told.typing) _ (behind_out t at s w g h)

enumeration_out : (names : List (List ℕ)) (t : Symbol) (at x : ℕ) (s : Spoken) (w : Around) → OutAround s.told w → sh.is_stop t ≡ false → OutMode (sp.step_enumeration names t at x s w)
enumeration_out names (sy.Name n) at x s w g h = when_out (not (sh.has names n)) _ g
enumeration_out names (sy.Open br.Curly) at x s w g h = cc
enumeration_out names _ at x s w g h = tt

tagged_out : (names : List (List ℕ)) (t : Symbol) (at x : ℕ) (n : List ℕ) (y : ℕ) (s : Spoken) (w : Around) → OutAround s.told w → sh.is_stop t ≡ false → OutMode (sp.step_tagged names t at x n y s w)
tagged_out names (sy.Open br.Curly) at x n y s w g h = cc
tagged_out names t at x n y s w g h = specs_out names t at (mk.said s s.told (wTag x n y) 1) w g h

constant_out : (names : List (List ℕ)) (t : Symbol) (at : ℕ) (l : Listing) → OutAround l.spoken.told l.around → sh.is_stop t ≡ false → OutMode (sp.step_constant names t at l)
constant_out names (sy.Name n) at l g h = when_out (not (sh.has names n)) _ g
constant_out names (sy.Close br.Curly) at l g h = cc
constant_out names _ at l g h = tt

named_out : (t : Symbol) (at : ℕ) (l : Listing) (n : List ℕ) (x : ℕ) → OutAround l.spoken.told l.around → sh.is_stop t ≡ false → OutMode (sp.step_named t at l n x)
named_out (sy.Assign to.Plain) at l n x g h = cc
named_out sy.Comma at l n x g h = g
named_out (sy.Close br.Curly) at l n x g h = cc
named_out _ at l n x g h = tt

-- Expressions.

open_out : (c : Bool) (at : ℕ) (k : Inner) → OutInner k → Out (if c then Either (forkCast at k) [] else Operand (inOpen (oParen at) k))
open_out true at k g = g
open_out false at k g = g

operand_out : (names : List (List ℕ)) (q : Prefix) (at : ℕ) (k : Inner) → OutInner k → OutMode (ex.step_operand names q at k)
operand_out names (tok.preName n) at k g = when_out (not (sh.has names n)) _ g
operand_out names (tok.preNumber v f) at k g = g
operand_out names (tok.preLetter v) at k g = g
operand_out names tok.preOpen at k g = open_out (leb (least k) 13) at k g
operand_out names tok.preSizeof at k g = g
operand_out names (tok.preOperator o) at k g = g
operand_out names tok.preOther at k g = tt

step_sizeof_out : (names : List (List ℕ)) (q : Prefix) (at x : ℕ) (k : Inner) → OutInner k → OutMode (ex.step_sizeof names q at x k)
step_sizeof_out names tok.preOpen at x k g = g
step_sizeof_out names (tok.preName n) at x k g = operand_out names (tok.preName n) at (inBind (bPrefix pre.Sizeof x) k) g
step_sizeof_out names (tok.preNumber v f) at x k g = g
step_sizeof_out names (tok.preLetter v) at x k g = g
step_sizeof_out names tok.preSizeof at x k g = g
step_sizeof_out names (tok.preOperator o) at x k g = g
step_sizeof_out names tok.preOther at x k g = tt

pick_out : (c : Bool) (x y : ex.Held) → OutInner x.around → OutInner y.around → OutInner (if c then x else y).around
pick_out true x y g h = g
pick_out false x y g h = h

fold_out : (k : Inner) (n : ℕ) (e : Part) → OutInner k → OutInner (ex.fold k n e).around
fold_out (inBind x k) n e g = pick_out (leb n (bind_level x)) _ _ (fold_out k n (bound x e) g) g
fold_out (inBase x) n e g = g
fold_out (inOpen x k) n e g = g
fold_out (inConstant w s y es c z at a) n e g = g

sequence_out : (at : ℕ) (e : Part) (k : Inner) → OutInner k → OutMode (ex.sequence at e k)
sequence_out at e k g = when_out (leb (least k) 0 && leb 1 e.level) (Operand (inBind (bComma (mk.one_more (tall no_parts 0) None e) at) k)) g

comma_base_out : (at : ℕ) (e : Part) (x : Base) → OutBase x → OutMode (ex.comma_base at e x)
comma_base_out at e (baseInitial d y) g = when_out (leb 1 e.level) _ g
comma_base_out at e (basePart d y a es c) g = when_out (leb 1 e.level) _ g
comma_base_out at e x g = sequence_out at e (inBase x) g

comma_open_out : (at : ℕ) (e : Part) (x : Opened) (k : Inner) → OutInner k → OutMode (ex.comma_open at e x k)
comma_open_out at e (oArgument f a es c) k g = when_out (leb 1 e.level) _ g
comma_open_out at e x k g = sequence_out at e (inOpen x k) g

comma_bind_out : (at : ℕ) (e : Part) (x : Bind) (k : Inner) → OutInner k → OutMode (ex.comma_bind at e x k)
comma_bind_out at e (bComma es c) k g = when_out (leb 1 e.level) _ g
comma_bind_out at e _ k g = tt

comma_out : (at : ℕ) (e : Part) (k : Inner) → OutInner k → OutMode (ex.comma at e k)
comma_out at e (inBase x) g = comma_base_out at e x g
comma_out at e (inBind x k) g = comma_bind_out at e x k g
comma_out at e (inOpen x k) g = comma_open_out at e x k g
comma_out at e (inConstant w s y es c n x a) g = when_out (leb 2 e.level) _ g

colon_base_out : (at : ℕ) (e : Part) (x : Base) → OutBase x → OutMode (ex.colon_base at e x)
colon_base_out at e (baseCase y o) g = absurd g
colon_base_out at e (baseStatement o) g = absurd g
colon_base_out at e _ g = tt

colon_open_out : (at : ℕ) (e : Part) (x : Opened) (k : Inner) → OutInner k → OutMode (ex.colon_open at e x k)
colon_open_out at e (oThen c y) k g = g
colon_open_out at e _ k g = tt

colon_out : (at : ℕ) (e : Part) (k : Inner) → OutInner k → OutMode (ex.colon at e k)
colon_out at e (inBase x) g = colon_base_out at e x g
colon_out at e (inOpen x k) g = colon_open_out at e x k g
colon_out at e _ g = tt

close_round_open_out : (at : ℕ) (e : Part) (x : Opened) (k : Inner) → OutInner k → OutMode (ex.close_round_open at e x k)
close_round_open_out at e (oParen a) k g = g
close_round_open_out at e (oArgument f a es c) k g = when_out (leb 1 e.level) _ g
close_round_open_out at e _ k g = tt

close_round_base_out : (at : ℕ) (e : Part) (x : Base) → OutBase x → OutMode (ex.close_round_base at e x)
close_round_base_out at e (baseTest t x a o) g = absurd g
close_round_base_out at e (baseDo x s y a o) g = absurd g
close_round_base_out at e (baseStep m x a st q y o) g = absurd g
close_round_base_out at e _ g = tt

close_round_out : (at : ℕ) (e : Part) (k : Inner) → OutInner k → OutMode (ex.close_round at e k)
close_round_out at e (inOpen x k) g = close_round_open_out at e x k g
close_round_out at e (inBase x) g = close_round_base_out at e x g
close_round_out at e _ g = tt

close_square_open_out : (at : ℕ) (e : Part) (x : Opened) (k : Inner) → OutInner k → OutMode (ex.close_square_open at e x k)
close_square_open_out at e (oIndex f x) k g = g
close_square_open_out at e _ k g = tt

close_square_base_out : (at : ℕ) (e : Part) (x : Base) → OutBase x → OutMode (ex.close_square_base at e x)
close_square_base_out at e (baseLength d a) g = when_out (leb 2 e.level) _ g
close_square_base_out at e _ g = tt

close_square_out : (at : ℕ) (e : Part) (k : Inner) → OutInner k → OutMode (ex.close_square at e k)
close_square_out at e (inOpen x k) g = close_square_open_out at e x k g
close_square_out at e (inBase x) g = close_square_base_out at e x g
close_square_out at e _ g = tt

value_out : (t : Symbol) (at : ℕ) (e : Part) (k : Inner) → OutInner k → sh.is_stop t ≡ false → OutMode (ex.step_value (suffix_of t) at e k)
value_out (sy.Binary o) at e k g h = let z = ex.fold k (level o) e in when_out (leb (least z.around) (level o) && leb (level o) z.value.level) _ (fold_out k (level o) e g)
value_out (sy.Assign o) at e k g h = let z = ex.fold k 2 e in when_out (leb (least z.around) 1 && leb 14 z.value.level) _ (fold_out k 2 e g)
value_out sy.Question at e k g h = let z = ex.fold k 2 e in when_out (leb (least z.around) 2 && leb 3 z.value.level) _ (fold_out k 2 e g)
value_out sy.Comma at e k g h = comma_out at (ex.fold k 1 e).value (ex.fold k 1 e).around (fold_out k 1 e g)
value_out sy.Colon at e k g h = colon_out at (ex.fold k 0 e).value (ex.fold k 0 e).around (fold_out k 0 e g)
value_out sy.Semicolon at e k g h = cc
value_out (sy.Close br.Round) at e k g h = close_round_out at (ex.fold k 0 e).value (ex.fold k 0 e).around (fold_out k 0 e g)
value_out (sy.Close br.Square) at e k g h = close_square_out at (ex.fold k 0 e).value (ex.fold k 0 e).around (fold_out k 0 e g)
value_out (sy.Close br.Curly) at e k g h = cc
value_out (sy.Open br.Round) at e k g h = if_out (leb 15 e.level) _ g
value_out (sy.Open br.Square) at e k g h = if_out (leb 15 e.level) _ g
value_out (sy.Crement c) at e k g h = if_out (leb 15 e.level) _ g
value_out _ at e k g h = tt

nothing_round_out : (at : ℕ) (k : Inner) → OutInner k → OutMode (ex.nothing_round at k)
nothing_round_out at (inOpen (oArgument f a es None) k) g = g
nothing_round_out at (inBase (baseStep m x a st q y o)) g = absurd g
nothing_round_out at _ g = tt

nothing_square_out : (at : ℕ) (k : Inner) → OutInner k → OutMode (ex.nothing_square at k)
nothing_square_out at (inBase (baseLength d a)) g = g
nothing_square_out at _ g = tt

maybe_out : (names : List (List ℕ)) (t : Symbol) (at : ℕ) (k : Inner) → OutInner k → sh.is_stop t ≡ false → OutMode (ex.step_maybe names t at k)
maybe_out names (sy.Close br.Round) at k g h = nothing_round_out at k g
maybe_out names (sy.Close br.Square) at k g h = nothing_square_out at k g
maybe_out names (sy.Close br.Curly) at k g h = cc
maybe_out names sy.Semicolon at k g h = cc
maybe_out names t at k g h = operand_out names (prefix_of t) at k g

binds_out : (ats : List ℕ) (k : Inner) → OutInner k → OutInner (stt.extension_binds ats k)
binds_out [] k g = g
binds_out (x ∷ ats) k g = binds_out ats (inBind (bPrefix pre.Extension x) k) g

fork_inner_out : (f : Fork) → OutFork f → OutInner (stt.fork_inner f)
fork_inner_out (forkCast a k) g = g
fork_inner_out (forkSizeof at a k) g = g
fork_inner_out (forkBlock o) g = absurd g
fork_inner_out (forkFor m at a o) g = absurd g

fork_around_out : (n : Known) (f : Fork) → OutFork f → OutAround n (stt.fork_around f)
fork_around_out n (forkCast a k) g = g
fork_around_out n (forkSizeof at a k) g = g
fork_around_out n (forkBlock o) g = absurd g
fork_around_out n (forkFor m at a o) g = absurd g

fork_words_out : (names : List (List ℕ)) (t : Symbol) (at : ℕ) (f : Fork) (ats : List ℕ) → OutFork f → sh.is_stop t ≡ false → OutMode (sp.step_specs names t at (mk.extension_words ats mk.unspoken) (stt.fork_around f))
fork_words_out names t at f ats g h = specs_out names t at (mk.extension_words ats mk.unspoken) (stt.fork_around f) (fork_around_out _ f g) h

fork_value_out : (names : List (List ℕ)) (t : Symbol) (at : ℕ) (f : Fork) (ats : List ℕ) → OutFork f → sh.is_stop t ≡ false → OutMode (ex.step_maybe names t at (stt.extension_binds ats (stt.fork_inner f)))
fork_value_out names t at f ats g h = maybe_out names t at (stt.extension_binds ats (stt.fork_inner f)) (binds_out ats (stt.fork_inner f) (fork_inner_out f g)) h

fork_name_out : (names : List (List ℕ)) (n : List ℕ) (at : ℕ) (f : Fork) (ats : List ℕ) (c : Bool) → OutFork f → OutMode (stt.fork_kind names (if c then spTypedef n else spOther) (sy.Name n) at f ats)
fork_name_out names n at f ats true g = fork_words_out names (sy.Name n) at f ats g refl
fork_name_out names n at f ats false g = fork_value_out names (sy.Name n) at f ats g refl

either_out : (names : List (List ℕ)) (t : Symbol) (at : ℕ) (f : Fork) (ats : List ℕ) → OutFork f → sh.is_stop t ≡ false → OutMode (stt.step_either names t at f ats)
either_out names sy.Extension at f ats g h = g
either_out names (sy.Type x) at f ats g h = fork_words_out names (sy.Type x) at f ats g h
either_out names (sy.Storage x) at f ats g h = fork_words_out names (sy.Storage x) at f ats g h
either_out names (sy.Const x) at f ats g h = fork_words_out names (sy.Const x) at f ats g h
either_out names (sy.Attribute x) at f ats g h = fork_words_out names (sy.Attribute x) at f ats g h
either_out names sy.Enum at f ats g h = fork_words_out names sy.Enum at f ats g h
either_out names (sy.Name n) at f ats g h = fork_name_out names n at f ats (sh.has names n) g
either_out names t at f ats g h = fork_value_out names t at f ats g h

-- Declared names.

with_attribute_out : (y : Attributed) (x : At) → OutAttributed y → Out (steps.with_attribute y x)
with_attribute_out (onWords s w) x g = g
with_attribute_out (onDeclared d) x g = g
with_attribute_out (onLabel n at c ats o) x g = absurd g

attribute_out : (k : Skip) (t : SymbolAt) (w : AttributeWord) (x a : ℕ) (r : Raw) (y : Attributed) → OutAttributed y → OutMode (steps.attribute_skip k t w x a r y)
attribute_out (skipOn n) t w x a r y g = g
attribute_out skipClose t w x a r y g = with_attribute_out y (attribute w x a r t.at) g
attribute_out skipEnd t w x a r y g = tt

names_stay : (c : Bool) (x y : List (List ℕ)) → c ≡ false → (if c then x else y) ≡ y
names_stay c x y h = rw h refl

comma_behind_out : (names : List (List ℕ)) (c : Bool) (at : ℕ) (d : Declared) → OutDeclaring d.around → OutTurn names (ex.when c (turn (Next (mk.with_initial d iNothing 0) at) (decl.names_with d names)))
comma_behind_out names true at d g = (names_stay (is_typedef d.around.spoken.told.storage) _ _ (ap is_typedef g), g)
comma_behind_out names false at d g = tt

behind_declared_out : (names : List (List ℕ)) (t : Symbol) (at : ℕ) (d : Declared) → OutDeclaring d.around → sh.is_stop t ≡ false → OutTurn names (decl.step_behind names t at d)
behind_declared_out names (sy.Open br.Round) at d g h = kept_out names (ex.when (decl.may_be_function d) (Parameters' d at)) (when_out (decl.may_be_function d) _ g)
behind_declared_out names (sy.Open br.Square) at d g h = kept_out names (ex.when (decl.may_be_array d) (Maybe (inBase (baseLength d at)))) (when_out (decl.may_be_array d) _ g)
behind_declared_out names (sy.Open br.Curly) at d g h = cc
behind_declared_out names (sy.Attribute w) at d g h = kept_out names (ex.when (decl.may_have_attribute d) (Wait (waitAttribute w at (onDeclared d)))) (when_out (decl.may_have_attribute d) _ g)
behind_declared_out names (sy.Assign to.Plain) at d g h = cc
behind_declared_out names sy.Comma at d g h = comma_behind_out names (decl.may_be_whole d) at d g
behind_declared_out names sy.Semicolon at d g h = cc
behind_declared_out names _ at d g h = tt

next_declared_out : (names : List (List ℕ)) (t : Symbol) (at : ℕ) (d : Declaring) (c : ℕ) → OutDeclaring d → OutMode (decl.step_next names t at d c)
next_declared_out names (sy.Name n) at d c g = when_out (not (sh.has names n)) _ g
next_declared_out names _ at d c g = tt

listed_out : (t : Symbol) (at : ℕ) (d : Declaring) → OutDeclaring d → sh.is_stop t ≡ false → OutMode (decl.step_listed t at d)
listed_out sy.Comma at d g h = g
listed_out sy.Semicolon at d g h = cc
listed_out _ at d g h = tt

parameters_out : (names : List (List ℕ)) (t : Symbol) (at : ℕ) (d : Declared) (a : ℕ) → OutDeclaring d.around → sh.is_stop t ≡ false → OutMode (decl.step_parameters names t at d a)
parameters_out names (sy.Close br.Round) at d a g h = g
parameters_out names (sy.Type type.Void) at d a g h = g
parameters_out names t at d a g h = specs_out names t at mk.unspoken (aroundParameter d a (tall no_params 0) None) g h

named_parameter_out : (t : Symbol) (at : ℕ) (d : Declared) (a : ℕ) (ps : Tall Params) (c : Option ℕ) (s : Spoken) (n : List ℕ) (x : ℕ) → OutDeclaring d.around → OutMode (decl.step_parameter t at d a ps c s n x)
named_parameter_out sy.Comma at d a ps c s n x g = g
named_parameter_out (sy.Close br.Round) at d a ps c s n x g = g
named_parameter_out _ at d a ps c s n x g = tt

arrived_out : (names : List (List ℕ)) (at : ℕ) (x : Waiting) → OutWaiting x → Out (stt.arrived names at x)
arrived_out names at (waitVoid d a x) g = g
arrived_out names at (waitList d x) g = g
arrived_out names at (waitAttribute w x y) g = g
arrived_out names at (waitTest t x o) g = absurd g
arrived_out names at (waitWhile x s o) g = absurd g
arrived_out names at (waitDo x s y o) g = absurd g
arrived_out names at (waitDone x s h o) g = absurd g
arrived_out names at (waitFor x o) g = absurd g
arrived_out names at (waitDefault x o) g = absurd g
arrived_out names at (waitGoto x n y o) g = absurd g
arrived_out names at (waitBreak x o) g = absurd g
arrived_out names at (waitContinue x o) g = absurd g

-- behind `extern` the storage class is known
extern_out_at : (names : List (List ℕ)) (at : ℕ) (s : Spoken) (o : Option Known) → ((n : Known) → o ≡ Some n → n.storage ≡ sto.Other) → OutTurn names (kept names (sp.with_word_said s (aroundPlace placeFile) (wStorage storage.Extern at) o))
extern_out_at names at s None f = tt
extern_out_at names at s (Some n) f = (refl, f n refl)

pub extern_out : (names : List (List ℕ)) (at : ℕ) (s : Spoken) → s.told.storage ≡ sto.Unstated → OutTurn names (kept names (sp.step_specs names (sy.Storage storage.Extern) at s (aroundPlace placeFile)))
extern_out names at s h = extern_out_at names at s (with_storage site.File storage.Extern s.told) (λ n e. extern_stores s.told n e h)

pub next_out : (names : List (List ℕ)) (t : SymbolAt) (m : Mode) → Out m → sh.is_stop t.symbol ≡ false → OutTurn names (steps.next names t m)
next_out names t File g h = absurd g
next_out names t (Ended i x) g h = absurd g
next_out names t (Specifiers s w) g h = kept_out names (sp.step_specs names t.symbol t.at s w) (specs_out names t.symbol t.at s w g h)
next_out names t (Enumeration x s w) g h = kept_out names (sp.step_enumeration names t.symbol t.at x s w) (enumeration_out names t.symbol t.at x s w g h)
next_out names t (Tagged x n y s w) g h = kept_out names (sp.step_tagged names t.symbol t.at x n y s w) (tagged_out names t.symbol t.at x n y s w g h)
next_out names t (Constant l) g h = kept_out names (sp.step_constant names t.symbol t.at l) (constant_out names t.symbol t.at l g h)
next_out names t (Named l n x) g h = kept_out names (sp.step_named t.symbol t.at l n x) (named_out t.symbol t.at l n x g h)
next_out names t (Attribute w x a r n y) g h = kept_out names (steps.attribute_skip (skip_of br.Round t.symbol n) t w x a r y) (attribute_out (skip_of br.Round t.symbol n) t w x a r y g)
next_out names t (Next d c) g h = kept_out names (decl.step_next names t.symbol t.at d c) (next_declared_out names t.symbol t.at d c g)
next_out names t (Behind d) g h = behind_declared_out names t.symbol t.at d g h
next_out names t (Listed d) g h = kept_out names (decl.step_listed t.symbol t.at d) (listed_out t.symbol t.at d g h)
next_out names t (Parameters' d a) g h = kept_out names (decl.step_parameters names t.symbol t.at d a) (parameters_out names t.symbol t.at d a g h)
next_out names t (Parameter d a ps c s n x) g h = kept_out names (decl.step_parameter t.symbol t.at d a ps c s n x) (named_parameter_out t.symbol t.at d a ps c s n x g)
next_out names t (Skipped y a r n) g h = absurd g
next_out names t (Begin o) g h = absurd g
next_out names t (Wait x) g h = kept_out names (stt.step_wait names t.symbol t.at x) (when_out (is_awaited (stt.awaited x) t.symbol) _ (arrived_out names t.at x g))
next_out names t (Either f ats) g h = kept_out names (stt.step_either names t.symbol t.at f ats) (either_out names t.symbol t.at f ats g h)
next_out names t (Goto x o) g h = absurd g
next_out names t (Operand k) g h = kept_out names (ex.step_operand names (prefix_of t.symbol) t.at k) (operand_out names (prefix_of t.symbol) t.at k g)
next_out names t (Maybe k) g h = kept_out names (ex.step_maybe names t.symbol t.at k) (maybe_out names t.symbol t.at k g h)
next_out names t (Sizeof x k) g h = kept_out names (ex.step_sizeof names (prefix_of t.symbol) t.at x k) (step_sizeof_out names (prefix_of t.symbol) t.at x k g)
next_out names t (Value e k) g h = kept_out names (ex.step_value (suffix_of t.symbol) t.at e k) (value_out t.symbol t.at e k g h)
next_out names t (Label n x y ats o) g h = absurd g
next_out names t (Whole s o) g h = absurd g
next_out names t Finished g h = absurd g
