-- A token leaves room, where the limit is not passed: in each mode.
use Rattle.std.proofs.Common.{◌≡◌, ℕ, ◌≤◌, max, List, [], ◌∷◌, Option, None, Some, Bool, true, false, not, if◌then◌else◌, refl, arith, subst}
use Rattle.c_tree.specs.declared.symbol.AssignOp.TheVariants as to
use Rattle.c_tree.specs.declared.symbol.Bracket.TheVariants as br
use Rattle.c_tree.specs.declared.symbol.AttributeWord.{AttributeWord}
use Rattle.c_tree.specs.declared.symbol.StatementWord.{StatementWord}
use Rattle.c_tree.specs.declared.symbol.StatementWord.TheVariants as key
use Rattle.c_tree.specs.declared.symbol.TypeWord.TheVariants as type
use Rattle.c_tree.specs.declared.symbol.Symbol.{Symbol}
use Rattle.c_tree.specs.declared.symbol.Symbol.TheVariants as sy
use Rattle.c_tree.specs.declared.symbol.SymbolAt.{SymbolAt}
use Rattle.c_tree.specs.declared.tree.PrefixOp.TheVariants as pre
use Rattle.c_tree.specs.declared.known.Known.{Known}
use Rattle.c_tree.specs.Shape as sh
use Rattle.c_tree.specs.Words.{with_type, with_storage, with_named, is_typed, is_void}
use Rattle.c_tree.specs.Tree.{Raw, Ats, At, attribute, Params, no_params, Form, fPlain, fArray, fFunction, iNothing, St, statements_and, Word, wType, wStorage, wExtension, wTypedef, wTag}
use Rattle.parse_machine.specs.Tokens.{prefix_of, suffix_of, SpecKind, spType, spStorage, spConst, spExtension, spAttribute, spEnum, spTypedef, spOther, spec_of, Start, startEmpty, startOpen, startClose, startWord, startOther, start_of, is_else, is_awaited, Skip, skipOn, skipClose, skipEnd, skip_of}
use Rattle.parse_machine.specs.Contexts.{Tall, Spoken, bPrefix, baseStatement, inBase, inBind, wThen, wElse, wWhile, wSwitch, wFor, wCase, wDefault, wLabel, Header, Outer, outBody, outBlock, outDo, outWrap, Place, placeFile, Declaring, Declared, Inner, Around, aroundCast, aroundSizeof, aroundParameter, aroundPlace, Listing, Attributed, onWords, onDeclared, onLabel, Fork, forkCast, forkSizeof, forkBlock, forkFor, Waiting, waitTest, waitWhile, waitDo, waitDone, waitFor, waitDefault, waitGoto, waitBreak, waitContinue, waitVoid, waitList, waitAttribute, Mode, File, Ended, Specifiers, Enumeration, Tagged, Constant, Named, Attribute, Next, Behind, Listed, Parameters', Parameter, Skipped, Begin, Wait, Either, Goto, Operand, Maybe, Sizeof, Value, Label, Whole, Finished}
use Rattle.parse_machine.specs.Making as mk
use Rattle.parse_machine.specs.Making.{tall, above, wrapped}
use Rattle.parse_machine.specs.Heights as ht
use Rattle.parse_machine.specs.Heights.{is_list, around_high, low}
use Rattle.parse_machine.specs.Expressions as ex
use Rattle.parse_machine.specs.Specifiers as sp
use Rattle.parse_machine.specs.Declarations as decl
use Rattle.parse_machine.specs.Declarations.{Turn, turn, kept}
use Rattle.parse_machine.specs.Statements as stt
use Rattle.parse_machine.specs.Steps as steps
use Rattle.low_beginning_laws.proofs.Room.{RoomDeclaring, RoomInner, RoomAround, RoomAttributed, RoomFork, RoomWaiting, Room}
use Rattle.low_beginning_laws.proofs.Above.{above_some, above_grows, declared_grows}
use Rattle.low_beginning_laws.proofs.RoomEx.{RoomMode, when_room, if_room, either_room, operand_room, sizeof_room, next_room, ended_room, value_room, maybe_room}

abbrev pub RoomTurn : Option Turn → Type 0
RoomTurn None = Unit {0}
RoomTurn (Some u) = low u.mode ≤ 200 → Room u.mode

kept_room : (names : List (List ℕ)) (o : Option Mode) → RoomMode o → RoomTurn (kept names o)
kept_room names None g = tt
kept_room names (Some m) g = g

when_turn : (c : Bool) (u : Turn) → (low u.mode ≤ 200 → Room u.mode) → RoomTurn (ex.when c u)
when_turn true u g = g
when_turn false u g = tt

-- Words.

word_room : (s : Spoken) (w : Around) (x : Word) (o : Option Known) → RoomAround w → RoomMode (sp.with_word_said s w x o)
word_room s w x None g = tt
word_room s w x (Some k) g = λ l. g

enum_room : (at : ℕ) (s : Spoken) (w : Around) (o : Option Known) → RoomAround w → RoomMode (sp.enum_word at s w o)
enum_room at s w None g = tt
enum_room at s w (Some k) g = λ l. g

cast_room : (t : Symbol) (at : ℕ) (s : Spoken) (a : ℕ) (k : Inner) → RoomInner k → RoomMode (sp.behind_cast t at s a k)
cast_room (sy.Close br.Round) at s a k g = λ l. g
cast_room _ at s a k g = tt

behind_sizeof_room : (t : Symbol) (at : ℕ) (s : Spoken) (x a : ℕ) (k : Inner) → RoomInner k → RoomMode (sp.behind_sizeof t at s x a k)
behind_sizeof_room (sy.Close br.Round) at s x a k g = λ l. (above_some (above s.height), g)
behind_sizeof_room _ at s x a k g = tt

behind_parameter_room : (t : Symbol) (at : ℕ) (s : Spoken) (d : Declared) (a : ℕ) (ps : Tall Params) (c : Option ℕ) → RoomDeclaring d.around → RoomMode (sp.behind_parameter t at s d a ps c)
behind_parameter_room (sy.Name n) at s d a ps c g = λ l. g
behind_parameter_room sy.Comma at s d a ps c g = λ l. g
behind_parameter_room (sy.Close br.Round) at s d a ps c g = λ l. g
behind_parameter_room _ at s d a ps c g = tt

behind_place_room : (t : Symbol) (at : ℕ) (s : Spoken) (p : Place) → around_high (aroundPlace p) s.height ≤ 200 → RoomMode (sp.behind_place t at s p)
behind_place_room (sy.Name n) at s p h = λ l. (h, omega (arith, h))
behind_place_room sy.Semicolon at s p h = when_room (not (is_void s.told.typing)) _ (λ l. ended_room (mk.declaring p s mk.no_more) at)
behind_place_room _ at s p h = tt

behind_words_room : (t : Symbol) (at : ℕ) (s : Spoken) (w : Around) → RoomAround w → around_high w s.height ≤ 200 → RoomMode (sp.behind_words t at s w)
behind_words_room t at s (aroundCast a k) g h = cast_room t at s a k g
behind_words_room t at s (aroundSizeof x a k) g h = behind_sizeof_room t at s x a k g
behind_words_room t at s (aroundParameter d a ps c) g h = behind_parameter_room t at s d a ps c g
behind_words_room t at s (aroundPlace p) g h = behind_place_room t at s p h

typed_room : (c : Bool) (o : Option Mode) → (c ≡ true → RoomMode o) → RoomMode (if c then o else None)
typed_room true o g = g refl
typed_room false o g = tt

-- words have a height once there is a type among them
abbrev HasLow : Spoken → Around → Type 0
HasLow s w = is_typed s.told.typing ≡ true → around_high w s.height ≤ 200

kind_room : (x : SpecKind) (t : Symbol) (at : ℕ) (s : Spoken) (w : Around) → RoomAround w → HasLow s w → RoomMode (sp.step_kind x t at s w)
kind_room (spType x) t at s w g h = word_room s w (wType x at) (with_type (sp.site_of w) x s.told) g
kind_room (spStorage x) t at s w g h = word_room s w (wStorage x at) (with_storage (sp.site_of w) x s.told) g
kind_room (spConst x) t at s w g h = λ l. g
kind_room spExtension t at s w g h = λ l. g
kind_room (spAttribute x) t at s w g h = λ l. g
kind_room spEnum t at s w g h = enum_room at s w (with_named s.told) g
kind_room (spTypedef n) t at s w g h = word_room s w (wTypedef n at) (with_named s.told) g
kind_room spOther t at s w g h = typed_room (is_typed s.told.typing) _ (λ e. behind_words_room t at s w g (h e))

specs_room : (names : List (List ℕ)) (t : Symbol) (at : ℕ) (s : Spoken) (w : Around) → RoomAround w → HasLow s w → RoomMode (sp.step_specs names t at s w)
specs_room names t at s w g h = kind_room (spec_of names t) t at s w g h

-- nothing has been said
unspoken_low : (w : Around) → HasLow mk.unspoken w
unspoken_low w e = cc

enumeration_room : (names : List (List ℕ)) (t : Symbol) (at x : ℕ) (s : Spoken) (w : Around) → RoomAround w → RoomMode (sp.step_enumeration names t at x s w)
enumeration_room names (sy.Name n) at x s w g = when_room (not (sh.has names n)) _ (λ l. g)
enumeration_room names (sy.Open br.Curly) at x s w g = λ l. g
enumeration_room names _ at x s w g = tt

tagged_room : (names : List (List ℕ)) (t : Symbol) (at x : ℕ) (n : List ℕ) (y : ℕ) (s : Spoken) (w : Around) → RoomAround w → around_high w (max s.height 1) ≤ 200 → RoomMode (sp.step_tagged names t at x n y s w)
tagged_room names (sy.Open br.Curly) at x n y s w g h = λ l. g
tagged_room names t at x n y s w g h = specs_room names t at (mk.said s s.told (wTag x n y) 1) w g (λ e. h)

list_end_room : (at : ℕ) (l : Listing) (c : Option ℕ) → RoomAround l.around → RoomMode (sp.list_end at l c)
list_end_room at l None g = tt
list_end_room at l (Some c) g = λ h. g

constant_room : (names : List (List ℕ)) (t : Symbol) (at : ℕ) (l : Listing) → RoomAround l.around → RoomMode (sp.step_constant names t at l)
constant_room names (sy.Name n) at l g = when_room (not (sh.has names n)) _ (λ h. g)
constant_room names (sy.Close br.Curly) at l g = list_end_room at l l.comma g
constant_room names _ at l g = tt

named_room : (t : Symbol) (at : ℕ) (l : Listing) (n : List ℕ) (x : ℕ) → RoomAround l.around → RoomMode (sp.step_named t at l n x)
named_room (sy.Assign to.Plain) at l n x g = λ h. g
named_room sy.Comma at l n x g = λ h. g
named_room (sy.Close br.Curly) at l n x g = λ h. g
named_room _ at l n x g = tt

-- Declared names.

body_form_room : (names : List (List ℕ)) (f : Form) (at : ℕ) (d : Declared) → RoomMode (decl.body_of_form names f at d)
body_form_room names (fFunction ps) at d = λ l. either_room (sh.is_skipped_name (decl.header d ps).name) _ _ tt tt
body_form_room names fPlain at d = tt
body_form_room names (fArray a e c) at d = tt

initial_form_room : (f : Form) (at : ℕ) (d : Declared) → RoomDeclaring d.around → RoomMode (decl.initial_of_form f at d)
initial_form_room fPlain at d g = λ l. g
initial_form_room (fArray a e c) at d g = λ l. g
initial_form_room (fFunction ps) at d g = tt

behind_room : (names : List (List ℕ)) (t : Symbol) (at : ℕ) (d : Declared) → RoomDeclaring d.around → RoomTurn (decl.step_behind names t at d)
behind_room names (sy.Open br.Round) at d g = kept_room names _ (when_room (decl.may_be_function d) _ (λ l. g))
behind_room names (sy.Open br.Square) at d g = kept_room names _ (when_room (decl.may_be_array d) _ (λ l. (g, tt)))
behind_room names (sy.Open br.Curly) at d g = kept_room names _ (if_room (ht.is_first d.around) _ (body_form_room names d.form.value at d))
behind_room names (sy.Attribute w) at d g = kept_room names _ (when_room (decl.may_have_attribute d) _ (λ l. g))
behind_room names (sy.Assign to.Plain) at d g = kept_room names _ (if_room (decl.is_object d.around.spoken.told) _ (initial_form_room d.form.value at d g))
behind_room names sy.Comma at d g = when_turn (decl.may_be_whole d) _ (next_room d iNothing 0 at g)
behind_room names sy.Semicolon at d g = when_turn (decl.may_be_whole d) _ (λ l. ended_room (mk.with_initial d iNothing 0) at)
behind_room names _ at d g = tt

next_name_room : (names : List (List ℕ)) (t : Symbol) (at : ℕ) (d : Declaring) (c : ℕ) → RoomDeclaring d → RoomMode (decl.step_next names t at d c)
next_name_room names (sy.Name n) at d c g = when_room (not (sh.has names n)) _ (λ l. g)
next_name_room names _ at d c g = tt

listed_room : (t : Symbol) (at : ℕ) (d : Declaring) → RoomDeclaring d → RoomMode (decl.step_listed t at d)
listed_room sy.Comma at d g = λ l. g
listed_room sy.Semicolon at d g = λ l. ended_room d at
listed_room _ at d g = tt

parameters_room : (names : List (List ℕ)) (t : Symbol) (at : ℕ) (d : Declared) (a : ℕ) → RoomDeclaring d.around → RoomMode (decl.step_parameters names t at d a)
parameters_room names (sy.Close br.Round) at d a g = λ l. g
parameters_room names (sy.Type type.Void) at d a g = λ l. g
parameters_room names t at d a g = specs_room names t at mk.unspoken (aroundParameter d a (tall no_params 0) None) g (unspoken_low (aroundParameter d a (tall no_params 0) None))

parameter_room : (t : Symbol) (at : ℕ) (d : Declared) (a : ℕ) (ps : Tall Params) (c : Option ℕ) (s : Spoken) (n : List ℕ) (x : ℕ) → RoomDeclaring d.around → RoomMode (decl.step_parameter t at d a ps c s n x)
parameter_room sy.Comma at d a ps c s n x g = λ l. g
parameter_room (sy.Close br.Round) at d a ps c s n x g = λ l. g
parameter_room _ at d a ps c s n x g = tt

-- Statements.

fork_around_room : (f : Fork) → RoomFork f → RoomAround (stt.fork_around f)
fork_around_room (forkCast a k) g = g
fork_around_room (forkSizeof x a k) g = g
fork_around_room (forkBlock o) g = tt
fork_around_room (forkFor m x a o) g = tt

fork_inner_room : (f : Fork) → RoomFork f → RoomInner (stt.fork_inner f)
fork_inner_room (forkCast a k) g = g
fork_inner_room (forkSizeof x a k) g = g
fork_inner_room (forkBlock o) g = tt
fork_inner_room (forkFor m x a o) g = tt

binds_room : (ats : List ℕ) (k : Inner) → RoomInner k → RoomInner (stt.extension_binds ats k)
binds_room [] k g = g
binds_room (x ∷ ats) k g = binds_room ats (inBind (bPrefix pre.Extension x) k) g

-- `__extension__` alone says nothing
pub extensions_told : (ats : List ℕ) (s : Spoken) → (mk.extension_words ats s).told ≡ s.told
extensions_told [] s = refl
extensions_told (x ∷ ats) s = extensions_told ats (mk.said s s.told (wExtension x) 0)

fork_low : (f : Fork) (ats : List ℕ) → HasLow (mk.extension_words ats mk.unspoken) (stt.fork_around f)
fork_low f ats e = absurd (untyped (subst (λ (k : Known). is_typed k.typing ≡ true) (extensions_told ats mk.unspoken) e))
  where
    untyped : false ≡ true → ⊥
    untyped h = cc

fork_kind_room : (names : List (List ℕ)) (x : SpecKind) (t : Symbol) (at : ℕ) (f : Fork) (ats : List ℕ) → RoomFork f → RoomMode (stt.fork_kind names x t at f ats)
fork_kind_room names spExtension t at f ats g = λ l. g
fork_kind_room names spOther t at f ats g = maybe_room names t at (stt.extension_binds ats (stt.fork_inner f)) (binds_room ats (stt.fork_inner f) (fork_inner_room f g))
fork_kind_room names (spType x) t at f ats g = specs_room names t at _ (stt.fork_around f) (fork_around_room f g) (fork_low f ats)
fork_kind_room names (spStorage x) t at f ats g = specs_room names t at _ (stt.fork_around f) (fork_around_room f g) (fork_low f ats)
fork_kind_room names (spConst x) t at f ats g = specs_room names t at _ (stt.fork_around f) (fork_around_room f g) (fork_low f ats)
fork_kind_room names (spAttribute x) t at f ats g = specs_room names t at _ (stt.fork_around f) (fork_around_room f g) (fork_low f ats)
fork_kind_room names spEnum t at f ats g = specs_room names t at _ (stt.fork_around f) (fork_around_room f g) (fork_low f ats)
fork_kind_room names (spTypedef n) t at f ats g = specs_room names t at _ (stt.fork_around f) (fork_around_room f g) (fork_low f ats)

fork_room : (names : List (List ℕ)) (t : Symbol) (at : ℕ) (f : Fork) (ats : List ℕ) → RoomFork f → RoomMode (stt.step_either names t at f ats)
fork_room names t at f ats g = fork_kind_room names (spec_of names t) t at f ats g

begin_word_room : (w : StatementWord) (at : ℕ) (o : Outer) → RoomMode (stt.begin_word w at o)
begin_word_room key.Break at o = λ l. tt
begin_word_room key.Case at o = λ l. tt
begin_word_room key.Continue at o = λ l. tt
begin_word_room key.Default at o = λ l. tt
begin_word_room key.Do at o = λ l. tt
begin_word_room key.Else at o = tt
begin_word_room key.For at o = λ l. tt
begin_word_room key.Goto at o = λ l. tt
begin_word_room key.If at o = λ l. tt
begin_word_room key.Return at o = λ l. (tt, tt)
begin_word_room key.Switch at o = λ l. tt
begin_word_room key.While at o = λ l. tt

close_block_room : (names : List (List ℕ)) (at : ℕ) (o : Outer) → RoomTurn (stt.close_block names at o)
close_block_room names at (outBody m h a ss) = λ l. tt
close_block_room names at (outBlock m a ss o) = λ l. tt
close_block_room names at (outDo x o) = tt
close_block_room names at (outWrap w o) = tt

other_room : (names : List (List ℕ)) (t : Symbol) (at : ℕ) (o : Outer) (c : Bool) → RoomMode (if c then stt.step_either names t at (forkBlock o) [] else ex.step_operand names (prefix_of t) at (inBase (baseStatement o)))
other_room names t at o true = fork_room names t at (forkBlock o) [] tt
other_room names t at o false = operand_room names (prefix_of t) at (inBase (baseStatement o)) tt

start_room : (names : List (List ℕ)) (x : Start) (t : Symbol) (at : ℕ) (o : Outer) → RoomTurn (stt.step_start names x t at o)
start_room names startEmpty t at o = λ l. tt
start_room names startOpen t at o = λ l. tt
start_room names startClose t at o = close_block_room names at o
start_room names (startWord w) t at o = kept_room names _ (begin_word_room w at o)
start_room names startOther t at o = kept_room names _ (other_room names t at o (is_list o))

begin_room : (names : List (List ℕ)) (t : Symbol) (at : ℕ) (o : Outer) → RoomTurn (stt.step_begin names t at o)
begin_room names t at o = start_room names (start_of t) t at o

goto_room : (names : List (List ℕ)) (t : Symbol) (at x : ℕ) (o : Outer) → RoomMode (stt.step_goto names t at x o)
goto_room names (sy.Name n) at x o = when_room (not (sh.has names n)) _ (λ l. tt)
goto_room names _ at x o = tt

label_room : (names : List (List ℕ)) (t : Symbol) (at : ℕ) (n : List ℕ) (x y : ℕ) (ats : Ats) (o : Outer) → RoomTurn (stt.step_label names t at n x y ats o)
label_room names (sy.Attribute w) at n x y ats o = λ l. tt
label_room names t at n x y ats o = begin_room names t at (outWrap (wLabel n x y ats) o)

-- the first value of a list
list_start_room : (d : Declared) → RoomDeclaring d.around → ht.declared_high d (above 1) ≤ 200 → RoomDeclaring d.around × (ht.declared_high d (above 0) ≤ 200)
list_start_room d g l = (g, omega (arith, l, declared_grows d (above 0) (above 1) (above_grows 0 1 (omega arith))))

arrived_room : (names : List (List ℕ)) (at : ℕ) (x : Waiting) → RoomWaiting x → low (stt.arrived names at x) ≤ 200 → Room (stt.arrived names at x)
arrived_room names at (waitTest t x o) g l = tt
arrived_room names at (waitWhile x s o) g l = tt
arrived_room names at (waitDo x s y o) g l = tt
arrived_room names at (waitDone x s h o) g l = tt
arrived_room names at (waitFor x o) g l = tt
arrived_room names at (waitDefault x o) g l = tt
arrived_room names at (waitGoto x n y o) g l = tt
arrived_room names at (waitBreak x o) g l = tt
arrived_room names at (waitContinue x o) g l = tt
arrived_room names at (waitVoid d a x) g l = g
arrived_room names at (waitList d x) g l = list_start_room d g l
arrived_room names at (waitAttribute w x y) g l = g

wait_room : (names : List (List ℕ)) (t : Symbol) (at : ℕ) (x : Waiting) → RoomWaiting x → RoomMode (stt.step_wait names t at x)
wait_room names t at x g = when_room (is_awaited (stt.awaited x) t) _ (arrived_room names at x g)

otherwise_room : (names : List (List ℕ)) (at : ℕ) (o : Outer) (s : St) → RoomTurn (stt.otherwise names at o s)
otherwise_room names at (outBody m h a ss) s = tt
otherwise_room names at (outBlock m a ss o) s = tt
otherwise_room names at (outDo x o) s = tt
otherwise_room names at (outWrap (wThen h) o) s = λ l. tt
otherwise_room names at (outWrap (wElse h a x) o) s = otherwise_room names at o _
otherwise_room names at (outWrap (wWhile h) o) s = otherwise_room names at o _
otherwise_room names at (outWrap (wSwitch h) o) s = otherwise_room names at o _
otherwise_room names at (outWrap (wFor m h) o) s = otherwise_room _ at o _
otherwise_room names at (outWrap (wCase x e c) o) s = otherwise_room names at o _
otherwise_room names at (outWrap (wDefault x c) o) s = otherwise_room names at o _
otherwise_room names at (outWrap (wLabel n x c ats) o) s = otherwise_room names at o _

settled_room : (names : List (List ℕ)) (t : Symbol) (at : ℕ) (o : Outer) (s : St) → RoomTurn (stt.step_settled t at (stt.settle names o s))
settled_room names t at (outBody m h a ss) s = begin_room names t at (outBody m h a (statements_and ss s))
settled_room names t at (outBlock m a ss o) s = begin_room names t at (outBlock m a (statements_and ss s) o)
settled_room names t at (outDo x o) s = kept_room names _ (wait_room names t at (waitWhile x s o) tt)
settled_room names t at (outWrap w o) s = settled_room (stt.left w names) t at o (wrapped w s)

whole_room : (names : List (List ℕ)) (t : Symbol) (at : ℕ) (s : St) (o : Outer) → RoomTurn (stt.step_whole names t at s o)
whole_room names t at s o = pick (is_else t)
  where
    pick : (c : Bool) → RoomTurn (if c then stt.otherwise names at o s else stt.step_settled t at (stt.settle names o s))
    pick true = otherwise_room names at o s
    pick false = settled_room names t at o s

-- Tokens that are kept, and where an item is to come.

with_attribute_room : (y : Attributed) (x : At) → RoomAttributed y → Room (steps.with_attribute y x)
with_attribute_room (onWords s w) x g = g
with_attribute_room (onDeclared d) x g = g
with_attribute_room (onLabel n a c ats o) x g = tt

attribute_room : (k : Skip) (t : SymbolAt) (w : AttributeWord) (x a : ℕ) (r : Raw) (y : Attributed) → RoomAttributed y → RoomMode (steps.attribute_skip k t w x a r y)
attribute_room (skipOn n) t w x a r y g = λ l. g
attribute_room skipClose t w x a r y g = λ l. with_attribute_room y (attribute w x a r t.at) g
attribute_room skipEnd t w x a r y g = tt

body_room : (k : Skip) (t : SymbolAt) (h : Header) (a : ℕ) (r : Raw) → RoomMode (steps.body_skip k t h a r)
body_room (skipOn n) t h a r = λ l. tt
body_room skipClose t h a r = λ l. tt
body_room skipEnd t h a r = tt

file_room : (names : List (List ℕ)) (t : Symbol) (at : ℕ) → RoomMode (steps.step_file names t at)
file_room names sy.Semicolon at = λ l. tt
file_room names sy.End at = λ l. tt
file_room names t at = specs_room names t at mk.unspoken (aroundPlace placeFile) tt (unspoken_low (aroundPlace placeFile))

pub turn_room : (names : List (List ℕ)) (t : SymbolAt) (m : Mode) → low m ≤ 200 → Room m → RoomTurn (steps.next names t m)
turn_room names t File h g = kept_room names _ (file_room names t.symbol t.at)
turn_room names t (Ended i x) h g = tt
turn_room names t (Specifiers s w) h g = kept_room names _ (specs_room names t.symbol t.at s w g (λ e. h))
turn_room names t (Enumeration x s w) h g = kept_room names _ (enumeration_room names t.symbol t.at x s w g)
turn_room names t (Tagged x n y s w) h g = kept_room names _ (tagged_room names t.symbol t.at x n y s w g h)
turn_room names t (Constant l) h g = kept_room names _ (constant_room names t.symbol t.at l g)
turn_room names t (Named l n x) h g = kept_room names _ (named_room t.symbol t.at l n x g)
turn_room names t (Attribute w x a r n y) h g = kept_room names _ (attribute_room (skip_of br.Round t.symbol n) t w x a r y g)
turn_room names t (Next d c) h g = kept_room names _ (next_name_room names t.symbol t.at d c g)
turn_room names t (Behind d) h g = behind_room names t.symbol t.at d g
turn_room names t (Listed d) h g = kept_room names _ (listed_room t.symbol t.at d g)
turn_room names t (Parameters' d a) h g = kept_room names _ (parameters_room names t.symbol t.at d a g)
turn_room names t (Parameter d a ps c s n x) h g = kept_room names _ (parameter_room t.symbol t.at d a ps c s n x g)
turn_room names t (Skipped z a r n) h g = kept_room names _ (body_room (skip_of br.Curly t.symbol n) t z a r)
turn_room names t (Begin o) h g = begin_room names t.symbol t.at o
turn_room names t (Wait x) h g = kept_room names _ (wait_room names t.symbol t.at x g)
turn_room names t (Either f ats) h g = kept_room names _ (fork_room names t.symbol t.at f ats g)
turn_room names t (Goto x o) h g = kept_room names _ (goto_room names t.symbol t.at x o)
turn_room names t (Operand k) h g = kept_room names _ (operand_room names (prefix_of t.symbol) t.at k g)
turn_room names t (Maybe k) h g = kept_room names _ (maybe_room names t.symbol t.at k g.0)
turn_room names t (Sizeof x k) h g = kept_room names _ (sizeof_room names (prefix_of t.symbol) t.at x k g)
turn_room names t (Value e k) h g = kept_room names _ (value_room (suffix_of t.symbol) t.at e k g.1 h)
turn_room names t (Label n x y ats o) h g = label_room names t.symbol t.at n x y ats o
turn_room names t (Whole s o) h g = whole_room names t.symbol t.at s o
turn_room names t Finished h g = tt
