-- A declared name of the type `void` without parameters gets no attribute: one token, in each mode.
use Rattle.first_token_laws.proofs.Full as full
use Rattle.std.proofs.Common.{◌≡◌, ℕ, List, [], Option, None, Some, Bool, true, false, ◌||◌, not, if◌then◌else◌, refl}
use Rattle.c_tree.specs.declared.symbol.AssignOp.TheVariants as to
use Rattle.c_tree.specs.declared.symbol.Bracket.TheVariants as br
use Rattle.c_tree.specs.declared.symbol.AttributeWord.{AttributeWord}
use Rattle.c_tree.specs.declared.symbol.StatementWord.{StatementWord}
use Rattle.c_tree.specs.declared.symbol.StatementWord.TheVariants as key
use Rattle.c_tree.specs.declared.symbol.TypeWord.TheVariants as type
use Rattle.c_tree.specs.declared.symbol.Symbol.{Symbol}
use Rattle.c_tree.specs.declared.symbol.Symbol.TheVariants as sy
use Rattle.c_tree.specs.declared.symbol.SymbolAt.{SymbolAt}
use Rattle.c_tree.specs.declared.known.Known.{Known}
use Rattle.c_tree.specs.Shape as sh
use Rattle.c_tree.specs.Words.{with_type, with_storage, with_named, is_typed, is_void}
use Rattle.c_tree.specs.Tree.{pUnknown, named, pVoid, pSome, Raw, Ats, At, attribute, Params, no_params, Form, fPlain, fArray, fFunction, iNothing, St, statements_and, Word, wType, wStorage, wTypedef, wTag}
use Rattle.parse_machine.specs.Tokens.{prefix_of, suffix_of, SpecKind, spType, spStorage, spConst, spExtension, spAttribute, spEnum, spTypedef, spOther, spec_of, Start, startEmpty, startOpen, startClose, startWord, startOther, start_of, is_else, is_awaited, Skip, skipOn, skipClose, skipEnd, skip_of}
use Rattle.parse_machine.specs.Contexts.{Tall, Spoken, baseStatement, inBase, wThen, wElse, wWhile, wSwitch, wFor, wCase, wDefault, wLabel, Header, Outer, outBody, outBlock, outDo, outWrap, Place, placeFile, Declaring, Declared, Inner, Around, aroundCast, aroundSizeof, aroundParameter, aroundPlace, Listing, Attributed, onWords, onDeclared, onLabel, Fork, forkBlock, Waiting, waitTest, waitWhile, waitDo, waitDone, waitFor, waitDefault, waitGoto, waitBreak, waitContinue, waitVoid, waitList, waitAttribute, Mode, File, Ended, Specifiers, Enumeration, Tagged, Constant, Named, Attribute, Next, Behind, Listed, Parameters', Parameter, Skipped, Begin, Wait, Either, Goto, Operand, Maybe, Sizeof, Value, Label, Whole, Finished}
use Rattle.parse_machine.specs.Making as mk
use Rattle.parse_machine.specs.Making.{tall, wrapped}
use Rattle.parse_machine.specs.Heights as ht
use Rattle.parse_machine.specs.Heights.{is_list}
use Rattle.parse_machine.specs.Expressions as ex
use Rattle.parse_machine.specs.Specifiers as sp
use Rattle.parse_machine.specs.Declarations as decl
use Rattle.parse_machine.specs.Declarations.{Turn, turn, kept}
use Rattle.parse_machine.specs.Statements as stt
use Rattle.parse_machine.specs.Statements.{Settled, inBlock, inDo}
use Rattle.parse_machine.specs.Steps as steps
use Rattle.parse_laws.proofs.Fits.{scope, FitInner, FitFork, FitOuter, Stands, Fit}
use Rattle.first_token_laws.proofs.EndDecl.{IsSure}
use Rattle.first_token_laws.proofs.EndSt.{is_statement, wrap_shaped, wrap_stands}
use Rattle.first_token_laws.proofs.EndMode.{MayHave, SureWaiting, Sure, with_sure, fork_fits, binds_fit}
use Rattle.first_token_laws.proofs.SureEx.{SureMode, when_sure, if_sure, operand_sure, sizeof_sure, value_sure, maybe_sure, ended_sure}

abbrev pub SureTurn : Option Turn → Type 0
SureTurn None = Unit {0}
SureTurn (Some u) = Sure u.mode

kept_sure : (names : List (List ℕ)) (o : Option Mode) → SureMode o → SureTurn (kept names o)
kept_sure names None g = tt
kept_sure names (Some m) g = g

when_turn : (c : Bool) (u : Turn) → Sure u.mode → SureTurn (ex.when c u)
when_turn true u g = g
when_turn false u g = tt

-- Words.

word_sure : (s : Spoken) (w : Around) (x : Word) (o : Option Known) → SureMode (sp.with_word_said s w x o)
word_sure s w x None = tt
word_sure s w x (Some k) = tt

enum_sure : (at : ℕ) (s : Spoken) (w : Around) (o : Option Known) → SureMode (sp.enum_word at s w o)
enum_sure at s w None = tt
enum_sure at s w (Some k) = tt

function_sure : (d : Declared) (f : Tall Form) → ht.is_function f.value ≡ true → IsSure (mk.with_form d f)
function_sure d f h = λ n. absurd (never (ht.is_function f.value) (not (is_void d.around.spoken.told.typing)) h n)
  where
    never : (c x : Bool) → c ≡ true → (c || x) ≡ false → ⊥
    never true x h n = cc
    never false x h n = cc

cast_sure : (t : Symbol) (at : ℕ) (s : Spoken) (a : ℕ) (k : Inner) → SureMode (sp.behind_cast t at s a k)
cast_sure (sy.Close br.Round) at s a k = tt
cast_sure _ at s a k = tt

behind_sizeof_sure : (t : Symbol) (at : ℕ) (s : Spoken) (x a : ℕ) (k : Inner) → SureMode (full.behind_sizeof t at s x a k)
behind_sizeof_sure (sy.Close br.Round) at s x a k = tt
behind_sizeof_sure _ at s x a k = tt

behind_parameter_sure : (t : Symbol) (at : ℕ) (s : Spoken) (d : Declared) (a : ℕ) (ps : Tall Params) (c : Option ℕ) → SureMode (sp.behind_parameter t at s d a ps c)
behind_parameter_sure (sy.Name n) at s d a ps c = tt
behind_parameter_sure sy.Comma at s d a ps c = tt
behind_parameter_sure (sy.Close br.Round) at s d a ps c = function_sure d (tall (fFunction (pSome a (mk.param_more ps c s None).value at)) (mk.above (mk.param_more ps c s None).height)) refl
behind_parameter_sure _ at s d a ps c = tt

behind_place_sure : (t : Symbol) (at : ℕ) (s : Spoken) (p : Place) → SureMode (sp.behind_place t at s p)
behind_place_sure (sy.Name n) at s p = λ h. refl
behind_place_sure sy.Semicolon at s p = when_sure (not (is_void s.told.typing)) _ (ended_sure (mk.declaring p s mk.no_more) at)
behind_place_sure _ at s p = tt

behind_words_sure : (t : Symbol) (at : ℕ) (s : Spoken) (w : Around) → SureMode (full.behind_words t at s w)
behind_words_sure t at s (aroundCast a k) = cast_sure t at s a k
behind_words_sure t at s (aroundSizeof x a k) = behind_sizeof_sure t at s x a k
behind_words_sure t at s (aroundParameter d a ps c) = behind_parameter_sure t at s d a ps c
behind_words_sure t at s (aroundPlace p) = behind_place_sure t at s p

kind_sure : (x : SpecKind) (t : Symbol) (at : ℕ) (s : Spoken) (w : Around) → SureMode (full.step_kind x t at s w)
kind_sure (spType x) t at s w = word_sure s w (wType x at) (with_type (sp.site_of w) x s.told)
kind_sure (spStorage x) t at s w = word_sure s w (wStorage x at) (with_storage (sp.site_of w) x s.told)
kind_sure (spConst x) t at s w = tt
kind_sure spExtension t at s w = tt
kind_sure (spAttribute x) t at s w = tt
kind_sure spEnum t at s w = enum_sure at s w (with_named s.told)
kind_sure (spTypedef n) t at s w = word_sure s w (wTypedef n at) (with_named s.told)
kind_sure spOther t at s w = if_sure (is_typed s.told.typing) _ (behind_words_sure t at s w)

specs_sure : (names : List (List ℕ)) (t : Symbol) (at : ℕ) (s : Spoken) (w : Around) → SureMode (full.step_specs names t at s w)
specs_sure names t at s w = kind_sure (spec_of names t) t at s w

enumeration_sure : (names : List (List ℕ)) (t : Symbol) (at x : ℕ) (s : Spoken) (w : Around) → SureMode (sp.step_enumeration names t at x s w)
enumeration_sure names (sy.Name n) at x s w = when_sure (not (sh.has names n)) _ tt
enumeration_sure names (sy.Open br.Curly) at x s w = tt
enumeration_sure names _ at x s w = tt

tagged_sure : (names : List (List ℕ)) (t : Symbol) (at x : ℕ) (n : List ℕ) (y : ℕ) (s : Spoken) (w : Around) → SureMode (full.step_tagged names t at x n y s w)
tagged_sure names (sy.Open br.Curly) at x n y s w = tt
tagged_sure names t at x n y s w = specs_sure names t at (mk.said s s.told (wTag x n y) 1) w

list_end_sure : (at : ℕ) (l : Listing) (c : Option ℕ) → SureMode (sp.list_end at l c)
list_end_sure at l None = tt
list_end_sure at l (Some c) = tt

constant_sure : (names : List (List ℕ)) (t : Symbol) (at : ℕ) (l : Listing) → SureMode (sp.step_constant names t at l)
constant_sure names (sy.Name n) at l = when_sure (not (sh.has names n)) _ tt
constant_sure names (sy.Close br.Curly) at l = list_end_sure at l l.comma
constant_sure names _ at l = tt

named_sure : (t : Symbol) (at : ℕ) (l : Listing) (n : List ℕ) (x : ℕ) → SureMode (sp.step_named t at l n x)
named_sure (sy.Assign to.Plain) at l n x = tt
named_sure sy.Comma at l n x = tt
named_sure (sy.Close br.Curly) at l n x = tt
named_sure _ at l n x = tt

-- Declared names.

body_pick : (c : Bool) (m n : Mode) → Sure m → Sure n → Sure (if c then m else n)
body_pick true m n g h = g
body_pick false m n g h = h

body_form_sure : (names : List (List ℕ)) (f : Form) (at : ℕ) (d : Declared) → SureMode (decl.body_of_form names f at d)
body_form_sure names (fFunction ps) at d = body_pick (sh.is_skipped_name (decl.header d ps).name) _ _ tt tt
body_form_sure names fPlain at d = tt
body_form_sure names (fArray a e c) at d = tt

initial_form_sure : (f : Form) (at : ℕ) (d : Declared) → SureMode (decl.initial_of_form f at d)
initial_form_sure fPlain at d = tt
initial_form_sure (fArray a e c) at d = tt
initial_form_sure (fFunction ps) at d = tt

attribute_when : (c : Bool) (m : Mode) → (c ≡ true → Sure m) → SureMode (ex.when c m)
attribute_when true m g = g refl
attribute_when false m g = tt

behind_sure : (names : List (List ℕ)) (t : Symbol) (at : ℕ) (d : Declared) → SureTurn (decl.step_behind names t at d)
behind_sure names (sy.Open br.Round) at d = kept_sure names _ (when_sure (decl.may_be_function d) _ tt)
behind_sure names (sy.Open br.Square) at d = kept_sure names _ (when_sure (decl.may_be_array d) _ tt)
behind_sure names (sy.Open br.Curly) at d = kept_sure names _ (if_sure (ht.is_first d.around) _ (body_form_sure names d.form.value at d))
behind_sure names (sy.Attribute w) at d = kept_sure names _ (attribute_when (decl.may_have_attribute d) _ (λ h. h))
behind_sure names (sy.Assign to.Plain) at d = kept_sure names _ (if_sure (decl.is_object d.around.spoken.told) _ (initial_form_sure d.form.value at d))
behind_sure names sy.Comma at d = when_turn (decl.may_be_whole d) _ tt
behind_sure names sy.Semicolon at d = when_turn (decl.may_be_whole d) _ (ended_sure (mk.with_initial d iNothing 0) at)
behind_sure names _ at d = tt

next_name_sure : (names : List (List ℕ)) (t : Symbol) (at : ℕ) (d : Declaring) (c : ℕ) → SureMode (decl.step_next names t at d c)
next_name_sure names (sy.Name n) at d c = when_sure (not (sh.has names n)) _ (λ h. refl)
next_name_sure names _ at d c = tt

listed_sure : (t : Symbol) (at : ℕ) (d : Declaring) → SureMode (decl.step_listed t at d)
listed_sure sy.Comma at d = tt
listed_sure sy.Semicolon at d = ended_sure d at
listed_sure _ at d = tt

parameters_sure : (names : List (List ℕ)) (t : Symbol) (at : ℕ) (d : Declared) (a : ℕ) → SureMode (full.step_parameters names t at d a)
parameters_sure names (sy.Close br.Round) at d a = function_sure d (tall (fFunction (pUnknown a at)) 1) refl
parameters_sure names (sy.Type type.Void) at d a = tt
parameters_sure names t at d a = specs_sure names t at mk.unspoken (aroundParameter d a (tall no_params 0) None)

parameter_sure : (t : Symbol) (at : ℕ) (d : Declared) (a : ℕ) (ps : Tall Params) (c : Option ℕ) (s : Spoken) (n : List ℕ) (x : ℕ) → SureMode (decl.step_parameter t at d a ps c s n x)
parameter_sure sy.Comma at d a ps c s n x = tt
parameter_sure (sy.Close br.Round) at d a ps c s n x = function_sure d (tall (fFunction (pSome a (mk.param_more ps c s (Some (named n x))).value at)) (mk.above (mk.param_more ps c s (Some (named n x))).height)) refl
parameter_sure _ at d a ps c s n x = tt

-- Statements.

fork_words_fit : (file : List (List ℕ)) (f : Fork) (ats : List ℕ) → FitFork file f → FitInner file (stt.extension_binds ats (stt.fork_inner f))
fork_words_fit file f ats w = binds_fit file ats (stt.fork_inner f) (fork_fits file f w)

fork_kind_sure : (file names : List (List ℕ)) (x : SpecKind) (t : Symbol) (at : ℕ) (f : Fork) (ats : List ℕ) → FitFork file f → SureMode (full.fork_kind names x t at f ats)
fork_kind_sure file names spExtension t at f ats w = tt
fork_kind_sure file names spOther t at f ats w = maybe_sure file names t at (stt.extension_binds ats (stt.fork_inner f)) (fork_words_fit file f ats w)
fork_kind_sure file names (spType x) t at f ats w = specs_sure names t at _ (stt.fork_around f)
fork_kind_sure file names (spStorage x) t at f ats w = specs_sure names t at _ (stt.fork_around f)
fork_kind_sure file names (spConst x) t at f ats w = specs_sure names t at _ (stt.fork_around f)
fork_kind_sure file names (spAttribute x) t at f ats w = specs_sure names t at _ (stt.fork_around f)
fork_kind_sure file names spEnum t at f ats w = specs_sure names t at _ (stt.fork_around f)
fork_kind_sure file names (spTypedef n) t at f ats w = specs_sure names t at _ (stt.fork_around f)

either_sure : (file names : List (List ℕ)) (t : Symbol) (at : ℕ) (f : Fork) (ats : List ℕ) → FitFork file f → SureMode (full.step_either names t at f ats)
either_sure file names t at f ats w = fork_kind_sure file names (spec_of names t) t at f ats w

begin_word_sure : (w : StatementWord) (at : ℕ) (o : Outer) → SureMode (stt.begin_word w at o)
begin_word_sure key.Break at o = tt
begin_word_sure key.Case at o = tt
begin_word_sure key.Continue at o = tt
begin_word_sure key.Default at o = tt
begin_word_sure key.Do at o = tt
begin_word_sure key.Else at o = tt
begin_word_sure key.For at o = tt
begin_word_sure key.Goto at o = tt
begin_word_sure key.If at o = tt
begin_word_sure key.Return at o = tt
begin_word_sure key.Switch at o = tt
begin_word_sure key.While at o = tt

close_block_sure : (names : List (List ℕ)) (at : ℕ) (o : Outer) → SureTurn (stt.close_block names at o)
close_block_sure names at (outBody m h a ss) = tt
close_block_sure names at (outBlock m a ss o) = tt
close_block_sure names at (outDo x o) = tt
close_block_sure names at (outWrap w o) = tt

other_sure : (file names : List (List ℕ)) (t : Symbol) (at : ℕ) (o : Outer) (c : Bool) → is_list o ≡ c → FitOuter file o → SureMode (if c then full.step_either names t at (forkBlock o) [] else full.step_operand names (prefix_of t) at (inBase (baseStatement o)))
other_sure file names t at o true e f = either_sure file names t at (forkBlock o) [] (e, f)
other_sure file names t at o false e f = operand_sure names (prefix_of t) at (inBase (baseStatement o))

start_sure : (file names : List (List ℕ)) (x : Start) (t : Symbol) (at : ℕ) (o : Outer) → FitOuter file o → SureTurn (full.step_start names x t at o)
start_sure file names startEmpty t at o f = tt
start_sure file names startOpen t at o f = tt
start_sure file names startClose t at o f = close_block_sure names at o
start_sure file names (startWord w) t at o f = kept_sure names _ (begin_word_sure w at o)
start_sure file names startOther t at o f = kept_sure names _ (other_sure file names t at o (is_list o) refl f)

begin_sure : (file names : List (List ℕ)) (t : Symbol) (at : ℕ) (o : Outer) → FitOuter file o → SureTurn (full.step_begin names t at o)
begin_sure file names t at o f = start_sure file names (start_of t) t at o f

goto_sure : (names : List (List ℕ)) (t : Symbol) (at x : ℕ) (o : Outer) → SureMode (stt.step_goto names t at x o)
goto_sure names (sy.Name n) at x o = when_sure (not (sh.has names n)) _ tt
goto_sure names _ at x o = tt

label_sure : (file names : List (List ℕ)) (t : Symbol) (at : ℕ) (n : List ℕ) (x y : ℕ) (ats : Ats) (o : Outer) → FitOuter file (outWrap (wLabel n x y ats) o) → SureTurn (full.step_label names t at n x y ats o)
label_sure file names (sy.Attribute w) at n x y ats o f = tt
label_sure file names t at n x y ats o f = begin_sure file names t at (outWrap (wLabel n x y ats) o) f

arrived_sure : (names : List (List ℕ)) (at : ℕ) (x : Waiting) → SureWaiting x → Sure (stt.arrived names at x)
arrived_sure names at (waitTest t x o) z = tt
arrived_sure names at (waitWhile x s o) z = tt
arrived_sure names at (waitDo x s y o) z = tt
arrived_sure names at (waitDone x s h o) z = tt
arrived_sure names at (waitFor x o) z = tt
arrived_sure names at (waitDefault x o) z = tt
arrived_sure names at (waitGoto x n y o) z = tt
arrived_sure names at (waitBreak x o) z = tt
arrived_sure names at (waitContinue x o) z = tt
arrived_sure names at (waitVoid d a x) z = function_sure d (tall (fFunction (pVoid a x at)) 1) refl
arrived_sure names at (waitList d x) z = tt
arrived_sure names at (waitAttribute w x y) z = z

wait_sure : (names : List (List ℕ)) (t : Symbol) (at : ℕ) (x : Waiting) → SureWaiting x → SureMode (stt.step_wait names t at x)
wait_sure names t at x z = when_sure (is_awaited (stt.awaited x) t) _ (arrived_sure names at x z)

otherwise_sure : (names : List (List ℕ)) (at : ℕ) (o : Outer) (s : St) → SureTurn (stt.otherwise names at o s)
otherwise_sure names at (outBody m h a ss) s = tt
otherwise_sure names at (outBlock m a ss o) s = tt
otherwise_sure names at (outDo x o) s = tt
otherwise_sure names at (outWrap (wThen h) o) s = tt
otherwise_sure names at (outWrap (wElse h a x) o) s = otherwise_sure names at o _
otherwise_sure names at (outWrap (wWhile h) o) s = otherwise_sure names at o _
otherwise_sure names at (outWrap (wSwitch h) o) s = otherwise_sure names at o _
otherwise_sure names at (outWrap (wFor m h) o) s = otherwise_sure _ at o _
otherwise_sure names at (outWrap (wCase x e c) o) s = otherwise_sure names at o _
otherwise_sure names at (outWrap (wDefault x c) o) s = otherwise_sure names at o _
otherwise_sure names at (outWrap (wLabel n x c ats) o) s = otherwise_sure names at o _

settled_sure : (file names ns : List (List ℕ)) (t : Symbol) (at : ℕ) (o : Outer) (s : St) → FitOuter file o → sh.ShapedStatement s (scope file o) → Stands s o → SureTurn (full.step_settled t at (stt.settle names o s))
settled_sure file names ns t at (outBody m h a ss) s f g d = begin_sure file names t at (outBody m h a (statements_and ss s)) (f.0, f.1, f.2, (f.3, g))
settled_sure file names ns t at (outBlock m a ss o) s f g d = begin_sure file names t at (outBlock m a (statements_and ss s) o) (f.0, (f.1, g), f.2)
settled_sure file names ns t at (outDo x o) s f g d = kept_sure names _ (wait_sure names t at (waitWhile x s o) tt)
settled_sure file names ns t at (outWrap w o) s f g d = settled_sure file (stt.left w names) ns t at o (wrapped w s) f.1 (wrap_shaped (scope file o) w s f.0 (is_statement s (outWrap w o) refl d) g) (wrap_stands w s o)

whole_sure : (file names : List (List ℕ)) (t : Symbol) (at : ℕ) (s : St) (o : Outer) → Fit file (Whole s o) → SureTurn (full.step_whole names t at s o)
whole_sure file names t at s o f = pick (is_else t)
  where
    pick : (c : Bool) → SureTurn (if c then stt.otherwise names at o s else full.step_settled t at (stt.settle names o s))
    pick true = otherwise_sure names at o s
    pick false = settled_sure file names names t at o s f.3 f.2 f.1

-- Tokens that are kept, and where an item is to come.

with_attribute_sure : (y : Attributed) (x : At) → MayHave y → Sure (steps.with_attribute y x)
with_attribute_sure (onWords s w) x z = tt
with_attribute_sure (onDeclared d) x z = with_sure d x z
with_attribute_sure (onLabel n a c ats o) x z = tt

attribute_sure : (k : Skip) (t : SymbolAt) (w : AttributeWord) (x a : ℕ) (r : Raw) (y : Attributed) → MayHave y → SureMode (steps.attribute_skip k t w x a r y)
attribute_sure (skipOn n) t w x a r y z = z
attribute_sure skipClose t w x a r y z = with_attribute_sure y (attribute w x a r t.at) z
attribute_sure skipEnd t w x a r y z = tt

body_sure : (k : Skip) (t : SymbolAt) (h : Header) (a : ℕ) (r : Raw) → SureMode (steps.body_skip k t h a r)
body_sure (skipOn n) t h a r = tt
body_sure skipClose t h a r = tt
body_sure skipEnd t h a r = tt

file_sure : (names : List (List ℕ)) (t : Symbol) (at : ℕ) → SureMode (full.step_file names t at)
file_sure names sy.Semicolon at = tt
file_sure names sy.End at = tt
file_sure names t at = specs_sure names t at mk.unspoken (aroundPlace placeFile)

pub next_sure : (file names : List (List ℕ)) (t : SymbolAt) (m : Mode) → Fit file m → Sure m → SureTurn (full.next names t m)
next_sure file names t File f z = kept_sure names _ (file_sure names t.symbol t.at)
next_sure file names t (Ended i h) f z = tt
next_sure file names t (Specifiers s w) f z = kept_sure names _ (specs_sure names t.symbol t.at s w)
next_sure file names t (Enumeration x s w) f z = kept_sure names _ (enumeration_sure names t.symbol t.at x s w)
next_sure file names t (Tagged x n y s w) f z = kept_sure names _ (tagged_sure names t.symbol t.at x n y s w)
next_sure file names t (Constant l) f z = kept_sure names _ (constant_sure names t.symbol t.at l)
next_sure file names t (Named l n x) f z = kept_sure names _ (named_sure t.symbol t.at l n x)
next_sure file names t (Attribute w x a r n y) f z = kept_sure names _ (attribute_sure (skip_of br.Round t.symbol n) t w x a r y z)
next_sure file names t (Next d c) f z = kept_sure names _ (next_name_sure names t.symbol t.at d c)
next_sure file names t (Behind d) f z = behind_sure names t.symbol t.at d
next_sure file names t (Listed d) f z = kept_sure names _ (listed_sure t.symbol t.at d)
next_sure file names t (Parameters' d a) f z = kept_sure names _ (parameters_sure names t.symbol t.at d a)
next_sure file names t (Parameter d a ps c s n x) f z = kept_sure names _ (parameter_sure t.symbol t.at d a ps c s n x)
next_sure file names t (Skipped h a r n) f z = kept_sure names _ (body_sure (skip_of br.Curly t.symbol n) t h a r)
next_sure file names t (Begin o) f z = begin_sure file names t.symbol t.at o f
next_sure file names t (Wait x) f z = kept_sure names _ (wait_sure names t.symbol t.at x z)
next_sure file names t (Either g ats) f z = kept_sure names _ (either_sure file names t.symbol t.at g ats f)
next_sure file names t (Goto x o) f z = kept_sure names _ (goto_sure names t.symbol t.at x o)
next_sure file names t (Operand k) f z = kept_sure names _ (operand_sure names (prefix_of t.symbol) t.at k)
next_sure file names t (Maybe k) f z = kept_sure names _ (maybe_sure file names t.symbol t.at k f)
next_sure file names t (Sizeof x k) f z = kept_sure names _ (sizeof_sure names (prefix_of t.symbol) t.at x k)
next_sure file names t (Value e k) f z = kept_sure names _ (value_sure file (suffix_of t.symbol) t.at e k f.2)
next_sure file names t (Label n x y ats o) f z = label_sure file names t.symbol t.at n x y ats o ((f.0, f.1), f.2)
next_sure file names t (Whole s o) f z = whole_sure file names t.symbol t.at s o f
next_sure file names t Finished f z = tt
