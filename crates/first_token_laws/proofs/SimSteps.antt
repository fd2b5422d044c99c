-- Modes that differ in their trees alone do the same, where one machine drops what is too high and the other keeps it: one
-- token, in each mode.
use Rattle.std.proofs.Common.{◌≡◌, ℕ, List, [], ◌∷◌, ◌++◌, length, take, Option, None, Some, Bool, true, false, ◌&&◌, ◌||◌, not, if◌then◌else◌, refl, subst, ap, ◌∙◌}
use Rattle.c_tree.specs.declared.symbol.AssignOp.TheVariants as to
use Rattle.c_tree.specs.declared.symbol.Bracket.TheVariants as br
use Rattle.c_tree.specs.declared.symbol.AttributeWord.{AttributeWord}
use Rattle.c_tree.specs.declared.symbol.StatementWord.{StatementWord}
use Rattle.c_tree.specs.declared.symbol.StatementWord.TheVariants as key
use Rattle.c_tree.specs.declared.symbol.TypeWord.TheVariants as type
use Rattle.c_tree.specs.declared.symbol.Symbol.{Symbol}
use Rattle.c_tree.specs.declared.symbol.Symbol.TheVariants as sy
use Rattle.c_tree.specs.declared.symbol.SymbolAt.{SymbolAt}
use Rattle.c_tree.specs.declared.tree.PrefixOp.TheVariants as pre
use Rattle.c_tree.specs.declared.known.Site.{Site}
use Rattle.c_tree.specs.declared.known.Known.{Known}
use Rattle.std.specs.Prelude.{codes}
use Rattle.std.specs.Str.{bytes_eq}
use Rattle.c_tree.specs.Shape as sh
use Rattle.c_tree.specs.Words.{with_type, with_storage, with_named, is_typed, is_typedef, is_void}
use Rattle.c_tree.specs.Tree.{Raw, no_raw, Ats, At, attribute, Params, no_params, Form, fPlain, fArray, fFunction, iNothing, St, no_statements, statements_and, eSizeof, Word, wType, wStorage, wTypedef, wTag}
use Rattle.parse_machine.specs.Tokens.{prefix_of, suffix_of, SpecKind, spType, spStorage, spConst, spExtension, spAttribute, spEnum, spTypedef, spOther, spec_of, Start, startEmpty, startOpen, startClose, startWord, startOther, start_of, is_else, is_awaited, Skip, skipOn, skipClose, skipEnd, skip_of}
use Rattle.parse_machine.specs.Contexts.{Tall, Spoken, bPrefix, baseStatement, baseLength, Wrap, wThen, wElse, wWhile, wSwitch, wFor, wCase, wDefault, wLabel, Header, Outer, outBody, outBlock, outDo, outWrap, Place, placeFile, placeBlock, placeFor, Declaring, Declared, Inner, inBase, inBind, Around, aroundCast, aroundSizeof, aroundParameter, aroundPlace, Listing, Attributed, onWords, onDeclared, onLabel, Fork, forkCast, forkSizeof, forkBlock, forkFor, Waiting, waitTest, waitWhile, waitDo, waitDone, waitFor, waitDefault, waitGoto, waitBreak, waitContinue, waitVoid, waitList, waitAttribute, Mode, File, Ended, Specifiers, Enumeration, Tagged, Constant, Named, Attribute, Next, Behind, Listed, Parameters', Parameter, Skipped, Begin, Wait, Either, Goto, Operand, Maybe, Sizeof, Value, Label, Whole, Finished}
use Rattle.parse_machine.specs.Making as mk
use Rattle.parse_machine.specs.Making.{tall, wrapped}
use Rattle.parse_machine.specs.Heights as ht
use Rattle.parse_machine.specs.Heights.{is_list, site_of_place, is_placed_in_file, is_first}
use Rattle.parse_machine.specs.Expressions as ex
use Rattle.parse_machine.specs.Specifiers as sp
use Rattle.parse_machine.specs.Declarations as decl
use Rattle.parse_machine.specs.Declarations.{Turn, turn, kept}
use Rattle.parse_machine.specs.Statements as stt
use Rattle.parse_machine.specs.Statements.{Settled, inBlock, inDo}
use Rattle.parse_machine.specs.Steps as steps
use Rattle.first_token_laws.proofs.Full as full
use Rattle.first_token_laws.proofs.Sim.{is_there, SimForm, SimWrap, SimOuter, SimPlace, SimSpoken, SimDeclaring, SimDeclared, SimInner, SimAround, SimListing, SimAttributed, SimFork, SimWaiting, SimMode, SimModes, SimTurns}
use Rattle.first_token_laws.proofs.SimEx.{when_sim, if_sim, part_sim, operand_sim, sizeof_sim, value_sim, maybe_sim, ended_sim}

kept_sim : (ns ms : List (List ℕ)) (o q : Option Mode) → ns ≡ ms → SimModes o q → SimTurns (kept ns o) (kept ms q)
kept_sim ns ms None None e s = tt
kept_sim ns ms (Some m) (Some n) e s = (e, s)
kept_sim ns ms None (Some n) e s = absurd s
kept_sim ns ms (Some m) None e s = absurd s

when_turn : (c d : Bool) (u v : Turn) → c ≡ d → (u.names ≡ v.names) × SimMode u.mode v.mode → SimTurns (ex.when c u) (ex.when d v)
when_turn true true u v e s = s
when_turn true false u v e s = cc
when_turn false true u v e s = cc
when_turn false false u v e s = tt

-- Words.

site_of_place_sim : (p q : Place) → SimPlace p q → site_of_place p ≡ site_of_place q
site_of_place_sim placeFile placeFile s = refl
site_of_place_sim (placeBlock o) (placeBlock p) s = refl
site_of_place_sim (placeFor m at a o) (placeFor n x c p) s = refl
site_of_place_sim _ _ s = absurd s

placed_sim : (p q : Place) → SimPlace p q → is_placed_in_file p ≡ is_placed_in_file q
placed_sim placeFile placeFile s = refl
placed_sim (placeBlock o) (placeBlock p) s = refl
placed_sim (placeFor m at a o) (placeFor n x c p) s = refl
placed_sim _ _ s = absurd s

site_sim : (w v : Around) → SimAround w v → sp.site_of w ≡ sp.site_of v
site_sim (aroundCast a k) (aroundCast c l) s = refl
site_sim (aroundSizeof at a k) (aroundSizeof x c l) s = refl
site_sim (aroundParameter d a ps c) (aroundParameter e x qs y) s = refl
site_sim (aroundPlace p) (aroundPlace q) s = site_of_place_sim p q s
site_sim _ _ s = absurd s

word_sim : (s t : Spoken) (w v : Around) (x : Word) (o q : Option Known) → o ≡ q → SimAround w v → SimModes (sp.with_word_said s w x o) (sp.with_word_said t v x q)
word_sim s t w v x None None e r = tt
word_sim s t w v x (Some k) (Some n) e r = (some_same k n e, r)
  where
    some_same : (a c : Known) → Some a ≡ Some c → a ≡ c
    some_same a c h = cc
word_sim s t w v x None (Some n) e r = cc
word_sim s t w v x (Some k) None e r = cc

enum_sim : (at : ℕ) (s t : Spoken) (w v : Around) (o q : Option Known) → o ≡ q → SimAround w v → SimModes (sp.enum_word at s w o) (sp.enum_word at t v q)
enum_sim at s t w v None None e r = tt
enum_sim at s t w v (Some k) (Some n) e r = (some_same k n e, r)
  where
    some_same : (a c : Known) → Some a ≡ Some c → a ≡ c
    some_same a c h = cc
enum_sim at s t w v None (Some n) e r = cc
enum_sim at s t w v (Some k) None e r = cc

cast_sim : (t : Symbol) (at : ℕ) (s u : Spoken) (a c : ℕ) (k l : Inner) → SimInner k l → SimModes (sp.behind_cast t at s a k) (sp.behind_cast t at u c l)
cast_sim (sy.Close br.Round) at s u a c k l r = (tt, r)
cast_sim _ at s u a c k l r = tt

behind_sizeof_sim : (t : Symbol) (at : ℕ) (s u : Spoken) (x y a c : ℕ) (k l : Inner) → SimInner k l → SimModes (sp.behind_sizeof t at s x a k) (full.behind_sizeof t at u y c l)
behind_sizeof_sim (sy.Close br.Round) at s u x y a c k l r = (part_sim 14 (mk.above (mk.above s.height)) (mk.above (mk.above u.height)) (eSizeof x a s.words at) (eSizeof y c u.words at) refl refl, r)
behind_sizeof_sim _ at s u x y a c k l r = tt

behind_parameter_sim : (t : Symbol) (at : ℕ) (s u : Spoken) (d e : Declared) (a x : ℕ) (ps qs : Tall Params) (c y : Option ℕ) → SimDeclared d e → SimModes (sp.behind_parameter t at s d a ps c) (sp.behind_parameter t at u e x qs y)
behind_parameter_sim (sy.Name n) at s u d e a x ps qs c y r = r
behind_parameter_sim sy.Comma at s u d e a x ps qs c y r = (refl, r)
behind_parameter_sim (sy.Close br.Round) at s u d e a x ps qs c y r = (r.0, r.1, tt, r.3)
behind_parameter_sim _ at s u d e a x ps qs c y r = tt

behind_place_sim : (t : Symbol) (at : ℕ) (s u : Spoken) (p q : Place) → SimSpoken s u → SimPlace p q → SimModes (sp.behind_place t at s p) (sp.behind_place t at u q)
behind_place_sim (sy.Name n) at s u p q e r = ((r, e, refl), refl, tt, refl)
behind_place_sim sy.Semicolon at s u p q e r = when_sim _ _ _ _ (ap (λ z. not (is_void z.typing)) e) (ended_sim (mk.declaring p s mk.no_more) (mk.declaring q u mk.no_more) at (r, e, refl))
behind_place_sim _ at s u p q e r = tt

behind_words_sim : (t : Symbol) (at : ℕ) (s u : Spoken) (w v : Around) → SimSpoken s u → SimAround w v → SimModes (sp.behind_words t at s w) (full.behind_words t at u v)
behind_words_sim t at s u (aroundCast a k) (aroundCast c l) e r = cast_sim t at s u a c k l r
behind_words_sim t at s u (aroundSizeof x a k) (aroundSizeof y c l) e r = behind_sizeof_sim t at s u x y a c k l r
behind_words_sim t at s u (aroundParameter d a ps c) (aroundParameter f x qs y) e r = behind_parameter_sim t at s u d f a x ps qs c y r
behind_words_sim t at s u (aroundPlace p) (aroundPlace q) e r = behind_place_sim t at s u p q e r
behind_words_sim t at s u _ _ e r = absurd r

kind_sim : (x : SpecKind) (t : Symbol) (at : ℕ) (s u : Spoken) (w v : Around) → SimSpoken s u → SimAround w v → SimModes (sp.step_kind x t at s w) (full.step_kind x t at u v)
kind_sim (spType x) t at s u w v e r = word_sim s u w v (wType x at) _ _ (ap (λ z. with_type z x s.told) (site_sim w v r) ∙ ap (with_type (sp.site_of v) x) e) r
kind_sim (spStorage x) t at s u w v e r = word_sim s u w v (wStorage x at) _ _ (ap (λ z. with_storage z x s.told) (site_sim w v r) ∙ ap (with_storage (sp.site_of v) x) e) r
kind_sim (spConst x) t at s u w v e r = (e, r)
kind_sim spExtension t at s u w v e r = (e, r)
kind_sim (spAttribute x) t at s u w v e r = (e, r)
kind_sim spEnum t at s u w v e r = enum_sim at s u w v (with_named s.told) (with_named u.told) (ap with_named e) r
kind_sim (spTypedef n) t at s u w v e r = word_sim s u w v (wTypedef n at) (with_named s.told) (with_named u.told) (ap with_named e) r
kind_sim spOther t at s u w v e r = if_sim (is_typed s.told.typing) (is_typed u.told.typing) _ _ (ap (λ z. is_typed z.typing) e) (behind_words_sim t at s u w v e r)

specs_sim : (names : List (List ℕ)) (t : Symbol) (at : ℕ) (s u : Spoken) (w v : Around) → SimSpoken s u → SimAround w v → SimModes (sp.step_specs names t at s w) (full.step_specs names t at u v)
specs_sim names t at s u w v e r = kind_sim (spec_of names t) t at s u w v e r

enumeration_sim : (names : List (List ℕ)) (t : Symbol) (at x y : ℕ) (s u : Spoken) (w v : Around) → SimSpoken s u → SimAround w v → SimModes (sp.step_enumeration names t at x s w) (sp.step_enumeration names t at y u v)
enumeration_sim names (sy.Name n) at x y s u w v e r = when_sim (not (sh.has names n)) (not (sh.has names n)) (Tagged x n at s w) (Tagged y n at u v) refl (e, r)
enumeration_sim names (sy.Open br.Curly) at x y s u w v e r = (r, e, refl)
enumeration_sim names _ at x y s u w v e r = tt

tagged_sim : (names : List (List ℕ)) (t : Symbol) (at x z : ℕ) (n m : List ℕ) (y q : ℕ) (s u : Spoken) (w v : Around) → SimSpoken s u → SimAround w v → SimModes (sp.step_tagged names t at x n y s w) (full.step_tagged names t at z m q u v)
tagged_sim names (sy.Open br.Curly) at x z n m y q s u w v e r = (r, e, refl)
tagged_sim names t at x z n m y q s u w v e r = specs_sim names t at (mk.said s s.told (wTag x n y) 1) (mk.said u u.told (wTag z m q) 1) w v e r

list_end_sim : (at : ℕ) (l m : Listing) (c d : Option ℕ) → is_there c ≡ is_there d → SimListing l m → SimModes (sp.list_end at l c) (sp.list_end at m d)
list_end_sim at l m None None e s = tt
list_end_sim at l m (Some c) (Some d) e s = (s.1, s.0)
list_end_sim at l m None (Some d) e s = cc
list_end_sim at l m (Some c) None e s = cc

constant_sim : (names : List (List ℕ)) (t : Symbol) (at : ℕ) (l m : Listing) → SimListing l m → SimModes (sp.step_constant names t at l) (sp.step_constant names t at m)
constant_sim names (sy.Name n) at l m s = when_sim (not (sh.has names n)) (not (sh.has names n)) (Named l n at) (Named m n at) refl s
constant_sim names (sy.Close br.Curly) at l m s = list_end_sim at l m l.comma m.comma s.2 s
constant_sim names _ at l m s = tt

named_sim : (t : Symbol) (at : ℕ) (l m : Listing) (n o : List ℕ) (x y : ℕ) → SimListing l m → SimModes (sp.step_named t at l n x) (sp.step_named t at m o y)
named_sim (sy.Assign to.Plain) at l m n o x y s = (s.0, s.1)
named_sim sy.Comma at l m n o x y s = (s.0, s.1, refl)
named_sim (sy.Close br.Curly) at l m n o x y s = (s.1, s.0)
named_sim _ at l m n o x y s = tt

-- Declared names.

plain_sim : (f g : Form) → SimForm f g → decl.is_plain f ≡ decl.is_plain g
plain_sim fPlain fPlain s = refl
plain_sim (fArray a None c) (fArray x None y) s = refl
plain_sim (fArray a (Some e) c) (fArray x (Some f) y) s = refl
plain_sim (fFunction ps) (fFunction qs) s = refl
plain_sim _ _ s = absurd s

function_sim : (f g : Form) → SimForm f g → ht.is_function f ≡ ht.is_function g
function_sim fPlain fPlain s = refl
function_sim (fArray a None c) (fArray x None y) s = refl
function_sim (fArray a (Some e) c) (fArray x (Some f) y) s = refl
function_sim (fFunction ps) (fFunction qs) s = refl
function_sim _ _ s = absurd s

declares_sim : (p q : Site) (k n : Known) (f g : Form) → p ≡ q → k ≡ n → SimForm f g → sh.may_declare p k f iNothing ≡ sh.may_declare q n g iNothing
declares_sim p q k n fPlain fPlain e r s = ap (λ z. not (is_void z.typing)) r
declares_sim p q k n (fArray a None c) (fArray x None y) e r s = refl
declares_sim p q k n (fArray a (Some v) c) (fArray x (Some w) y) e r s = ap (λ z. not (is_void z.typing) && not (is_typedef z.storage)) r
declares_sim p q k n (fFunction ps) (fFunction qs) e r s = ap (λ z. sh.is_file z && not (is_typedef k.storage)) e ∙ ap (λ z. sh.is_file q && not (is_typedef z.storage)) r
declares_sim p q k n _ _ e r s = absurd s

and_same : (a c d f : Bool) → a ≡ c → d ≡ f → (a && d) ≡ (c && f)
and_same a c d f g h = ap (λ z. z && d) g ∙ ap (λ z. c && z) h

bare_sim : (d e : Declared) → SimDeclared d e → decl.is_bare d ≡ decl.is_bare e
bare_sim d e s = and_same (decl.is_plain d.form.value) (decl.is_plain e.form.value) _ _ (plain_sim d.form.value e.form.value s.2) s.3

object_sim : (d e : Declared) → SimDeclared d e → decl.is_object d.around.spoken.told ≡ decl.is_object e.around.spoken.told
object_sim d e s = ap decl.is_object s.0.1

function_may_sim : (d e : Declared) → SimDeclared d e → decl.may_be_function d ≡ decl.may_be_function e
function_may_sim d e s =
    and_same (decl.is_bare d && is_placed_in_file d.around.place) (decl.is_bare e && is_placed_in_file e.around.place) _ _ (and_same (decl.is_bare d) (decl.is_bare e) _ _ (bare_sim d e s) (placed_sim d.around.place e.around.place s.0.0)) (ap (λ z. not (is_typedef z.storage)) s.0.1)

array_may_sim : (d e : Declared) → SimDeclared d e → decl.may_be_array d ≡ decl.may_be_array e
array_may_sim d e s = and_same (decl.is_bare d) (decl.is_bare e) _ _ (bare_sim d e s) (object_sim d e s)

pub attribute_may_sim : (d e : Declared) → SimDeclared d e → decl.may_have_attribute d ≡ decl.may_have_attribute e
attribute_may_sim d e s = ap (λ z. z || not (is_void d.around.spoken.told.typing)) (function_sim d.form.value e.form.value s.2) ∙ ap (λ z. ht.is_function e.form.value || not (is_void z.typing)) s.0.1

whole_may_sim : (d e : Declared) → SimDeclared d e → decl.may_be_whole d ≡ decl.may_be_whole e
whole_may_sim d e s = declares_sim _ _ d.around.spoken.told e.around.spoken.told d.form.value e.form.value (site_of_place_sim d.around.place e.around.place s.0.0) s.0.1 s.2

first_sim : (d e : Declaring) → SimDeclaring d e → is_first d ≡ is_first e
first_sim d e s = and_same (is_placed_in_file d.place) (is_placed_in_file e.place) _ _ (placed_sim d.place e.place s.0) s.2

names_with_sim : (d e : Declared) (names : List (List ℕ)) → SimDeclared d e → decl.names_with d names ≡ decl.names_with e names
names_with_sim d e names s = ap (λ z. if is_typedef z.storage then names ++ d.name ∷ [] else names) s.0.1 ∙ ap (λ z. if is_typedef e.around.spoken.told.storage then names ++ z ∷ [] else names) s.1

more_sim : (d e : Declared) → SimDeclared d e → SimDeclaring (mk.with_initial d iNothing 0) (mk.with_initial e iNothing 0)
more_sim d e s = (s.0.0, s.0.1, refl)

body_pick : (c d : Bool) (m n x y : Mode) → c ≡ d → SimMode m x → SimMode n y → SimMode (if c then m else n) (if d then x else y)
body_pick true true m n x y e s t = s
body_pick true false m n x y e s t = cc
body_pick false true m n x y e s t = cc
body_pick false false m n x y e s t = t

body_form_sim : (names : List (List ℕ)) (f g : Form) (at : ℕ) (d e : Declared) → SimForm f g → d.name ≡ e.name → SimModes (decl.body_of_form names f at d) (decl.body_of_form names g at e)
body_form_sim names (fFunction ps) (fFunction qs) at d e s r =
    body_pick (sh.is_skipped_name (decl.header d ps).name) (sh.is_skipped_name (decl.header e qs).name) (Skipped (decl.header d ps) at no_raw 0) (Begin (outBody (length names) (decl.header d ps) at no_statements)) (Skipped (decl.header e qs) at no_raw 0) (Begin (outBody (length names) (decl.header e qs) at no_statements))
    (ap (λ z. bytes_eq z (codes "reach_error")) r) refl refl
body_form_sim names fPlain fPlain at d e s r = tt
body_form_sim names (fArray a None c) (fArray x None y) at d e s r = tt
body_form_sim names (fArray a (Some v) c) (fArray x (Some w) y) at d e s r = tt
body_form_sim names _ _ at d e s r = absurd s

initial_form_sim : (f g : Form) (at : ℕ) (d e : Declared) → SimForm f g → SimDeclared d e → SimModes (decl.initial_of_form f at d) (decl.initial_of_form g at e)
initial_form_sim fPlain fPlain at d e s r = r
initial_form_sim (fArray a None c) (fArray x None y) at d e s r = r
initial_form_sim (fArray a (Some v) c) (fArray x (Some w) y) at d e s r = r
initial_form_sim (fFunction ps) (fFunction qs) at d e s r = tt
initial_form_sim _ _ at d e s r = absurd s

behind_sim : (names : List (List ℕ)) (t : Symbol) (at : ℕ) (d e : Declared) → SimDeclared d e → SimTurns (decl.step_behind names t at d) (decl.step_behind names t at e)
behind_sim names (sy.Open br.Round) at d e s = kept_sim names names (ex.when (decl.may_be_function d) (Parameters' d at)) (ex.when (decl.may_be_function e) (Parameters' e at)) refl (when_sim (decl.may_be_function d) (decl.may_be_function e) (Parameters' d at) (Parameters' e at) (function_may_sim d e s) s)
behind_sim names (sy.Open br.Square) at d e s = kept_sim names names (ex.when (decl.may_be_array d) (Maybe (inBase (baseLength d at)))) (ex.when (decl.may_be_array e) (Maybe (inBase (baseLength e at)))) refl (when_sim (decl.may_be_array d) (decl.may_be_array e) (Maybe (inBase (baseLength d at))) (Maybe (inBase (baseLength e at))) (array_may_sim d e s) s)
behind_sim names (sy.Open br.Curly) at d e s = kept_sim names names (if is_first d.around then decl.body_of_form names d.form.value at d else None) (if is_first e.around then decl.body_of_form names e.form.value at e else None) refl (if_sim (is_first d.around) (is_first e.around) (decl.body_of_form names d.form.value at d) (decl.body_of_form names e.form.value at e) (first_sim d.around e.around s.0) (body_form_sim names d.form.value e.form.value at d e s.2 s.1))
behind_sim names (sy.Attribute w) at d e s = kept_sim names names (ex.when (decl.may_have_attribute d) (Wait (waitAttribute w at (onDeclared d)))) (ex.when (decl.may_have_attribute e) (Wait (waitAttribute w at (onDeclared e)))) refl (when_sim (decl.may_have_attribute d) (decl.may_have_attribute e) (Wait (waitAttribute w at (onDeclared d))) (Wait (waitAttribute w at (onDeclared e))) (attribute_may_sim d e s) s)
behind_sim names (sy.Assign to.Plain) at d e s = kept_sim names names (if decl.is_object d.around.spoken.told then decl.initial_of_form d.form.value at d else None) (if decl.is_object e.around.spoken.told then decl.initial_of_form e.form.value at e else None) refl (if_sim (decl.is_object d.around.spoken.told) (decl.is_object e.around.spoken.told) (decl.initial_of_form d.form.value at d) (decl.initial_of_form e.form.value at e) (object_sim d e s) (initial_form_sim d.form.value e.form.value at d e s.2 s))
behind_sim names sy.Comma at d e s = when_turn (decl.may_be_whole d) (decl.may_be_whole e) _ _ (whole_may_sim d e s) (names_with_sim d e names s, more_sim d e s)
behind_sim names sy.Semicolon at d e s = when_turn (decl.may_be_whole d) (decl.may_be_whole e) _ _ (whole_may_sim d e s) (names_with_sim d e names s, ended_sim (mk.with_initial d iNothing 0) (mk.with_initial e iNothing 0) at (more_sim d e s))
behind_sim names _ at d e s = tt

next_name_sim : (names : List (List ℕ)) (t : Symbol) (at : ℕ) (d e : Declaring) (c x : ℕ) → SimDeclaring d e → SimModes (decl.step_next names t at d c) (decl.step_next names t at e x)
next_name_sim names (sy.Name n) at d e c x s = when_sim (not (sh.has names n)) (not (sh.has names n)) (Behind (mk.declared_plain d (Some c) n at)) (Behind (mk.declared_plain e (Some x) n at)) refl (s, refl, tt, refl)
next_name_sim names _ at d e c x s = tt

listed_sim : (t : Symbol) (at : ℕ) (d e : Declaring) → SimDeclaring d e → SimModes (decl.step_listed t at d) (decl.step_listed t at e)
listed_sim sy.Comma at d e s = s
listed_sim sy.Semicolon at d e s = ended_sim d e at s
listed_sim _ at d e s = tt

parameters_sim : (names : List (List ℕ)) (t : Symbol) (at : ℕ) (d e : Declared) (a c : ℕ) → SimDeclared d e → SimModes (decl.step_parameters names t at d a) (full.step_parameters names t at e c)
parameters_sim names (sy.Close br.Round) at d e a c s = (s.0, s.1, tt, s.3)
parameters_sim names (sy.Type type.Void) at d e a c s = s
parameters_sim names t at d e a c s = specs_sim names t at mk.unspoken mk.unspoken (aroundParameter d a (tall no_params 0) None) (aroundParameter e c (tall no_params 0) None) refl s

parameter_sim : (t : Symbol) (at : ℕ) (d e : Declared) (a x : ℕ) (ps qs : Tall Params) (c y : Option ℕ) (s u : Spoken) (n m : List ℕ) (z w : ℕ) → SimDeclared d e → SimModes (decl.step_parameter t at d a ps c s n z) (decl.step_parameter t at e x qs y u m w)
parameter_sim sy.Comma at d e a x ps qs c y s u n m z w r = (refl, r)
parameter_sim (sy.Close br.Round) at d e a x ps qs c y s u n m z w r = (r.0, r.1, tt, r.3)
parameter_sim _ at d e a x ps qs c y s u n m z w r = tt

-- Statements.

fork_around_sim : (f g : Fork) → SimFork f g → SimAround (stt.fork_around f) (stt.fork_around g)
fork_around_sim (forkCast a k) (forkCast c l) s = s
fork_around_sim (forkSizeof at a k) (forkSizeof x c l) s = s
fork_around_sim (forkBlock o) (forkBlock p) s = s
fork_around_sim (forkFor m at a o) (forkFor n x c p) s = s
fork_around_sim _ _ s = absurd s

fork_inner_sim : (f g : Fork) → SimFork f g → SimInner (stt.fork_inner f) (stt.fork_inner g)
fork_inner_sim (forkCast a k) (forkCast c l) s = (tt, s)
fork_inner_sim (forkSizeof at a k) (forkSizeof x c l) s = (tt, (refl, s))
fork_inner_sim (forkBlock o) (forkBlock p) s = s
fork_inner_sim (forkFor m at a o) (forkFor n x c p) s = s
fork_inner_sim _ _ s = absurd s

binds_sim : (ats : List ℕ) (k l : Inner) → SimInner k l → SimInner (stt.extension_binds ats k) (stt.extension_binds ats l)
binds_sim [] k l s = s
binds_sim (x ∷ ats) k l s = binds_sim ats (inBind (bPrefix pre.Extension x) k) (inBind (bPrefix pre.Extension x) l) (refl, s)

fork_specs_sim : (names : List (List ℕ)) (t : Symbol) (at : ℕ) (f g : Fork) (ats : List ℕ) → SimFork f g → SimModes (sp.step_specs names t at (mk.extension_words ats mk.unspoken) (stt.fork_around f)) (full.step_specs names t at (mk.extension_words ats mk.unspoken) (stt.fork_around g))
fork_specs_sim names t at f g ats s = specs_sim names t at (mk.extension_words ats mk.unspoken) (mk.extension_words ats mk.unspoken) (stt.fork_around f) (stt.fork_around g) refl (fork_around_sim f g s)

fork_kind_sim : (names : List (List ℕ)) (x : SpecKind) (t : Symbol) (at : ℕ) (f g : Fork) (ats : List ℕ) → SimFork f g → SimModes (stt.fork_kind names x t at f ats) (full.fork_kind names x t at g ats)
fork_kind_sim names spExtension t at f g ats s = (s, refl)
fork_kind_sim names spOther t at f g ats s = maybe_sim names t at (stt.extension_binds ats (stt.fork_inner f)) (stt.extension_binds ats (stt.fork_inner g)) (binds_sim ats (stt.fork_inner f) (stt.fork_inner g) (fork_inner_sim f g s))
fork_kind_sim names (spType x) t at f g ats s = fork_specs_sim names t at f g ats s
fork_kind_sim names (spStorage x) t at f g ats s = fork_specs_sim names t at f g ats s
fork_kind_sim names (spConst x) t at f g ats s = fork_specs_sim names t at f g ats s
fork_kind_sim names (spAttribute x) t at f g ats s = fork_specs_sim names t at f g ats s
fork_kind_sim names spEnum t at f g ats s = fork_specs_sim names t at f g ats s
fork_kind_sim names (spTypedef n) t at f g ats s = fork_specs_sim names t at f g ats s

either_sim : (names : List (List ℕ)) (t : Symbol) (at : ℕ) (f g : Fork) (ats zs : List ℕ) → ats ≡ zs → SimFork f g → SimModes (stt.step_either names t at f ats) (full.step_either names t at g zs)
either_sim names t at f g ats zs e s = subst (λ z. SimModes (stt.step_either names t at f ats) (full.step_either names t at g z)) e (fork_kind_sim names (spec_of names t) t at f g ats s)

begin_word_sim : (w : StatementWord) (at : ℕ) (o p : Outer) → SimOuter o p → SimModes (stt.begin_word w at o) (stt.begin_word w at p)
begin_word_sim key.Break at o p s = s
begin_word_sim key.Case at o p s = s
begin_word_sim key.Continue at o p s = s
begin_word_sim key.Default at o p s = s
begin_word_sim key.Do at o p s = s
begin_word_sim key.Else at o p s = tt
begin_word_sim key.For at o p s = s
begin_word_sim key.Goto at o p s = s
begin_word_sim key.If at o p s = (refl, s)
begin_word_sim key.Return at o p s = s
begin_word_sim key.Switch at o p s = (refl, s)
begin_word_sim key.While at o p s = (refl, s)

close_block_sim : (names : List (List ℕ)) (at : ℕ) (o p : Outer) → SimOuter o p → SimTurns (stt.close_block names at o) (stt.close_block names at p)
close_block_sim names at (outBody m h a ss) (outBody n g c ts) s = (ap (λ z. take z names) s, tt)
close_block_sim names at (outBlock m a ss o) (outBlock n c ts p) s = (ap (λ z. take z names) s.0, s.1)
close_block_sim names at (outDo x o) (outDo y p) s = tt
close_block_sim names at (outWrap w o) (outWrap v p) s = tt
close_block_sim names at _ _ s = absurd s

list_sim : (o p : Outer) → SimOuter o p → is_list o ≡ is_list p
list_sim (outBody m h a ss) (outBody n g c ts) s = refl
list_sim (outBlock m a ss o) (outBlock n c ts p) s = refl
list_sim (outDo x o) (outDo y p) s = refl
list_sim (outWrap w o) (outWrap v p) s = refl
list_sim _ _ s = absurd s

other_sim : (names : List (List ℕ)) (t : Symbol) (at : ℕ) (o p : Outer) (c d : Bool) → c ≡ d → SimOuter o p → SimModes (if c then stt.step_either names t at (forkBlock o) [] else ex.step_operand names (prefix_of t) at (inBase (baseStatement o))) (if d then full.step_either names t at (forkBlock p) [] else full.step_operand names (prefix_of t) at (inBase (baseStatement p)))
other_sim names t at o p true true e s = either_sim names t at (forkBlock o) (forkBlock p) [] [] refl s
other_sim names t at o p true false e s = cc
other_sim names t at o p false true e s = cc
other_sim names t at o p false false e s = operand_sim names (prefix_of t) at (inBase (baseStatement o)) (inBase (baseStatement p)) s

start_sim : (names : List (List ℕ)) (x : Start) (t : Symbol) (at : ℕ) (o p : Outer) → SimOuter o p → SimTurns (stt.step_start names x t at o) (full.step_start names x t at p)
start_sim names startEmpty t at o p s = (refl, s)
start_sim names startOpen t at o p s = (refl, (refl, s))
start_sim names startClose t at o p s = close_block_sim names at o p s
start_sim names (startWord w) t at o p s = kept_sim names names _ _ refl (begin_word_sim w at o p s)
start_sim names startOther t at o p s = kept_sim names names _ _ refl (other_sim names t at o p (is_list o) (is_list p) (list_sim o p s) s)

begin_sim : (names : List (List ℕ)) (t : Symbol) (at : ℕ) (o p : Outer) → SimOuter o p → SimTurns (stt.step_begin names t at o) (full.step_begin names t at p)
begin_sim names t at o p s = start_sim names (start_of t) t at o p s

goto_sim : (names : List (List ℕ)) (t : Symbol) (at x y : ℕ) (o p : Outer) → SimOuter o p → SimModes (stt.step_goto names t at x o) (stt.step_goto names t at y p)
goto_sim names (sy.Name n) at x y o p s = when_sim (not (sh.has names n)) (not (sh.has names n)) (Wait (waitGoto x n at o)) (Wait (waitGoto y n at p)) refl s
goto_sim names _ at x y o p s = tt

label_sim : (names : List (List ℕ)) (t : Symbol) (at : ℕ) (n m : List ℕ) (x y z w : ℕ) (ats zs : Ats) (o p : Outer) → SimOuter o p → SimTurns (stt.step_label names t at n x y ats o) (full.step_label names t at m z w zs p)
label_sim names (sy.Attribute v) at n m x y z w ats zs o p s = (refl, s)
label_sim names t at n m x y z w ats zs o p s = begin_sim names t at (outWrap (wLabel n x y ats) o) (outWrap (wLabel m z w zs) p) (tt, s)

awaited_sim : (x y : Waiting) → SimWaiting x y → stt.awaited x ≡ stt.awaited y
awaited_sim (waitTest t at o) (waitTest u x p) s = refl
awaited_sim (waitWhile at i o) (waitWhile x v p) s = refl
awaited_sim (waitDo at i x o) (waitDo y v z p) s = refl
awaited_sim (waitDone at i h o) (waitDone x v g p) s = refl
awaited_sim (waitFor at o) (waitFor x p) s = refl
awaited_sim (waitDefault at o) (waitDefault x p) s = refl
awaited_sim (waitGoto at n x o) (waitGoto y m z p) s = refl
awaited_sim (waitBreak at o) (waitBreak x p) s = refl
awaited_sim (waitContinue at o) (waitContinue x p) s = refl
awaited_sim (waitVoid d a at) (waitVoid e c x) s = refl
awaited_sim (waitList d at) (waitList e x) s = refl
awaited_sim (waitAttribute w at x) (waitAttribute v y z) s = refl
awaited_sim _ _ s = absurd s

arrived_sim : (names : List (List ℕ)) (at : ℕ) (x y : Waiting) → SimWaiting x y → SimMode (stt.arrived names at x) (stt.arrived names at y)
arrived_sim names at (waitTest t at0 o) (waitTest u x p) s = s
arrived_sim names at (waitWhile at0 i o) (waitWhile x v p) s = s
arrived_sim names at (waitDo at0 i x o) (waitDo y v z p) s = s
arrived_sim names at (waitDone at0 i h o) (waitDone x v g p) s = s
arrived_sim names at (waitFor at0 o) (waitFor x p) s = (((refl, s)), refl)
arrived_sim names at (waitDefault at0 o) (waitDefault x p) s = (tt, s)
arrived_sim names at (waitGoto at0 n x o) (waitGoto y m z p) s = s
arrived_sim names at (waitBreak at0 o) (waitBreak x p) s = s
arrived_sim names at (waitContinue at0 o) (waitContinue x p) s = s
arrived_sim names at (waitVoid d a at0) (waitVoid e c x) s = (s.0, s.1, tt, s.3)
arrived_sim names at (waitList d at0) (waitList e x) s = (s, refl)
arrived_sim names at (waitAttribute w at0 x) (waitAttribute v y z) s = (refl, s)
arrived_sim names at _ _ s = absurd s

wait_sim : (names : List (List ℕ)) (t : Symbol) (at : ℕ) (x y : Waiting) → SimWaiting x y → SimModes (stt.step_wait names t at x) (stt.step_wait names t at y)
wait_sim names t at x y s = when_sim _ _ (stt.arrived names at x) (stt.arrived names at y) (ap (λ z. is_awaited z t) (awaited_sim x y s)) (arrived_sim names at x y s)

left_sim : (w v : Wrap) (names : List (List ℕ)) → SimWrap w v → stt.left w names ≡ stt.left v names
left_sim (wThen h) (wThen g) names s = refl
left_sim (wElse h a at) (wElse g c x) names s = refl
left_sim (wWhile h) (wWhile g) names s = refl
left_sim (wSwitch h) (wSwitch g) names s = refl
left_sim (wFor m h) (wFor n g) names s = ap (λ z. take z names) s
left_sim (wCase at e c) (wCase x f y) names s = refl
left_sim (wDefault at c) (wDefault x y) names s = refl
left_sim (wLabel n at c ats) (wLabel m x y zs) names s = refl
left_sim _ _ names s = absurd s

otherwise_sim : (names ms : List (List ℕ)) (at : ℕ) (o p : Outer) (s t : St) → names ≡ ms → SimOuter o p → SimTurns (stt.otherwise names at o s) (stt.otherwise ms at p t)
otherwise_sim names ms at (outBody m h a ss) (outBody n g c ts) s t e r = tt
otherwise_sim names ms at (outBlock m a ss o) (outBlock n c ts p) s t e r = tt
otherwise_sim names ms at (outDo x o) (outDo y p) s t e r = tt
otherwise_sim names ms at (outWrap (wThen h) o) (outWrap (wThen g) p) s t e r = (e, (tt, r.1))
otherwise_sim names ms at (outWrap (wElse h a x) o) (outWrap (wElse g c y) p) s t e r = otherwise_sim names ms at o p (wrapped (wElse h a x) s) (wrapped (wElse g c y) t) e r.1
otherwise_sim names ms at (outWrap (wWhile h) o) (outWrap (wWhile g) p) s t e r = otherwise_sim names ms at o p (wrapped (wWhile h) s) (wrapped (wWhile g) t) e r.1
otherwise_sim names ms at (outWrap (wSwitch h) o) (outWrap (wSwitch g) p) s t e r = otherwise_sim names ms at o p (wrapped (wSwitch h) s) (wrapped (wSwitch g) t) e r.1
otherwise_sim names ms at (outWrap (wFor m h) o) (outWrap (wFor n g) p) s t e r = otherwise_sim (take m names) (take n ms) at o p (wrapped (wFor m h) s) (wrapped (wFor n g) t) (ap (take m) e ∙ ap (λ z. take z ms) r.0) r.1
otherwise_sim names ms at (outWrap (wCase x v c) o) (outWrap (wCase y w d) p) s t e r = otherwise_sim names ms at o p (wrapped (wCase x v c) s) (wrapped (wCase y w d) t) e r.1
otherwise_sim names ms at (outWrap (wDefault x c) o) (outWrap (wDefault y d) p) s t e r = otherwise_sim names ms at o p (wrapped (wDefault x c) s) (wrapped (wDefault y d) t) e r.1
otherwise_sim names ms at (outWrap (wLabel n x c ats) o) (outWrap (wLabel m y d zs) p) s t e r = otherwise_sim names ms at o p (wrapped (wLabel n x c ats) s) (wrapped (wLabel m y d zs) t) e r.1
otherwise_sim names ms at (outWrap w o) (outWrap v p) s t e r = absurd r.0
otherwise_sim names ms at _ _ s t e r = absurd r

settled_sim : (names ms : List (List ℕ)) (t : Symbol) (at : ℕ) (o p : Outer) (s v : St) → names ≡ ms → SimOuter o p → SimTurns (stt.step_settled t at (stt.settle names o s)) (full.step_settled t at (stt.settle ms p v))
settled_sim names ms t at (outBody m h a ss) (outBody n g c ts) s v e r = subst (λ z. SimTurns (stt.step_begin names t at (outBody m h a (statements_and ss s))) (full.step_begin z t at (outBody n g c (statements_and ts v)))) e (begin_sim names t at (outBody m h a (statements_and ss s)) (outBody n g c (statements_and ts v)) r)
settled_sim names ms t at (outBlock m a ss o) (outBlock n c ts p) s v e r = subst (λ z. SimTurns (stt.step_begin names t at (outBlock m a (statements_and ss s) o)) (full.step_begin z t at (outBlock n c (statements_and ts v) p))) e (begin_sim names t at (outBlock m a (statements_and ss s) o) (outBlock n c (statements_and ts v) p) r)
settled_sim names ms t at (outDo x o) (outDo y p) s v e r = subst (λ z. SimTurns (kept names (stt.step_wait names t at (waitWhile x s o))) (kept z (stt.step_wait z t at (waitWhile y v p)))) e (kept_sim names names _ _ refl (wait_sim names t at (waitWhile x s o) (waitWhile y v p) r))
settled_sim names ms t at (outWrap w o) (outWrap q p) s v e r = settled_sim (stt.left w names) (stt.left q ms) t at o p (wrapped w s) (wrapped q v) (ap (stt.left w) e ∙ left_sim w q ms r.0) r.1
settled_sim names ms t at _ _ s v e r = absurd r

whole_pick : (c : Bool) (o q x y : Option Turn) → SimTurns o x → SimTurns q y → SimTurns (if c then o else q) (if c then x else y)
whole_pick true o q x y s t = s
whole_pick false o q x y s t = t

whole_sim : (names : List (List ℕ)) (t : Symbol) (at : ℕ) (s v : St) (o p : Outer) → SimOuter o p → SimTurns (stt.step_whole names t at s o) (full.step_whole names t at v p)
whole_sim names t at s v o p r = whole_pick (is_else t) _ _ _ _ (otherwise_sim names names at o p s v refl r) (settled_sim names names t at o p s v refl r)

-- Tokens that are kept, and where an item is to come.

with_attribute_sim : (x y : Attributed) (a c : At) → SimAttributed x y → SimMode (steps.with_attribute x a) (steps.with_attribute y c)
with_attribute_sim (onWords s w) (onWords t v) a c r = r
with_attribute_sim (onDeclared d) (onDeclared e) a c r = (r.0, r.1, r.2, refl)
with_attribute_sim (onLabel n x y ats o) (onLabel m z w zs p) a c r = r
with_attribute_sim _ _ a c r = absurd r

attribute_sim : (k l : Skip) (t : SymbolAt) (w v : AttributeWord) (x y a c : ℕ) (r q : Raw) (z u : Attributed) → k ≡ l → SimAttributed z u → SimModes (steps.attribute_skip k t w x a r z) (steps.attribute_skip l t v y c q u)
attribute_sim k l t w v x y a c r q z u e s = subst (λ j. SimModes (steps.attribute_skip k t w x a r z) (steps.attribute_skip j t v y c q u)) e (one k)
  where
    one : (k : Skip) → SimModes (steps.attribute_skip k t w x a r z) (steps.attribute_skip k t v y c q u)
    one (skipOn n) = (refl, s)
    one skipClose = with_attribute_sim z u (attribute w x a r t.at) (attribute v y c q t.at) s
    one skipEnd = tt

body_sim : (k l : Skip) (t : SymbolAt) (h g : Header) (a c : ℕ) (r q : Raw) → k ≡ l → SimModes (steps.body_skip k t h a r) (steps.body_skip l t g c q)
body_sim k l t h g a c r q e = subst (λ j. SimModes (steps.body_skip k t h a r) (steps.body_skip j t g c q)) e (one k)
  where
    one : (k : Skip) → SimModes (steps.body_skip k t h a r) (steps.body_skip k t g c q)
    one (skipOn n) = refl
    one skipClose = tt
    one skipEnd = tt

file_sim : (names : List (List ℕ)) (t : Symbol) (at : ℕ) → SimModes (steps.step_file names t at) (full.step_file names t at)
file_sim names sy.Semicolon at = tt
file_sim names sy.End at = tt
file_sim names t at = specs_sim names t at mk.unspoken mk.unspoken (aroundPlace placeFile) (aroundPlace placeFile) refl tt

-- Modes that differ in their trees alone do the same.
pub next_sim : (names : List (List ℕ)) (t : SymbolAt) (m n : Mode) → SimMode m n → SimTurns (steps.next names t m) (full.next names t n)
next_sim names t File File s = kept_sim names names (steps.step_file names t.symbol t.at) (full.step_file names t.symbol t.at) refl (file_sim names t.symbol t.at)
next_sim names t (Ended i h) (Ended j g) s = tt
next_sim names t (Specifiers a w) (Specifiers c v) s = kept_sim names names (sp.step_specs names t.symbol t.at a w) (full.step_specs names t.symbol t.at c v) refl (specs_sim names t.symbol t.at a c w v s.0 s.1)
next_sim names t (Enumeration x a w) (Enumeration y c v) s = kept_sim names names (sp.step_enumeration names t.symbol t.at x a w) (sp.step_enumeration names t.symbol t.at y c v) refl (enumeration_sim names t.symbol t.at x y a c w v s.0 s.1)
next_sim names t (Tagged x n y a w) (Tagged z m q c v) s = kept_sim names names (sp.step_tagged names t.symbol t.at x n y a w) (full.step_tagged names t.symbol t.at z m q c v) refl (tagged_sim names t.symbol t.at x z n m y q a c w v s.0 s.1)
next_sim names t (Constant l) (Constant m) s = kept_sim names names (sp.step_constant names t.symbol t.at l) (sp.step_constant names t.symbol t.at m) refl (constant_sim names t.symbol t.at l m s)
next_sim names t (Named l n x) (Named m o y) s = kept_sim names names (sp.step_named t.symbol t.at l n x) (sp.step_named t.symbol t.at m o y) refl (named_sim t.symbol t.at l m n o x y s)
next_sim names t (Attribute w x a r n y) (Attribute v z c q m u) s = kept_sim names names (steps.attribute_skip (skip_of br.Round t.symbol n) t w x a r y) (steps.attribute_skip (skip_of br.Round t.symbol m) t v z c q u) refl (attribute_sim (skip_of br.Round t.symbol n) (skip_of br.Round t.symbol m) t w v x z a c r q y u (ap (skip_of br.Round t.symbol) s.0) s.1)
next_sim names t (Next d c) (Next e x) s = kept_sim names names (decl.step_next names t.symbol t.at d c) (decl.step_next names t.symbol t.at e x) refl (next_name_sim names t.symbol t.at d e c x s)
next_sim names t (Behind d) (Behind e) s = behind_sim names t.symbol t.at d e s
next_sim names t (Listed d) (Listed e) s = kept_sim names names (decl.step_listed t.symbol t.at d) (decl.step_listed t.symbol t.at e) refl (listed_sim t.symbol t.at d e s)
next_sim names t (Parameters' d a) (Parameters' e c) s = kept_sim names names (decl.step_parameters names t.symbol t.at d a) (full.step_parameters names t.symbol t.at e c) refl (parameters_sim names t.symbol t.at d e a c s)
next_sim names t (Parameter d a ps c u n z) (Parameter e x qs y v m w) s = kept_sim names names (decl.step_parameter t.symbol t.at d a ps c u n z) (decl.step_parameter t.symbol t.at e x qs y v m w) refl (parameter_sim t.symbol t.at d e a x ps qs c y u v n m z w s)
next_sim names t (Skipped h a r n) (Skipped g c q m) s = kept_sim names names (steps.body_skip (skip_of br.Curly t.symbol n) t h a r) (steps.body_skip (skip_of br.Curly t.symbol m) t g c q) refl (body_sim (skip_of br.Curly t.symbol n) (skip_of br.Curly t.symbol m) t h g a c r q (ap (skip_of br.Curly t.symbol) s))
next_sim names t (Begin o) (Begin p) s = begin_sim names t.symbol t.at o p s
next_sim names t (Wait x) (Wait y) s = kept_sim names names (stt.step_wait names t.symbol t.at x) (stt.step_wait names t.symbol t.at y) refl (wait_sim names t.symbol t.at x y s)
next_sim names t (Either f ats) (Either g zs) s = kept_sim names names (stt.step_either names t.symbol t.at f ats) (full.step_either names t.symbol t.at g zs) refl (either_sim names t.symbol t.at f g ats zs s.1 s.0)
next_sim names t (Goto x o) (Goto y p) s = kept_sim names names (stt.step_goto names t.symbol t.at x o) (stt.step_goto names t.symbol t.at y p) refl (goto_sim names t.symbol t.at x y o p s)
next_sim names t (Operand k) (Operand l) s = kept_sim names names (ex.step_operand names (prefix_of t.symbol) t.at k) (full.step_operand names (prefix_of t.symbol) t.at l) refl (operand_sim names (prefix_of t.symbol) t.at k l s)
next_sim names t (Maybe k) (Maybe l) s = kept_sim names names (ex.step_maybe names t.symbol t.at k) (full.step_maybe names t.symbol t.at l) refl (maybe_sim names t.symbol t.at k l s)
next_sim names t (Sizeof x k) (Sizeof y l) s = kept_sim names names (ex.step_sizeof names (prefix_of t.symbol) t.at x k) (full.step_sizeof names (prefix_of t.symbol) t.at y l) refl (sizeof_sim names (prefix_of t.symbol) t.at x y k l s)
next_sim names t (Value e k) (Value f l) s = kept_sim names names (ex.step_value (suffix_of t.symbol) t.at e k) (full.step_value (suffix_of t.symbol) t.at f l) refl (value_sim (suffix_of t.symbol) t.at e f k l s.0 s.1)
next_sim names t (Label n x y ats o) (Label m z w zs p) s = label_sim names t.symbol t.at n m x y z w ats zs o p s
next_sim names t (Whole a o) (Whole c p) s = whole_sim names t.symbol t.at a c o p s
next_sim names t Finished Finished s = tt
next_sim names t _ _ s = absurd s
