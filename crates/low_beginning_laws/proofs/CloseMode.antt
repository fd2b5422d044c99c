-- How the machine ends, in each mode.
use Rattle.std.proofs.Common.{◌≡◌, ℕ, zero, suc, ◌+◌, ◌≤◌, max, List, [], ◌∷◌, length, None, Some, true, false, not, refl, subst, ap, ◌∙◌, arith}
use Rattle.std.specs.Option.{option_and_then}
use Rattle.c_tree.specs.declared.symbol.Bracket.TheVariants as br
use Rattle.c_tree.specs.declared.symbol.AttributeWord.{AttributeWord}
use Rattle.c_tree.specs.declared.symbol.StatementWord.TheVariants as key
use Rattle.c_tree.specs.declared.symbol.StorageWord.TheVariants as storage
use Rattle.c_tree.specs.declared.symbol.TypeWord.TheVariants as type
use Rattle.c_tree.specs.declared.symbol.Symbol.{Symbol}
use Rattle.c_tree.specs.declared.symbol.Symbol.TheVariants as sy
use Rattle.c_tree.specs.declared.tree.PrefixOp.TheVariants as pre
use Rattle.c_tree.specs.declared.known.Signedness.TheVariants as signed
use Rattle.c_tree.specs.declared.known.Size.TheVariants as size
use Rattle.c_tree.specs.declared.known.Typing.TheVariants as ty
use Rattle.c_tree.specs.declared.known.Known.{Known}
use Rattle.c_tree.specs.Symbols.{sign}
use Rattle.c_tree.specs.Words as wd
use Rattle.c_tree.specs.Words.{with_word, nothing_known, is_typed}
use Rattle.c_tree.specs.Tree.{Raw, no_raw, raw_and, At, attribute, attributes_and, Parts, wType, wExtension, wAttribute, wTag, named, pVoid, pSome, fPlain, fFunction, iList, eCall, head, forExpr, sDo, sGoto, sBreak, sContinue, sReturn, bSkipped, Items}
use Rattle.parse_machine.specs.Contexts.{Tall, Spoken, bPrefix, oArgument, Header, wDefault, Outer, outWrap, Declared, baseTest, baseReturn, baseMore, baseStep, baseLength, basePart, Inner, inBase, inBind, inOpen, Around, Listing, Attributed, onWords, onDeclared, onLabel, Fork, forkCast, forkSizeof, forkBlock, forkFor, Waiting, waitTest, waitWhile, waitDo, waitDone, waitFor, waitDefault, waitGoto, waitBreak, waitContinue, waitVoid, waitList, waitAttribute, Mode, File, Ended, Specifiers, Enumeration, Tagged, Constant, Named, Attribute, Next, Behind, Listed, Parameters', Parameter, Skipped, Begin, Wait, Either, Goto, Operand, Maybe, Sizeof, Value, Label, Whole, Finished}
use Rattle.parse_machine.specs.Making as mk
use Rattle.parse_machine.specs.Making.{above, tall, part}
use Rattle.parse_machine.specs.Heights as ht
use Rattle.parse_machine.specs.Heights.{depth, high, around_high, low}
use Rattle.parse_machine.specs.Expressions as ex
use Rattle.parse_machine.specs.Specifiers as sp
use Rattle.parse_machine.specs.Specifiers.{site_of}
use Rattle.parse_machine.specs.Declarations.{kept}
use Rattle.parse_machine.specs.Machine as ma
use Rattle.parse_machine.specs.Statements as stt
use Rattle.parse_machine.specs.Steps as steps
use Rattle.parse_laws.proofs.Fits.{FitInner, FitAround, FitListing, FitAttributed, FitFork, FitWaiting, Fit}
use Rattle.parse_laws.proofs.Parts.{least_le}
use Rattle.first_token_laws.proofs.Fillers.{one, free_name, free_name_is_free, named_is_typed}
use Rattle.first_token_laws.proofs.EndMode.{MayHave, with_sure, SureWaiting, Sure}
use Rattle.low_beginning_laws.proofs.Room.{RoomDeclaring, RoomInner, RoomAround, RoomAttributed, RoomFork, RoomWaiting, MayLack, Room}
use Rattle.low_beginning_laws.proofs.Above.{above_some, declared_grows}
use Rattle.low_beginning_laws.proofs.RoomSteps.{extensions_told}
use Rattle.low_beginning_laws.proofs.Close.{Closes, on, file_closes, ended_closes}
use Rattle.low_beginning_laws.proofs.CloseSt.{round_open, round_close, curly_close, semicolon, one_sign, do_closes, done_closes, whole_closes, begin_closes, label_closes, step_closes, more_closes}
use Rattle.low_beginning_laws.proofs.CloseDecl.{by_value, attributes_low, initial_low, listed_closes, formed_closes, formed_low, parameters_closes, list_closes, behind_closes}
use Rattle.low_beginning_laws.proofs.CloseEx.{array_no_function, opens_list, WordsLeads, by_words, named_fits, inner_leads, words_leads, said_closes, operand_closes}

-- Attributes.

behind_name : (file : List (List ℕ)) (is : Items) (names : List (List ℕ)) (d : Declared) (x : At) → FitAttributed file (onDeclared d) → MayHave (onDeclared d) → RoomDeclaring d.around → ht.declared_high d 1 ≤ 200 → Closes is names (Behind (mk.with_attributes d (attributes_and d.attributes x)))
behind_name file is names d x f m r l = behind_closes file is names (mk.with_attributes d (attributes_and d.attributes x)) d.form.value refl f.around f.form (with_sure d x m) r l

with_attribute_closes : (file : List (List ℕ)) (is : Items) (names : List (List ℕ)) (y : Attributed) (x : At) → FitAttributed file y → MayHave y → RoomAttributed y → ht.attributed_high y ≤ 200 → Closes is names (steps.with_attribute y x)
with_attribute_closes file is names (onWords s w) x f m r l = said_closes file is names w (mk.said s s.told (wAttribute x) 1) (ap (option_and_then (with_word (site_of w) (wAttribute x))) f.0.told) l f.1 r
with_attribute_closes file is names (onDeclared d) x f m r l = behind_name file is names d x f m r l
with_attribute_closes file is names (onLabel n a c ats o) x f m r l = label_closes is names n a c (attributes_and ats x) o l

with_attribute_low : (y : Attributed) (x : At) → ht.attributed_high y ≤ 200 → low (steps.with_attribute y x) ≤ 200
with_attribute_low (onWords s w) x l = l
with_attribute_low (onDeclared d) x l = l
with_attribute_low (onLabel n a c ats o) x l = l

attribute_closes : (file : List (List ℕ)) (is : Items) (names : List (List ℕ)) (w : AttributeWord) (at a : ℕ) (q : Raw) (n : ℕ) (y : Attributed) → FitAttributed file y → MayHave y → RoomAttributed y → ht.attributed_high y ≤ 200 → Closes is names (Attribute w at a q n y)
attribute_closes file is names w at a q zero y f m r l =
    let x = attribute w at a q 0 in
    on is names names (Attribute w at a q 0 y) (steps.with_attribute y x) round_close refl refl refl (with_attribute_low y x l) (with_attribute_closes file is names y x f m r l)
attribute_closes file is names w at a q (suc n) y f m r l =
    let z = raw_and q round_close in
    on is names names (Attribute w at a q (suc n) y) (Attribute w at a z n y) round_close refl refl refl l (attribute_closes file is names w at a z n y f m r l)

skipped_closes : (is : Items) (names : List (List ℕ)) (h : Header) (a : ℕ) (q : Raw) (n : ℕ) → Closes is names (Skipped h a q n)
skipped_closes is names h a q zero =
    let i = stt.function_item h (bSkipped a q 0) in
    on is names names (Skipped h a q 0) (Ended i 0) curly_close refl refl refl (omega arith) (ended_closes is names i 0)
skipped_closes is names h a q (suc n) = on is names names (Skipped h a q (suc n)) (Skipped h a (raw_and q curly_close) n) curly_close refl refl refl (omega arith) (skipped_closes is names h a (raw_and q curly_close) n)

-- Where one token is to come.

goto_closes : (is : Items) (names : List (List ℕ)) (at : ℕ) (n : List ℕ) (x : ℕ) (o : Outer) → 1 + depth o ≤ 200 → Closes is names (Wait (waitGoto at n x o))
goto_closes is names at n x o l = on is names names (Wait (waitGoto at n x o)) (Whole (sGoto at n x 0) o) semicolon refl refl refl l (whole_closes is names (sGoto at n x 0) o l)

-- behind `for (`
for_closes : (is : Items) (names : List (List ℕ)) (m at a : ℕ) (o : Outer) → 2 + depth o ≤ 200 → Closes is names (Either (forkFor m at a o) [])
for_closes is names m at a o l =
    on is names names (Either (forkFor m at a o) []) (Maybe (inBase (baseMore m at a (forExpr None 0) o))) semicolon refl refl refl (omega (arith, l)) (more_closes is names m at a (forExpr None 0) o l)

waiting_closes : (file : List (List ℕ)) (is : Items) (names : List (List ℕ)) (x : Waiting) → FitWaiting file x → SureWaiting x → RoomWaiting x → ht.waiting_high x ≤ 200 → Closes is names (Wait x)
waiting_closes file is names (waitTest t at o) f m r l =
    let k = inBase (baseTest t at 0 o) in
    on is names names (Wait (waitTest t at o)) (Operand k) round_open refl refl refl (omega (arith, l)) (operand_closes file is names k (omega (arith, l)) f tt)
waiting_closes file is names (waitWhile at s o) f m r l =
    on is names names (Wait (waitWhile at s o)) (Wait (waitDo at s 0 o)) (sign (sy.Statement key.While) 0) refl refl refl (omega (arith, l)) (do_closes is names at s 0 o l (whole_closes is names (sDo at s (head 0 0 one 0) 0) o (omega (arith, l))))
waiting_closes file is names (waitDo at s x o) f m r l = do_closes is names at s x o l (whole_closes is names (sDo at s (head x 0 one 0) 0) o (omega (arith, l)))
waiting_closes file is names (waitDone at s h o) f m r l = done_closes is names at s h o l (whole_closes is names (sDo at s h 0) o l)
waiting_closes file is names (waitFor at o) f m r l = on is names names (Wait (waitFor at o)) (Either (forkFor (length names) at 0 o) []) round_open refl refl refl l (for_closes is names (length names) at 0 o l)
waiting_closes file is names (waitDefault at o) f m r l =
    let w = outWrap (wDefault at 0) o in
    on is names names (Wait (waitDefault at o)) (Begin w) (sign sy.Colon 0) refl refl refl (omega (arith, l)) (begin_closes is names w (omega (arith, l)))
waiting_closes file is names (waitGoto at n x o) f m r l = goto_closes is names at n x o l
waiting_closes file is names (waitBreak at o) f m r l = on is names names (Wait (waitBreak at o)) (Whole (sBreak at 0) o) semicolon refl refl refl l (whole_closes is names (sBreak at 0) o l)
waiting_closes file is names (waitContinue at o) f m r l = on is names names (Wait (waitContinue at o)) (Whole (sContinue at 0) o) semicolon refl refl refl l (whole_closes is names (sContinue at 0) o l)
waiting_closes file is names (waitVoid d a at) f m r l =
    let y = pVoid a at 0 in
    on is names names (Wait (waitVoid d a at)) (Behind (mk.with_form d (tall (fFunction y) 1))) round_close refl refl refl (formed_low d y 1 (omega arith) l) (formed_closes is names d y 1 f.place f.storage r (omega arith) l)
waiting_closes file is names (waitList d at) f m r l = list_closes is names d at (array_no_function d.form.value f.1) r l (omega (arith, l, declared_grows d 1 2 (omega arith)))
waiting_closes file is names (waitAttribute w at x) f m r l = on is names names (Wait (waitAttribute w at x)) (Attribute w at 0 no_raw 0 x) round_open refl refl refl l (attribute_closes file is names w at 0 no_raw 0 x f m r l)

-- Where words or an expression are to come.

extensions_height : (ats : List ℕ) (s : Spoken) → (mk.extension_words ats s).height ≡ s.height
extensions_height [] s = refl
extensions_height (x ∷ ats) s = let e : max s.height 0 ≡ s.height = omega arith in extensions_height ats (mk.said s s.told (wExtension x) 0) ∙ e

fork_fits : (file : List (List ℕ)) (f : Fork) → FitFork file f → FitAround file (stt.fork_around f)
fork_fits file (forkCast a k) g = g
fork_fits file (forkSizeof at a k) g = g
fork_fits file (forkBlock o) g = g
fork_fits file (forkFor m at a o) g = g

fork_room : (f : Fork) → RoomFork f → RoomAround (stt.fork_around f)
fork_room (forkCast a k) g = g
fork_room (forkSizeof at a k) g = g
fork_room (forkBlock o) g = tt
fork_room (forkFor m at a o) g = tt

-- `int` alone
abbrev int_known : Known
int_known = wd.known_type nothing_known (ty.Basic signed.Unstated size.Unstated true)

-- words may come
int_closes : (file : List (List ℕ)) (is : Items) (names : List (List ℕ)) (f : Fork) (ats : List ℕ) → FitFork file f → RoomFork f → around_high (stt.fork_around f) 0 ≤ 200 → Closes is names (Either f ats)
int_closes file is names f ats g r l =
    let w = stt.fork_around f in
    let s = mk.extension_words ats mk.unspoken in
    let x = mk.said s int_known (wType type.Int 0) 0 in
    let none : 0 ≡ max s.height 0 = omega (arith, extensions_height ats mk.unspoken) in
    let q : around_high w x.height ≤ 200 = subst (λ h. around_high w h ≤ 200) none l in
    on is names names (Either f ats) (Specifiers x w) (sign (sy.Type type.Int) 0) refl refl (ap (λ k. kept names (sp.with_word_said s w (wType type.Int 0) (wd.with_type (site_of w) type.Int k))) (extensions_told ats mk.unspoken)) q
    (by_words is names x w (words_leads file is names w x refl (λ v. cc) q (fork_fits file f g) (fork_room f r)))

fork_closes : (file : List (List ℕ)) (is : Items) (names : List (List ℕ)) (f : Fork) (ats : List ℕ) → FitFork file f → RoomFork f → ht.fork_high f ats ≤ 200 → Closes is names (Either f ats)
fork_closes file is names (forkCast a k) ats g r l = int_closes file is names (forkCast a k) ats g r l
fork_closes file is names (forkSizeof at a k) ats g r l = int_closes file is names (forkSizeof at a k) ats g r l
fork_closes file is names (forkBlock o) ats g r l = int_closes file is names (forkBlock o) ats g r (omega (arith, l))
fork_closes file is names (forkFor m at a o) [] g r l = for_closes is names m at a o l
fork_closes file is names (forkFor m at a o) (x ∷ ats) g r l = int_closes file is names (forkFor m at a o) (x ∷ ats) g r (omega (arith, l))

-- Enumerations.

tagged_same : (names : List (List ℕ)) (t : Symbol) (at x : ℕ) (n : List ℕ) (y : ℕ) (s : Spoken) (w : Around) → opens_list t ≡ false → sp.step_tagged names t at x n y s w ≡ sp.step_specs names t at (mk.said s s.told (wTag x n y) 1) w
tagged_same names (sy.Open br.Curly) at x n y s w h = cc
tagged_same names t at x n y s w h = refl

tagged_unopened : (t : Symbol) (at x : ℕ) (n : List ℕ) (y : ℕ) (s : Spoken) (w : Around) → ma.opens t at (Tagged x n y s w) ≡ None
tagged_unopened (sy.Storage storage.Extern) at x n y s w = refl
tagged_unopened _ at x n y s w = refl

by_tag : (is : Items) (names : List (List ℕ)) (x : ℕ) (n : List ℕ) (y : ℕ) (s : Spoken) (w : Around) → WordsLeads is names (mk.said s s.told (wTag x n y) 1) w → Closes is names (Tagged x n y s w)
by_tag is names x n y s w z =
    on is names z.turned.names (Tagged x n y s w) z.turned.mode z.token refl (tagged_unopened z.token.symbol z.token.at x n y s w) (ap (kept names) (tagged_same names z.token.symbol z.token.at x n y s w z.no_list) ∙ z.goes) z.within z.closes

tag_closes : (file : List (List ℕ)) (is : Items) (names : List (List ℕ)) (x : ℕ) (n : List ℕ) (y : ℕ) (s : Spoken) (w : Around) (before : Known) → wd.with_named before ≡ Some s.told → FitAround file w → RoomAround w → around_high w (max s.height 1) ≤ 200 → Closes is names (Tagged x n y s w)
tag_closes file is names x n y s w b k f r l =
    let z = mk.said s s.told (wTag x n y) 1 in
    by_tag is names x n y s w (words_leads file is names w z (named_is_typed b s.told k) (named_fits (site_of w) b s.told k) l f r)

named_closes : (file : List (List ℕ)) (is : Items) (names : List (List ℕ)) (l : Listing) (n : List ℕ) (x : ℕ) → FitListing file l → RoomAround l.around → ht.listing_high l ≤ 200 → Closes is names (Named l n x)
named_closes file is names l n x f r h =
    let m = mk.plain_more l n x in
    let s = mk.said l.spoken l.spoken.told (mk.enumeration l.head m.value None 0) (above m.height) in
    let y = f.named in
    on is names names (Named l n x) (Specifiers s l.around) curly_close refl refl refl h
    (by_words is names s l.around (words_leads file is names l.around s (named_is_typed y.before l.spoken.told y.named) (named_fits (site_of l.around) y.before l.spoken.told y.named) h f.around r))

constant_closes : (file : List (List ℕ)) (is : Items) (names : List (List ℕ)) (l : Listing) → FitListing file l → RoomAround l.around → ht.listing_high l ≤ 200 → Closes is names (Constant l)
constant_closes file is names l f r h =
    let n = free_name names in
    on is names names (Constant l) (Named l n 0) (sign (sy.Name n) 0) refl refl (ap (λ c. kept names (ex.when (not c) (Named l n 0))) (free_name_is_free names)) h (named_closes file is names l n 0 f r h)

-- Where an expression may be left out.

list_end : (is : Items) (names : List (List ℕ)) (d : Declared) (x a : ℕ) (es : Tall Parts) (c : ℕ) → ht.is_function d.form.value ≡ false → RoomDeclaring d.around → ht.declared_high d (above es.height) ≤ 200 → Closes is names (Maybe (inBase (basePart d x a es (Some c))))
list_end is names d x a es c f r l =
    let z = mk.with_initial d (iList x a es.value (Some c) 0) (above es.height) in
    let q : RoomDeclaring z = (r.0, omega (arith, r.1, initial_low d (above es.height) f l (omega (arith, attributes_low d.attributes, above_some es.height)))) in
    on is names names (Maybe (inBase (basePart d x a es (Some c)))) (Listed z) curly_close refl refl refl q.1 (listed_closes is names z q)

maybe_closes : (file : List (List ℕ)) (is : Items) (names : List (List ℕ)) (k : Inner) → high k 0 ≤ 200 → FitInner file k → RoomInner k → MayLack k → Closes is names (Maybe k)
maybe_closes file is names (inOpen (oArgument i a es None) k) l f r m =
    let v = part 15 (above (max i.height es.height)) (eCall i.value a es.value 0) in
    let same : max (max i.height es.height) 0 ≡ max i.height es.height = omega arith in
    let q : high k v.height ≤ 200 = subst (λ h. high k (above h) ≤ 200) same l in
    on is names names (Maybe (inOpen (oArgument i a es None) k)) (Value v k) round_close refl refl refl q (by_value is names v k (inner_leads file is names k v (omega (arith, least_le k)) (above_some (max i.height es.height)) q f.1 r))
maybe_closes file is names (inBase (baseReturn x o)) l f r m = on is names names (Maybe (inBase (baseReturn x o))) (Whole (sReturn x None 0) o) semicolon refl refl refl (omega (arith, l)) (whole_closes is names (sReturn x None 0) o (omega (arith, l)))
maybe_closes file is names (inBase (baseMore n x a s o)) l f r m = more_closes is names n x a s o (omega (arith, l))
maybe_closes file is names (inBase (baseStep n x a s p y o)) l f r m = step_closes is names n x a s p y o (omega (arith, l))
maybe_closes file is names (inBase (baseLength d a)) l f r m =
    let k = inBase (baseLength d a) in
    on is names names (Maybe k) (Value (part 15 1 one) k) one_sign refl refl refl l (by_value is names (part 15 1 one) k (inner_leads file is names k (part 15 1 one) (omega arith) (omega arith) l f r))
maybe_closes file is names (inBase (basePart d x a es (Some c))) l f r m = list_end is names d x a es c (array_no_function d.form.value f.1) r.0 r.1
maybe_closes file is names _ l f r m = absurd m

-- All modes.

pub mode_closes : (file : List (List ℕ)) (is : Items) (names : List (List ℕ)) (m : Mode) → Fit file m → Sure m → low m ≤ 200 → Room m → Closes is names m
mode_closes file is names File f z l r = file_closes is names
mode_closes file is names (Ended i h) f z l r = ended_closes is names i h
mode_closes file is names (Specifiers s w) f z l r = said_closes file is names w s f.0.told l f.1 r
mode_closes file is names (Enumeration x s w) f z l r =
    let n = free_name names in
    on is names names (Enumeration x s w) (Tagged x n 0 s w) (sign (sy.Name n) 0) refl refl (ap (λ c. kept names (ex.when (not c) (Tagged x n 0 s w))) (free_name_is_free names)) l (tag_closes file is names x n 0 s w f.0.before f.0.named f.1 r l)
mode_closes file is names (Tagged x n y s w) f z l r = tag_closes file is names x n y s w f.0.before f.0.named f.2 r l
mode_closes file is names (Constant c) f z l r = constant_closes file is names c f r l
mode_closes file is names (Named c n x) f z l r = named_closes file is names c n x f.0 r l
mode_closes file is names (Attribute w x a q n y) f z l r = attribute_closes file is names w x a q n y f.0 z r l
mode_closes file is names (Next d c) f z l r =
    let n = free_name names in
    let y = mk.declared_plain d (Some c) n 0 in
    let q : ht.declared_high y 0 ≤ 200 = omega (arith, l) in
    on is names names (Next d c) (Behind y) (sign (sy.Name n) 0) refl refl (ap (λ b. kept names (ex.when (not b) (Behind y))) (free_name_is_free names)) q (behind_closes file is names y fPlain refl f.0 tt (λ h. refl) r q)
mode_closes file is names (Behind d) f z l r = behind_closes file is names d d.form.value refl f.around f.form z r l
mode_closes file is names (Listed d) f z l r = listed_closes is names d r
mode_closes file is names (Parameters' d a) f z l r = parameters_closes is names d a f.place f.storage r l
mode_closes file is names (Parameter d a ps c s n x) f z l r =
    let m = mk.param_more ps c s (Some (named n x)) in
    let y = pSome a m.value 0 in
    let h = above m.height in
    on is names names (Parameter d a ps c s n x) (Behind (mk.with_form d (tall (fFunction y) h))) round_close refl refl refl (formed_low d y h (above_some m.height) l) (formed_closes is names d y h f.0.0.place f.0.0.storage r (above_some m.height) l)
mode_closes file is names (Skipped h a q n) f z l r = skipped_closes is names h a q n
mode_closes file is names (Begin o) f z l r = begin_closes is names o l
mode_closes file is names (Wait x) f z l r = waiting_closes file is names x f z r l
mode_closes file is names (Either g ats) f z l r = fork_closes file is names g ats f r l
mode_closes file is names (Goto x o) f z l r =
    let n = free_name names in
    on is names names (Goto x o) (Wait (waitGoto x n 0 o)) (sign (sy.Name n) 0) refl refl (ap (λ b. kept names (ex.when (not b) (Wait (waitGoto x n 0 o)))) (free_name_is_free names)) l (goto_closes is names x n 0 o l)
mode_closes file is names (Operand k) f z l r = operand_closes file is names k l f r
mode_closes file is names (Maybe k) f z l r = maybe_closes file is names k l f r.0 r.1
mode_closes file is names (Sizeof x k) f z l r =
    let j = inBind (bPrefix pre.Sizeof x) k in
    on is names names (Sizeof x k) (Value (part 15 1 one) j) one_sign refl refl refl l (by_value is names (part 15 1 one) j (inner_leads file is names j (part 15 1 one) (omega (arith, least_le j)) (omega arith) l (tt, f) r))
mode_closes file is names (Value e k) f z l r = by_value is names e k (inner_leads file is names k e f.0 r.0 l f.2 r.1)
mode_closes file is names (Label n x y ats o) f z l r = label_closes is names n x y ats o l
mode_closes file is names (Whole s o) f z l r = whole_closes is names s o l
mode_closes file is names Finished f z l r = record { more = []; tree = is; ends = refl }
