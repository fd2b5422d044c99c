-- How an item ends, in each mode of the machine.
use Rattle.std.proofs.Common.{◌≡◌, ℕ, ◌≤◌, List, [], ◌∷◌, None, Some, true, false, refl, subst, sym, ap, ◌∙◌, arith}
use Rattle.c_tree.specs.declared.symbol.Bracket.TheVariants as br
use Rattle.c_tree.specs.declared.symbol.StatementWord.TheVariants as key
use Rattle.c_tree.specs.declared.symbol.Symbol.TheVariants as sy
use Rattle.c_tree.specs.declared.symbol.SymbolAt.{SymbolAt}
use Rattle.c_tree.specs.declared.tree.PrefixOp.TheVariants as pre
use Rattle.c_tree.specs.declared.known.Known.{Known}
use Rattle.c_tree.specs.Symbols.{sign}
use Rattle.c_tree.specs.Spelling.{opening, closing, word, spell, spell_attribute}
use Rattle.c_tree.specs.Shape as sh
use Rattle.std.specs.Option.{option_and_then}
use Rattle.c_tree.specs.Words.{with_word}
use Rattle.c_tree.specs.Tree.{no_raw, At, attribute, attributes_and, words_and, wAttribute, wTag, plain_and, Decs, no_declarators, declarators_and, params_and, pUnknown, pVoid, pSome, iList, named, head, forExpr, for_head, sEmpty, sIf, sWhile, sSwitch, sDo, sFor, sDefault, sLabel, sGoto, sBreak, sContinue, bSkipped}
use Rattle.parse_machine.specs.Contexts.{Spoken, bPrefix, testIf, testWhile, testSwitch, Declared, Around, Inner, inBind, Listing, Attributed, onWords, onDeclared, onLabel, Fork, forkCast, forkSizeof, forkBlock, forkFor, Waiting, waitTest, waitWhile, waitDo, waitDone, waitFor, waitDefault, waitGoto, waitBreak, waitContinue, waitVoid, waitList, waitAttribute, Mode, File, Ended, Specifiers, Enumeration, Tagged, Constant, Named, Attribute, Next, Behind, Listed, Parameters', Parameter, Skipped, Begin, Wait, Either, Goto, Operand, Maybe, Sizeof, Value, Label, Whole, Finished}
use Rattle.parse_machine.specs.Making as mk
use Rattle.parse_machine.specs.Heights as ht
use Rattle.parse_machine.specs.Heights.{least}
use Rattle.parse_machine.specs.Declarations as decl
use Rattle.parse_machine.specs.Specifiers.{site_of}
use Rattle.parse_machine.specs.Statements as stt
use Rattle.parse_laws.proofs.Before as b
use Rattle.parse_laws.proofs.Fits.{scope, around_names, listing_names, FitNamed, FitAround, FitInner, FitListing, FitAttributed, FitFork, FitWaiting, Fit}
use Rattle.parse_laws.proofs.Parts.{comma_some}
use Rattle.parse_laws.proofs.SoundEx.{may_list}
use Rattle.parse_laws.proofs.SoundSt.{function_fits}
use Rattle.parse_laws.proofs.SoundSpecs.{said_fits}
use Rattle.first_token_laws.proofs.Fillers.{one, one_part, free_name, free_name_is_free, balance, named_is_typed}
use Rattle.first_token_laws.proofs.EndSt.{Ends, ends_on, outer_ends, begin_ends}
use Rattle.first_token_laws.proofs.EndDecl.{IsSure, declaring_ends, declared_ends, function_ends, name_ends, behind_ends}
use Rattle.first_token_laws.proofs.EndEx.{inner_ends, words_end, enum_ends, said_ends, operand_ends}

-- Attributes.

-- what may have one more attribute
abbrev pub MayHave : Attributed → Type 0
MayHave (onDeclared d) = decl.may_have_attribute d ≡ true
MayHave _ = Unit {0}

pub with_sure : (d : Declared) (x : At) → decl.may_have_attribute d ≡ true → IsSure (mk.with_attributes d (attributes_and d.attributes x))
with_sure d x m = λ n. let q : true ≡ false = sym m ∙ n in cc

attributed_ends : (file : List (List ℕ)) (y : Attributed) (x : At) → FitAttributed file y → MayHave y → sh.ShapedAttribute x → Ends file (λ r. b.attributed y (spell_attribute x r))
attributed_ends file (onWords s w) x f m g = ends_on file _ _ (λ r. r) (λ r. refl) (said_ends file (mk.said s s.told (wAttribute x) 0) w (said_fits (site_of w) (around_names file w) s (wAttribute x) s.told 0 f.0 refl g, f.1))
attributed_ends file (onDeclared d) x f m g =
    ends_on file _ _ (λ r. r) (λ r. refl)
    (behind_ends file (mk.with_attributes d (attributes_and d.attributes x)) (record { around = f.around; comma = f.comma; name = f.name; shaped = f.shaped; attributes = (f.attributes, g); form = f.form }) (with_sure d x m))
attributed_ends file (onLabel n at c ats o) x f m g =
    ends_on file _ _ (λ r. sign sy.Semicolon 0 ∷ r) (λ r. refl) (outer_ends file o (sLabel n at c (attributes_and ats x) (sEmpty 0)) f.2 tt (f.0, (f.1, g), tt, tt))

-- Where one token is to come.

abbrev while_one : List SymbolAt → List SymbolAt
while_one r = word key.While 0 ∷ opening br.Round 0 ∷ spell one (closing br.Round 0 ∷ sign sy.Semicolon 0 ∷ r)

abbrev in_round : List SymbolAt → List SymbolAt
in_round r = opening br.Round 0 ∷ spell one (closing br.Round 0 ∷ sign sy.Semicolon 0 ∷ r)

abbrev pub SureWaiting : Waiting → Type 0
SureWaiting (waitAttribute w at x) = MayHave x
SureWaiting _ = Unit {0}

waiting_ends : (file : List (List ℕ)) (x : Waiting) → FitWaiting file x → SureWaiting x → Ends file (b.waiting x)
waiting_ends file (waitTest testIf at o) f m = ends_on file _ _ in_round (λ r. refl) (outer_ends file o (sIf (head at 0 one 0) (sEmpty 0)) f tt (tt, tt, tt))
waiting_ends file (waitTest testWhile at o) f m = ends_on file _ _ in_round (λ r. refl) (outer_ends file o (sWhile (head at 0 one 0) (sEmpty 0)) f tt (tt, tt, tt))
waiting_ends file (waitTest testSwitch at o) f m = ends_on file _ _ in_round (λ r. refl) (outer_ends file o (sSwitch (head at 0 one 0) (sEmpty 0)) f tt (tt, tt, tt))
waiting_ends file (waitWhile at s o) f m = ends_on file _ _ while_one (λ r. refl) (outer_ends file o (sDo at s (head 0 0 one 0) 0) f.2 tt (tt, f.0, f.1))
waiting_ends file (waitDo at s x o) f m = ends_on file _ _ in_round (λ r. refl) (outer_ends file o (sDo at s (head x 0 one 0) 0) f.2 tt (tt, f.0, f.1))
waiting_ends file (waitDone at s h o) f m = ends_on file _ _ (λ r. sign sy.Semicolon 0 ∷ r) (λ r. refl) (outer_ends file o (sDo at s h 0) f.3 tt (f.2, f.0, f.1))
waiting_ends file (waitFor at o) f m =
    ends_on file _ _ (λ r. opening br.Round 0 ∷ sign sy.Semicolon 0 ∷ sign sy.Semicolon 0 ∷ closing br.Round 0 ∷ sign sy.Semicolon 0 ∷ r) (λ r. refl)
    (outer_ends file o (sFor (for_head at 0 (forExpr None 0) None 0 None 0) (sEmpty 0)) f tt ((tt, tt, tt), tt, tt))
waiting_ends file (waitDefault at o) f m = ends_on file _ _ (λ r. sign sy.Colon 0 ∷ sign sy.Semicolon 0 ∷ r) (λ r. refl) (outer_ends file o (sDefault at 0 (sEmpty 0)) f tt (tt, tt))
waiting_ends file (waitGoto at n x o) f m = ends_on file _ _ (λ r. sign sy.Semicolon 0 ∷ r) (λ r. refl) (outer_ends file o (sGoto at n x 0) f.1 tt f.0)
waiting_ends file (waitBreak at o) f m = ends_on file _ _ (λ r. sign sy.Semicolon 0 ∷ r) (λ r. refl) (outer_ends file o (sBreak at 0) f tt tt)
waiting_ends file (waitContinue at o) f m = ends_on file _ _ (λ r. sign sy.Semicolon 0 ∷ r) (λ r. refl) (outer_ends file o (sContinue at 0) f tt tt)
waiting_ends file (waitVoid d a at) f m = ends_on file _ _ (λ r. closing br.Round 0 ∷ r) (λ r. refl) (function_ends file d (pVoid a at 0) f tt)
waiting_ends file (waitList d at) f m =
    ends_on file _ _ (λ r. opening br.Curly 0 ∷ spell one (closing br.Curly 0 ∷ r)) (λ r. refl)
    (declared_ends file d (iList at 0 one_part None 0) f.0 (may_list (ht.site_of_place d.around.place) _ _ at 0 one_part None 0 f.2 f.1) (refl, (tt, omega arith, tt, tt)))
waiting_ends file (waitAttribute w at x) f m = ends_on file _ _ (λ r. opening br.Round 0 ∷ closing br.Round 0 ∷ r) (λ r. refl) (attributed_ends file x (attribute w at 0 no_raw 0) f m refl)

-- Where words or an expression are to come.

pub fork_fits : (file : List (List ℕ)) (f : Fork) → FitFork file f → FitInner file (stt.fork_inner f)
fork_fits file (forkCast a k) w = (tt, w.1)
fork_fits file (forkSizeof at a k) w = (tt, (tt, w))
fork_fits file (forkBlock o) w = w.1
fork_fits file (forkFor m at a o) w = w

pub fork_reads : (f : Fork) (r : List SymbolAt) → b.inner (stt.fork_inner f) r ≡ b.fork f r
fork_reads (forkCast a k) r = refl
fork_reads (forkSizeof at a k) r = refl
fork_reads (forkBlock o) r = refl
fork_reads (forkFor m at a o) r = refl

pub binds_fit : (file : List (List ℕ)) (ats : List ℕ) (k : Inner) → FitInner file k → FitInner file (stt.extension_binds ats k)
binds_fit file [] k f = f
binds_fit file (x ∷ ats) k f = binds_fit file ats (inBind (bPrefix pre.Extension x) k) (tt, f)

pub binds_read : (ats : List ℕ) (k : Inner) (r : List SymbolAt) → b.inner (stt.extension_binds ats k) r ≡ b.inner k (b.extensions ats r)
binds_read [] k r = refl
binds_read (x ∷ ats) k r = binds_read ats (inBind (bPrefix pre.Extension x) k) r

fork_ends : (file : List (List ℕ)) (f : Fork) (ats : List ℕ) → FitFork file f → Ends file (λ r. b.fork f (b.extensions ats r))
fork_ends file f ats w =
    ends_on file _ _ (λ r. r) (λ r. binds_read ats (stt.fork_inner f) r ∙ fork_reads f (b.extensions ats r))
    (operand_ends file (stt.extension_binds ats (stt.fork_inner f)) (binds_fit file ats (stt.fork_inner f) (fork_fits file f w)))

-- Enumerations.

tag_ends : (file : List (List ℕ)) (at : ℕ) (n : List ℕ) (x : ℕ) (s : Spoken) (w : Around) → FitNamed (site_of w) (around_names file w) s → sh.has (around_names file w) n ≡ false → FitAround file w → Ends file (λ r. b.said s w (sign sy.Enum at ∷ b.name_sign n x ∷ r))
tag_ends file at n x s w z f g =
    ends_on file _ _ (λ r. r) (λ r. refl)
    (words_end file w (words_and s.words (wTag at n x)) s.told g (subst (λ o. option_and_then (with_word (site_of w) (wTag at n x)) o ≡ Some s.told) (sym z.told) z.named) (z.shaped, f) (named_is_typed z.before s.told z.named))

constant_ends : (file : List (List ℕ)) (l : Listing) (n : List ℕ) (at : ℕ) → FitListing file l → sh.has (listing_names file l) n ≡ false → Ends file (λ r. b.listing l (b.name_sign n at ∷ r))
constant_ends file l n at f h =
    ends_on file _ _ (λ r. closing br.Curly 0 ∷ r) (λ r. refl) (enum_ends file l.around l.spoken l.head (plain_and l.before.value l.comma n at) f.around f.named f.head refl (f.comma, h, f.before))

-- All modes of an item.

-- what the machine knows beside what fits
abbrev pub Sure : Mode → Type 0
Sure (Behind d) = IsSure d
Sure (Wait x) = SureWaiting x
Sure (Attribute w at a t n x) = MayHave x
Sure _ = Unit {0}

-- an item has begun, or is whole
abbrev pub HasBegun : Mode → Type 0
HasBegun File = ⊥
HasBegun Finished = ⊥
HasBegun _ = Unit {0}

may_end_some : (k : Known) (ds : Decs) → sh.are_no_declarators ds ≡ false → sh.may_end k ds ≡ true
may_end_some k no_declarators h = cc
may_end_some k (declarators_and ds c n g a i) h = refl

pub mode_ends : (file : List (List ℕ)) (m : Mode) → HasBegun m → Fit file m → Sure m → Ends file (b.mode m)
mode_ends file File h f z = absurd h
mode_ends file (Ended i x) h f z = record { item = i; fits = f; more = λ r. r; spelled = λ r. refl }
mode_ends file (Specifiers s w) h f z = said_ends file s w f
mode_ends file (Enumeration at s w) h f z =
    let n = free_name (around_names file w) in
    ends_on file _ _ (λ r. b.name_sign n 0 ∷ r) (λ r. refl) (tag_ends file at n 0 s w f.0 (free_name_is_free (around_names file w)) f.1)
mode_ends file (Tagged at n x s w) h f z = tag_ends file at n x s w f.0 f.1 f.2
mode_ends file (Constant l) h f z =
    let n = free_name (listing_names file l) in
    ends_on file _ _ (λ r. b.name_sign n 0 ∷ r) (λ r. refl) (constant_ends file l n 0 f (free_name_is_free (listing_names file l)))
mode_ends file (Named l n at) h f z = constant_ends file l n at f.0 f.1
mode_ends file (Attribute w at a t n x) h f z =
    let y = balance br.Round n t f.1 in
    ends_on file _ _ (λ r. y.more (closing br.Round 0 ∷ r)) (λ r. ap (λ q. b.attributed x (sign (sy.Attribute w) at ∷ opening br.Round a ∷ q)) (y.spells (closing br.Round 0 ∷ r)))
    (attributed_ends file x (attribute w at a y.raw 0) f.0 z y.balanced)
mode_ends file (Next d at) h f z = name_ends file d (Some at) f.0 (comma_some _ at f.1)
mode_ends file (Behind d) h f z = behind_ends file d f z
mode_ends file (Listed d) h f z = declaring_ends file d f.0 (may_end_some d.spoken.told d.before.value f.1)
mode_ends file (Parameters' d a) h f z = ends_on file _ _ (λ r. closing br.Round 0 ∷ r) (λ r. refl) (function_ends file d (pUnknown a 0) f tt)
mode_ends file (Parameter d a ps c s n at) h f z =
    ends_on file _ _ (λ r. closing br.Round 0 ∷ r) (λ r. refl)
    (function_ends file d (pSome a (params_and ps.value c s.words (Some (named n at))) 0) f.0.0 (refl, (f.0.2, record { told = s.told; together = f.1.told; typed = f.2 }, f.1.shaped, f.3, f.0.1)))
mode_ends file (Skipped g a t n) h f z =
    let y = balance br.Curly n t f.2 in
    record {
      item = stt.function_item g (bSkipped a y.raw 0);
      fits = function_fits file g (bSkipped a y.raw 0) f.0 (subst (λ q. sh.ShapedBody q file (bSkipped a y.raw 0)) (sym f.1) y.balanced);
      more = λ r. y.more (closing br.Curly 0 ∷ r);
      spelled = λ r. ap (λ q. b.header g (opening br.Curly a ∷ q)) (y.spells (closing br.Curly 0 ∷ r));
    }
mode_ends file (Begin o) h f z = begin_ends file o f
mode_ends file (Wait x) h f z = waiting_ends file x f z
mode_ends file (Either g ats) h f z = fork_ends file g ats f
mode_ends file (Goto at o) h f z =
    let n = free_name (scope file o) in
    ends_on file _ _ (λ r. b.name_sign n 0 ∷ sign sy.Semicolon 0 ∷ r) (λ r. refl) (outer_ends file o (sGoto at n 0 0) f tt (free_name_is_free (scope file o)))
mode_ends file (Operand k) h f z = operand_ends file k f
mode_ends file (Maybe k) h f z = operand_ends file k f
mode_ends file (Sizeof at k) h f z = operand_ends file (inBind (bPrefix pre.Sizeof at) k) (tt, f)
mode_ends file (Value e k) h f z = inner_ends file k e.value f.2 (subst (λ l. least k ≤ l) (sym f.1.level) f.0) f.1.shaped
mode_ends file (Label n at c ats o) h f z =
    ends_on file _ _ (λ r. sign sy.Semicolon 0 ∷ r) (λ r. refl) (outer_ends file o (sLabel n at c ats (sEmpty 0)) f.2 tt (f.0, f.1, tt, tt))
mode_ends file (Whole s o) h f z = outer_ends file o s f.3 f.1 f.2
mode_ends file Finished h f z = absurd h
