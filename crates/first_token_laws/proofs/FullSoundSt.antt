-- The machine that keeps each tree: a token where a statement is to come, inside one, or behind one.
use Rattle.first_token_laws.proofs.Full as full
use Rattle.std.proofs.Common.{◌≡◌, ℕ, List, [], ◌∷◌, ◌++◌, take, Some, Bool, true, false, not, if◌then◌else◌, refl, subst, sym, ap, ◌∙◌}
use Rattle.first_token_laws.proofs.EndSt.{is_statement, wrap_shaped, wrap_spells, wrap_stands}
use Rattle.first_token_laws.proofs.EndMode.{fork_fits, fork_reads, binds_fit, binds_read}
use Rattle.c_tree.specs.declared.symbol.Bracket.{Bracket}
use Rattle.c_tree.specs.declared.symbol.Bracket.TheVariants as br
use Rattle.c_tree.specs.declared.symbol.StatementWord.{StatementWord}
use Rattle.c_tree.specs.declared.symbol.StatementWord.TheVariants as key
use Rattle.c_tree.specs.declared.symbol.Symbol.{Symbol}
use Rattle.c_tree.specs.declared.symbol.Symbol.TheVariants as sy
use Rattle.c_tree.specs.declared.symbol.SymbolAt.{SymbolAt}
use Rattle.c_tree.specs.declared.tree.PrefixOp.TheVariants as pre
use Rattle.c_tree.specs.declared.known.Site.{Site}
use Rattle.c_tree.specs.Symbols.{sign}
use Rattle.c_tree.specs.Spelling.{closing, word, spell_words, spell_attributes, spell_statement}
use Rattle.c_tree.specs.Shape as sh
use Rattle.c_tree.specs.Tree.{Ats, wExtension, pVoid, fFunction, St, sDeclaration, bBlock}
use Rattle.parse_machine.specs.Tokens.{prefix_of, spTypedef, spOther, is_awaited}
use Rattle.parse_machine.specs.Contexts.{Spoken, bPrefix, Wrap, wThen, wElse, wWhile, wSwitch, wFor, wCase, wDefault, wLabel, Outer, outBody, outBlock, outDo, outWrap, baseStatement, Inner, inBase, inBind, Fork, forkCast, forkSizeof, forkBlock, forkFor, Waiting, waitTest, waitWhile, waitDo, waitDone, waitFor, waitDefault, waitGoto, waitBreak, waitContinue, waitVoid, waitList, waitAttribute, Label, Whole}
use Rattle.parse_machine.specs.Making as mk
use Rattle.parse_machine.specs.Making.{above, tall}
use Rattle.parse_machine.specs.Heights.{is_list}
use Rattle.parse_laws.proofs.Before as b
use Rattle.parse_laws.proofs.Fits.{wrap_names, scope, inner_names, around_names, fork_names, waiting_names, FitSpoken, FitWrap, FitOuter, FitAround, FitFork, FitWaiting, Stands, Fit}
use Rattle.parse_machine.specs.Specifiers as sp
use Rattle.parse_machine.specs.Declarations.{kept}
use Rattle.parse_machine.specs.Statements as stt
use Rattle.parse_machine.specs.Tokens.{Awaited, awaitOpen, awaitClose, awaitSemicolon, awaitColon, awaitWhile}
use Rattle.parse_laws.proofs.Scopes.{left_block, left_for}
use Rattle.first_token_laws.proofs.FullGood.{GoodMode, GoodTurn, kept_good, same_mode, same_turn, tested}
use Rattle.parse_laws.proofs.Good.{not_true}
use Rattle.first_token_laws.proofs.FullSoundEx.{operand_good}
use Rattle.parse_laws.proofs.SoundEnds.{formed_reads, with_form_fits}
use Rattle.first_token_laws.proofs.FullSoundEnds.{maybe_good}
use Rattle.parse_laws.proofs.SoundSpecs.{said_fits}
use Rattle.first_token_laws.proofs.FullSoundSpecs.{specs_good}
use Rattle.parse_laws.proofs.SoundSt.{function_fits}

abbrev Reader : Type 0
Reader = List SymbolAt → List SymbolAt

-- Words or an expression.

fork_inner_names : (file : List (List ℕ)) (f : Fork) → fork_names file f ≡ inner_names file (stt.fork_inner f)
fork_inner_names file (forkCast a k) = refl
fork_inner_names file (forkSizeof at a k) = refl
fork_inner_names file (forkBlock o) = refl
fork_inner_names file (forkFor m at a o) = refl

binds_names : (file : List (List ℕ)) (ats : List ℕ) (k : Inner) → inner_names file k ≡ inner_names file (stt.extension_binds ats k)
binds_names file [] k = refl
binds_names file (x ∷ ats) k = binds_names file ats (inBind (bPrefix pre.Extension x) k)

fork_fits_around : (file : List (List ℕ)) (f : Fork) → FitFork file f → FitAround file (stt.fork_around f)
fork_fits_around file (forkCast a k) w = w
fork_fits_around file (forkSizeof at a k) w = w
fork_fits_around file (forkBlock o) w = w
fork_fits_around file (forkFor m at a o) w = w

fork_around_names : (file : List (List ℕ)) (f : Fork) → fork_names file f ≡ around_names file (stt.fork_around f)
fork_around_names file (forkCast a k) = refl
fork_around_names file (forkSizeof at a k) = refl
fork_around_names file (forkBlock o) = refl
fork_around_names file (forkFor m at a o) = refl

fork_around_reads : (f : Fork) (r : List SymbolAt) → b.around (stt.fork_around f) r ≡ b.fork f r
fork_around_reads (forkCast a k) r = refl
fork_around_reads (forkSizeof at a k) r = refl
fork_around_reads (forkBlock o) r = refl
fork_around_reads (forkFor m at a o) r = refl

words_fit : (s : Site) (ns : List (List ℕ)) (ats : List ℕ) (x : Spoken) → FitSpoken s ns x → FitSpoken s ns (mk.extension_words ats x)
words_fit s ns [] x f = f
words_fit s ns (at ∷ ats) x f = words_fit s ns ats (mk.said x x.told (wExtension at) 0) (said_fits s ns x (wExtension at) x.told 0 f refl tt)

words_read : (ats : List ℕ) (x : Spoken) (r : List SymbolAt) → spell_words (mk.extension_words ats x).words r ≡ spell_words x.words (b.extensions ats r)
words_read [] x r = refl
words_read (at ∷ ats) x r = words_read ats (mk.said x x.told (wExtension at) 0) r

extensions_more : (ats : List ℕ) (at : ℕ) (r : List SymbolAt) → b.extensions (ats ++ at ∷ []) r ≡ b.extensions ats (sign sy.Extension at ∷ r)
extensions_more [] at r = refl
extensions_more (x ∷ ats) at r = ap (λ y. sign sy.Extension x ∷ y) (extensions_more ats at r)

-- the words of a declaration
fork_words_good : (file : List (List ℕ)) (t : Symbol) (at : ℕ) (f : Fork) (ats : List ℕ) → FitFork file f → GoodMode file (fork_names file f) (λ r. b.fork f (b.extensions ats (sign t at ∷ r))) (full.step_specs (fork_names file f) t at (mk.extension_words ats mk.unspoken) (stt.fork_around f))
fork_words_good file t at f ats w =
    let s = mk.extension_words ats mk.unspoken in
    let g = specs_good file t at s (stt.fork_around f) (words_fit (sp.site_of (stt.fork_around f)) (around_names file (stt.fork_around f)) ats mk.unspoken (record { told = refl; shaped = tt }), fork_fits_around file f w) in
    subst (λ n. GoodMode file n (λ r. b.fork f (b.extensions ats (sign t at ∷ r))) (full.step_specs n t at s (stt.fork_around f))) (sym (fork_around_names file f))
    (same_mode file _ _ _ _ (full.step_specs (around_names file (stt.fork_around f)) t at s (stt.fork_around f)) refl (λ r. ap (b.around (stt.fork_around f)) (words_read ats mk.unspoken (sign t at ∷ r)) ∙ fork_around_reads f (b.extensions ats (sign t at ∷ r))) g)

-- an expression
fork_value_good : (file : List (List ℕ)) (t : Symbol) (at : ℕ) (f : Fork) (ats : List ℕ) → FitFork file f → GoodMode file (fork_names file f) (λ r. b.fork f (b.extensions ats (sign t at ∷ r))) (full.step_maybe (fork_names file f) t at (stt.extension_binds ats (stt.fork_inner f)))
fork_value_good file t at f ats w =
    let k = stt.extension_binds ats (stt.fork_inner f) in
    let g = maybe_good file t at k (binds_fit file ats (stt.fork_inner f) (fork_fits file f w)) in
    subst (λ n. GoodMode file n (λ r. b.fork f (b.extensions ats (sign t at ∷ r))) (full.step_maybe n t at k)) (sym (fork_inner_names file f ∙ binds_names file ats (stt.fork_inner f)))
    (same_mode file _ _ _ _ (full.step_maybe (inner_names file k) t at k) refl (λ r. binds_read ats (stt.fork_inner f) (sign t at ∷ r) ∙ fork_reads f (b.extensions ats (sign t at ∷ r))) g)

fork_name_good : (file : List (List ℕ)) (n : List ℕ) (at : ℕ) (f : Fork) (ats : List ℕ) (c : Bool) → FitFork file f → GoodMode file (fork_names file f) (λ r. b.fork f (b.extensions ats (sign (sy.Name n) at ∷ r))) (full.fork_kind (fork_names file f) (if c then spTypedef n else spOther) (sy.Name n) at f ats)
fork_name_good file n at f ats true w = fork_words_good file (sy.Name n) at f ats w
fork_name_good file n at f ats false w = fork_value_good file (sy.Name n) at f ats w

pub either_good : (file : List (List ℕ)) (t : Symbol) (at : ℕ) (f : Fork) (ats : List ℕ) → FitFork file f → GoodMode file (fork_names file f) (λ r. b.fork f (b.extensions ats (sign t at ∷ r))) (full.step_either (fork_names file f) t at f ats)
either_good file sy.Extension at f ats w = (refl, w, λ r. ap (b.fork f) (extensions_more ats at r))
either_good file (sy.Type x) at f ats w = fork_words_good file (sy.Type x) at f ats w
either_good file (sy.Storage x) at f ats w = fork_words_good file (sy.Storage x) at f ats w
either_good file (sy.Const x) at f ats w = fork_words_good file (sy.Const x) at f ats w
either_good file (sy.Attribute x) at f ats w = fork_words_good file (sy.Attribute x) at f ats w
either_good file sy.Enum at f ats w = fork_words_good file sy.Enum at f ats w
either_good file (sy.Name n) at f ats w = fork_name_good file n at f ats (sh.has (fork_names file f) n) w
either_good file t at f ats w = fork_value_good file t at f ats w

-- Where a statement is to come.

close_block_good : (file : List (List ℕ)) (at : ℕ) (o : Outer) → FitOuter file o → GoodTurn file (λ r. b.outer o (closing br.Curly at ∷ r)) (stt.close_block (scope file o) at o)
close_block_good file at (outBody m h a ss) f =
    (left_block m ss file f.0, function_fits file h (bBlock a ss at) f.1 (subst (λ q. sh.ShapedBody q file (bBlock a ss at)) (sym f.2) f.3), λ r. refl)
close_block_good file at (outBlock m a ss o) f = (left_block m ss (scope file o) f.0, (tt, tt, f.1, f.2), λ r. refl)
close_block_good file at (outDo x o) f = tt
close_block_good file at (outWrap w o) f = tt

begin_word_good : (file : List (List ℕ)) (w : StatementWord) (at : ℕ) (o : Outer) → FitOuter file o → GoodMode file (scope file o) (λ r. b.outer o (word w at ∷ r)) (stt.begin_word w at o)
begin_word_good file key.Break at o f = (refl, f, λ r. refl)
begin_word_good file key.Case at o f = (refl, f, λ r. refl)
begin_word_good file key.Continue at o f = (refl, f, λ r. refl)
begin_word_good file key.Default at o f = (refl, f, λ r. refl)
begin_word_good file key.Do at o f = (refl, f, λ r. refl)
begin_word_good file key.Else at o f = tt
begin_word_good file key.For at o f = (refl, f, λ r. refl)
begin_word_good file key.Goto at o f = (refl, f, λ r. refl)
begin_word_good file key.If at o f = (refl, f, λ r. refl)
begin_word_good file key.Return at o f = (refl, f, λ r. refl)
begin_word_good file key.Switch at o f = (refl, f, λ r. refl)
begin_word_good file key.While at o f = (refl, f, λ r. refl)

begin_other_good : (file : List (List ℕ)) (t : Symbol) (at : ℕ) (o : Outer) (c : Bool) → is_list o ≡ c → FitOuter file o → GoodMode file (scope file o) (λ r. b.outer o (sign t at ∷ r)) (if c then full.step_either (scope file o) t at (forkBlock o) [] else full.step_operand (scope file o) (prefix_of t) at (inBase (baseStatement o)))
begin_other_good file t at o true e f = either_good file t at (forkBlock o) [] (e, f)
begin_other_good file t at o false e f = operand_good file t at (inBase (baseStatement o)) f

pub begin_good : (file : List (List ℕ)) (t : Symbol) (at : ℕ) (o : Outer) → FitOuter file o → GoodTurn file (λ r. b.outer o (sign t at ∷ r)) (full.step_begin (scope file o) t at o)
begin_good file sy.Semicolon at o f = (refl, (tt, tt, tt, f), λ r. refl)
begin_good file (sy.Open br.Curly) at o f = (refl, (refl, tt, f), λ r. refl)
begin_good file (sy.Close br.Curly) at o f = close_block_good file at o f
begin_good file (sy.Statement w) at o f = kept_good file _ _ (stt.begin_word w at o) (begin_word_good file w at o f)
begin_good file t at o f = kept_good file _ _ (full.begin_other (scope file o) t at o) (begin_other_good file t at o (is_list o) refl f)

pub goto_good : (file : List (List ℕ)) (t : Symbol) (at x : ℕ) (o : Outer) → FitOuter file o → GoodMode file (scope file o) (λ r. b.outer o (word key.Goto x ∷ sign t at ∷ r)) (stt.step_goto (scope file o) t at x o)
goto_good file (sy.Name n) at x o f = tested file _ _ (not (sh.has (scope file o) n)) _ (λ h. (refl, (not_true _ h, f), λ r. refl))
goto_good file _ at x o f = tt

pub label_behind_good : (file : List (List ℕ)) (t : Symbol) (at : ℕ) (n : List ℕ) (x y : ℕ) (ats : Ats) (o : Outer) → Fit file (Label n x y ats o) → GoodTurn file (λ r. b.outer o (b.name_sign n x ∷ sign sy.Colon y ∷ spell_attributes ats (sign t at ∷ r))) (full.step_label (scope file o) t at n x y ats o)
label_behind_good file (sy.Attribute w) at n x y ats o f = (refl, f, λ r. refl)
label_behind_good file t at n x y ats o f = begin_good file t at (outWrap (wLabel n x y ats) o) ((f.0, f.1), f.2)

-- One token that may come.

abbrev symbol_awaited : Awaited → Symbol
symbol_awaited (awaitOpen c) = sy.Open c
symbol_awaited awaitClose = sy.Close br.Round
symbol_awaited awaitSemicolon = sy.Semicolon
symbol_awaited awaitColon = sy.Colon
symbol_awaited awaitWhile = sy.Statement key.While

open_awaited : (c d : Bracket) → sh.is_bracket c d ≡ true → sy.Open d ≡ sy.Open c
open_awaited br.Round br.Round h = refl
open_awaited br.Square br.Square h = refl
open_awaited br.Curly br.Curly h = refl
open_awaited br.Round br.Square h = cc
open_awaited br.Round br.Curly h = cc
open_awaited br.Square br.Round h = cc
open_awaited br.Square br.Curly h = cc
open_awaited br.Curly br.Round h = cc
open_awaited br.Curly br.Square h = cc

is_it : (a : Awaited) (t : Symbol) → is_awaited a t ≡ true → t ≡ symbol_awaited a
is_it (awaitOpen c) (sy.Open d) h = open_awaited c d h
is_it awaitClose (sy.Close br.Round) h = refl
is_it awaitSemicolon sy.Semicolon h = refl
is_it awaitColon sy.Colon h = refl
is_it awaitWhile (sy.Statement key.While) h = refl
is_it _ _ h = cc

arrived_good : (file : List (List ℕ)) (at : ℕ) (x : Waiting) → FitWaiting file x → GoodMode file (waiting_names file x) (λ r. b.waiting x (sign (symbol_awaited (stt.awaited x)) at ∷ r)) (Some (stt.arrived (waiting_names file x) at x))
arrived_good file at (waitTest t x o) f = (refl, f, λ r. refl)
arrived_good file at (waitWhile x s o) f = (refl, f, λ r. refl)
arrived_good file at (waitDo x s y o) f = (refl, f, λ r. refl)
arrived_good file at (waitDone x s h o) f = (refl, (tt, tt, (f.2, f.0, f.1), f.3), λ r. refl)
arrived_good file at (waitFor x o) f = (refl, (refl, f), λ r. refl)
arrived_good file at (waitDefault x o) f = (refl, (tt, f), λ r. refl)
arrived_good file at (waitGoto x n y o) f = (refl, (tt, tt, f.0, f.1), λ r. refl)
arrived_good file at (waitBreak x o) f = (refl, (tt, tt, tt, f), λ r. refl)
arrived_good file at (waitContinue x o) f = (refl, (tt, tt, tt, f), λ r. refl)
arrived_good file at (waitVoid d a x) f =
    let y = tall (fFunction (pVoid a x at)) 1 in
    (refl, with_form_fits file d y f.declared tt (f.place, f.storage), λ r. formed_reads d y f.bare r)
arrived_good file at (waitList d x) f = (refl, (f.0, f.1, f.2, tt, tt), λ r. refl)
arrived_good file at (waitAttribute w x y) f = (refl, (f, refl), λ r. refl)

pub wait_good : (file : List (List ℕ)) (t : Symbol) (at : ℕ) (x : Waiting) → FitWaiting file x → GoodMode file (waiting_names file x) (λ r. b.waiting x (sign t at ∷ r)) (stt.step_wait (waiting_names file x) t at x)
wait_good file t at x f =
    tested file _ _ (is_awaited (stt.awaited x) t) _ (λ h.
    same_mode file _ _ _ _ (Some (stt.arrived (waiting_names file x) at x)) refl (λ r. ap (λ s. b.waiting x (sign s at ∷ r)) (sym (is_it (stt.awaited x) t h))) (arrived_good file at x f))

-- A statement is whole.

alone_names : (s : St) (ns : List (List ℕ)) → sh.IsStatement s → sh.statement_names s ns ≡ ns
alone_names (sDeclaration d) ns h = absurd h
alone_names _ ns h = refl

left_names : (w : Wrap) (s : St) (ns : List (List ℕ)) → FitWrap ns w → sh.IsStatement s → stt.left w (sh.statement_names s (wrap_names w ns)) ≡ ns
left_names (wThen h) s ns f i = alone_names s ns i
left_names (wElse h a at) s ns f i = alone_names s ns i
left_names (wWhile h) s ns f i = alone_names s ns i
left_names (wSwitch h) s ns f i = alone_names s ns i
left_names (wFor m h) s ns f i = ap (take m) (alone_names s (sh.for_names h ns) i) ∙ left_for m h ns f.0
left_names (wCase at e c) s ns f i = alone_names s ns i
left_names (wDefault at c) s ns f i = alone_names s ns i
left_names (wLabel n at c ats) s ns f i = alone_names s ns i

wrapped_names : (w : Wrap) (s : St) (ns : List (List ℕ)) → sh.statement_names (mk.wrapped w s) ns ≡ ns
wrapped_names (wThen h) s ns = refl
wrapped_names (wElse h a at) s ns = refl
wrapped_names (wWhile h) s ns = refl
wrapped_names (wSwitch h) s ns = refl
wrapped_names (wFor m h) s ns = refl
wrapped_names (wCase at e c) s ns = refl
wrapped_names (wDefault at c) s ns = refl
wrapped_names (wLabel n at c ats) s ns = refl

abbrev GoodSettled : List (List ℕ) → Reader → stt.Settled → Type 0
GoodSettled file p (stt.inBlock o names) = (names ≡ scope file o) × FitOuter file o × ((r : List SymbolAt) → b.outer o r ≡ p r)
GoodSettled file p (stt.inDo x s o names) = (names ≡ scope file o) × sh.IsStatement s × sh.ShapedStatement s (scope file o) × FitOuter file o × ((r : List SymbolAt) → b.outer o (word key.Do x ∷ spell_statement s r) ≡ p r)

same_settled : (file : List (List ℕ)) (p q : Reader) (x : stt.Settled) → ((r : List SymbolAt) → p r ≡ q r) → GoodSettled file p x → GoodSettled file q x
same_settled file p q (stt.inBlock o names) e g = (g.0, g.1, λ r. g.2 r ∙ e r)
same_settled file p q (stt.inDo x s o names) e g = (g.0, g.1, g.2, g.3, λ r. g.4 r ∙ e r)

settle_good : (file : List (List ℕ)) (o : Outer) (s : St) (names : List (List ℕ)) → names ≡ sh.statement_names s (scope file o) → Stands s o → sh.ShapedStatement s (scope file o) → FitOuter file o → GoodSettled file (λ r. b.outer o (spell_statement s r)) (stt.settle names o s)
settle_good file (outBody m h a ss) s names e t g f = (e, (f.0, f.1, f.2, (f.3, g)), λ r. refl)
settle_good file (outBlock m a ss o) s names e t g f = (e, (f.0, (f.1, g), f.2), λ r. refl)
settle_good file (outDo x o) s names e t g f =
    let i = is_statement s (outDo x o) refl t in (e ∙ alone_names s (scope file o) i, i, g, f, λ r. refl)
settle_good file (outWrap w o) s names e t g f =
    let i = is_statement s (outWrap w o) refl t in
    same_settled file _ _ (stt.settle (stt.left w names) o (mk.wrapped w s)) (λ r. ap (b.outer o) (wrap_spells w s r))
    (settle_good file o (mk.wrapped w s) (stt.left w names) (ap (stt.left w) e ∙ left_names w s (scope file o) f.0 i ∙ sym (wrapped_names w s (scope file o))) (wrap_stands w s o) (wrap_shaped (scope file o) w s f.0 i g) f.1)

settled_good : (file : List (List ℕ)) (p : Reader) (t : Symbol) (at : ℕ) (x : stt.Settled) → GoodSettled file p x → GoodTurn file (λ r. p (sign t at ∷ r)) (full.step_settled t at x)
settled_good file p t at (stt.inBlock o names) g =
    same_turn file _ _ (full.step_begin names t at o) (λ r. g.2 (sign t at ∷ r)) (subst (λ n. GoodTurn file (λ r. b.outer o (sign t at ∷ r)) (full.step_begin n t at o)) (sym g.0) (begin_good file t at o g.1))
settled_good file p t at (stt.inDo x s o names) g =
    same_turn file _ _ (kept names (stt.step_wait names t at (waitWhile x s o))) (λ r. g.4 (sign t at ∷ r))
    (subst (λ n. GoodTurn file (λ r. b.outer o (word key.Do x ∷ spell_statement s (sign t at ∷ r))) (kept n (stt.step_wait n t at (waitWhile x s o)))) (sym g.0)
    (kept_good file _ _ (stt.step_wait (scope file o) t at (waitWhile x s o)) (wait_good file t at (waitWhile x s o) (g.1, g.2, g.3))))

-- what is around an `else` that does not belong to it
otherwise_on : (file : List (List ℕ)) (at : ℕ) (w : Wrap) (o : Outer) (s : St) (names : List (List ℕ)) → GoodTurn file (λ r. b.outer o (spell_statement (mk.wrapped w s) (word key.Else at ∷ r))) (stt.otherwise (stt.left w names) at o (mk.wrapped w s)) → GoodTurn file (λ r. b.outer o (b.wrap w (spell_statement s (word key.Else at ∷ r)))) (stt.otherwise (stt.left w names) at o (mk.wrapped w s))
otherwise_on file at w o s names g = same_turn file _ _ (stt.otherwise (stt.left w names) at o (mk.wrapped w s)) (λ r. ap (b.outer o) (wrap_spells w s (word key.Else at ∷ r))) g

otherwise_good : (file : List (List ℕ)) (at : ℕ) (o : Outer) (s : St) (names : List (List ℕ)) → names ≡ sh.statement_names s (scope file o) → sh.Closed s → Stands s o → sh.ShapedStatement s (scope file o) → FitOuter file o → GoodTurn file (λ r. b.outer o (spell_statement s (word key.Else at ∷ r))) (stt.otherwise names at o s)
otherwise_good file at (outBody m h a ss) s names e c t g f = tt
otherwise_good file at (outBlock m a ss o) s names e c t g f = tt
otherwise_good file at (outDo x o) s names e c t g f = tt
otherwise_good file at (outWrap (wThen h) o) s names e c t g f =
    let i = is_statement s (outWrap (wThen h) o) refl t in
    (e ∙ alone_names s (scope file o) i, ((f.0, c, i, g), f.1), λ r. refl)
otherwise_good file at (outWrap (wElse h a x) o) s names e c t g f =
    let i = is_statement s (outWrap (wElse h a x) o) refl t in
    otherwise_on file at (wElse h a x) o s names
    (otherwise_good file at o (mk.wrapped (wElse h a x) s) (stt.left (wElse h a x) names) (ap (stt.left (wElse h a x)) e ∙ left_names (wElse h a x) s (scope file o) f.0 i ∙ sym (wrapped_names (wElse h a x) s (scope file o))) c (wrap_stands (wElse h a x) s o) (wrap_shaped (scope file o) (wElse h a x) s f.0 i g) f.1)
otherwise_good file at (outWrap (wWhile h) o) s names e c t g f =
    let i = is_statement s (outWrap (wWhile h) o) refl t in
    otherwise_on file at (wWhile h) o s names
    (otherwise_good file at o (mk.wrapped (wWhile h) s) (stt.left (wWhile h) names) (ap (stt.left (wWhile h)) e ∙ left_names (wWhile h) s (scope file o) f.0 i ∙ sym (wrapped_names (wWhile h) s (scope file o))) c (wrap_stands (wWhile h) s o) (wrap_shaped (scope file o) (wWhile h) s f.0 i g) f.1)
otherwise_good file at (outWrap (wSwitch h) o) s names e c t g f =
    let i = is_statement s (outWrap (wSwitch h) o) refl t in
    otherwise_on file at (wSwitch h) o s names
    (otherwise_good file at o (mk.wrapped (wSwitch h) s) (stt.left (wSwitch h) names) (ap (stt.left (wSwitch h)) e ∙ left_names (wSwitch h) s (scope file o) f.0 i ∙ sym (wrapped_names (wSwitch h) s (scope file o))) c (wrap_stands (wSwitch h) s o) (wrap_shaped (scope file o) (wSwitch h) s f.0 i g) f.1)
otherwise_good file at (outWrap (wFor m h) o) s names e c t g f =
    let i = is_statement s (outWrap (wFor m h) o) refl t in
    otherwise_on file at (wFor m h) o s names
    (otherwise_good file at o (mk.wrapped (wFor m h) s) (stt.left (wFor m h) names) (ap (stt.left (wFor m h)) e ∙ left_names (wFor m h) s (scope file o) f.0 i ∙ sym (wrapped_names (wFor m h) s (scope file o))) c (wrap_stands (wFor m h) s o) (wrap_shaped (scope file o) (wFor m h) s f.0 i g) f.1)
otherwise_good file at (outWrap (wCase x v y) o) s names e c t g f =
    let i = is_statement s (outWrap (wCase x v y) o) refl t in
    otherwise_on file at (wCase x v y) o s names
    (otherwise_good file at o (mk.wrapped (wCase x v y) s) (stt.left (wCase x v y) names) (ap (stt.left (wCase x v y)) e ∙ left_names (wCase x v y) s (scope file o) f.0 i ∙ sym (wrapped_names (wCase x v y) s (scope file o))) c (wrap_stands (wCase x v y) s o) (wrap_shaped (scope file o) (wCase x v y) s f.0 i g) f.1)
otherwise_good file at (outWrap (wDefault x y) o) s names e c t g f =
    let i = is_statement s (outWrap (wDefault x y) o) refl t in
    otherwise_on file at (wDefault x y) o s names
    (otherwise_good file at o (mk.wrapped (wDefault x y) s) (stt.left (wDefault x y) names) (ap (stt.left (wDefault x y)) e ∙ left_names (wDefault x y) s (scope file o) f.0 i ∙ sym (wrapped_names (wDefault x y) s (scope file o))) c (wrap_stands (wDefault x y) s o) (wrap_shaped (scope file o) (wDefault x y) s f.0 i g) f.1)
otherwise_good file at (outWrap (wLabel n x y ats) o) s names e c t g f =
    let i = is_statement s (outWrap (wLabel n x y ats) o) refl t in
    otherwise_on file at (wLabel n x y ats) o s names
    (otherwise_good file at o (mk.wrapped (wLabel n x y ats) s) (stt.left (wLabel n x y ats) names) (ap (stt.left (wLabel n x y ats)) e ∙ left_names (wLabel n x y ats) s (scope file o) f.0 i ∙ sym (wrapped_names (wLabel n x y ats) s (scope file o))) c (wrap_stands (wLabel n x y ats) s o) (wrap_shaped (scope file o) (wLabel n x y ats) s f.0 i g) f.1)

pub whole_good : (file : List (List ℕ)) (t : Symbol) (at : ℕ) (s : St) (o : Outer) → Fit file (Whole s o) → GoodTurn file (λ r. b.outer o (spell_statement s (sign t at ∷ r))) (full.step_whole (sh.statement_names s (scope file o)) t at s o)
whole_good file (sy.Statement key.Else) at s o f = otherwise_good file at o s (sh.statement_names s (scope file o)) refl f.0 f.1 f.2 f.3
whole_good file t at s o f = settled_good file _ t at (stt.settle (sh.statement_names s (scope file o)) o s) (settle_good file o s (sh.statement_names s (scope file o)) refl f.1 f.2 f.3)
