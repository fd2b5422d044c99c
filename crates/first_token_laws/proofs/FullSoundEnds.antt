-- The machine that keeps each tree: what ends an expression.
use Rattle.first_token_laws.proofs.Full as full
use Rattle.std.proofs.Common.{◌≡◌, ℕ, ◌≤◌, max, List, ◌∷◌, Option, None, Some, true, false, leb, refl, sym, ap, ◌∙◌, arith, leb-true}
use Rattle.c_tree.specs.declared.symbol.AssignOp.TheVariants as to
use Rattle.c_tree.specs.declared.symbol.Bracket.TheVariants as br
use Rattle.c_tree.specs.declared.symbol.Symbol.{Symbol}
use Rattle.c_tree.specs.declared.symbol.Symbol.TheVariants as sy
use Rattle.c_tree.specs.declared.symbol.SymbolAt.{SymbolAt}
use Rattle.c_tree.specs.declared.known.Site.{Site}
use Rattle.c_tree.specs.declared.known.Known.{Known}
use Rattle.c_tree.specs.Symbols.{sign}
use Rattle.c_tree.specs.Spelling.{level, level_of, opening, closing, word, comma, spell, spell_parts, spell_words, spell_word, spell_enumerators, spell_declarators}
use Rattle.c_tree.specs.Shape as sh
use Rattle.c_tree.specs.Words.{known, with_named, is_typed}
use Rattle.c_tree.specs.Tree.{Ex, eParen, eCall, eIndex, ePostfix, Parts, Words, words_and, Ens, fArray, iValue, iList, Decs, declares, head}
use Rattle.parse_machine.specs.Tokens.{suffix_of}
use Rattle.parse_machine.specs.Contexts.{Tall, Part, Spoken, Opened, oParen, oIndex, oArgument, Test, testIf, testWhile, testSwitch, Outer, outWrap, Place, placeFile, placeBlock, placeFor, Declaring, Declared, EnumHead, headBare, headTagged, Base, baseStatement, baseTest, baseDo, baseReturn, baseStart, baseMore, baseStep, baseLength, baseInitial, basePart, Inner, inBase, inOpen, inConstant, Listing, Begin, Value}
use Rattle.parse_machine.specs.Making as mk
use Rattle.parse_machine.specs.Making.{above, tall}
use Rattle.parse_machine.specs.Heights as ht
use Rattle.parse_machine.specs.Heights.{least, high, around_high, low, depth, is_list}
use Rattle.parse_laws.proofs.Before as b
use Rattle.parse_laws.proofs.Fits.{scope, place_names, declaring_names, declared_names, inner_names, around_names, FitSpoken, FitNamed, IsArray, FitOuter, FitPlace, FitDeclaring, FitDeclared, FitHead, FitInner, FitAround, Fit}
use Rattle.parse_machine.specs.Expressions as ex
use Rattle.parse_machine.specs.Declarations as decl
use Rattle.parse_machine.specs.Specifiers as sp
use Rattle.parse_laws.proofs.Parts.{least_le}
use Rattle.first_token_laws.proofs.FullGood.{GoodHeld, fold_good, GoodMode, same_mode, tested, guarded, value_made}
use Rattle.first_token_laws.proofs.FullSoundEx.{operand_good, binary_good, assign_good, question_good, comma_good, colon_good}
use Rattle.parse_laws.proofs.SoundEx.{parts_more, valued_fits, may_list, may_value, with_initial_fits, object_with_names}
use Rattle.parse_laws.proofs.SoundEnds.{formed_reads, with_form_fits, comma_not_empty}

abbrev Reader : Type 0
Reader = List SymbolAt → List SymbolAt

-- A declaration is whole.

ended_at_good : (file : List (List ℕ)) (p : Place) (s : Spoken) (ds : Tall Decs) (at h : ℕ) → FitPlace file p → FitSpoken (ht.site_of_place p) (place_names file p) s → is_typed s.told.typing ≡ true → sh.ShapedDeclarators (ht.site_of_place p) s.told (place_names file p) ds.value → sh.may_end s.told ds.value ≡ true → GoodMode file (sh.declared s.told ds.value (place_names file p)) (λ r. b.place p (spell_words s.words (spell_declarators ds.value (sign sy.Semicolon at ∷ r)))) (Some (ex.ended_at p (declares s.words ds.value at) h))
ended_at_good file placeFile s ds at h f w y g m =
    (ap (λ k. sh.declared_with k ds.value file) (sym w.told), record { specs = record { told = s.told; together = w.told; typed = y }; words = w.shaped; ends = m; declarators = g }, λ r. refl)
ended_at_good file (placeBlock o) s ds at h f w y g m =
    (ap (λ k. sh.declared_with k ds.value (scope file o)) (sym w.told), (tt, f.0, record { specs = record { told = s.told; together = w.told; typed = y }; words = w.shaped; ends = m; declarators = g }, f.1), λ r. refl)
ended_at_good file (placeFor n x a o) s ds at h f w y g m =
    (ap (λ k. sh.declared_with k ds.value (scope file o)) (sym w.told), (f.0, record { specs = record { told = s.told; together = w.told; typed = y }; words = w.shaped; ends = m; declarators = g }, f.1), λ r. refl)

pub ended_good : (file : List (List ℕ)) (d : Declaring) (at : ℕ) → FitDeclaring file d → sh.may_end d.spoken.told d.before.value ≡ true → GoodMode file (declaring_names file d) (λ r. b.declaring d (sign sy.Semicolon at ∷ r)) (Some (ex.ended d at))
ended_good file d at f m = ended_at_good file d.place d.spoken d.before at (mk.declaration_height d) f.place f.spoken f.typed f.before m

-- Behind a bare name.

-- Round brackets.

pub called_good : (file : List (List ℕ)) (p : Reader) (f : Part) (a : ℕ) (es : Tall Parts) (at : ℕ) (k : Inner) → (15 ≤ level_of f.value) → sh.Shaped (inner_names file k) f.value → sh.ShapedParts (inner_names file k) es.value → FitInner file k → ((r : List SymbolAt) → b.inner k (spell f.value (opening br.Round a ∷ spell_parts es.value (closing br.Round at ∷ r))) ≡ p r) → GoodMode file (inner_names file k) p (Some (full.called f a es at k))
called_good file p f a es at k l s t i g = value_made file p 15 _ (eCall f.value a es.value at) k (omega (arith, least_le k)) refl (l, s, t) i g

close_round_open_good : (file ns : List (List ℕ)) (p : Reader) (at : ℕ) (e : Part) (x : Opened) (k : Inner) → GoodHeld file ns p (ex.held e (inOpen x k)) → GoodMode file ns (λ r. p (closing br.Round at ∷ r)) (full.close_round_open at e x k)
close_round_open_good file ns p at e (oParen a) k g =
    same_mode file _ ns _ _ (Some (Value (full.part 15 (above e.height) (eParen a e.value at)) k)) g.names (λ r. g.reads (closing br.Round at ∷ r)) (value_made file _ 15 (above e.height) (eParen a e.value at) k (omega (arith, least_le k)) refl g.fits.shaped g.around.1 (λ r. refl))
close_round_open_good file ns p at e (oArgument f a es c) k g =
    tested file ns _ (leb 1 e.level) _ (λ h.
    same_mode file _ ns _ _ (Some (full.called f a (mk.one_more es c e) at k)) g.names (λ r. g.reads (closing br.Round at ∷ r))
    (called_good file _ f a (mk.one_more es c e) at k g.around.0.0 g.around.0.1 (parts_more _ es.value c e g.around.0.2 g.around.0.3 (leb-true _ _ h) g.fits) g.around.1 (λ r. refl)))
close_round_open_good file ns p at e _ k g = tt

test_good : (file ns : List (List ℕ)) (p : Reader) (t : Test) (x a : ℕ) (v : Ex) (at : ℕ) (o : Outer) → ns ≡ scope file o → sh.Shaped (scope file o) v → FitOuter file o → ((r : List SymbolAt) → b.outer o (word (b.test_word t) x ∷ opening br.Round a ∷ spell v r) ≡ p r) → GoodMode file ns (λ r. p (closing br.Round at ∷ r)) (Some (Begin (outWrap (mk.tested t (head x a v at)) o)))
test_good file ns p testIf x a v at o e s f g = (e, (s, f), λ r. g (closing br.Round at ∷ r))
test_good file ns p testWhile x a v at o e s f g = (e, (s, f), λ r. g (closing br.Round at ∷ r))
test_good file ns p testSwitch x a v at o e s f g = (e, (s, f), λ r. g (closing br.Round at ∷ r))

close_round_base_good : (file ns : List (List ℕ)) (p : Reader) (at : ℕ) (e : Part) (x : Base) → GoodHeld file ns p (ex.held e (inBase x)) → GoodMode file ns (λ r. p (closing br.Round at ∷ r)) (ex.close_round_base at e x)
close_round_base_good file ns p at e (baseTest t x a o) g = test_good file ns p t x a e.value at o g.names g.fits.shaped g.around g.reads
close_round_base_good file ns p at e (baseDo x s y a o) g = (g.names, (g.around.0, g.around.1, g.fits.shaped, g.around.2), λ r. g.reads (closing br.Round at ∷ r))
close_round_base_good file ns p at e (baseStep m x a st q y o) g = (g.names, ((g.around.0, (g.around.1, g.around.2, (omega arith, g.fits.shaped))), g.around.3), λ r. g.reads (closing br.Round at ∷ r))
close_round_base_good file ns p at e _ g = tt

close_round_good : (file ns : List (List ℕ)) (p : Reader) (at : ℕ) (e : Part) (k : Inner) → GoodHeld file ns p (ex.held e k) → GoodMode file ns (λ r. p (closing br.Round at ∷ r)) (full.close_round at e k)
close_round_good file ns p at e (inOpen x k) g = close_round_open_good file ns p at e x k g
close_round_good file ns p at e (inBase x) g = close_round_base_good file ns p at e x g
close_round_good file ns p at e _ g = tt

-- Square brackets.

close_square_open_good : (file ns : List (List ℕ)) (p : Reader) (at : ℕ) (e : Part) (x : Opened) (k : Inner) → GoodHeld file ns p (ex.held e (inOpen x k)) → GoodMode file ns (λ r. p (closing br.Square at ∷ r)) (full.close_square_open at e x k)
close_square_open_good file ns p at e (oIndex f x) k g =
    same_mode file _ ns _ _ (Some (Value (full.part 15 (above (max f.height e.height)) (eIndex f.value x e.value at)) k)) g.names (λ r. g.reads (closing br.Square at ∷ r)) (value_made file _ 15 (above (max f.height e.height)) (eIndex f.value x e.value at) k (omega (arith, least_le k)) refl (g.around.0.0, g.around.0.1, g.fits.shaped) g.around.1 (λ r. refl))
close_square_open_good file ns p at e _ k g = tt

close_square_base_good : (file ns : List (List ℕ)) (p : Reader) (at : ℕ) (e : Part) (x : Base) → GoodHeld file ns p (ex.held e (inBase x)) → GoodMode file ns (λ r. p (closing br.Square at ∷ r)) (ex.close_square_base at e x)
close_square_base_good file ns p at e (baseLength d a) g =
    tested file ns _ (leb 2 e.level) _ (λ h.
    let v : 2 ≤ level_of e.value = omega (arith, leb-true _ _ h, g.fits.level) in
    (g.names, with_form_fits file d (tall (fArray a (Some e.value) at) e.height) g.around.0 (v, g.fits.shaped) g.around.2, λ r. formed_reads d (tall (fArray a (Some e.value) at) e.height) g.around.1 r ∙ g.reads (closing br.Square at ∷ r)))
close_square_base_good file ns p at e _ g = tt

close_square_good : (file ns : List (List ℕ)) (p : Reader) (at : ℕ) (e : Part) (k : Inner) → GoodHeld file ns p (ex.held e k) → GoodMode file ns (λ r. p (closing br.Square at ∷ r)) (full.close_square at e k)
close_square_good file ns p at e (inOpen x k) g = close_square_open_good file ns p at e x k g
close_square_good file ns p at e (inBase x) g = close_square_base_good file ns p at e x g
close_square_good file ns p at e _ g = tt

-- Curly brackets.

enum_known : (s : Site) (h : EnumHead) (es : Ens) (c : Option ℕ) (at : ℕ) (ws : Words) (k : Known) (n : Known) → known s ws ≡ Some k → with_named k ≡ Some n → known s (words_and ws (mk.enumeration h es c at)) ≡ Some n
enum_known s (headBare x a) es c at ws k n e f = rw e f
enum_known s (headTagged x m y a) es c at ws k n e f = rw e f

enum_shaped : (ns : List (List ℕ)) (h : EnumHead) (es : Ens) (c : Option ℕ) (at : ℕ) → FitHead ns h → sh.are_no_enumerators es ≡ false → sh.ShapedEnumerators ns es → sh.ShapedWord ns (mk.enumeration h es c at)
enum_shaped ns (headBare x a) es c at f e s = (e, s)
enum_shaped ns (headTagged x m y a) es c at f e s = (f, e, s)

enum_reads : (h : EnumHead) (es : Ens) (c : Option ℕ) (at : ℕ) (r : List SymbolAt) → spell_word (mk.enumeration h es c at) r ≡ b.enum_head h (spell_enumerators es (comma c (closing br.Curly at ∷ r)))
enum_reads (headBare x a) es c at r = refl
enum_reads (headTagged x m y a) es c at r = refl

pub enumerated_good : (file : List (List ℕ)) (p : Reader) (l : Listing) (es : Tall Ens) (c : Option ℕ) (at : ℕ) → FitAround file l.around → FitNamed (sp.site_of l.around) (around_names file l.around) l.spoken → FitHead (around_names file l.around) l.head → sh.are_no_enumerators es.value ≡ false → sh.ShapedEnumerators (around_names file l.around) es.value → ((r : List SymbolAt) → b.said l.spoken l.around (b.enum_head l.head (spell_enumerators es.value (comma c (closing br.Curly at ∷ r)))) ≡ p r) → GoodMode file (around_names file l.around) p (Some (ex.enumerated l es c at))
enumerated_good file p l es c at f w h e s g =
    (refl, (record { told = enum_known _ l.head es.value c at l.spoken.words w.before _ w.told w.named; shaped = (w.shaped, enum_shaped _ l.head es.value c at h e s) }, f), λ r. ap (b.said l.spoken l.around) (enum_reads l.head es.value c at r) ∙ g r)

pub listed_good : (file ns : List (List ℕ)) (p : Reader) (d : Declared) (x a : ℕ) (es : Tall Parts) (c : Option ℕ) (at : ℕ) → ns ≡ declared_names file d → FitDeclared file d → IsArray d.form.value → decl.is_object d.around.spoken.told ≡ true → sh.are_no_parts es.value ≡ false → sh.ShapedParts (declared_names file d) es.value → ((r : List SymbolAt) → b.declared d (sign (sy.Assign to.Plain) x ∷ opening br.Curly a ∷ spell_parts es.value (comma c (closing br.Curly at ∷ r))) ≡ p r) → GoodMode file ns p (Some (ex.listed d x a es c at))
listed_good file ns p d x a es c at e f i o n s g =
    (e ∙ object_with_names file d (iList x a es.value c at) (above es.height) o, (with_initial_fits file d (iList x a es.value c at) (above es.height) f (may_list _ _ d.form.value x a es.value c at o i) (n, s), refl), g)

close_curly_base_good : (file ns : List (List ℕ)) (p : Reader) (at : ℕ) (e : Part) (x : Base) → GoodHeld file ns p (ex.held e (inBase x)) → GoodMode file ns (λ r. p (closing br.Curly at ∷ r)) (ex.close_curly_base at e x)
close_curly_base_good file ns p at e (basePart d x a es c) g =
    tested file ns _ (leb 1 e.level) _ (λ h.
    listed_good file ns _ d x a (mk.one_more es c e) None at g.names g.around.0 g.around.1 g.around.2 refl (parts_more _ es.value c e g.around.3 g.around.4 (leb-true _ _ h) g.fits) (λ r. g.reads (closing br.Curly at ∷ r)))
close_curly_base_good file ns p at e _ g = tt

close_curly_good : (file ns : List (List ℕ)) (p : Reader) (at : ℕ) (e : Part) (k : Inner) → GoodHeld file ns p (ex.held e k) → GoodMode file ns (λ r. p (closing br.Curly at ∷ r)) (ex.close_curly at e k)
close_curly_good file ns p at e (inConstant w s y es c n x a) g =
    tested file ns _ (leb 2 e.level) _ (λ h.
    same_mode file _ ns _ _ (Some (ex.enumerated (mk.listing w s y es c) (mk.valued_more (mk.listing w s y es c) n x a e) None at)) g.names (λ r. refl)
    (enumerated_good file _ (mk.listing w s y es c) (mk.valued_more (mk.listing w s y es c) n x a e) None at g.around.0 g.around.1 g.around.2 refl (valued_fits _ es.value c n x a e g.around.3 g.around.4 g.around.5 (leb-true _ _ h) g.fits) (λ r. g.reads (closing br.Curly at ∷ r))))
close_curly_good file ns p at e (inBase x) g = close_curly_base_good file ns p at e x g
close_curly_good file ns p at e _ g = tt

-- A semicolon.

semicolon_base_good : (file ns : List (List ℕ)) (p : Reader) (at : ℕ) (e : Part) (x : Base) → GoodHeld file ns p (ex.held e (inBase x)) → GoodMode file ns (λ r. p (sign sy.Semicolon at ∷ r)) (ex.semicolon_base at e x)
semicolon_base_good file ns p at e (baseStatement o) g = (g.names, (tt, tt, g.fits.shaped, g.around), λ r. g.reads (sign sy.Semicolon at ∷ r))
semicolon_base_good file ns p at e (baseReturn x o) g = (g.names, (tt, tt, (omega arith, g.fits.shaped), g.around), λ r. g.reads (sign sy.Semicolon at ∷ r))
semicolon_base_good file ns p at e (baseStart m x a o) g = (g.names, (g.around.0, (omega arith, g.fits.shaped), g.around.1), λ r. g.reads (sign sy.Semicolon at ∷ r))
semicolon_base_good file ns p at e (baseMore m x a st o) g = (g.names, (g.around.0, g.around.1, (omega arith, g.fits.shaped), g.around.2), λ r. g.reads (sign sy.Semicolon at ∷ r))
semicolon_base_good file ns p at e (baseInitial d x) g =
    tested file ns _ (leb 1 e.level) _ (λ h.
    let v : 1 ≤ level_of e.value = omega (arith, leb-true _ _ h, g.fits.level) in
    let w = with_initial_fits file d (iValue x e.value) e.height g.around.0 (may_value _ _ _ x e.value g.around.2 g.around.1) (v, g.fits.shaped) in
    same_mode file _ ns _ _ (Some (ex.ended (mk.with_initial d (iValue x e.value) e.height) at)) (g.names ∙ object_with_names file d (iValue x e.value) e.height g.around.2) (λ r. g.reads (sign sy.Semicolon at ∷ r)) (ended_good file (mk.with_initial d (iValue x e.value) e.height) at w refl))
semicolon_base_good file ns p at e _ g = tt

semicolon_good : (file ns : List (List ℕ)) (p : Reader) (at : ℕ) (e : Part) (k : Inner) → GoodHeld file ns p (ex.held e k) → GoodMode file ns (λ r. p (sign sy.Semicolon at ∷ r)) (ex.semicolon at e k)
semicolon_good file ns p at e (inBase x) g = semicolon_base_good file ns p at e x g
semicolon_good file ns p at e _ g = tt

-- Behind an operand.

pub value_good : (file : List (List ℕ)) (t : Symbol) (at : ℕ) (e : Part) (k : Inner) → Fit file (Value e k) → GoodMode file (inner_names file k) (λ r. b.inner k (spell e.value (sign t at ∷ r))) (full.step_value (suffix_of t) at e k)
value_good file (sy.Binary o) at e k f = binary_good file _ _ o at _ _ (fold_good file k (level o) e f.0 f.1 f.2)
value_good file (sy.Assign o) at e k f = assign_good file _ _ o at _ _ (fold_good file k 2 e f.0 f.1 f.2)
value_good file sy.Question at e k f = question_good file _ _ at _ _ (fold_good file k 2 e f.0 f.1 f.2)
value_good file sy.Comma at e k f = comma_good file _ _ at _ _ (fold_good file k 1 e f.0 f.1 f.2)
value_good file sy.Colon at e k f = colon_good file _ _ at _ _ (fold_good file k 0 e f.0 f.1 f.2)
value_good file sy.Semicolon at e k f = semicolon_good file _ _ at _ _ (fold_good file k 0 e f.0 f.1 f.2)
value_good file (sy.Close br.Round) at e k f = close_round_good file _ _ at _ _ (fold_good file k 0 e f.0 f.1 f.2)
value_good file (sy.Close br.Square) at e k f = close_square_good file _ _ at _ _ (fold_good file k 0 e f.0 f.1 f.2)
value_good file (sy.Close br.Curly) at e k f = close_curly_good file _ _ at _ _ (fold_good file k 0 e f.0 f.1 f.2)
value_good file (sy.Open br.Round) at e k f = guarded file _ _ (leb 15 e.level) _ (λ c. (refl, ((omega (arith, leb-true _ _ c, f.1.level), f.1.shaped, tt, tt), f.2), λ r. refl))
value_good file (sy.Open br.Square) at e k f = guarded file _ _ (leb 15 e.level) _ (λ c. (refl, ((omega (arith, leb-true _ _ c, f.1.level), f.1.shaped), f.2), λ r. refl))
value_good file (sy.Crement c) at e k f =
    guarded file _ _ (leb 15 e.level) _ (λ q. value_made file _ 15 _ (ePostfix e.value c at) k (omega (arith, least_le k)) refl (omega (arith, leb-true _ _ q, f.1.level), f.1.shaped) f.2 (λ r. refl))
value_good file _ at e k f = tt

-- Where an expression may be left out.

nothing_round_good : (file : List (List ℕ)) (at : ℕ) (k : Inner) → FitInner file k → GoodMode file (inner_names file k) (λ r. b.inner k (closing br.Round at ∷ r)) (full.nothing_round at k)
nothing_round_good file at (inOpen (oArgument g a es None) k) f = called_good file _ g a es at k f.0.0 f.0.1 f.0.2 f.1 (λ r. refl)
nothing_round_good file at (inBase (baseStep m x a st p y o)) f = (refl, ((f.0, (f.1, f.2, tt)), f.3), λ r. refl)
nothing_round_good file at _ f = tt

nothing_square_good : (file : List (List ℕ)) (at : ℕ) (k : Inner) → FitInner file k → GoodMode file (inner_names file k) (λ r. b.inner k (closing br.Square at ∷ r)) (ex.nothing_square at k)
nothing_square_good file at (inBase (baseLength d a)) f =
    (refl, with_form_fits file d (tall (fArray a None at) 0) f.0 tt f.2, λ r. formed_reads d (tall (fArray a None at) 0) f.1 r)
nothing_square_good file at _ f = tt

nothing_curly_good : (file : List (List ℕ)) (at : ℕ) (k : Inner) → FitInner file k → GoodMode file (inner_names file k) (λ r. b.inner k (closing br.Curly at ∷ r)) (ex.nothing_curly at k)
nothing_curly_good file at (inBase (basePart d x a es (Some c))) f = listed_good file _ _ d x a es (Some c) at refl f.0 f.1 f.2 (comma_not_empty _ c f.4) f.3 (λ r. refl)
nothing_curly_good file at _ f = tt

nothing_semicolon_good : (file : List (List ℕ)) (at : ℕ) (k : Inner) → FitInner file k → GoodMode file (inner_names file k) (λ r. b.inner k (sign sy.Semicolon at ∷ r)) (ex.nothing_semicolon at k)
nothing_semicolon_good file at (inBase (baseReturn x o)) f = (refl, (tt, tt, tt, f), λ r. refl)
nothing_semicolon_good file at (inBase (baseStart m x a o)) f = (refl, (f.0, tt, f.1), λ r. refl)
nothing_semicolon_good file at (inBase (baseMore m x a st o)) f = (refl, (f.0, f.1, tt, f.2), λ r. refl)
nothing_semicolon_good file at _ f = tt

pub maybe_good : (file : List (List ℕ)) (t : Symbol) (at : ℕ) (k : Inner) → FitInner file k → GoodMode file (inner_names file k) (λ r. b.inner k (sign t at ∷ r)) (full.step_maybe (inner_names file k) t at k)
maybe_good file (sy.Close br.Round) at k f = nothing_round_good file at k f
maybe_good file (sy.Close br.Square) at k f = nothing_square_good file at k f
maybe_good file (sy.Close br.Curly) at k f = nothing_curly_good file at k f
maybe_good file sy.Semicolon at k f = nothing_semicolon_good file at k f
maybe_good file t at k f = operand_good file t at k f
