-- The machine that keeps each tree: one token, in each mode.
use Rattle.first_token_laws.proofs.Full as full
use Rattle.std.proofs.Common.{◌≡◌, ℕ, zero, suc, List, ◌∷◌, Option, Some, refl, subst, sym, ap, ◌∙◌}
use Rattle.c_tree.specs.declared.symbol.Bracket.{Bracket}
use Rattle.c_tree.specs.declared.symbol.Bracket.TheVariants as br
use Rattle.c_tree.specs.declared.symbol.AttributeWord.{AttributeWord}
use Rattle.c_tree.specs.declared.symbol.Symbol.{Symbol}
use Rattle.c_tree.specs.declared.symbol.Symbol.TheVariants as sy
use Rattle.c_tree.specs.declared.symbol.SymbolAt.{SymbolAt}
use Rattle.c_tree.specs.Symbols.{sign}
use Rattle.c_tree.specs.Spelling.{opening, closing, spell_raw}
use Rattle.c_tree.specs.Shape as sh
use Rattle.c_tree.specs.Tree.{Raw, raw_and, attribute, wAttribute, bSkipped}
use Rattle.parse_machine.specs.Tokens.{prefix_of, suffix_of, skip_of}
use Rattle.parse_machine.specs.Contexts.{Header, placeFile, aroundPlace, Attributed, onWords, onDeclared, onLabel, Mode, File, Ended, Specifiers, Enumeration, Tagged, Constant, Named, Attribute, Next, Behind, Listed, Parameters', Parameter, Skipped, Begin, Wait, Either, Goto, Operand, Maybe, Sizeof, Value, Label, Whole, Finished}
use Rattle.parse_machine.specs.Making as mk
use Rattle.parse_machine.specs.Making.{above, tall}
use Rattle.parse_laws.proofs.Before as b
use Rattle.parse_laws.proofs.Fits.{scope, declaring_names, declared_names, inner_names, around_names, listing_names, attributed_names, fork_names, waiting_names, names_of, FitAttributed, Fit}
use Rattle.parse_machine.specs.Declarations as decl
use Rattle.parse_machine.specs.Specifiers as sp
use Rattle.parse_machine.specs.Declarations.{Turn, turn, kept}
use Rattle.parse_machine.specs.Statements as stt
use Rattle.parse_machine.specs.Steps as steps
use Rattle.first_token_laws.proofs.FullGood.{GoodMode, GoodTurn, kept_good}
use Rattle.first_token_laws.proofs.FullSoundEx.{operand_good, sizeof_good}
use Rattle.first_token_laws.proofs.FullSoundEnds.{value_good, maybe_good}
use Rattle.parse_laws.proofs.SoundSpecs.{said_fits}
use Rattle.first_token_laws.proofs.FullSoundSpecs.{specs_good, enumeration_good, tagged_good, constant_good, named_good}
use Rattle.first_token_laws.proofs.FullSoundDecls.{behind_declared_good, next_declared_good, listed_declared_good, parameters_good, parameter_good}
use Rattle.first_token_laws.proofs.FullSoundSt.{either_good, begin_good, goto_good, label_behind_good, wait_good, whole_good}
use Rattle.parse_laws.proofs.SoundSt.{function_fits}

abbrev Reader : Type 0
Reader = List SymbolAt → List SymbolAt

-- Tokens that are kept as they stand.

more_depth : (c : Bracket) (r : Raw) (t : SymbolAt) (n : ℕ) (o : Option ℕ) → sh.depth_of c r ≡ Some n → sh.depth_behind c t.symbol n ≡ o → sh.depth_of c (raw_and r t) ≡ o
more_depth c r t n o e f = ap (sh.depth_on c t.symbol) e ∙ f

-- an attribute
with_attribute_good : (file : List (List ℕ)) (w : AttributeWord) (x a : ℕ) (r : Raw) (at : ℕ) (y : Attributed) → FitAttributed file y → sh.depth_of br.Round r ≡ Some 0 → GoodMode file (attributed_names file y) (λ q. b.attributed y (sign (sy.Attribute w) x ∷ opening br.Round a ∷ spell_raw r (closing br.Round at ∷ q))) (Some (steps.with_attribute y (attribute w x a r at)))
with_attribute_good file w x a r at (onWords s v) f d = (refl, (said_fits (sp.site_of v) (around_names file v) s (wAttribute (attribute w x a r at)) s.told 1 f.0 refl d, f.1), λ q. refl)
with_attribute_good file w x a r at (onDeclared e) f d =
    (refl, record { around = f.around; comma = f.comma; name = f.name; shaped = f.shaped; attributes = (f.attributes, d); form = f.form }, λ q. refl)
with_attribute_good file w x a r at (onLabel n y c ats o) f d = (refl, (f.0, (f.1, d), f.2), λ q. refl)

attribute_on : (file : List (List ℕ)) (w : AttributeWord) (x a : ℕ) (r : Raw) (t : SymbolAt) (n m : ℕ) (y : Attributed) → FitAttributed file y → sh.depth_of br.Round r ≡ Some n → sh.depth_behind br.Round t.symbol n ≡ Some m → GoodMode file (attributed_names file y) (λ q. b.attributed y (sign (sy.Attribute w) x ∷ opening br.Round a ∷ spell_raw r (t ∷ q))) (Some (Attribute w x a (raw_and r t) m y))
attribute_on file w x a r t n m y f d e = (refl, (f, more_depth br.Round r t n (Some m) d e), λ q. refl)

attribute_close : (file : List (List ℕ)) (w : AttributeWord) (x a : ℕ) (r : Raw) (at : ℕ) (n : ℕ) (y : Attributed) → FitAttributed file y → sh.depth_of br.Round r ≡ Some n → GoodMode file (attributed_names file y) (λ q. b.attributed y (sign (sy.Attribute w) x ∷ opening br.Round a ∷ spell_raw r (closing br.Round at ∷ q))) (steps.attribute_skip (skip_of br.Round (sy.Close br.Round) n) (closing br.Round at) w x a r y)
attribute_close file w x a r at zero y f d = with_attribute_good file w x a r at y f d
attribute_close file w x a r at (suc n) y f d = attribute_on file w x a r (closing br.Round at) (suc n) n y f d refl

attribute_good : (file : List (List ℕ)) (t : Symbol) (at : ℕ) (w : AttributeWord) (x a : ℕ) (r : Raw) (n : ℕ) (y : Attributed) → FitAttributed file y → sh.depth_of br.Round r ≡ Some n → GoodMode file (attributed_names file y) (λ q. b.attributed y (sign (sy.Attribute w) x ∷ opening br.Round a ∷ spell_raw r (sign t at ∷ q))) (steps.attribute_skip (skip_of br.Round t n) (sign t at) w x a r y)
attribute_good file (sy.Open br.Round) at w x a r n y f d = attribute_on file w x a r (opening br.Round at) n (suc n) y f d refl
attribute_good file (sy.Open br.Square) at w x a r n y f d = attribute_on file w x a r (opening br.Square at) n n y f d refl
attribute_good file (sy.Open br.Curly) at w x a r n y f d = attribute_on file w x a r (opening br.Curly at) n n y f d refl
attribute_good file (sy.Close br.Round) at w x a r n y f d = attribute_close file w x a r at n y f d
attribute_good file (sy.Close br.Square) at w x a r n y f d = attribute_on file w x a r (closing br.Square at) n n y f d refl
attribute_good file (sy.Close br.Curly) at w x a r n y f d = attribute_on file w x a r (closing br.Curly at) n n y f d refl
attribute_good file sy.End at w x a r n y f d = tt
attribute_good file t at w x a r n y f d = attribute_on file w x a r (sign t at) n n y f d refl

-- a block that is skipped
body_on : (file : List (List ℕ)) (h : Header) (a : ℕ) (r : Raw) (t : SymbolAt) (n m : ℕ) → Fit file (Skipped h a r n) → sh.depth_behind br.Curly t.symbol n ≡ Some m → GoodMode file file (λ q. b.header h (opening br.Curly a ∷ spell_raw r (t ∷ q))) (Some (Skipped h a (raw_and r t) m))
body_on file h a r t n m f e = (refl, (f.0, f.1, more_depth br.Curly r t n (Some m) f.2 e), λ q. refl)

body_close : (file : List (List ℕ)) (h : Header) (a : ℕ) (r : Raw) (at n : ℕ) → Fit file (Skipped h a r n) → GoodMode file file (λ q. b.header h (opening br.Curly a ∷ spell_raw r (closing br.Curly at ∷ q))) (steps.body_skip (skip_of br.Curly (sy.Close br.Curly) n) (closing br.Curly at) h a r)
body_close file h a r at zero f =
    (refl, function_fits file h (bSkipped a r at) f.0 (subst (λ q. sh.ShapedBody q file (bSkipped a r at)) (sym f.1) f.2), λ q. refl)
body_close file h a r at (suc n) f = body_on file h a r (closing br.Curly at) (suc n) n f refl

body_good : (file : List (List ℕ)) (t : Symbol) (at : ℕ) (h : Header) (a : ℕ) (r : Raw) (n : ℕ) → Fit file (Skipped h a r n) → GoodMode file file (λ q. b.header h (opening br.Curly a ∷ spell_raw r (sign t at ∷ q))) (steps.body_skip (skip_of br.Curly t n) (sign t at) h a r)
body_good file (sy.Open br.Round) at h a r n f = body_on file h a r (opening br.Round at) n n f refl
body_good file (sy.Open br.Square) at h a r n f = body_on file h a r (opening br.Square at) n n f refl
body_good file (sy.Open br.Curly) at h a r n f = body_on file h a r (opening br.Curly at) n (suc n) f refl
body_good file (sy.Close br.Round) at h a r n f = body_on file h a r (closing br.Round at) n n f refl
body_good file (sy.Close br.Square) at h a r n f = body_on file h a r (closing br.Square at) n n f refl
body_good file (sy.Close br.Curly) at h a r n f = body_close file h a r at n f
body_good file sy.End at h a r n f = tt
body_good file t at h a r n f = body_on file h a r (sign t at) n n f refl

-- Where an item is to come.

file_good : (file : List (List ℕ)) (t : Symbol) (at : ℕ) → GoodMode file file (λ r. sign t at ∷ r) (full.step_file file t at)
file_good file sy.Semicolon at = (refl, tt, λ r. refl)
file_good file sy.End at = (refl, tt, (at, λ r. refl))
file_good file t at = specs_good file t at mk.unspoken (aroundPlace placeFile) (record { told = refl; shaped = tt }, tt)

next_at : (file : List (List ℕ)) (t : Symbol) (at : ℕ) (m : Mode) → Fit file m → GoodTurn file (λ r. b.mode m (sign t at ∷ r)) (full.next (names_of file m) (sign t at) m)
next_at file t at File f = kept_good file _ _ (full.step_file file t at) (file_good file t at)
next_at file t at (Ended i h) f = tt
next_at file t at (Specifiers s w) f = kept_good file _ _ (full.step_specs (around_names file w) t at s w) (specs_good file t at s w f)
next_at file t at (Enumeration x s w) f = kept_good file _ _ (sp.step_enumeration (around_names file w) t at x s w) (enumeration_good file t at x s w f)
next_at file t at (Tagged x n y s w) f = kept_good file _ _ (full.step_tagged (around_names file w) t at x n y s w) (tagged_good file t at x n y s w f)
next_at file t at (Constant z) f = kept_good file _ _ (sp.step_constant (listing_names file z) t at z) (constant_good file t at z f)
next_at file t at (Named z n x) f = kept_good file _ _ (sp.step_named t at z n x) (named_good file t at z n x f)
next_at file t at (Attribute w x a r n y) f = kept_good file _ _ (steps.attribute_skip (skip_of br.Round t n) (sign t at) w x a r y) (attribute_good file t at w x a r n y f.0 f.1)
next_at file t at (Next d c) f = kept_good file _ _ (decl.step_next (declaring_names file d) t at d c) (next_declared_good file t at d c f)
next_at file t at (Behind d) f = behind_declared_good file t at d f
next_at file t at (Listed d) f = kept_good file _ _ (decl.step_listed t at d) (listed_declared_good file t at d f)
next_at file t at (Parameters' d a) f = kept_good file _ _ (full.step_parameters (declared_names file d) t at d a) (parameters_good file t at d a f)
next_at file t at (Parameter d a ps c s n x) f = kept_good file _ _ (decl.step_parameter t at d a ps c s n x) (parameter_good file t at d a ps c s n x f)
next_at file t at (Skipped h a r n) f = kept_good file _ _ (steps.body_skip (skip_of br.Curly t n) (sign t at) h a r) (body_good file t at h a r n f)
next_at file t at (Begin o) f = begin_good file t at o f
next_at file t at (Wait x) f = kept_good file _ _ (stt.step_wait (waiting_names file x) t at x) (wait_good file t at x f)
next_at file t at (Either g ats) f = kept_good file _ _ (full.step_either (fork_names file g) t at g ats) (either_good file t at g ats f)
next_at file t at (Goto x o) f = kept_good file _ _ (stt.step_goto (scope file o) t at x o) (goto_good file t at x o f)
next_at file t at (Operand k) f = kept_good file _ _ (full.step_operand (inner_names file k) (prefix_of t) at k) (operand_good file t at k f)
next_at file t at (Maybe k) f = kept_good file _ _ (full.step_maybe (inner_names file k) t at k) (maybe_good file t at k f)
next_at file t at (Sizeof x k) f = kept_good file _ _ (full.step_sizeof (inner_names file k) (prefix_of t) at x k) (sizeof_good file t at x k f)
next_at file t at (Value e k) f = kept_good file _ _ (full.step_value (suffix_of t) at e k) (value_good file t at e k f)
next_at file t at (Label n x y ats o) f = label_behind_good file t at n x y ats o f
next_at file t at (Whole s o) f = whole_good file t at s o f
next_at file t at Finished f = tt

-- A mode that fits and is not too high fits behind any token, and has read it.
pub next_good : (file names : List (List ℕ)) (t : SymbolAt) (m : Mode) → names ≡ names_of file m → Fit file m → GoodTurn file (λ r. b.mode m (t ∷ r)) (full.next names t m)
next_good file names t m e f = subst (λ n. GoodTurn file (λ r. b.mode m (t ∷ r)) (full.next n t m)) (sym e) (next_at file t.symbol t.at m f)
