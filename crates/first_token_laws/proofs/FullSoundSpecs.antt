-- The machine that keeps each tree: a token among the words of a declaration, of a cast, of `sizeof` or of a parameter.
use Rattle.first_token_laws.proofs.Full as full
use Rattle.std.proofs.Common.{◌≡◌, ℕ, List, ◌∷◌, Option, None, Some, Bool, true, false, not, if◌then◌else◌, refl, subst, sym, ap, ◌∙◌}
use Rattle.c_tree.specs.declared.symbol.AssignOp.TheVariants as to
use Rattle.c_tree.specs.declared.symbol.Bracket.TheVariants as br
use Rattle.c_tree.specs.declared.symbol.Symbol.{Symbol}
use Rattle.c_tree.specs.declared.symbol.Symbol.TheVariants as sy
use Rattle.c_tree.specs.declared.symbol.SymbolAt.{SymbolAt}
use Rattle.c_tree.specs.declared.known.Site.{Site}
use Rattle.c_tree.specs.declared.known.Known.{Known}
use Rattle.c_tree.specs.Symbols.{sign}
use Rattle.c_tree.specs.Spelling.{opening, closing, comma, spell_word, spell_enumerators, spell_params}
use Rattle.c_tree.specs.Shape as sh
use Rattle.c_tree.specs.Words.{with_word, with_type, with_storage, with_named, is_typed, is_void}
use Rattle.c_tree.specs.Tree.{eSizeof, Word, wType, wStorage, wConst, wExtension, wTypedef, wTag, Params, pSome, fFunction}
use Rattle.parse_machine.specs.Tokens.{spTypedef, spOther}
use Rattle.parse_machine.specs.Contexts.{Tall, Spoken, Place, Declared, EnumHead, headBare, headTagged, Inner, Around, aroundCast, aroundSizeof, aroundParameter, aroundPlace, Listing, Enumeration, Tagged, Named}
use Rattle.parse_machine.specs.Making as mk
use Rattle.parse_machine.specs.Making.{above, tall}
use Rattle.parse_laws.proofs.Before as b
use Rattle.parse_laws.proofs.Fits.{place_names, declared_names, inner_names, around_names, listing_names, FitSpoken, FitNamed, FitDeclaring, FitFunction, FitHead, FitAround, FitListing, FitWords, Fit}
use Rattle.parse_machine.specs.Specifiers as sp
use Rattle.parse_laws.proofs.Parts.{least_le, comma_some}
use Rattle.first_token_laws.proofs.FullGood.{GoodMode, tested, guarded, value_made}
use Rattle.parse_laws.proofs.Good.{not_true}
use Rattle.first_token_laws.proofs.FullSoundEnds.{ended_good, enumerated_good}
use Rattle.parse_laws.proofs.SoundEnds.{formed_reads, with_form_fits, comma_not_empty}
use Rattle.parse_laws.proofs.SoundSpecs.{known_more, said_fits, NameFree}

abbrev Reader : Type 0
Reader = List SymbolAt → List SymbolAt

-- One word more.

word_good : (file : List (List ℕ)) (s : Spoken) (w : Around) (x : Word) (c : SymbolAt) (o : Option Known) → FitWords file s w → o ≡ with_word (sp.site_of w) x s.told → sh.ShapedWord (around_names file w) x → ((r : List SymbolAt) → spell_word x r ≡ c ∷ r) → GoodMode file (around_names file w) (λ r. b.said s w (c ∷ r)) (sp.with_word_said s w x o)
word_good file s w x c None f e g h = tt
word_good file s w x c (Some k) f e g h = (refl, (said_fits (sp.site_of w) (around_names file w) s x k 0 f.0 e g, f.1), λ r. ap (b.said s w) (h r))

-- Behind words.

specs_of : (s : Site) (ns : List (List ℕ)) (x : Spoken) → FitSpoken s ns x → is_typed x.told.typing ≡ true → sh.AreSpecs s x.words
specs_of s ns x f y = record { told = x.told; together = f.told; typed = y }

cast_good : (file : List (List ℕ)) (t : Symbol) (at : ℕ) (s : Spoken) (a : ℕ) (k : Inner) → FitWords file s (aroundCast a k) → is_typed s.told.typing ≡ true → GoodMode file (inner_names file k) (λ r. b.said s (aroundCast a k) (sign t at ∷ r)) (sp.behind_cast t at s a k)
cast_good file (sy.Close br.Round) at s a k f y = (refl, ((f.1.0, specs_of _ _ s f.0 y, f.0.shaped), f.1.1), λ r. refl)
cast_good file _ at s a k f y = tt

behind_sizeof_good : (file : List (List ℕ)) (t : Symbol) (at : ℕ) (s : Spoken) (x a : ℕ) (k : Inner) → FitWords file s (aroundSizeof x a k) → is_typed s.told.typing ≡ true → GoodMode file (inner_names file k) (λ r. b.said s (aroundSizeof x a k) (sign t at ∷ r)) (full.behind_sizeof t at s x a k)
behind_sizeof_good file (sy.Close br.Round) at s x a k f y = value_made file _ 14 (above (above s.height)) (eSizeof x a s.words at) k (least_le k) refl (specs_of _ _ s f.0 y, f.0.shaped) f.1 (λ r. refl)
behind_sizeof_good file _ at s x a k f y = tt

pub parameters_end_good : (file : List (List ℕ)) (p : Reader) (d : Declared) (a : ℕ) (ps : Tall Params) (at : ℕ) → FitFunction file d → sh.are_no_params ps.value ≡ false → sh.ShapedParams (declared_names file d) ps.value → ((r : List SymbolAt) → b.declared d (opening br.Round a ∷ spell_params ps.value (closing br.Round at ∷ r)) ≡ p r) → GoodMode file (declared_names file d) p (Some (sp.parameters_end d a ps at))
parameters_end_good file p d a ps at f n s g =
    let x = tall (fFunction (pSome a ps.value at)) (above ps.height) in
    (refl, with_form_fits file d x f.declared (n, s) (f.place, f.storage), λ r. formed_reads d x f.bare r ∙ g r)

pub parameters_more_good : (file : List (List ℕ)) (p : Reader) (d : Declared) (a : ℕ) (ps : Tall Params) (at : ℕ) → FitFunction file d → sh.are_no_params ps.value ≡ false → sh.ShapedParams (declared_names file d) ps.value → ((r : List SymbolAt) → b.declared d (opening br.Round a ∷ spell_params ps.value (sign sy.Comma at ∷ r)) ≡ p r) → GoodMode file (declared_names file d) p (Some (sp.parameters_more d a ps at))
parameters_more_good file p d a ps at f n s g = (refl, (record { told = refl; shaped = tt }, (f, s, comma_some _ at n)), g)

behind_parameter_good : (file : List (List ℕ)) (t : Symbol) (at : ℕ) (s : Spoken) (d : Declared) (a : ℕ) (ps : Tall Params) (c : Option ℕ) → FitWords file s (aroundParameter d a ps c) → is_typed s.told.typing ≡ true → NameFree (declared_names file d) t → GoodMode file (declared_names file d) (λ r. b.said s (aroundParameter d a ps c) (sign t at ∷ r)) (sp.behind_parameter t at s d a ps c)
behind_parameter_good file (sy.Name n) at s d a ps c f y v = (refl, (f.1, f.0, y, v), λ r. refl)
behind_parameter_good file sy.Comma at s d a ps c f y v =
    parameters_more_good file _ d a (mk.param_more ps c s None) at f.1.0 refl (f.1.2, specs_of _ _ s f.0 y, f.0.shaped, tt, f.1.1) (λ r. refl)
behind_parameter_good file (sy.Close br.Round) at s d a ps c f y v =
    parameters_end_good file _ d a (mk.param_more ps c s None) at f.1.0 refl (f.1.2, specs_of _ _ s f.0 y, f.0.shaped, tt, f.1.1) (λ r. refl)
behind_parameter_good file _ at s d a ps c f y v = tt

-- a declaration whose words are whole
first_declaring : (file : List (List ℕ)) (s : Spoken) (p : Place) → FitWords file s (aroundPlace p) → is_typed s.told.typing ≡ true → FitDeclaring file (mk.declaring p s mk.no_more)
first_declaring file s p f y = record { place = f.1; spoken = f.0; typed = y; before = tt }

behind_place_good : (file : List (List ℕ)) (t : Symbol) (at : ℕ) (s : Spoken) (p : Place) → FitWords file s (aroundPlace p) → is_typed s.told.typing ≡ true → NameFree (place_names file p) t → GoodMode file (place_names file p) (λ r. b.said s (aroundPlace p) (sign t at ∷ r)) (sp.behind_place t at s p)
behind_place_good file (sy.Name n) at s p f y v =
    (refl, record { around = first_declaring file s p f y; comma = tt; name = v; shaped = tt; attributes = tt; form = tt }, λ r. refl)
behind_place_good file sy.Semicolon at s p f y v =
    tested file _ _ (not (is_void s.told.typing)) _ (λ h. ended_good file (mk.declaring p s mk.no_more) at (first_declaring file s p f y) h)
behind_place_good file _ at s p f y v = tt

behind_good : (file : List (List ℕ)) (t : Symbol) (at : ℕ) (s : Spoken) (w : Around) → FitWords file s w → is_typed s.told.typing ≡ true → NameFree (around_names file w) t → GoodMode file (around_names file w) (λ r. b.said s w (sign t at ∷ r)) (full.behind_words t at s w)
behind_good file t at s (aroundCast a k) f y v = cast_good file t at s a k f y
behind_good file t at s (aroundSizeof x a k) f y v = behind_sizeof_good file t at s x a k f y
behind_good file t at s (aroundParameter d a ps c) f y v = behind_parameter_good file t at s d a ps c f y v
behind_good file t at s (aroundPlace p) f y v = behind_place_good file t at s p f y v

-- A word, or what follows the words.

enum_good : (file : List (List ℕ)) (at : ℕ) (s : Spoken) (w : Around) (o : Option Known) → with_named s.told ≡ o → FitWords file s w → GoodMode file (around_names file w) (λ r. b.said s w (sign sy.Enum at ∷ r)) (sp.enum_word at s w o)
enum_good file at s w None e f = tt
enum_good file at s w (Some k) e f = (refl, (record { before = s.told; told = f.0.told; named = e; shaped = f.0.shaped }, f.1), λ r. refl)

name_good : (file : List (List ℕ)) (n : List ℕ) (at : ℕ) (s : Spoken) (w : Around) (c : Bool) → sh.has (around_names file w) n ≡ c → FitWords file s w → GoodMode file (around_names file w) (λ r. b.said s w (sign (sy.Name n) at ∷ r)) (full.step_kind (if c then spTypedef n else spOther) (sy.Name n) at s w)
name_good file n at s w true e f = word_good file s w (wTypedef n at) (sign (sy.Name n) at) (with_named s.told) f refl e (λ r. refl)
name_good file n at s w false e f = guarded file _ _ (is_typed s.told.typing) _ (λ h. behind_good file (sy.Name n) at s w f h e)

pub specs_good : (file : List (List ℕ)) (t : Symbol) (at : ℕ) (s : Spoken) (w : Around) → FitWords file s w → GoodMode file (around_names file w) (λ r. b.said s w (sign t at ∷ r)) (full.step_specs (around_names file w) t at s w)
specs_good file (sy.Type x) at s w f = word_good file s w (wType x at) (sign (sy.Type x) at) (with_type (sp.site_of w) x s.told) f refl tt (λ r. refl)
specs_good file (sy.Storage x) at s w f = word_good file s w (wStorage x at) (sign (sy.Storage x) at) (with_storage (sp.site_of w) x s.told) f refl tt (λ r. refl)
specs_good file (sy.Const x) at s w f = word_good file s w (wConst x at) (sign (sy.Const x) at) (Some s.told) f refl tt (λ r. refl)
specs_good file sy.Extension at s w f = word_good file s w (wExtension at) (sign sy.Extension at) (Some s.told) f refl tt (λ r. refl)
specs_good file (sy.Attribute x) at s w f = (refl, f, λ r. refl)
specs_good file sy.Enum at s w f = enum_good file at s w (with_named s.told) refl f
specs_good file (sy.Name n) at s w f = name_good file n at s w (sh.has (around_names file w) n) refl f
specs_good file t at s w f = guarded file _ _ (is_typed s.told.typing) _ (λ h. behind_good file t at s w f h tt)

-- Enumerations.

start_good : (file : List (List ℕ)) (p : Reader) (s : Spoken) (w : Around) (h : EnumHead) → FitNamed (sp.site_of w) (around_names file w) s → FitAround file w → FitHead (around_names file w) h → ((r : List SymbolAt) → b.said s w (b.enum_head h r) ≡ p r) → GoodMode file (around_names file w) p (Some (sp.list_start s w h))
start_good file p s w h f g e q = (refl, record { around = g; named = f; head = e; before = tt; comma = tt }, q)

pub enumeration_good : (file : List (List ℕ)) (t : Symbol) (at x : ℕ) (s : Spoken) (w : Around) → Fit file (Enumeration x s w) → GoodMode file (around_names file w) (λ r. b.said s w (sign sy.Enum x ∷ sign t at ∷ r)) (sp.step_enumeration (around_names file w) t at x s w)
enumeration_good file (sy.Name n) at x s w f = tested file _ _ (not (sh.has (around_names file w) n)) _ (λ h. (refl, (f.0, not_true _ h, f.1), λ r. refl))
enumeration_good file (sy.Open br.Curly) at x s w f = start_good file _ s w (headBare x at) f.0 f.1 tt (λ r. refl)
enumeration_good file _ at x s w f = tt

pub tagged_good : (file : List (List ℕ)) (t : Symbol) (at x : ℕ) (n : List ℕ) (y : ℕ) (s : Spoken) (w : Around) → Fit file (Tagged x n y s w) → GoodMode file (around_names file w) (λ r. b.said s w (sign sy.Enum x ∷ b.name_sign n y ∷ sign t at ∷ r)) (full.step_tagged (around_names file w) t at x n y s w)
tagged_good file (sy.Open br.Curly) at x n y s w f = start_good file _ s w (headTagged x n y at) f.0 f.2 f.1 (λ r. refl)
tagged_good file t at x n y s w f =
    specs_good file t at (mk.said s s.told (wTag x n y) 1) w (record { told = known_more (sp.site_of w) s.words (wTag x n y) f.0.before s.told f.0.told (sym f.0.named); shaped = (f.0.shaped, f.1) }, f.2)

list_end_good : (file : List (List ℕ)) (at : ℕ) (l : Listing) (c : Option ℕ) → l.comma ≡ c → FitListing file l → GoodMode file (listing_names file l) (λ r. b.listing l (closing br.Curly at ∷ r)) (sp.list_end at l c)
list_end_good file at l None e f = tt
list_end_good file at l (Some c) e f =
    enumerated_good file _ l l.before (Some c) at f.around f.named f.head (comma_not_empty _ c (subst (sh.IsComma (sh.are_no_enumerators l.before.value)) e f.comma)) f.before
    (λ r. ap (λ q. b.said l.spoken l.around (b.enum_head l.head (spell_enumerators l.before.value (comma q (closing br.Curly at ∷ r))))) (sym e))

pub constant_good : (file : List (List ℕ)) (t : Symbol) (at : ℕ) (l : Listing) → FitListing file l → GoodMode file (listing_names file l) (λ r. b.listing l (sign t at ∷ r)) (sp.step_constant (listing_names file l) t at l)
constant_good file (sy.Name n) at l f = tested file _ _ (not (sh.has (listing_names file l) n)) _ (λ h. (refl, (f, not_true _ h), λ r. refl))
constant_good file (sy.Close br.Curly) at l f = list_end_good file at l l.comma refl f
constant_good file _ at l f = tt

pub named_good : (file : List (List ℕ)) (t : Symbol) (at : ℕ) (l : Listing) (n : List ℕ) (x : ℕ) → Fit file (Named l n x) → GoodMode file (listing_names file l) (λ r. b.listing l (b.name_sign n x ∷ sign t at ∷ r)) (sp.step_named t at l n x)
named_good file (sy.Assign to.Plain) at l n x f = (refl, (f.0.around, f.0.named, f.0.head, f.0.before, f.0.comma, f.1), λ r. refl)
named_good file sy.Comma at l n x f = (refl, record { around = f.0.around; named = f.0.named; head = f.0.head; before = (f.0.comma, f.1, f.0.before); comma = tt }, λ r. refl)
named_good file (sy.Close br.Curly) at l n x f = enumerated_good file _ l (mk.plain_more l n x) None at f.0.around f.0.named f.0.head refl (f.0.comma, f.1, f.0.before) (λ r. refl)
named_good file _ at l n x f = tt
