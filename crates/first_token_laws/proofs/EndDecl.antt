-- How an item ends that is read into a declaration.
use Rattle.std.proofs.Common.{◌≡◌, ℕ, List, ◌∷◌, Option, None, Some, Bool, true, false, ◌&&◌, ◌||◌, not, refl, subst, sym, ap, ◌∙◌, arith}
use Rattle.c_tree.specs.declared.symbol.AssignOp.TheVariants as to
use Rattle.c_tree.specs.declared.symbol.Bracket.TheVariants as br
use Rattle.c_tree.specs.declared.symbol.Symbol.TheVariants as sy
use Rattle.c_tree.specs.declared.known.Known.{Known}
use Rattle.c_tree.specs.Symbols.{sign}
use Rattle.c_tree.specs.Spelling.{opening, closing, comma, spell, spell_words, spell_initial, spell_parameters, spell_declaration}
use Rattle.c_tree.specs.Shape as sh
use Rattle.c_tree.specs.Words as wd
use Rattle.c_tree.specs.Words.{known, is_typed, is_typedef, is_void}
use Rattle.c_tree.specs.Tree.{Parameters, pUnknown, Form, fPlain, fArray, fFunction, Initial, iNothing, iList, Declaration, forDeclares, for_head, sDeclaration, sEmpty, sFor, tDeclaration}
use Rattle.parse_machine.specs.Contexts.{Spoken, Place, placeFile, placeBlock, placeFor, Declaring, Declared}
use Rattle.parse_machine.specs.Making as mk
use Rattle.parse_machine.specs.Making.{tall}
use Rattle.parse_machine.specs.Heights.{site_of_place, is_placed_in_file, is_function}
use Rattle.parse_machine.specs.Declarations as decl
use Rattle.parse_laws.proofs.Before as b
use Rattle.parse_laws.proofs.Fits.{place_names, declaring_names, declared_names, FitForm, FitPlace, FitDeclaring, FitDeclared, FitFunction, FitSpoken}
use Rattle.parse_laws.proofs.SoundEx.{with_initial_fits}
use Rattle.parse_laws.proofs.SoundEnds.{formed_reads, with_form_fits}
use Rattle.first_token_laws.proofs.Fillers.{one, one_part, free_name, free_name_is_free, void_stands}
use Rattle.first_token_laws.proofs.EndSt.{Ends, ends_on, outer_ends}

-- a declaration that is whole
pub place_ends : (file : List (List ℕ)) (p : Place) (x : Declaration) → FitPlace file p → sh.ShapedDeclaration (site_of_place p) (place_names file p) x → Ends file (λ r. b.place p (spell_declaration x r))
place_ends file placeFile x f g = record { item = tDeclaration x; fits = g; more = λ r. r; spelled = λ r. refl }
place_ends file (placeBlock o) x f g = outer_ends file o (sDeclaration x) f.1 f.0 g
place_ends file (placeFor m at a o) x f g =
    ends_on file _ _ (λ r. sign sy.Semicolon 0 ∷ closing br.Round 0 ∷ sign sy.Semicolon 0 ∷ r) (λ r. refl)
    (outer_ends file o (sFor (for_head at a (forDeclares x) None 0 None 0) (sEmpty 0)) f.1 tt ((g, tt, tt), tt, tt))

-- behind the declared names
pub declaring_ends : (file : List (List ℕ)) (d : Declaring) → FitDeclaring file d → sh.may_end d.spoken.told d.before.value ≡ true → Ends file (b.declaring d)
declaring_ends file d f m =
    ends_on file _ _ (λ r. sign sy.Semicolon 0 ∷ r) (λ r. refl)
    (place_ends file d.place (mk.whole_declaration d 0) f.place (record { specs = record { told = d.spoken.told; together = f.spoken.told; typed = f.typed }; words = f.spoken.shaped; ends = m; declarators = f.before }))

-- a declared name that is whole
pub declared_ends : (file : List (List ℕ)) (d : Declared) (i : Initial) → FitDeclared file d → sh.may_declare (site_of_place d.around.place) d.around.spoken.told d.form.value i ≡ true → sh.ShapedInitial (declared_names file d) i → Ends file (λ r. b.declared d (spell_initial i r))
declared_ends file d i f m s = ends_on file _ _ (λ r. r) (λ r. refl) (declaring_ends file (mk.with_initial d i 0) (with_initial_fits file d i 0 f m s) refl)

placed : (p : Place) → is_placed_in_file p ≡ true → sh.is_file (site_of_place p) ≡ true
placed placeFile h = refl
placed (placeBlock o) h = cc
placed (placeFor m at a o) h = cc

may_be_function : (p : Place) (k : Known) → is_placed_in_file p ≡ true → is_typedef k.storage ≡ false → (sh.is_file (site_of_place p) && not (is_typedef k.storage)) ≡ true
may_be_function p k h g = ap (λ c. c && not (is_typedef k.storage)) (placed p h) ∙ ap not g

-- behind a name, with parameters
pub function_ends : (file : List (List ℕ)) (d : Declared) (ps : Parameters) → FitFunction file d → sh.ShapedParameters (declared_names file d) ps → Ends file (λ r. b.declared d (spell_parameters ps r))
function_ends file d ps f g =
    let x = tall (fFunction ps) 0 in
    ends_on file _ _ (λ r. r) (formed_reads d x f.bare)
    (declared_ends file (mk.with_form d x) iNothing (with_form_fits file d x f.declared g (f.place, f.storage)) (may_be_function d.around.place d.around.spoken.told f.place f.storage) tt)

-- `void` stands alone only before a function's name
void_file : (p : Place) → wd.may_be_void (site_of_place p) ≡ true → is_placed_in_file p ≡ true
void_file placeFile h = refl
void_file (placeBlock o) h = cc
void_file (placeFor m at a o) h = cc

void_function : (file : List (List ℕ)) (d : Declared) → FitDeclared file d → decl.is_bare d ≡ true → is_void d.around.spoken.told.typing ≡ true → FitFunction file d
void_function file d f e v =
    let z = void_stands (site_of_place d.around.place) d.around.spoken.words d.around.spoken.told f.around.spoken.told v in
    record { declared = f; bare = e; place = void_file d.around.place z.0; storage = z.1 }

-- a bare name
bare_ends : (file : List (List ℕ)) (d : Declared) (c : Bool) → is_void d.around.spoken.told.typing ≡ c → FitDeclared file d → decl.is_bare d ≡ true → d.form.value ≡ fPlain → Ends file (b.declared d)
bare_ends file d true e f h g =
    ends_on file _ _ (λ r. opening br.Round 0 ∷ closing br.Round 0 ∷ r) (λ r. refl) (function_ends file d (pUnknown 0 0) (void_function file d f h e) tt)
bare_ends file d false e f h g =
    declared_ends file d iNothing f (subst (λ x. sh.may_declare (site_of_place d.around.place) d.around.spoken.told x iNothing ≡ true) (sym g) (ap not e)) tt

-- where a declared name is to come
pub name_ends : (file : List (List ℕ)) (d : Declaring) (c : Option ℕ) → FitDeclaring file d → sh.IsComma (sh.are_no_declarators d.before.value) c → Ends file (λ r. b.declaring d (comma c r))
name_ends file d c f i =
    let n = free_name (declaring_names file d) in
    ends_on file _ _ (λ r. b.name_sign n 0 ∷ r) (λ r. refl)
    (bare_ends file (mk.declared_plain d c n 0) (is_void d.spoken.told.typing) refl (record { around = f; comma = i; name = free_name_is_free (declaring_names file d); shaped = tt; attributes = tt; form = tt }) refl refl)

-- Behind a declared name. A name of the type `void` without parameters has no attribute.
abbrev pub IsSure : Declared → Type 0
IsSure d = decl.may_have_attribute d ≡ false → decl.are_no_attributes d.attributes ≡ true

both_true : (c d : Bool) → c ≡ true → d ≡ true → (c && d) ≡ true
both_true true d h g = g
both_true false d h g = cc

plain_ends : (file : List (List ℕ)) (d : Declared) (c : Bool) → is_void d.around.spoken.told.typing ≡ c → FitDeclared file d → IsSure d → d.form.value ≡ fPlain → Ends file (b.declared d)
plain_ends file d true e f s g =
    let a : decl.may_have_attribute d ≡ false = ap (λ x. is_function x || not (is_void d.around.spoken.told.typing)) g ∙ ap not e in
    bare_ends file d true e f (both_true (decl.is_plain d.form.value) (decl.are_no_attributes d.attributes) (ap decl.is_plain g) (s a)) g
plain_ends file d false e f s g =
    declared_ends file d iNothing f (subst (λ x. sh.may_declare (site_of_place d.around.place) d.around.spoken.told x iNothing ≡ true) (sym g) (ap not e)) tt

form_ends : (file : List (List ℕ)) (d : Declared) (x : Form) → d.form.value ≡ x → FitDeclared file d → FitForm d.around x → IsSure d → Ends file (b.declared d)
form_ends file d fPlain g f h s = plain_ends file d (is_void d.around.spoken.told.typing) refl f s g
form_ends file d (fArray a (Some e) c) g f h s =
    declared_ends file d iNothing f (subst (λ x. sh.may_declare (site_of_place d.around.place) d.around.spoken.told x iNothing ≡ true) (sym g) h) tt
form_ends file d (fArray a None c) g f h s =
    ends_on file _ _ (λ r. sign (sy.Assign to.Plain) 0 ∷ opening br.Curly 0 ∷ spell one (closing br.Curly 0 ∷ r)) (λ r. refl)
    (declared_ends file d (iList 0 0 one_part None 0) f (subst (λ x. sh.may_declare (site_of_place d.around.place) d.around.spoken.told x (iList 0 0 one_part None 0) ≡ true) (sym g) h) (refl, (tt, omega arith, tt, tt)))
form_ends file d (fFunction ps) g f h s =
    declared_ends file d iNothing f (subst (λ x. sh.may_declare (site_of_place d.around.place) d.around.spoken.told x iNothing ≡ true) (sym g) (may_be_function d.around.place d.around.spoken.told h.0 h.1)) tt

pub behind_ends : (file : List (List ℕ)) (d : Declared) → FitDeclared file d → IsSure d → Ends file (b.declared d)
behind_ends file d f s = form_ends file d d.form.value refl f f.form s

-- words that are whole, where a declaration stands
words_place : (file : List (List ℕ)) (p : Place) (s : Spoken) (c : Bool) → is_void s.told.typing ≡ c → FitPlace file p → FitSpoken (site_of_place p) (place_names file p) s → is_typed s.told.typing ≡ true → Ends file (λ r. b.place p (spell_words s.words r))
words_place file p s true e f w t = name_ends file (mk.declaring p s mk.no_more) None (record { place = f; spoken = w; typed = t; before = tt }) tt
words_place file p s false e f w t = declaring_ends file (mk.declaring p s mk.no_more) (record { place = f; spoken = w; typed = t; before = tt }) (ap not e)

pub words_place_ends : (file : List (List ℕ)) (p : Place) (s : Spoken) → FitPlace file p → FitSpoken (site_of_place p) (place_names file p) s → is_typed s.told.typing ≡ true → Ends file (λ r. b.place p (spell_words s.words r))
words_place_ends file p s f w t = words_place file p s (is_void s.told.typing) refl f w t
