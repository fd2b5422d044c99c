-- The machine that keeps each tree: a token behind a declared name, among parameters, or at the head of a function's body.
use Rattle.first_token_laws.proofs.Full as full
use Rattle.std.proofs.Common.{◌≡◌, ℕ, List, ◌∷◌, length, Option, None, Some, Bool, true, false, ◌&&◌, not, if◌then◌else◌, refl, subst, sym, ap}
use Rattle.c_tree.specs.declared.symbol.AssignOp.TheVariants as to
use Rattle.c_tree.specs.declared.symbol.Bracket.TheVariants as br
use Rattle.c_tree.specs.declared.symbol.TypeWord.TheVariants as type
use Rattle.c_tree.specs.declared.symbol.Symbol.{Symbol}
use Rattle.c_tree.specs.declared.symbol.Symbol.TheVariants as sy
use Rattle.c_tree.specs.declared.symbol.SymbolAt.{SymbolAt}
use Rattle.c_tree.specs.declared.known.Known.{Known}
use Rattle.c_tree.specs.Symbols.{sign}
use Rattle.c_tree.specs.Spelling.{opening, comma, spell_words, spell_params}
use Rattle.c_tree.specs.Shape as sh
use Rattle.c_tree.specs.Words.{is_typedef}
use Rattle.c_tree.specs.Tree.{no_raw, Ats, named, Params, no_params, Parameters, pUnknown, Form, fPlain, fArray, fFunction, iNothing, Decs, no_declarators, declarators_and, no_statements}
use Rattle.parse_machine.specs.Contexts.{Tall, Spoken, Header, outBody, Place, placeFile, placeBlock, placeFor, Declaring, Declared, aroundParameter, Next, Listed, Parameter, Skipped, Begin}
use Rattle.parse_machine.specs.Making as mk
use Rattle.parse_machine.specs.Making.{above, tall}
use Rattle.parse_machine.specs.Heights as ht
use Rattle.parse_machine.specs.Heights.{least, high, around_high, low, depth, is_list}
use Rattle.parse_laws.proofs.Before as b
use Rattle.parse_laws.proofs.Fits.{declaring_names, declared_names, FitHeader, IsArray, FitDeclaring, FitDeclared, FitFunction, Fit}
use Rattle.parse_machine.specs.Expressions as ex
use Rattle.parse_machine.specs.Declarations as decl
use Rattle.parse_machine.specs.Declarations.{Turn, turn, kept}
use Rattle.parse_laws.proofs.Parts.{comma_some}
use Rattle.first_token_laws.proofs.FullGood.{GoodMode, GoodTurn, kept_good, tested, guarded}
use Rattle.parse_laws.proofs.Good.{not_true, both_left, both_right}
use Rattle.parse_laws.proofs.SoundEx.{with_initial_fits}
use Rattle.first_token_laws.proofs.FullSoundEnds.{ended_good}
use Rattle.parse_laws.proofs.SoundEnds.{formed_reads, with_form_fits}
use Rattle.first_token_laws.proofs.FullSoundSpecs.{parameters_end_good, parameters_more_good, specs_good}

abbrev Reader : Type 0
Reader = List SymbolAt → List SymbolAt

tested_turn : (file : List (List ℕ)) (p : Reader) (c : Bool) (u : Turn) → (c ≡ true → GoodTurn file p (Some u)) → GoodTurn file p (ex.when c u)
tested_turn file p true u h = h refl
tested_turn file p false u h = tt

function_fits : (file : List (List ℕ)) (d : Declared) → FitDeclared file d → decl.may_be_function d ≡ true → FitFunction file d
function_fits file d f h =
    let l = both_left (decl.is_bare d && ht.is_placed_in_file d.around.place) (not (is_typedef d.around.spoken.told.storage)) h in
    record {
      declared = f;
      bare = both_left (decl.is_bare d) (ht.is_placed_in_file d.around.place) l;
      place = both_right (decl.is_bare d) (ht.is_placed_in_file d.around.place) l;
      storage = not_true _ (both_right (decl.is_bare d && ht.is_placed_in_file d.around.place) (not (is_typedef d.around.spoken.told.storage)) h);
    }

-- an initial value
initial_form_good : (file : List (List ℕ)) (at : ℕ) (d : Declared) (g : Form) → d.form.value ≡ g → decl.is_object d.around.spoken.told ≡ true → FitDeclared file d → GoodMode file (declared_names file d) (λ r. b.declared d (sign (sy.Assign to.Plain) at ∷ r)) (decl.initial_of_form g at d)
initial_form_good file at d fPlain e o f = (refl, (f, ap decl.is_plain e, o), λ r. refl)
initial_form_good file at d (fArray a x c) e o f = (refl, (f, subst IsArray (sym e) tt, o), λ r. refl)
initial_form_good file at d (fFunction ps) e o f = tt

initial_good : (file : List (List ℕ)) (at : ℕ) (d : Declared) → FitDeclared file d → GoodMode file (declared_names file d) (λ r. b.declared d (sign (sy.Assign to.Plain) at ∷ r)) (decl.initial at d)
initial_good file at d f = guarded file _ _ (decl.is_object d.around.spoken.told) _ (λ o. initial_form_good file at d d.form.value refl o f)

-- the block of a function
header_good : (file : List (List ℕ)) (at : ℕ) (h : Header) (c : Bool) → sh.is_skipped_name h.name ≡ c → FitHeader file h → GoodMode file file (λ r. b.header h (opening br.Curly at ∷ r)) (Some (if c then Skipped h at no_raw 0 else Begin (outBody (length file) h at no_statements)))
header_good file at h true e f = (refl, (f, e, refl), λ r. refl)
header_good file at h false e f = (refl, (refl, f, e, tt), λ r. refl)

abbrev made_declared : Place → Spoken → Decs → ℕ → Option ℕ → List ℕ → ℕ → Form → ℕ → Ats → Declared
made_declared p s ds dh c n x g gh ats = mk.declared (mk.declaring p s (tall ds dh)) c n x (tall g gh) ats

function_header : (file : List (List ℕ)) (s : Spoken) (dh : ℕ) (n : List ℕ) (x : ℕ) (ps : Parameters) (gh : ℕ) (ats : Ats) → FitDeclared file (made_declared placeFile s no_declarators dh None n x (fFunction ps) gh ats) → FitHeader file (decl.header (made_declared placeFile s no_declarators dh None n x (fFunction ps) gh ats) ps)
function_header file s dh n x ps gh ats f = record {
  specs = record { told = s.told; together = f.around.spoken.told; typed = f.around.typed };
  words = f.around.spoken.shaped;
  no_typedef = f.form.1;
  name = f.name;
  parameters = f.shaped;
  attributes = f.attributes;
}

body_good_at : (file : List (List ℕ)) (at : ℕ) (p : Place) (s : Spoken) (ds : Decs) (dh : ℕ) (c : Option ℕ) (n : List ℕ) (x : ℕ) (g : Form) (gh : ℕ) (ats : Ats) → FitDeclared file (made_declared p s ds dh c n x g gh ats) → GoodMode file (declared_names file (made_declared p s ds dh c n x g gh ats)) (λ r. b.declared (made_declared p s ds dh c n x g gh ats) (opening br.Curly at ∷ r)) (decl.body (declared_names file (made_declared p s ds dh c n x g gh ats)) at (made_declared p s ds dh c n x g gh ats))
body_good_at file at placeFile s no_declarators dh None n x (fFunction ps) gh ats f =
    header_good file at (decl.header (made_declared placeFile s no_declarators dh None n x (fFunction ps) gh ats) ps) (sh.is_skipped_name (named n x)) refl (function_header file s dh n x ps gh ats f)
body_good_at file at placeFile s no_declarators dh (Some c) n x (fFunction ps) gh ats f = absurd f.comma
body_good_at file at placeFile s no_declarators dh c n x fPlain gh ats f = tt
body_good_at file at placeFile s no_declarators dh c n x (fArray a e z) gh ats f = tt
body_good_at file at placeFile s (declarators_and ds c0 n0 f0 a0 i0) dh c n x g gh ats f = tt
body_good_at file at (placeBlock o) s ds dh c n x g gh ats f = tt
body_good_at file at (placeFor m y a o) s ds dh c n x g gh ats f = tt

body_good : (file : List (List ℕ)) (at : ℕ) (d : Declared) → FitDeclared file d → GoodMode file (declared_names file d) (λ r. b.declared d (opening br.Curly at ∷ r)) (decl.body (declared_names file d) at d)
body_good file at d f = body_good_at file at d.around.place d.around.spoken d.around.before.value d.around.before.height d.comma d.name d.at d.form.value d.form.height d.attributes f

whole_fits : (file : List (List ℕ)) (d : Declared) → FitDeclared file d → decl.may_be_whole d ≡ true → FitDeclaring file (mk.with_initial d iNothing 0)
whole_fits file d f h = with_initial_fits file d iNothing 0 f h tt

pub behind_declared_good : (file : List (List ℕ)) (t : Symbol) (at : ℕ) (d : Declared) → FitDeclared file d → GoodTurn file (λ r. b.declared d (sign t at ∷ r)) (decl.step_behind (declared_names file d) t at d)
behind_declared_good file (sy.Open br.Round) at d f = kept_good file _ _ _ (tested file _ _ (decl.may_be_function d) _ (λ h. (refl, function_fits file d f h, λ r. refl)))
behind_declared_good file (sy.Open br.Square) at d f =
    kept_good file _ _ _ (tested file _ _ (decl.may_be_array d) _ (λ h. (refl, (f, both_left (decl.is_bare d) (decl.is_object d.around.spoken.told) h, both_right (decl.is_bare d) (decl.is_object d.around.spoken.told) h), λ r. refl)))
behind_declared_good file (sy.Open br.Curly) at d f = kept_good file _ _ _ (body_good file at d f)
behind_declared_good file (sy.Attribute w) at d f = kept_good file _ _ _ (tested file _ _ (decl.may_have_attribute d) _ (λ h. (refl, f, λ r. refl)))
behind_declared_good file (sy.Assign to.Plain) at d f = kept_good file _ _ _ (initial_good file at d f)
behind_declared_good file sy.Comma at d f = tested_turn file _ (decl.may_be_whole d) _ (λ h. (refl, (whole_fits file d f h, refl), λ r. refl))
behind_declared_good file sy.Semicolon at d f = tested_turn file _ (decl.may_be_whole d) _ (λ h. ended_good file (mk.with_initial d iNothing 0) at (whole_fits file d f h) refl)
behind_declared_good file _ at d f = tt

pub next_declared_good : (file : List (List ℕ)) (t : Symbol) (at : ℕ) (d : Declaring) (c : ℕ) → Fit file (Next d c) → GoodMode file (declaring_names file d) (λ r. b.declaring d (sign sy.Comma c ∷ sign t at ∷ r)) (decl.step_next (declaring_names file d) t at d c)
next_declared_good file (sy.Name n) at d c f =
    tested file _ _ (not (sh.has (declaring_names file d) n)) _ (λ h.
    (refl, record { around = f.0; comma = comma_some _ c f.1; name = not_true _ h; shaped = tt; attributes = tt; form = tt }, λ r. refl))
next_declared_good file _ at d c f = tt

may_end_some : (k : Known) (ds : Decs) → sh.are_no_declarators ds ≡ false → sh.may_end k ds ≡ true
may_end_some k no_declarators h = cc
may_end_some k (declarators_and ds c n g a i) h = refl

pub listed_declared_good : (file : List (List ℕ)) (t : Symbol) (at : ℕ) (d : Declaring) → Fit file (Listed d) → GoodMode file (declaring_names file d) (λ r. b.declaring d (sign t at ∷ r)) (decl.step_listed t at d)
listed_declared_good file sy.Comma at d f = (refl, f, λ r. refl)
listed_declared_good file sy.Semicolon at d f = ended_good file d at f.0 (may_end_some d.spoken.told d.before.value f.1)
listed_declared_good file _ at d f = tt

pub parameters_good : (file : List (List ℕ)) (t : Symbol) (at : ℕ) (d : Declared) (a : ℕ) → FitFunction file d → GoodMode file (declared_names file d) (λ r. b.declared d (opening br.Round a ∷ sign t at ∷ r)) (full.step_parameters (declared_names file d) t at d a)
parameters_good file (sy.Close br.Round) at d a f =
    let x = tall (fFunction (pUnknown a at)) 1 in
    (refl, with_form_fits file d x f.declared tt (f.place, f.storage), λ r. formed_reads d x f.bare r)
parameters_good file (sy.Type type.Void) at d a f = (refl, f, λ r. refl)
parameters_good file t at d a f = specs_good file t at mk.unspoken (aroundParameter d a (tall no_params 0) None) (record { told = refl; shaped = tt }, (f, tt, tt))

pub parameter_good : (file : List (List ℕ)) (t : Symbol) (at : ℕ) (d : Declared) (a : ℕ) (ps : Tall Params) (c : Option ℕ) (s : Spoken) (n : List ℕ) (x : ℕ) → Fit file (Parameter d a ps c s n x) → GoodMode file (declared_names file d) (λ r. b.declared d (opening br.Round a ∷ spell_params ps.value (comma c (spell_words s.words (b.name_sign n x ∷ sign t at ∷ r))))) (decl.step_parameter t at d a ps c s n x)
parameter_good file sy.Comma at d a ps c s n x f =
    parameters_more_good file _ d a (mk.param_more ps c s (Some (named n x))) at f.0.0 refl (f.0.2, record { told = s.told; together = f.1.told; typed = f.2 }, f.1.shaped, f.3, f.0.1) (λ r. refl)
parameter_good file (sy.Close br.Round) at d a ps c s n x f =
    parameters_end_good file _ d a (mk.param_more ps c s (Some (named n x))) at f.0.0 refl (f.0.2, record { told = s.told; together = f.1.told; typed = f.2 }, f.1.shaped, f.3, f.0.1) (λ r. refl)
parameter_good file _ at d a ps c s n x f = tt
