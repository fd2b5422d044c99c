-- How the machine ends behind a declared name.
use Rattle.std.proofs.Common.{◌≡◌, ℕ, suc, ◌+◌, ◌≤◌, max, List, length, Option, None, Some, Bool, true, false, ◌&&◌, ◌||◌, not, if◌then◌else◌, leb, refl, subst, sym, ap, ◌∙◌, arith, le-leb}
use Rattle.c_tree.specs.declared.symbol.AssignOp.TheVariants as to
use Rattle.c_tree.specs.declared.symbol.Bracket.TheVariants as br
use Rattle.c_tree.specs.declared.symbol.StorageWord.TheVariants as storage
use Rattle.c_tree.specs.declared.symbol.Symbol.{Symbol}
use Rattle.c_tree.specs.declared.symbol.Symbol.TheVariants as sy
use Rattle.c_tree.specs.declared.symbol.SymbolAt.{SymbolAt}
use Rattle.c_tree.specs.Symbols.{sign}
use Rattle.c_tree.specs.Height.{height_attributes}
use Rattle.c_tree.specs.Shape as sh
use Rattle.c_tree.specs.Words.{is_typedef, is_void, may_be_void}
use Rattle.c_tree.specs.Tree.{no_raw, Ats, no_attributes, attributes_and, Parts, no_parts, Parameters, pUnknown, Form, fPlain, fArray, fFunction, iNothing, iList, Declaration, forDeclares, no_statements, bSkipped, Items}
use Rattle.parse_machine.specs.Contexts.{Tall, Part, Header, outBody, Place, placeFile, placeBlock, placeFor, Declaring, Declared, basePart, Inner, inBase, waitList, Ended, Behind, Listed, Parameters', Skipped, Begin, Wait, Operand, Value}
use Rattle.parse_machine.specs.Making as mk
use Rattle.parse_machine.specs.Making.{above, tall, part}
use Rattle.parse_machine.specs.Heights as ht
use Rattle.parse_machine.specs.Heights.{place_depth, low}
use Rattle.parse_machine.specs.Expressions as ex
use Rattle.parse_machine.specs.Declarations as decl
use Rattle.parse_machine.specs.Declarations.{Turn, turn, kept}
use Rattle.parse_machine.specs.Machine as ma
use Rattle.parse_machine.specs.Statements as stt
use Rattle.parse_machine.specs.Steps as steps
use Rattle.parse_laws.proofs.Fits.{FitForm, FitDeclaring}
use Rattle.first_token_laws.proofs.Fillers.{one, void_stands}
use Rattle.first_token_laws.proofs.EndDecl.{IsSure}
use Rattle.low_beginning_laws.proofs.Room.{RoomDeclaring}
use Rattle.low_beginning_laws.proofs.Above.{above_le, above_some, above_grows, declared_grows, part_high}
use Rattle.low_beginning_laws.proofs.Close.{Closes, on, ended_closes}
use Rattle.low_beginning_laws.proofs.CloseSt.{round_open, round_close, curly_close, semicolon, operand_on, whole_closes, begin_closes, more_closes}

-- An operand is whole, and a token comes that makes all operators before it whole.

abbrev pub ends_value : Symbol → Bool
ends_value sy.Semicolon = true
ends_value sy.Colon = true
ends_value (sy.Close c) = true
ends_value _ = false

pub record ValueLeads (is : Items) (names : List (List ℕ)) (e : Part) (k : Inner) : Type 0 where
  pub token : SymbolAt
  pub ends : ends_value token.symbol ≡ true
  pub turned : Turn
  pub goes : steps.next names token (Value e k) ≡ Some turned
  pub within : low turned.mode ≤ 200
  pub closes : Closes is turned.names turned.mode

value_unopened : (t : Symbol) (at : ℕ) (e : Part) (k : Inner) → ma.opens t at (Value e k) ≡ None
value_unopened (sy.Storage storage.Extern) at e k = refl
value_unopened _ at e k = refl

pub by_value : (is : Items) (names : List (List ℕ)) (e : Part) (k : Inner) → ValueLeads is names e k → Closes is names (Value e k)
by_value is names e k w = on is names w.turned.names (Value e k) w.turned.mode w.token refl (value_unopened w.token.symbol w.token.at e k) w.goes w.within w.closes

-- where a test holds
pub when_holds : {A : Type 0} (c : Bool) (x : A) → c ≡ true → ex.when c x ≡ Some x
when_holds true x h = refl
when_holds false x h = cc

-- Declarations that are whole.

place_low : (p : Place) (x : Declaration) (h : ℕ) → h ≤ 200 → suc (place_depth p) + 1 ≤ 200 → low (ex.ended_at p x h) ≤ 200
place_low placeFile x h l g = l
place_low (placeBlock o) x h l g = omega (arith, g)
place_low (placeFor m y a o) x h l g = omega (arith, g)

place_closes : (is : Items) (names : List (List ℕ)) (p : Place) (x : Declaration) (h : ℕ) → suc (place_depth p) + 1 ≤ 200 → Closes is names (ex.ended_at p x h)
place_closes is names placeFile x h g = ended_closes is names _ h
place_closes is names (placeBlock o) x h g = whole_closes is names _ o (omega (arith, g))
place_closes is names (placeFor m y a o) x h g = more_closes is names m y a (forDeclares x) o (omega (arith, g))

room_for_one : (d : Declaring) → RoomDeclaring d → suc (place_depth d.place) + 1 ≤ 200
room_for_one d r = omega (arith, r.0, above_some d.spoken.height)

pub declaring_low : (d : Declaring) → RoomDeclaring d → low (ex.ended d 0) ≤ 200
declaring_low d r = place_low d.place (mk.whole_declaration d 0) (mk.declaration_height d) (omega (arith, r.0, r.1, above_le (max (above d.spoken.height) d.before.height))) (room_for_one d r)

pub declaring_closes : (is : Items) (names : List (List ℕ)) (d : Declaring) → RoomDeclaring d → Closes is names (ex.ended d 0)
declaring_closes is names d r = place_closes is names d.place (mk.whole_declaration d 0) (mk.declaration_height d) (room_for_one d r)

pub listed_closes : (is : Items) (names : List (List ℕ)) (d : Declaring) → RoomDeclaring d → Closes is names (Listed d)
listed_closes is names d r = on is names names (Listed d) (ex.ended d 0) semicolon refl refl refl (declaring_low d r) (declaring_closes is names d r)

-- Heights of a declared name.

pub attributes_low : (ats : Ats) → height_attributes ats ≤ 1
attributes_low no_attributes = omega arith
attributes_low (attributes_and ats a) = omega arith

pub not_function_high : (d : Declared) (h : ℕ) → ht.is_function d.form.value ≡ false → ht.declared_high d h ≡ ht.declarator_high d.around (max (max d.form.height (ht.form_needs d.form.value)) h)
not_function_high d h e = ap (λ c. if c then ht.parameters_high d.around (max d.form.height h) else ht.declarator_high d.around (max (max d.form.height (ht.form_needs d.form.value)) h)) e

-- one declared name more, where its part is so high
pub initial_low : (d : Declared) (h : ℕ) → ht.is_function d.form.value ≡ false → ht.declared_high d h ≤ 200 → height_attributes d.attributes ≤ h → suc (place_depth d.around.place) + above (max (max d.form.height (height_attributes d.attributes)) h) ≤ 200
initial_low d h e l a =
    omega (arith, subst (λ n. n ≤ 200) (not_function_high d h e) l, above_grows (max (max d.form.height (height_attributes d.attributes)) h) (max (max d.form.height (ht.form_needs d.form.value)) h) (omega (arith, a)))

-- a declared name that is whole
whole_name : (is : Items) (names : List (List ℕ)) (d : Declared) → RoomDeclaring d.around → decl.may_be_whole d ≡ true → suc (place_depth d.around.place) + above (max (max d.form.height (height_attributes d.attributes)) 0) ≤ 200 → Closes is names (Behind d)
whole_name is names d r m l =
    let z = mk.with_initial d iNothing 0 in
    let q : RoomDeclaring z = (r.0, omega (arith, r.1, l)) in
    on is names (decl.names_with d names) (Behind d) (ex.ended z 0) semicolon refl refl (when_holds (decl.may_be_whole d) (turn (ex.ended z 0) (decl.names_with d names)) m) (declaring_low z q) (declaring_closes is (decl.names_with d names) z q)

-- Functions.

skipped_closes : (is : Items) (names : List (List ℕ)) (h : Header) → Closes is names (Skipped h 0 no_raw 0)
skipped_closes is names h = on is names names (Skipped h 0 no_raw 0) (Ended (stt.function_item h (bSkipped 0 no_raw 0)) 0) curly_close refl refl refl (omega arith) (ended_closes is names _ 0)

body_low : (names : List (List ℕ)) (h : Header) (c : Bool) → low (if c then Skipped h 0 no_raw 0 else Begin (outBody (length names) h 0 no_statements)) ≤ 200
body_low names h true = omega arith
body_low names h false = omega arith

body_closes : (is : Items) (names : List (List ℕ)) (h : Header) (c : Bool) → Closes is names (if c then Skipped h 0 no_raw 0 else Begin (outBody (length names) h 0 no_statements))
body_closes is names h true = skipped_closes is names h
body_closes is names h false = begin_closes is names (outBody (length names) h 0 no_statements) (omega arith)

both_hold : (c d : Bool) → c ≡ true → d ≡ true → (c && d) ≡ true
both_hold true d h g = g
both_hold false d h g = cc

file_site : (p : Place) → ht.is_placed_in_file p ≡ true → sh.is_file (ht.site_of_place p) ≡ true
file_site placeFile h = refl
file_site (placeBlock o) h = cc
file_site (placeFor m x a o) h = cc

function_may : (d : Declared) (ps : Parameters) → d.form.value ≡ fFunction ps → ht.is_placed_in_file d.around.place ≡ true → is_typedef d.around.spoken.told.storage ≡ false → decl.may_be_whole d ≡ true
function_may d ps e p n =
    ap (λ f. sh.may_declare (ht.site_of_place d.around.place) d.around.spoken.told f iNothing) e ∙ both_hold (sh.is_file (ht.site_of_place d.around.place)) (not (is_typedef d.around.spoken.told.storage)) (file_site d.around.place p) (ap not n)

pub function_closes : (is : Items) (names : List (List ℕ)) (d : Declared) (ps : Parameters) → d.form.value ≡ fFunction ps → ht.is_placed_in_file d.around.place ≡ true → is_typedef d.around.spoken.told.storage ≡ false → RoomDeclaring d.around → ht.parameters_high d.around (max d.form.height (height_attributes d.attributes)) ≤ 200 → Closes is names (Behind d)
function_closes is names d ps e p n r l = pick (ht.is_first d.around) refl
  where
    pick : (c : Bool) → ht.is_first d.around ≡ c → Closes is names (Behind d)
    pick true f =
        let h = decl.header d ps in
        let c = sh.is_skipped_name h.name in
        on is names names (Behind d) (decl.body_of_header names 0 h) (sign (sy.Open br.Curly) 0) refl refl
        (ap (λ x. kept names (if x then decl.body_of_form names d.form.value 0 d else None)) f ∙ ap (λ x. kept names (decl.body_of_form names x 0 d)) e) (body_low names h c) (body_closes is names h c)
    pick false f =
        let x = max d.form.height (height_attributes d.attributes) in
        let g : ht.parameters_high d.around x ≡ ht.declarator_high d.around x = ap (λ c. if c then suc x else ht.declarator_high d.around x) f in
        whole_name is names d r (function_may d ps e p n) (omega (arith, subst (λ y. y ≤ 200) g l, above_grows (max x 0) x (omega arith)))

formed_height : (d : Declared) (h : ℕ) → 1 ≤ h → h ≡ max h (height_attributes d.attributes)
formed_height d h g = omega (arith, g, attributes_low d.attributes)

-- parameters of this height
pub formed_closes : (is : Items) (names : List (List ℕ)) (d : Declared) (ps : Parameters) (h : ℕ) → ht.is_placed_in_file d.around.place ≡ true → is_typedef d.around.spoken.told.storage ≡ false → RoomDeclaring d.around → 1 ≤ h → ht.parameters_high d.around h ≤ 200 → Closes is names (Behind (mk.with_form d (tall (fFunction ps) h)))
formed_closes is names d ps h p n r g l =
    function_closes is names (mk.with_form d (tall (fFunction ps) h)) ps refl p n r (subst (λ x. ht.parameters_high d.around x ≤ 200) (formed_height d h g) l)

pub formed_low : (d : Declared) (ps : Parameters) (h : ℕ) → 1 ≤ h → ht.parameters_high d.around h ≤ 200 → low (Behind (mk.with_form d (tall (fFunction ps) h))) ≤ 200
formed_low d ps h g l = subst (λ x. ht.parameters_high d.around x ≤ 200) (formed_height d h g) l

pub parameters_closes : (is : Items) (names : List (List ℕ)) (d : Declared) (a : ℕ) → ht.is_placed_in_file d.around.place ≡ true → is_typedef d.around.spoken.told.storage ≡ false → RoomDeclaring d.around → ht.parameters_high d.around 1 ≤ 200 → Closes is names (Parameters' d a)
parameters_closes is names d a p n r l =
    on is names names (Parameters' d a) (Behind (mk.with_form d (tall (fFunction (pUnknown a 0)) 1))) round_close refl refl refl (formed_low d (pUnknown a 0) 1 (omega arith) l) (formed_closes is names d (pUnknown a 0) 1 p n r (omega arith) l)

-- A name of the type `void`, which stands in the file.

small_parameters : (p : Place) (c : Bool) → ht.is_placed_in_file p ≡ true → (if c then 2 else suc (place_depth p) + above 1) ≤ 200
small_parameters p true h = omega arith
small_parameters placeFile false h = omega arith
small_parameters (placeBlock o) false h = cc
small_parameters (placeFor m x a o) false h = cc

pub void_closes : (is : Items) (names : List (List ℕ)) (d : Declared) → decl.is_bare d ≡ true → ht.is_placed_in_file d.around.place ≡ true → is_typedef d.around.spoken.told.storage ≡ false → RoomDeclaring d.around → Closes is names (Behind d)
void_closes is names d e p n r =
    let l : ht.parameters_high d.around 1 ≤ 200 = small_parameters d.around.place (ht.is_first d.around) p in
    let m : decl.may_be_function d ≡ true = both_hold (decl.is_bare d && ht.is_placed_in_file d.around.place) (not (is_typedef d.around.spoken.told.storage)) (both_hold (decl.is_bare d) (ht.is_placed_in_file d.around.place) e p) (ap not n) in
    on is names names (Behind d) (Parameters' d 0) round_open refl refl (ap (kept names) (when_holds (decl.may_be_function d) (Parameters' d 0) m)) l (parameters_closes is names d 0 p n r l)

-- Lists of initial values.

-- a value more, and the list is whole
pub list_leads : (is : Items) (names : List (List ℕ)) (d : Declared) (x a : ℕ) (es : Tall Parts) (c : Option ℕ) (e : Part) → ht.is_function d.form.value ≡ false → RoomDeclaring d.around → ht.declared_high d (above es.height) ≤ 200 → 1 ≤ e.level → ht.declared_high d (above (max e.height 1)) ≤ 200 → ValueLeads is names e (inBase (basePart d x a es c))
list_leads is names d x a es c e f r p g l =
    let m = mk.one_more es c e in
    let h = above m.height in
    let z = mk.with_initial d (iList x a m.value None 0) h in
    let i = initial_low d h f (part_high d es.height e.height p l) (omega (arith, attributes_low d.attributes, above_some m.height)) in
    let q : RoomDeclaring z = (r.0, omega (arith, r.1, i)) in
    record { token = curly_close; ends = refl; turned = turn (Listed z) names; goes = ap (kept names) (when_holds (leb 1 e.level) (Listed z) (le-leb _ _ g)); within = q.1; closes = listed_closes is names z q }

pub list_closes : (is : Items) (names : List (List ℕ)) (d : Declared) (x : ℕ) → ht.is_function d.form.value ≡ false → RoomDeclaring d.around → ht.declared_high d 2 ≤ 200 → ht.declared_high d 1 ≤ 200 → Closes is names (Wait (waitList d x))
list_closes is names d x f r l g =
    let k = inBase (basePart d x 0 (tall no_parts 0) None) in
    on is names names (Wait (waitList d x)) (Operand k) (sign (sy.Open br.Curly) 0) refl refl refl l
    (operand_on is names k l (by_value is names (part 15 1 one) k (list_leads is names d x 0 (tall no_parts 0) None (part 15 1 one) f r g (omega arith) l)))

-- Behind a declared name.

pub void_file : (p : Place) → may_be_void (ht.site_of_place p) ≡ true → ht.is_placed_in_file p ≡ true
void_file placeFile h = refl
void_file (placeBlock o) h = cc
void_file (placeFor m x a o) h = cc

-- no part more
whole_low : (d : Declared) → ht.is_function d.form.value ≡ false → ht.declared_high d (height_attributes d.attributes) ≤ 200 → suc (place_depth d.around.place) + above (max (max d.form.height (height_attributes d.attributes)) 0) ≤ 200
whole_low d e l =
    let a = height_attributes d.attributes in
    omega (arith, subst (λ n. n ≤ 200) (not_function_high d a e) l, above_grows (max (max d.form.height a) 0) (max (max d.form.height (ht.form_needs d.form.value)) a) (omega arith))

plain_closes : (file : List (List ℕ)) (is : Items) (names : List (List ℕ)) (d : Declared) (c : Bool) → is_void d.around.spoken.told.typing ≡ c → d.form.value ≡ fPlain → FitDeclaring file d.around → IsSure d → RoomDeclaring d.around → ht.declared_high d (height_attributes d.attributes) ≤ 200 → Closes is names (Behind d)
plain_closes file is names d true v e f s r l =
    let z = void_stands (ht.site_of_place d.around.place) d.around.spoken.words d.around.spoken.told f.spoken.told v in
    let a : decl.may_have_attribute d ≡ false = ap (λ x. ht.is_function x || not (is_void d.around.spoken.told.typing)) e ∙ ap not v in
    void_closes is names d (both_hold (decl.is_plain d.form.value) (decl.are_no_attributes d.attributes) (ap decl.is_plain e) (s a)) (void_file d.around.place z.0) z.1 r
plain_closes file is names d false v e f s r l =
    whole_name is names d r (ap (λ x. sh.may_declare (ht.site_of_place d.around.place) d.around.spoken.told x iNothing) e ∙ ap not v) (whole_low d (ap ht.is_function e) l)

-- an array without a length
unsized_closes : (is : Items) (names : List (List ℕ)) (d : Declared) (a b : ℕ) → d.form.value ≡ fArray a None b → decl.is_object d.around.spoken.told ≡ true → RoomDeclaring d.around → ht.declared_high d (height_attributes d.attributes) ≤ 200 → Closes is names (Behind d)
unsized_closes is names d a b e k r l =
    let f : ht.is_function d.form.value ≡ false = ap ht.is_function e in
    let n : ht.form_needs d.form.value ≡ 2 = ap ht.form_needs e in
    let q = subst (λ x. x ≤ 200) (not_function_high d (height_attributes d.attributes) f) l in
    let two : ht.declared_high d 2 ≤ 200 = subst (λ x. x ≤ 200) (sym (not_function_high d 2 f)) (omega (arith, q, n, above_grows (max (max d.form.height (ht.form_needs d.form.value)) 2) (max (max d.form.height (ht.form_needs d.form.value)) (height_attributes d.attributes)) (omega (arith, n)))) in
    let alone : ht.declared_high d 1 ≤ 200 = omega (arith, two, declared_grows d 1 2 (omega arith)) in
    on is names names (Behind d) (Wait (waitList d 0)) (sign (sy.Assign to.Plain) 0) refl refl
    (ap (λ c. kept names (if c then decl.initial_of_form d.form.value 0 d else None)) k ∙ ap (λ x. kept names (decl.initial_of_form x 0 d)) e) two (list_closes is names d 0 f r two alone)

function_high : (d : Declared) (h : ℕ) → ht.is_function d.form.value ≡ true → ht.declared_high d h ≡ ht.parameters_high d.around (max d.form.height h)
function_high d h e = ap (λ c. if c then ht.parameters_high d.around (max d.form.height h) else ht.declarator_high d.around (max (max d.form.height (ht.form_needs d.form.value)) h)) e

pub behind_closes : (file : List (List ℕ)) (is : Items) (names : List (List ℕ)) (d : Declared) (x : Form) → d.form.value ≡ x → FitDeclaring file d.around → FitForm d.around x → IsSure d → RoomDeclaring d.around → ht.declared_high d (height_attributes d.attributes) ≤ 200 → Closes is names (Behind d)
behind_closes file is names d fPlain e f g s r l = plain_closes file is names d (is_void d.around.spoken.told.typing) refl e f s r l
behind_closes file is names d (fArray a (Some y) b) e f g s r l =
    whole_name is names d r (ap (λ z. sh.may_declare (ht.site_of_place d.around.place) d.around.spoken.told z iNothing) e ∙ g) (whole_low d (ap ht.is_function e) l)
behind_closes file is names d (fArray a None b) e f g s r l = unsized_closes is names d a b e g r l
behind_closes file is names d (fFunction ps) e f g s r l =
    function_closes is names d ps e g.0 g.1 r (subst (λ n. n ≤ 200) (function_high d (height_attributes d.attributes) (ap ht.is_function e)) l)
