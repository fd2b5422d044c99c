-- The machine goes through the declared names of each shaped declaration.
use Rattle.std.proofs.Common.{◌≡◌, ℕ, suc, ◌≤◌, ◌+◌, max, List, ◌∷◌, Option, None, Some, Bool, true, false, ◌&&◌, ◌||◌, not, if◌then◌else◌, leb, refl, subst, sym, ap, ◌∙◌, arith, le-leb}
use Rattle.c_tree.specs.declared.symbol.AssignOp.TheVariants as to
use Rattle.c_tree.specs.declared.symbol.Bracket.TheVariants as br
use Rattle.c_tree.specs.declared.symbol.Symbol.TheVariants as sy
use Rattle.c_tree.specs.declared.symbol.SymbolAt.{SymbolAt}
use Rattle.c_tree.specs.declared.known.Site.{Site}
use Rattle.c_tree.specs.declared.known.Known.{Known}
use Rattle.c_tree.specs.Symbols.{sign}
use Rattle.c_tree.specs.Spelling.{level_of, opening, closing, comma, spell, spell_parts, spell_attribute, spell_attributes, spell_form, spell_initial}
use Rattle.c_tree.specs.Shape as sh
use Rattle.c_tree.specs.Words.{is_typedef, is_void}
use Rattle.c_tree.specs.Tree.{Ats, no_attributes, attributes_and, Ex, Parts, no_parts, parts_and, named, Parameters, Form, fPlain, fArray, fFunction, Initial, iNothing, iValue, iList, Decs, declarators_and}
use Rattle.parse_machine.specs.Tokens.{Prefix, prefix_of, Suffix, suffix_of, spec_of, SpecKind, spTypedef, spOther, start_of, is_else, Skip, skipOn, skipClose, skipEnd, skip_of, is_awaited}
use Rattle.parse_machine.specs.Contexts.{Spoken, Place, placeFile, placeBlock, placeFor, Declaring, Declared, baseLength, baseInitial, basePart, Inner, inBase, onDeclared, waitList, waitAttribute, Mode, Behind, Listed, Wait, Operand, Maybe}
use Rattle.parse_machine.specs.Making as mk
use Rattle.parse_machine.specs.Making.{above, tall, part, bound, bind_level}
use Rattle.parse_machine.specs.Heights as ht
use Rattle.parse_machine.specs.Heights.{least, high, around_high, low, depth, is_list}
use Rattle.parse_machine.specs.Expressions as ex
use Rattle.c_tree.specs.Height as hg
use Rattle.c_tree.specs.Height.{height, height_parts, height_words}
use Rattle.parse_machine.specs.Declarations as decl
use Rattle.parse_machine.specs.Declarations.{Turn, turn, kept}
use Rattle.parse_laws.proofs.Walk.{walk, stand, if_true, go, when_true, above_is, lower, height_some, opened, valued, pull_one}
use Rattle.parse_laws.proofs.First.{first_maybe}
use Rattle.c_tree.specs.Height.{height_word, height_enumerators}
use Rattle.parse_machine.specs.Tokens as tok
use Rattle.parse_laws.proofs.ReadEx.{attribute_reads, folded}
use Rattle.parse_laws.proofs.WholeEx.{reads}
use Rattle.parse_laws.proofs.ReadDecl.{parameters_read}

-- the declared names so far
abbrev pub so_far : Place → Spoken → Decs → Declaring
so_far p s ds = mk.declaring p s (tall ds (hg.height_declarators ds))

abbrev pub entire : Place → Spoken → Decs → Option ℕ → List ℕ → ℕ → Form → Ats → Declared
entire p s ds c n at f ats = mk.declared (so_far p s ds) c n at (tall f (hg.height_form f)) ats

either_low : (c : Bool) (x y : ℕ) → x ≤ 200 → y ≤ 200 → (if c then x else y) ≤ 200
either_low true x y p q = p
either_low false x y p q = q

pub declared_low : (d : Declared) (h g : ℕ) → suc (max d.form.height h) ≤ g → suc (ht.form_needs d.form.value) ≤ g → suc (ht.place_depth d.around.place) + g ≤ 200 → ht.declared_high d h ≤ 200
declared_low d h g i j l =
    let a = above_is (max d.form.height h) (omega (arith, i, l)) in
    let b0 = above_is (max (max d.form.height (ht.form_needs d.form.value)) h) (omega (arith, i, j, l)) in
    either_low (ht.is_function d.form.value) _ _
    (either_low (ht.is_first d.around) _ _ (omega (arith, i, l)) (omega (arith, i, l, a)))
    (omega (arith, i, j, l, b0))

-- Attributes.

pub and_left : (c d : Bool) → (c && d) ≡ true → c ≡ true
and_left true d h = refl
and_left false d h = cc

pub and_right : (c d : Bool) → (c && d) ≡ true → d ≡ true
and_right true true h = refl
and_right true false h = cc
and_right false true h = refl
and_right false false h = cc

ats_le : (ats : Ats) → hg.height_attributes ats ≤ 1
ats_le no_attributes = omega arith
ats_le (attributes_and ats x) = omega arith

pub may_attribute : (s : Site) (k : Known) (f : Form) (i : Initial) → sh.may_declare s k f i ≡ true → (ht.is_function f || not (is_void k.typing)) ≡ true
may_attribute s k fPlain iNothing h = h
may_attribute s k fPlain (iValue at e) h = and_left (not (is_void k.typing)) (not (is_typedef k.storage)) h
may_attribute s k fPlain (iList at a es c x) h = cc
may_attribute s k (fArray a None c) iNothing h = cc
may_attribute s k (fArray a None c) (iValue at e) h = cc
may_attribute s k (fArray a None c) (iList at x es d y) h = and_left (not (is_void k.typing)) (not (is_typedef k.storage)) h
may_attribute s k (fArray a (Some e) c) iNothing h = and_left (not (is_void k.typing)) (not (is_typedef k.storage)) h
may_attribute s k (fArray a (Some e) c) (iValue at x) h = cc
may_attribute s k (fArray a (Some e) c) (iList at x es d y) h = and_left (not (is_void k.typing)) (not (is_typedef k.storage)) h
may_attribute s k (fFunction ps) i h = refl

pub attributes_read : (ats : Ats) (ns : List (List ℕ)) (p : Place) (s : Spoken) (ds : Decs) (c : Option ℕ) (n : List ℕ) (at : ℕ) (f : Form) → sh.ShapedAttributes ats → (ht.is_function f || not (is_void s.told.typing)) ≡ true → (g : ℕ) → suc (max (hg.height_form f) (hg.height_attributes ats)) ≤ g → suc (ht.form_needs f) ≤ g → suc (ht.place_depth p) + g ≤ 200 → (rest : List SymbolAt) → walk (spell_attributes ats rest) (stand (Behind (entire p s ds c n at f no_attributes)) ns) ≡ walk rest (stand (Behind (entire p s ds c n at f ats)) ns)
attributes_read no_attributes ns p s ds c n at f t m g i j l rest = refl
attributes_read (attributes_and ats x) ns p s ds c n at f t m g i j l rest =
    let d = entire p s ds c n at f ats in
    attributes_read ats ns p s ds c n at f t.0 m g (omega (arith, i, ats_le ats)) j l (spell_attribute x rest)
    ∙ attribute_reads ns x (onDeclared d) rest (Behind d) t.1 (λ w y. ap (kept ns) (when_true (decl.may_have_attribute d) (Wait (waitAttribute w y (onDeclared d))) m)) (declared_low d 1 g i j l) (declared_low (entire p s ds c n at f (attributes_and ats x)) 1 g i j l)

-- What stands behind a name.

pub array_object : (s : Site) (k : Known) (a : ℕ) (e : Option Ex) (c : ℕ) (i : Initial) → sh.may_declare s k (fArray a e c) i ≡ true → decl.is_object k ≡ true
array_object s k a None c iNothing h = cc
array_object s k a None c (iValue at e) h = cc
array_object s k a None c (iList at x es d y) h = h
array_object s k a (Some e) c iNothing h = h
array_object s k a (Some e) c (iValue at x) h = cc
array_object s k a (Some e) c (iList at x es d y) h = h

function_place : (p : Place) (k : Known) (ps : Parameters) (i : Initial) → sh.may_declare (ht.site_of_place p) k (fFunction ps) i ≡ true → (ht.is_placed_in_file p && not (is_typedef k.storage)) ≡ true
function_place placeFile k ps iNothing h = h
function_place (placeBlock o) k ps iNothing h = cc
function_place (placeFor m a x o) k ps iNothing h = cc
function_place p k ps (iValue at e) h = cc
function_place p k ps (iList at a es c x) h = cc

pub form_read : (f : Form) (ns : List (List ℕ)) (p : Place) (s : Spoken) (ds : Decs) (c : Option ℕ) (n : List ℕ) (at : ℕ) (i : Initial) → sh.ShapedForm ns f → sh.may_declare (ht.site_of_place p) s.told f i ≡ true → (g : ℕ) → suc (hg.height_form f) ≤ g → suc (ht.form_needs f) ≤ g → suc (ht.place_depth p) + g ≤ 200 → (rest : List SymbolAt) → walk (spell_form f rest) (stand (Behind (mk.declared_plain (so_far p s ds) c n at)) ns) ≡ walk rest (stand (Behind (entire p s ds c n at f no_attributes)) ns)
form_read fPlain ns p s ds c n at i t m g a j l rest = refl
form_read (fArray x None y) ns p s ds c n at i t m g a j l rest =
    let d = mk.declared_plain (so_far p s ds) c n at in
    go (opening br.Square x) (closing br.Square y ∷ rest) (Behind d) (Maybe (inBase (baseLength d x))) ns ns (ap (kept ns) (when_true (decl.may_be_array d) (Maybe (inBase (baseLength d x))) (array_object (ht.site_of_place p) s.told x None y i m))) (omega (arith, l, j, above_is 1 (omega arith)))
    ∙ go (closing br.Square y) rest (Maybe (inBase (baseLength d x))) (Behind (entire p s ds c n at (fArray x None y) no_attributes)) ns ns refl (declared_low (entire p s ds c n at (fArray x None y) no_attributes) 0 g (omega (arith, a)) j l)
form_read (fArray x (Some e) y) ns p s ds c n at i t m g a j l rest =
    let d = mk.declared_plain (so_far p s ds) c n at in
    let k = inBase (baseLength d x) in
    let v = above_is (max (height e) 1) (omega (arith, a, l)) in
    let h : high k (height e) ≤ 200 = omega (arith, l, a, v, height_some e) in
    go (opening br.Square x) (spell e (closing br.Square y ∷ rest)) (Behind d) (Maybe k) ns ns (ap (kept ns) (when_true (decl.may_be_array d) (Maybe k) (array_object (ht.site_of_place p) s.told x (Some e) y i m))) (lower k 0 (height e) h (omega arith))
    ∙ first_maybe ns k e t.1 (closing br.Square y ∷ rest)
    ∙ reads e k ns t.1 t.0 h (closing br.Square y ∷ rest)
    ∙ go (closing br.Square y) rest (valued (opened e k)) (Behind (entire p s ds c n at (fArray x (Some e) y) no_attributes)) ns ns
    (ap (λ z. kept ns (ex.step_held (tok.sufClose br.Square) y z)) (folded ns e k 0 t.1 (omega arith) (omega arith) h tt)
    ∙ ap (kept ns) (when_true (leb 2 (level_of e)) (Behind (entire p s ds c n at (fArray x (Some e) y) no_attributes)) (le-leb _ _ t.0))) (declared_low (entire p s ds c n at (fArray x (Some e) y) no_attributes) 0 g (omega (arith, a)) j l)
form_read (fFunction ps) ns p s ds c n at i t m g a j l rest =
    let d = mk.declared_plain (so_far p s ds) c n at in
    parameters_read ps ns d t (function_place p s.told ps i m)
    (either_low (ht.is_first d.around) _ _ (omega (arith, a, l)) (omega (arith, a, l, above_is (hg.height_parameters ps) (omega (arith, a, l)))))
    (declared_low (entire p s ds c n at (fFunction ps) no_attributes) 0 g (omega (arith, a)) j l) rest

-- Initial values.

abbrev part_at : Declared → ℕ → ℕ → Parts → Option ℕ → Inner
part_at d x a es c = inBase (basePart d x a (tall es (height_parts es)) c)

-- behind a declared name with its value
abbrev pub behind_initial : Declared → Initial → Mode
behind_initial d iNothing = Behind d
behind_initial d (iValue at e) = valued (opened e (inBase (baseInitial d at)))
behind_initial d (iList at a es c x) = Listed (mk.with_initial d (iList at a es c x) (suc (height_parts es)))

part_high : (d : Declared) (x a : ℕ) (es : Parts) (c : Option ℕ) (h g : ℕ) → suc (max d.form.height (suc (max h 1))) ≤ g → suc (ht.form_needs d.form.value) ≤ g → suc (ht.place_depth d.around.place) + g ≤ 200 → high (part_at d x a es c) h ≤ 200
part_high d x a es c h g i j l =
    subst (λ z. ht.declared_high d z ≤ 200) (sym (above_is (max h 1) (omega (arith, i, l)))) (declared_low d (suc (max h 1)) g i j l)

list_some : (es : Parts) (c : Option ℕ) (e : Ex) (d : Declared) (x a : ℕ) (ns : List (List ℕ)) → sh.ShapedParts ns es → sh.IsComma (sh.are_no_parts es) c → sh.Shaped ns e → (g : ℕ) → suc (max d.form.height (suc (max (max (height_parts es) (height e)) 1))) ≤ g → suc (ht.form_needs d.form.value) ≤ g → suc (ht.place_depth d.around.place) + g ≤ 200 → (rest : List SymbolAt) → walk (spell_parts es (comma c (spell e rest))) (stand (Operand (part_at d x a no_parts None)) ns) ≡ walk (spell e rest) (stand (Operand (part_at d x a es c)) ns)
list_some no_parts None e d x a ns s t u g i j l rest = refl
list_some no_parts (Some at) e d x a ns s t u g i j l rest = absurd t
list_some (parts_and es c y) None e d x a ns s t u g i j l rest = absurd t
list_some (parts_and es c y) (Some at) e d x a ns s t u g i j l rest =
    let k = part_at d x a es c in
    let h : high k (height y) ≤ 200 = part_high d x a es c (height y) g (omega (arith, i)) j l in
    list_some es c y d x a ns s.2 s.0 s.3 g (omega (arith, i)) j l (sign sy.Comma at ∷ spell e rest)
    ∙ reads y k ns s.3 s.1 h (sign sy.Comma at ∷ spell e rest)
    ∙ go (sign sy.Comma at) (spell e rest) (valued (opened y k)) (Maybe (part_at d x a (parts_and es c y) (Some at))) ns ns
    (ap (λ z. kept ns (ex.step_held tok.sufComma at z)) (folded ns y k 1 s.3 (pull_one y s.1) (omega arith) h tt)
    ∙ ap (kept ns) (when_true (leb 1 (level_of y)) (Maybe (part_at d x a (parts_and es c y) (Some at))) (le-leb _ _ s.1))) (part_high d x a (parts_and es c y) (Some at) 0 g (omega (arith, i)) j l)
    ∙ first_maybe ns (part_at d x a (parts_and es c y) (Some at)) e u rest

list_close : (es : Parts) (c0 : Option ℕ) (e : Ex) (c : Option ℕ) (y : ℕ) (d : Declared) (x a : ℕ) (ns : List (List ℕ)) → sh.Shaped ns e → 1 ≤ level_of e → (g : ℕ) → suc (max d.form.height (suc (max (max (height_parts es) (height e)) 1))) ≤ g → suc (ht.form_needs d.form.value) ≤ g → suc (ht.place_depth d.around.place) + g ≤ 200 → low (Listed (mk.with_initial d (iList x a (parts_and es c0 e) c y) (suc (height_parts (parts_and es c0 e))))) ≤ 200 → (rest : List SymbolAt) → walk (comma c (closing br.Curly y ∷ rest)) (stand (valued (opened e (part_at d x a es c0))) ns) ≡ walk rest (stand (Listed (mk.with_initial d (iList x a (parts_and es c0 e) c y) (suc (height_parts (parts_and es c0 e))))) ns)
list_close es c0 e None y d x a ns t m g i j l o rest =
    let k = part_at d x a es c0 in
    let h : high k (height e) ≤ 200 = part_high d x a es c0 (height e) g (omega (arith, i)) j l in
    go (closing br.Curly y) rest (valued (opened e k)) (Listed (mk.with_initial d (iList x a (parts_and es c0 e) None y) (suc (height_parts (parts_and es c0 e))))) ns ns
    (ap (λ z. kept ns (ex.step_held (tok.sufClose br.Curly) y z)) (folded ns e k 0 t (omega arith) (omega arith) h tt)
    ∙ ap (kept ns) (when_true (leb 1 (level_of e)) (ex.listed d x a (tall (parts_and es c0 e) (height_parts (parts_and es c0 e))) None y) (le-leb _ _ m))
    ∙ ap (λ z. stand (Listed (mk.with_initial d (iList x a (parts_and es c0 e) None y) z)) ns) (above_is (height_parts (parts_and es c0 e)) (omega (arith, i, l)))) o
list_close es c0 e (Some at) y d x a ns t m g i j l o rest =
    let k = part_at d x a es c0 in
    let h : high k (height e) ≤ 200 = part_high d x a es c0 (height e) g (omega (arith, i)) j l in
    go (sign sy.Comma at) (closing br.Curly y ∷ rest) (valued (opened e k)) (Maybe (part_at d x a (parts_and es c0 e) (Some at))) ns ns
    (ap (λ z. kept ns (ex.step_held tok.sufComma at z)) (folded ns e k 1 t (pull_one e m) (omega arith) h tt)
    ∙ ap (kept ns) (when_true (leb 1 (level_of e)) (Maybe (part_at d x a (parts_and es c0 e) (Some at))) (le-leb _ _ m))) (part_high d x a (parts_and es c0 e) (Some at) 0 g (omega (arith, i)) j l)
    ∙ go (closing br.Curly y) rest (Maybe (part_at d x a (parts_and es c0 e) (Some at))) (Listed (mk.with_initial d (iList x a (parts_and es c0 e) (Some at) y) (suc (height_parts (parts_and es c0 e))))) ns ns
    (ap (λ z. stand (Listed (mk.with_initial d (iList x a (parts_and es c0 e) (Some at) y) z)) ns) (above_is (height_parts (parts_and es c0 e)) (omega (arith, i, l)))) o

-- the height of a list of declared names
pub with_height : (d : Declared) (i : Initial) (h : ℕ) → max (max d.form.height (hg.height_attributes d.attributes)) h ≤ 200 → mk.with_initial d i h ≡ mk.declaring d.around.place d.around.spoken (tall (declarators_and d.around.before.value d.comma (named d.name d.at) d.form.value d.attributes i) (max d.around.before.height (suc (max (max d.form.height (hg.height_attributes d.attributes)) h))))
with_height d i h p = ap (λ z. mk.declaring d.around.place d.around.spoken (tall (declarators_and d.around.before.value d.comma (named d.name d.at) d.form.value d.attributes i) (max d.around.before.height z))) (above_is (max (max d.form.height (hg.height_attributes d.attributes)) h) p)

pub initial_read : (i : Initial) (ns : List (List ℕ)) (p : Place) (s : Spoken) (ds : Decs) (c : Option ℕ) (n : List ℕ) (at : ℕ) (f : Form) (ats : Ats) → sh.ShapedInitial ns i → sh.may_declare (ht.site_of_place p) s.told f i ≡ true → (g : ℕ) → suc (max (max (hg.height_form f) (hg.height_attributes ats)) (hg.height_initial i)) ≤ g → suc (ht.form_needs f) ≤ g → hg.height_declarators ds ≤ g → suc (ht.place_depth p) + g ≤ 200 → (rest : List SymbolAt) → walk (spell_initial i rest) (stand (Behind (entire p s ds c n at f ats)) ns) ≡ walk rest (stand (behind_initial (entire p s ds c n at f ats) i) ns)
initial_read iNothing ns p s ds c n at f ats t m g i j y l rest = refl
initial_read (iValue x e) ns p s ds c n at fPlain ats t m g i j y l rest =
    let d = entire p s ds c n at fPlain ats in
    let k = inBase (baseInitial d x) in
    let h : high k (height e) ≤ 200 = declared_low d (height e) g (omega (arith, i)) j l in
    go (sign (sy.Assign to.Plain) x) (spell e rest) (Behind d) (Operand k) ns ns (ap (kept ns) (if_true (decl.is_object s.told) (Some (Operand k)) None m)) (lower k 1 (height e) h (height_some e))
    ∙ reads e k ns t.1 t.0 h rest
initial_read (iValue x e) ns p s ds c n at (fArray a None z) ats t m g i j y l rest = cc
initial_read (iValue x e) ns p s ds c n at (fArray a (Some v) z) ats t m g i j y l rest = cc
initial_read (iValue x e) ns p s ds c n at (fFunction ps) ats t m g i j y l rest = cc
initial_read (iList x a no_parts q z) ns p s ds c n at f ats t m g i j y l rest = cc
initial_read (iList x a (parts_and es c0 e) q z) ns p s ds c n at fPlain ats t m g i j y l rest = cc
initial_read (iList x a (parts_and es c0 e) q z) ns p s ds c n at (fFunction ps) ats t m g i j y l rest = cc
initial_read (iList x a (parts_and es c0 e) q z) ns p s ds c n at (fArray v w u) ats t m g i j y l rest =
    let d = entire p s ds c n at (fArray v w u) ats in
    let o : suc (max d.form.height (suc (max (max (height_parts es) (height e)) 1))) ≤ g = omega (arith, i, height_some e) in
    go (sign (sy.Assign to.Plain) x) (opening br.Curly a ∷ spell_parts (parts_and es c0 e) (comma q (closing br.Curly z ∷ rest))) (Behind d) (Wait (waitList d x)) ns ns (ap (kept ns) (if_true (decl.is_object s.told) (Some (Wait (waitList d x))) None (array_object (ht.site_of_place p) s.told v w u (iList x a (parts_and es c0 e) q z) m))) (declared_low d 2 g (omega (arith, i, height_some e)) j l)
    ∙ go (opening br.Curly a) (spell_parts (parts_and es c0 e) (comma q (closing br.Curly z ∷ rest))) (Wait (waitList d x)) (Operand (part_at d x a no_parts None)) ns ns refl (part_high d x a no_parts None 1 g (omega (arith, o)) j l)
    ∙ list_some es c0 e d x a ns t.1.2 t.1.0 t.1.3 g o j l (comma q (closing br.Curly z ∷ rest))
    ∙ reads e (part_at d x a es c0) ns t.1.3 t.1.1 (part_high d x a es c0 (height e) g (omega (arith, o)) j l) (comma q (closing br.Curly z ∷ rest))
    ∙ list_close es c0 e q z d x a ns t.1.3 t.1.1 g o j l (omega (arith, i, y, l, above_is (max (max d.form.height (hg.height_attributes ats)) (suc (max (height_parts es) (height e)))) (omega (arith, i, l)))) rest
