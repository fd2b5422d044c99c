-- The machine goes through each shaped declaration.
use Rattle.std.proofs.Common.{◌≡◌, ℕ, suc, ◌≤◌, ◌+◌, max, List, ◌∷◌, Option, None, Some, Bool, true, false, not, if◌then◌else◌, leb, refl, sym, ap, ◌∙◌, arith, le-leb}
use Rattle.c_tree.specs.declared.symbol.Symbol.TheVariants as sy
use Rattle.c_tree.specs.declared.symbol.SymbolAt.{SymbolAt}
use Rattle.c_tree.specs.declared.known.Site.{Site}
use Rattle.c_tree.specs.declared.known.Known.{Known}
use Rattle.c_tree.specs.Symbols.{sign}
use Rattle.c_tree.specs.Spelling.{level_of, spell_attributes, spell_form, spell_initial, spell_declarators}
use Rattle.c_tree.specs.Shape as sh
use Rattle.c_tree.specs.Words.{is_typed, is_typedef, is_void}
use Rattle.c_tree.specs.Tree.{Ats, Ex, Parts, no_parts, parts_and, Words, Name, named, Form, fPlain, fArray, fFunction, Initial, iNothing, iValue, iList, Decs, no_declarators, declarators_and}
use Rattle.parse_machine.specs.Tokens.{Prefix, prefix_of, Suffix, suffix_of, spec_of, SpecKind, spTypedef, spOther, start_of, is_else, Skip, skipOn, skipClose, skipEnd, skip_of, is_awaited}
use Rattle.parse_machine.specs.Contexts.{Spoken, Place, placeFile, placeBlock, placeFor, Declared, baseInitial, inBase, aroundPlace, Mode, Specifiers, Next, Behind, Listed}
use Rattle.parse_machine.specs.Making as mk
use Rattle.parse_machine.specs.Making.{above, tall, part, bound, bind_level}
use Rattle.parse_machine.specs.Heights as ht
use Rattle.parse_machine.specs.Heights.{least, high, around_high, low, depth, is_list}
use Rattle.parse_laws.proofs.Before as b
use Rattle.parse_machine.specs.Expressions as ex
use Rattle.c_tree.specs.Height as hg
use Rattle.c_tree.specs.Height.{height, height_parts, height_words}
use Rattle.parse_machine.specs.Declarations as decl
use Rattle.parse_machine.specs.Declarations.{Turn, turn, kept}
use Rattle.parse_machine.specs.Specifiers as sp
use Rattle.parse_laws.proofs.Walk.{walk, stand, if_true, if_false, go, when_true, above_is, whole, height_some, opened, valued, refold, pull_one}
use Rattle.c_tree.specs.Height.{height_word, height_enumerators}
use Rattle.parse_machine.specs.Tokens as tok
use Rattle.parse_laws.proofs.ReadEx.{worded, folded}
use Rattle.parse_laws.proofs.WholeEx.{some_not}
use Rattle.parse_laws.proofs.ReadDecs.{so_far, entire, declared_low, attributes_read, form_read, behind_initial, initial_read, with_height, may_attribute, and_right}

abbrev pub behind_decs : Place → Spoken → Decs → Mode
behind_decs p s no_declarators = Specifiers s (aroundPlace p)
behind_decs p s (declarators_and ds c (named n at) f ats i) = behind_initial (entire p s ds c n at f ats) i

-- the names before the last declared name
abbrev pub names_in : Known → Decs → List (List ℕ) → List (List ℕ)
names_in k no_declarators ns = ns
names_in k (declarators_and ds c n f ats i) ns = sh.declared k ds ns

turn_when : (c : Bool) (u : Turn) → c ≡ true → ex.when c u ≡ Some u
turn_when c u h = rw h refl

not_true : (c : Bool) → not c ≡ true → c ≡ false
not_true true h = cc
not_true false h = refl

not_typedef : (k : Known) → decl.is_object k ≡ true → is_typedef k.storage ≡ false
not_typedef k h = not_true (is_typedef k.storage) (and_right (not (is_void k.typing)) (not (is_typedef k.storage)) h)

value_object : (s : Site) (k : Known) (f : Form) (x : ℕ) (e : Ex) → sh.may_declare s k f (iValue x e) ≡ true → decl.is_object k ≡ true
value_object s k fPlain x e h = h
value_object s k (fArray a None c) x e h = cc
value_object s k (fArray a (Some v) c) x e h = cc
value_object s k (fFunction ps) x e h = cc

list_object : (s : Site) (k : Known) (f : Form) (x a : ℕ) (es : Parts) (c : Option ℕ) (y : ℕ) → sh.may_declare s k f (iList x a es c y) ≡ true → decl.is_object k ≡ true
list_object s k fPlain x a es c y h = cc
list_object s k (fArray v None w) x a es c y h = h
list_object s k (fArray v (Some u) w) x a es c y h = h
list_object s k (fFunction ps) x a es c y h = cc

names_same : (k : Known) (ds : Decs) (c : Option ℕ) (n : Name) (f : Form) (ats : Ats) (i : Initial) (ns : List (List ℕ)) → decl.is_object k ≡ true → sh.declared k ds ns ≡ sh.declared k (declarators_and ds c n f ats i) ns
names_same k ds c n f ats i ns h = sym (if_false (is_typedef k.storage) _ (sh.declared k ds ns) (not_typedef k h))

some_parts : (es : Parts) → sh.are_no_parts es ≡ false → 1 ≤ height_parts es
some_parts no_parts h = cc
some_parts (parts_and es c e) h = omega (arith, height_some e)

needs_le : (ns : List (List ℕ)) (s : Site) (k : Known) (f : Form) (i : Initial) → sh.may_declare s k f i ≡ true → sh.ShapedInitial ns i → ht.form_needs f ≤ hg.height_initial i
needs_le ns s k fPlain i m t = omega arith
needs_le ns s k (fArray a (Some e) c) i m t = omega arith
needs_le ns s k (fFunction ps) i m t = omega arith
needs_le ns s k (fArray a None c) iNothing m t = cc
needs_le ns s k (fArray a None c) (iValue x e) m t = cc
needs_le ns s k (fArray a None c) (iList x y es d z) m t = omega (arith, some_parts es t.0)

value_fold : (ns : List (List ℕ)) (d : Declared) (x : ℕ) (e : Ex) (m : ℕ) (g : ℕ) → sh.Shaped ns e → 1 ≤ level_of e → m ≤ 1 → suc (max d.form.height (height e)) ≤ g → suc (ht.form_needs d.form.value) ≤ g → suc (ht.place_depth d.around.place) + g ≤ 200 → refold m (opened e (inBase (baseInitial d x))) ≡ ex.held (whole e) (inBase (baseInitial d x))
value_fold ns d x e m g t v q i j l = folded ns e (inBase (baseInitial d x)) m t (omega (arith, q, pull_one e v)) (omega (arith, q)) (declared_low d (height e) g i j l) tt

-- behind a declared name
dec_comma : (i : Initial) (ns ms : List (List ℕ)) (p : Place) (s : Spoken) (ds : Decs) (c : Option ℕ) (n : List ℕ) (at : ℕ) (f : Form) (ats : Ats) (x : ℕ) → sh.ShapedInitial ns i → sh.may_declare (ht.site_of_place p) s.told f i ≡ true → (g : ℕ) → suc (max (max (hg.height_form f) (hg.height_attributes ats)) (hg.height_initial i)) ≤ g → suc (ht.form_needs f) ≤ g → hg.height_declarators ds ≤ g → suc (ht.place_depth p) + g ≤ 200 → ns ≡ sh.declared s.told ds ms → (rest : List SymbolAt) → walk (sign sy.Comma x ∷ rest) (stand (behind_initial (entire p s ds c n at f ats) i) (sh.declared s.told ds ms)) ≡ walk rest (stand (Next (so_far p s (declarators_and ds c (named n at) f ats i)) x) (sh.declared s.told (declarators_and ds c (named n at) f ats i) ms))
dec_comma iNothing ns ms p s ds c n at f ats x t m g i j y l q rest =
    let d = entire p s ds c n at f ats in
    go (sign sy.Comma x) rest (Behind d) (Next (so_far p s (declarators_and ds c (named n at) f ats iNothing)) x) (sh.declared s.told ds ms) (sh.declared s.told (declarators_and ds c (named n at) f ats iNothing) ms)
    (turn_when (decl.may_be_whole d) (turn (Next (mk.with_initial d iNothing 0) x) (sh.declared s.told (declarators_and ds c (named n at) f ats iNothing) ms)) m
    ∙ ap (λ z. stand (Next z x) (sh.declared s.told (declarators_and ds c (named n at) f ats iNothing) ms)) (with_height d iNothing 0 (omega (arith, i, l))))
    (omega (arith, i, y, l))
dec_comma (iValue v e) ns ms p s ds c n at f ats x t m g i j y l q rest =
    let d = entire p s ds c n at f ats in
    let k = inBase (baseInitial d v) in
    go (sign sy.Comma x) rest (valued (opened e k)) (Next (so_far p s (declarators_and ds c (named n at) f ats (iValue v e))) x) (sh.declared s.told ds ms) (sh.declared s.told (declarators_and ds c (named n at) f ats (iValue v e)) ms)
    (ap (λ z. kept (sh.declared s.told ds ms) (ex.step_held tok.sufComma x z)) (value_fold ns d v e 1 g t.1 t.0 (omega arith) (omega (arith, i)) j l)
    ∙ ap (kept (sh.declared s.told ds ms)) (when_true (leb 1 (level_of e)) (Next (mk.with_initial d (iValue v e) (height e)) x) (le-leb _ _ t.0))
    ∙ ap (λ z. stand (Next z x) (sh.declared s.told ds ms)) (with_height d (iValue v e) (height e) (omega (arith, i, l)))
    ∙ ap (stand (Next (so_far p s (declarators_and ds c (named n at) f ats (iValue v e))) x)) (names_same s.told ds c (named n at) f ats (iValue v e) ms (value_object (ht.site_of_place p) s.told f v e m)))
    (omega (arith, i, y, l))
dec_comma (iList v a es u z) ns ms p s ds c n at f ats x t m g i j y l q rest =
    let d = entire p s ds c n at f ats in
    go (sign sy.Comma x) rest (Listed (mk.with_initial d (iList v a es u z) (suc (height_parts es)))) (Next (so_far p s (declarators_and ds c (named n at) f ats (iList v a es u z))) x) (sh.declared s.told ds ms) (sh.declared s.told (declarators_and ds c (named n at) f ats (iList v a es u z)) ms)
    (ap (λ w. stand (Next w x) (sh.declared s.told ds ms)) (with_height d (iList v a es u z) (suc (height_parts es)) (omega (arith, i, l)))
    ∙ ap (stand (Next (so_far p s (declarators_and ds c (named n at) f ats (iList v a es u z))) x)) (names_same s.told ds c (named n at) f ats (iList v a es u z) ms (list_object (ht.site_of_place p) s.told f v a es u z m)))
    (omega (arith, i, y, l))

dec_end : (i : Initial) (ns ms : List (List ℕ)) (p : Place) (s : Spoken) (ds : Decs) (c : Option ℕ) (n : List ℕ) (at : ℕ) (f : Form) (ats : Ats) (x : ℕ) → sh.ShapedInitial ns i → sh.may_declare (ht.site_of_place p) s.told f i ≡ true → (g : ℕ) → suc (max (max (hg.height_form f) (hg.height_attributes ats)) (hg.height_initial i)) ≤ g → suc (ht.form_needs f) ≤ g → hg.height_declarators ds ≤ g → suc (ht.place_depth p) + g ≤ 200 → low (ex.ended (so_far p s (declarators_and ds c (named n at) f ats i)) x) ≤ 200 → (rest : List SymbolAt) → walk (sign sy.Semicolon x ∷ rest) (stand (behind_initial (entire p s ds c n at f ats) i) (sh.declared s.told ds ms)) ≡ walk rest (stand (ex.ended (so_far p s (declarators_and ds c (named n at) f ats i)) x) (sh.declared s.told (declarators_and ds c (named n at) f ats i) ms))
dec_end iNothing ns ms p s ds c n at f ats x t m g i j y l q rest =
    let d = entire p s ds c n at f ats in
    go (sign sy.Semicolon x) rest (Behind d) (ex.ended (so_far p s (declarators_and ds c (named n at) f ats iNothing)) x) (sh.declared s.told ds ms) (sh.declared s.told (declarators_and ds c (named n at) f ats iNothing) ms)
    (turn_when (decl.may_be_whole d) (turn (ex.ended (mk.with_initial d iNothing 0) x) (sh.declared s.told (declarators_and ds c (named n at) f ats iNothing) ms)) m
    ∙ ap (λ z. stand (ex.ended z x) (sh.declared s.told (declarators_and ds c (named n at) f ats iNothing) ms)) (with_height d iNothing 0 (omega (arith, i, l)))) q
dec_end (iValue v e) ns ms p s ds c n at f ats x t m g i j y l q rest =
    let d = entire p s ds c n at f ats in
    let k = inBase (baseInitial d v) in
    go (sign sy.Semicolon x) rest (valued (opened e k)) (ex.ended (so_far p s (declarators_and ds c (named n at) f ats (iValue v e))) x) (sh.declared s.told ds ms) (sh.declared s.told (declarators_and ds c (named n at) f ats (iValue v e)) ms)
    (ap (λ z. kept (sh.declared s.told ds ms) (ex.step_held tok.sufSemicolon x z)) (value_fold ns d v e 0 g t.1 t.0 (omega arith) (omega (arith, i)) j l)
    ∙ ap (kept (sh.declared s.told ds ms)) (when_true (leb 1 (level_of e)) (ex.ended (mk.with_initial d (iValue v e) (height e)) x) (le-leb _ _ t.0))
    ∙ ap (λ z. stand (ex.ended z x) (sh.declared s.told ds ms)) (with_height d (iValue v e) (height e) (omega (arith, i, l)))
    ∙ ap (stand (ex.ended (so_far p s (declarators_and ds c (named n at) f ats (iValue v e))) x)) (names_same s.told ds c (named n at) f ats (iValue v e) ms (value_object (ht.site_of_place p) s.told f v e m))) q
dec_end (iList v a es u z) ns ms p s ds c n at f ats x t m g i j y l q rest =
    let d = entire p s ds c n at f ats in
    go (sign sy.Semicolon x) rest (Listed (mk.with_initial d (iList v a es u z) (suc (height_parts es)))) (ex.ended (so_far p s (declarators_and ds c (named n at) f ats (iList v a es u z))) x) (sh.declared s.told ds ms) (sh.declared s.told (declarators_and ds c (named n at) f ats (iList v a es u z)) ms)
    (ap (λ w. stand (ex.ended w x) (sh.declared s.told ds ms)) (with_height d (iList v a es u z) (suc (height_parts es)) (omega (arith, i, l)))
    ∙ ap (stand (ex.ended (so_far p s (declarators_and ds c (named n at) f ats (iList v a es u z))) x)) (names_same s.told ds c (named n at) f ats (iList v a es u z) ms (list_object (ht.site_of_place p) s.told f v a es u z m))) q

decs_comma : (ds : Decs) (ms : List (List ℕ)) (p : Place) (s : Spoken) (x : ℕ) → sh.ShapedDeclarators (ht.site_of_place p) s.told ms ds → sh.are_no_declarators ds ≡ false → (g : ℕ) → hg.height_declarators ds ≤ g → suc (ht.place_depth p) + g ≤ 200 → (rest : List SymbolAt) → walk (sign sy.Comma x ∷ rest) (stand (behind_decs p s ds) (names_in s.told ds ms)) ≡ walk rest (stand (Next (so_far p s ds) x) (sh.declared s.told ds ms))
decs_comma no_declarators ms p s x t e g i l rest = cc
decs_comma (declarators_and ds c (named n at) f ats v) ms p s x t e g i l rest =
    dec_comma v (sh.declared s.told ds ms) ms p s ds c n at f ats x t.6 t.2 g (omega (arith, i)) (omega (arith, i, needs_le (sh.declared s.told ds ms) (ht.site_of_place p) s.told f v t.2 t.6)) (omega (arith, i)) l refl rest

-- what stands behind the name
rest_read : (ms : List (List ℕ)) (p : Place) (s : Spoken) (ds : Decs) (c : Option ℕ) (n : List ℕ) (at : ℕ) (f : Form) (ats : Ats) (v : Initial) (t : sh.ShapedDeclarators (ht.site_of_place p) s.told ms (declarators_and ds c (named n at) f ats v)) (g : ℕ) → hg.height_declarators (declarators_and ds c (named n at) f ats v) ≤ g → suc (ht.place_depth p) + g ≤ 200 → (rest : List SymbolAt) → walk (spell_form f (spell_attributes ats (spell_initial v rest))) (stand (Behind (mk.declared_plain (so_far p s ds) c n at)) (sh.declared s.told ds ms)) ≡ walk rest (stand (behind_initial (entire p s ds c n at f ats) v) (sh.declared s.told ds ms))
rest_read ms p s ds c n at f ats v t g i l rest =
    let ns = sh.declared s.told ds ms in
    let w = needs_le ns (ht.site_of_place p) s.told f v t.2 t.6 in
    form_read f ns p s ds c n at v t.4 t.2 g (omega (arith, i)) (omega (arith, i, w)) l (spell_attributes ats (spell_initial v rest))
    ∙ attributes_read ats ns p s ds c n at f t.5 (may_attribute (ht.site_of_place p) s.told f v t.2) g (omega (arith, i)) (omega (arith, i, w)) l (spell_initial v rest)
    ∙ initial_read v ns p s ds c n at f ats t.6 t.2 g (omega (arith, i)) (omega (arith, i, w)) (omega (arith, i)) l rest

plain_low : (p : Place) (s : Spoken) (ds : Decs) (c : Option ℕ) (n : List ℕ) (at g : ℕ) → 1 ≤ g → suc (ht.place_depth p) + g ≤ 200 → low (Behind (mk.declared_plain (so_far p s ds) c n at)) ≤ 200
plain_low p s ds c n at g i l = declared_low (mk.declared_plain (so_far p s ds) c n at) 0 g (omega (arith, i)) (omega (arith, i)) l

pub first_name : (ns : List (List ℕ)) (p : Place) (s : Spoken) (n : List ℕ) (at : ℕ) → sh.has ns n ≡ false → is_typed s.told.typing ≡ true → (rest : List SymbolAt) → low (Behind (mk.declared_plain (so_far p s no_declarators) None n at)) ≤ 200 → walk (b.name_sign n at ∷ rest) (stand (Specifiers s (aroundPlace p)) ns) ≡ walk rest (stand (Behind (mk.declared_plain (so_far p s no_declarators) None n at)) ns)
first_name ns p s n at h y rest l =
    go (b.name_sign n at) rest (Specifiers s (aroundPlace p)) (Behind (mk.declared_plain (so_far p s no_declarators) None n at)) ns ns
    (ap (λ q. kept ns (sp.step_kind (if q then spTypedef n else spOther) (sy.Name n) at s (aroundPlace p))) h
    ∙ ap (kept ns) (if_true (is_typed s.told.typing) (sp.behind_words (sy.Name n) at s (aroundPlace p)) None y)) l

decs_read : (ds : Decs) (ms : List (List ℕ)) (p : Place) (s : Spoken) → sh.ShapedDeclarators (ht.site_of_place p) s.told ms ds → is_typed s.told.typing ≡ true → (g : ℕ) → hg.height_declarators ds ≤ g → suc (ht.place_depth p) + g ≤ 200 → (rest : List SymbolAt) → walk (spell_declarators ds rest) (stand (Specifiers s (aroundPlace p)) ms) ≡ walk rest (stand (behind_decs p s ds) (names_in s.told ds ms))
decs_read no_declarators ms p s t y g i l rest = refl
decs_read (declarators_and no_declarators None (named n at) f ats v) ms p s t y g i l rest =
    first_name ms p s n at t.3 y (spell_form f (spell_attributes ats (spell_initial v rest))) (plain_low p s no_declarators None n at g (omega (arith, i)) l)
    ∙ rest_read ms p s no_declarators None n at f ats v t g i l rest
decs_read (declarators_and no_declarators (Some x) (named n at) f ats v) ms p s t y g i l rest = absurd t.1
decs_read (declarators_and (declarators_and ds c0 n0 f0 a0 v0) None (named n at) f ats v) ms p s t y g i l rest = absurd t.1
decs_read (declarators_and ds (Some x) (named n at) f ats v) ms p s t y g i l rest =
    decs_read ds ms p s t.0 y g (omega (arith, i)) l (sign sy.Comma x ∷ b.name_sign n at ∷ spell_form f (spell_attributes ats (spell_initial v rest)))
    ∙ decs_comma ds ms p s x t.0 (some_not (sh.are_no_declarators ds) x t.1) g (omega (arith, i)) l (b.name_sign n at ∷ spell_form f (spell_attributes ats (spell_initial v rest)))
    ∙ go (b.name_sign n at) (spell_form f (spell_attributes ats (spell_initial v rest))) (Next (so_far p s ds) x) (Behind (mk.declared_plain (so_far p s ds) (Some x) n at)) (sh.declared s.told ds ms) (sh.declared s.told ds ms)
    (ap (λ q. kept (sh.declared s.told ds ms) (ex.when (not q) (Behind (mk.declared_plain (so_far p s ds) (Some x) n at)))) t.3) (plain_low p s ds (Some x) n at g (omega (arith, i)) l)
    ∙ rest_read ms p s ds (Some x) n at f ats v t g i l rest

-- how high a whole declaration is
ended_low : (p : Place) (s : Spoken) (ds : Decs) (x g : ℕ) → hg.height_declarators ds ≤ g → suc s.height ≤ g → suc (ht.place_depth p) + g ≤ 200 → low (ex.ended (so_far p s ds) x) ≤ 200
ended_low placeFile s ds x g i j l = omega (arith, i, j, l, above_is s.height (omega (arith, j, l)), above_is (max (above s.height) (hg.height_declarators ds)) (omega (arith, i, j, l, above_is s.height (omega (arith, j, l)))))
ended_low (placeBlock o) s ds x g i j l = omega (arith, l)
ended_low (placeFor m y a o) s ds x g i j l = omega (arith, l)

end_read : (ds : Decs) (ms : List (List ℕ)) (p : Place) (s : Spoken) (x : ℕ) → sh.ShapedDeclarators (ht.site_of_place p) s.told ms ds → sh.may_end s.told ds ≡ true → is_typed s.told.typing ≡ true → (g : ℕ) → hg.height_declarators ds ≤ g → suc s.height ≤ g → suc (ht.place_depth p) + g ≤ 200 → (rest : List SymbolAt) → walk (sign sy.Semicolon x ∷ rest) (stand (behind_decs p s ds) (names_in s.told ds ms)) ≡ walk rest (stand (ex.ended (so_far p s ds) x) (sh.declared s.told ds ms))
end_read no_declarators ms p s x t m y g i j l rest =
    go (sign sy.Semicolon x) rest (Specifiers s (aroundPlace p)) (ex.ended (so_far p s no_declarators) x) ms ms
    (ap (kept ms) (if_true (is_typed s.told.typing) (sp.behind_words sy.Semicolon x s (aroundPlace p)) None y)
    ∙ ap (kept ms) (when_true (not (is_void s.told.typing)) (ex.ended (so_far p s no_declarators) x) m)) (ended_low p s no_declarators x g i j l)
end_read (declarators_and ds c (named n at) f ats v) ms p s x t m y g i j l rest =
    dec_end v (sh.declared s.told ds ms) ms p s ds c n at f ats x t.6 t.2 g (omega (arith, i)) (omega (arith, i, needs_le (sh.declared s.told ds ms) (ht.site_of_place p) s.told f v t.2 t.6)) (omega (arith, i)) l (ended_low p s (declarators_and ds c (named n at) f ats v) x g i j l) rest

-- behind the words of a declaration
pub declared_read : (ws : Words) (ds : Decs) (x : ℕ) (ms : List (List ℕ)) (p : Place) (f : sh.ShapedDeclares (ht.site_of_place p) ms ws ds) → ht.place_depth p + suc (max (suc (height_words ws)) (hg.height_declarators ds)) ≤ 200 → (rest : List SymbolAt) → walk (spell_declarators ds (sign sy.Semicolon x ∷ rest)) (stand (Specifiers (worded ws f.specs.told) (aroundPlace p)) ms) ≡ walk rest (stand (ex.ended (so_far p (worded ws f.specs.told) ds) x) (sh.declared f.specs.told ds ms))
declared_read ws ds x ms p f l rest =
    let g = max (suc (height_words ws)) (hg.height_declarators ds) in
    let s = worded ws f.specs.told in
    decs_read ds ms p s f.declarators f.specs.typed g (omega arith) (omega (arith, l)) (sign sy.Semicolon x ∷ rest)
    ∙ end_read ds ms p s x f.declarators f.ends f.specs.typed g (omega arith) (omega arith) (omega (arith, l)) rest
