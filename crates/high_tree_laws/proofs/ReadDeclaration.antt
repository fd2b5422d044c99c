-- The machine goes through the declared names of each shaped declaration.
use Rattle.std.proofs.Common.{◌≡◌, ℕ, suc, ◌≤◌, ◌+◌, max, List, ◌∷◌, Option, None, Some, Bool, true, false, not, if◌then◌else◌, leb, leb-true, leb-false, refl, sym, ap, ◌∙◌, arith, le-leb}
use Rattle.c_tree.specs.declared.symbol.Symbol.TheVariants as sy
use Rattle.c_tree.specs.declared.symbol.SymbolAt.{SymbolAt}
use Rattle.c_tree.specs.declared.known.Site.{Site}
use Rattle.c_tree.specs.declared.known.Known.{Known}
use Rattle.c_tree.specs.Symbols.{sign}
use Rattle.c_tree.specs.Spelling.{level_of, spell_attributes, spell_form, spell_initial, spell_declarators}
use Rattle.c_tree.specs.Shape as sh
use Rattle.c_tree.specs.Words.{is_typed, is_typedef, is_void}
use Rattle.c_tree.specs.Tree.{Ats, Ex, Parts, Words, Name, named, Form, fPlain, fArray, fFunction, Initial, iNothing, iValue, iList, Decs, no_declarators, declarators_and}
use Rattle.parse_machine.specs.Tokens.{spTypedef, spOther}
use Rattle.parse_machine.specs.Contexts.{Spoken, Place, placeFile, placeBlock, placeFor, Declared, baseInitial, inBase, aroundPlace, Mode, Specifiers, Next, Behind}
use Rattle.parse_machine.specs.Making as mk
use Rattle.parse_machine.specs.Making.{above}
use Rattle.parse_machine.specs.Heights as ht
use Rattle.parse_machine.specs.Heights.{low}
use Rattle.parse_machine.specs.Expressions as ex
use Rattle.c_tree.specs.Height as hg
use Rattle.parse_machine.specs.Declarations as decl
use Rattle.parse_machine.specs.Declarations.{Turn, turn, kept}
use Rattle.parse_machine.specs.Specifiers as sp
use Rattle.parse_machine.specs.Tokens as tok
use Rattle.parse_laws.proofs.Before as b
use Rattle.parse_laws.proofs.Walk.{if_true, if_false, when_true, pull_one, above_mono}
use Rattle.parse_laws.proofs.WholeEx.{some_not}
use Rattle.parse_laws.proofs.ReadDecs.{may_attribute, and_right}
use Rattle.high_tree_laws.proofs.Kept.{counted, counted_form, counted_initial, counted_declarators, kept_form, whole}
use Rattle.high_tree_laws.proofs.Leads.{Leads, stand, ◌then◌, go, stays, atleast}
use Rattle.high_tree_laws.proofs.Opened.{opened, valued, refold, folded}
use Rattle.high_tree_laws.proofs.ReadEx.{worded}
use Rattle.high_tree_laws.proofs.ReadDecs.{so_far, entire, kept_declares, attributes_read, form_read, behind_initial, initial_high, initial_read}

abbrev pub behind_decs : Place → Spoken → Decs → Mode
behind_decs p s no_declarators = Specifiers s (aroundPlace p)
behind_decs p s (declarators_and ds c (named n at) f ats i) = behind_initial (entire p s ds c n at f ats) i

-- the names before the last declared name
abbrev pub names_in : Known → Decs → List (List ℕ) → List (List ℕ)
names_in k no_declarators ns = ns
names_in k (declarators_and ds c n f ats i) ns = sh.declared k ds ns

turn_when : (c : Bool) (u : Turn) → c ≡ true → ex.when c u ≡ Some u
turn_when c u h = rw h refl

not_true : (c : Bool) → not c ≡ true → c ≡ false
not_true true h = cc
not_true false h = refl

not_typedef : (k : Known) → decl.is_object k ≡ true → is_typedef k.storage ≡ false
not_typedef k h = not_true (is_typedef k.storage) (and_right (not (is_void k.typing)) (not (is_typedef k.storage)) h)

value_object : (s : Site) (k : Known) (f : Form) (x : ℕ) (e : Ex) → sh.may_declare s k f (iValue x e) ≡ true → decl.is_object k ≡ true
value_object s k fPlain x e h = h
value_object s k (fArray a None c) x e h = cc
value_object s k (fArray a (Some v) c) x e h = cc
value_object s k (fFunction ps) x e h = cc

list_object : (s : Site) (k : Known) (f : Form) (x a : ℕ) (es : Parts) (c : Option ℕ) (y : ℕ) → sh.may_declare s k f (iList x a es c y) ≡ true → decl.is_object k ≡ true
list_object s k fPlain x a es c y h = cc
list_object s k (fArray v None w) x a es c y h = h
list_object s k (fArray v (Some u) w) x a es c y h = h
list_object s k (fFunction ps) x a es c y h = cc

names_same : (k : Known) (ds : Decs) (c : Option ℕ) (n : Name) (f : Form) (ats : Ats) (i : Initial) (ns : List (List ℕ)) → decl.is_object k ≡ true → sh.declared k ds ns ≡ sh.declared k (declarators_and ds c n f ats i) ns
names_same k ds c n f ats i ns h = sym (if_false (is_typedef k.storage) _ (sh.declared k ds ns) (not_typedef k h))

value_fold : (ns : List (List ℕ)) (d : Declared) (x : ℕ) (e : Ex) (m : ℕ) → sh.Shaped ns e → 1 ≤ level_of e → m ≤ 1 → refold m (opened e (inBase (baseInitial d x))) ≡ ex.held (whole e) (inBase (baseInitial d x))
value_fold ns d x e m t v q = folded ns e (inBase (baseInitial d x)) m t (omega (arith, q, pull_one e v)) (omega (arith, q)) tt

-- behind a declared name
dec_comma : (i : Initial) (ms : List (List ℕ)) (p : Place) (s : Spoken) (ds : Decs) (c : Option ℕ) (n : List ℕ) (at : ℕ) (f : Form) (ats : Ats) (x : ℕ) → sh.ShapedInitial (sh.declared s.told ds ms) i → sh.may_declare (ht.site_of_place p) s.told f i ≡ true → (rest : List SymbolAt) → Leads (sign sy.Comma x ∷ rest) (stand (behind_initial (entire p s ds c n at f ats) i) (sh.declared s.told ds ms)) rest (stand (Next (so_far p s (declarators_and ds c (named n at) f ats i)) x) (sh.declared s.told (declarators_and ds c (named n at) f ats i) ms)) (low (Next (so_far p s (declarators_and ds c (named n at) f ats i)) x))
dec_comma iNothing ms p s ds c n at f ats x t m rest =
    let d = entire p s ds c n at f ats in
    go (sign sy.Comma x) rest (Behind d) (Next (so_far p s (declarators_and ds c (named n at) f ats iNothing)) x) (sh.declared s.told ds ms) (sh.declared s.told (declarators_and ds c (named n at) f ats iNothing) ms)
    (turn_when (decl.may_be_whole d) (turn (Next (so_far p s (declarators_and ds c (named n at) f ats iNothing)) x) (sh.declared s.told (declarators_and ds c (named n at) f ats iNothing) ms)) (kept_declares (ht.site_of_place p) s.told f ∙ m))
dec_comma (iValue v e) ms p s ds c n at f ats x t m rest =
    let d = entire p s ds c n at f ats in
    go (sign sy.Comma x) rest (valued (opened e (inBase (baseInitial d v)))) (Next (so_far p s (declarators_and ds c (named n at) f ats (iValue v e))) x) (sh.declared s.told ds ms) (sh.declared s.told (declarators_and ds c (named n at) f ats (iValue v e)) ms)
    (ap (λ z. kept (sh.declared s.told ds ms) (ex.step_held tok.sufComma x z)) (value_fold (sh.declared s.told ds ms) d v e 1 t.1 t.0 (omega arith))
    ∙ ap (kept (sh.declared s.told ds ms)) (when_true (leb 1 (level_of e)) (Next (so_far p s (declarators_and ds c (named n at) f ats (iValue v e))) x) (le-leb _ _ t.0))
    ∙ ap (stand (Next (so_far p s (declarators_and ds c (named n at) f ats (iValue v e))) x)) (names_same s.told ds c (named n at) f ats (iValue v e) ms (value_object (ht.site_of_place p) s.told f v e m)))
dec_comma (iList v a es u z) ms p s ds c n at f ats x t m rest =
    let d = entire p s ds c n at f ats in
    go (sign sy.Comma x) rest (behind_initial d (iList v a es u z)) (Next (so_far p s (declarators_and ds c (named n at) f ats (iList v a es u z))) x) (sh.declared s.told ds ms) (sh.declared s.told (declarators_and ds c (named n at) f ats (iList v a es u z)) ms)
    (ap (stand (Next (so_far p s (declarators_and ds c (named n at) f ats (iList v a es u z))) x)) (names_same s.told ds c (named n at) f ats (iList v a es u z) ms (list_object (ht.site_of_place p) s.told f v a es u z m)))

dec_end : (i : Initial) (ms : List (List ℕ)) (p : Place) (s : Spoken) (ds : Decs) (c : Option ℕ) (n : List ℕ) (at : ℕ) (f : Form) (ats : Ats) (x : ℕ) → sh.ShapedInitial (sh.declared s.told ds ms) i → sh.may_declare (ht.site_of_place p) s.told f i ≡ true → (rest : List SymbolAt) → Leads (sign sy.Semicolon x ∷ rest) (stand (behind_initial (entire p s ds c n at f ats) i) (sh.declared s.told ds ms)) rest (stand (ex.ended (so_far p s (declarators_and ds c (named n at) f ats i)) x) (sh.declared s.told (declarators_and ds c (named n at) f ats i) ms)) (low (ex.ended (so_far p s (declarators_and ds c (named n at) f ats i)) x))
dec_end iNothing ms p s ds c n at f ats x t m rest =
    let d = entire p s ds c n at f ats in
    go (sign sy.Semicolon x) rest (Behind d) (ex.ended (so_far p s (declarators_and ds c (named n at) f ats iNothing)) x) (sh.declared s.told ds ms) (sh.declared s.told (declarators_and ds c (named n at) f ats iNothing) ms)
    (turn_when (decl.may_be_whole d) (turn (ex.ended (so_far p s (declarators_and ds c (named n at) f ats iNothing)) x) (sh.declared s.told (declarators_and ds c (named n at) f ats iNothing) ms)) (kept_declares (ht.site_of_place p) s.told f ∙ m))
dec_end (iValue v e) ms p s ds c n at f ats x t m rest =
    let d = entire p s ds c n at f ats in
    go (sign sy.Semicolon x) rest (valued (opened e (inBase (baseInitial d v)))) (ex.ended (so_far p s (declarators_and ds c (named n at) f ats (iValue v e))) x) (sh.declared s.told ds ms) (sh.declared s.told (declarators_and ds c (named n at) f ats (iValue v e)) ms)
    (ap (λ z. kept (sh.declared s.told ds ms) (ex.step_held tok.sufSemicolon x z)) (value_fold (sh.declared s.told ds ms) d v e 0 t.1 t.0 (omega arith))
    ∙ ap (kept (sh.declared s.told ds ms)) (when_true (leb 1 (level_of e)) (ex.ended (so_far p s (declarators_and ds c (named n at) f ats (iValue v e))) x) (le-leb _ _ t.0))
    ∙ ap (stand (ex.ended (so_far p s (declarators_and ds c (named n at) f ats (iValue v e))) x)) (names_same s.told ds c (named n at) f ats (iValue v e) ms (value_object (ht.site_of_place p) s.told f v e m)))
dec_end (iList v a es u z) ms p s ds c n at f ats x t m rest =
    let d = entire p s ds c n at f ats in
    go (sign sy.Semicolon x) rest (behind_initial d (iList v a es u z)) (ex.ended (so_far p s (declarators_and ds c (named n at) f ats (iList v a es u z))) x) (sh.declared s.told ds ms) (sh.declared s.told (declarators_and ds c (named n at) f ats (iList v a es u z)) ms)
    (ap (stand (ex.ended (so_far p s (declarators_and ds c (named n at) f ats (iList v a es u z))) x)) (names_same s.told ds c (named n at) f ats (iList v a es u z) ms (list_object (ht.site_of_place p) s.told f v a es u z m)))

decs_comma : (ds : Decs) (ms : List (List ℕ)) (p : Place) (s : Spoken) (x : ℕ) → sh.ShapedDeclarators (ht.site_of_place p) s.told ms ds → sh.are_no_declarators ds ≡ false → (rest : List SymbolAt) → Leads (sign sy.Comma x ∷ rest) (stand (behind_decs p s ds) (names_in s.told ds ms)) rest (stand (Next (so_far p s ds) x) (sh.declared s.told ds ms)) (low (Next (so_far p s ds) x))
decs_comma no_declarators ms p s x t e rest = cc
decs_comma (declarators_and ds c (named n at) f ats v) ms p s x t e rest = dec_comma v ms p s ds c n at f ats x t.6 t.2 rest

-- Heights.

-- what is found of parts of this height that stand in a block or in a `for`
abbrev pub placed_height : Place → ℕ → ℕ
placed_height p h = if ht.is_placed_in_file p then 0 else suc (ht.place_depth p) + h

placed_le : (p : Place) (h : ℕ) → placed_height p h ≤ suc (ht.place_depth p) + h
placed_le placeFile h = omega arith
placed_le (placeBlock o) h = omega arith
placed_le (placeFor m a x o) h = omega arith

placed_max : (p : Place) (h g : ℕ) → placed_height p (max h g) ≤ max (placed_height p h) (placed_height p g)
placed_max placeFile h g = omega arith
placed_max (placeBlock o) h g = omega arith
placed_max (placeFor m a x o) h g = omega arith

above_max : (h g : ℕ) → above (max h g) ≤ max (above h) (above g)
above_max h g = above_either h g (leb h g) refl
  where
    above_either : (h g : ℕ) (c : Bool) → leb h g ≡ c → above (max h g) ≤ max (above h) (above g)
    above_either h g true e = omega (arith, above_mono (max h g) g (omega (arith, leb-true _ _ e)))
    above_either h g false e = omega (arith, above_mono (max h g) h (omega (arith, leb-false _ _ e)))

abbrev declarator_height : Form → Ats → Initial → ℕ
declarator_height f ats i = above (max (max (counted_form f) (hg.height_attributes ats)) (counted_initial i))

above_split : (f n a e : ℕ) → above (max (max f a) e) ≤ max (above (max (max f n) a)) (above (max (max f n) e))
above_split f n a e = omega (arith, above_max (max f a) e, above_mono (max f a) (max (max f n) a) (omega arith), above_mono e (max (max f n) e) (omega arith))

-- the height of a declared name that is found behind its attributes and behind its value
found_object : (p : Place) (s : Spoken) (ds : Decs) (c : Option ℕ) (n : List ℕ) (at : ℕ) (f : Form) (ats : Ats) (i : Initial) → ht.is_function f ≡ false → suc (ht.place_depth p) + declarator_height f ats i ≤ max (low (Behind (entire p s ds c n at f ats))) (initial_high (entire p s ds c n at f ats) i)
found_object p s ds c n at fPlain ats iNothing e = omega (arith, above_mono (max (max 0 (hg.height_attributes ats)) 0) (max 0 (hg.height_attributes ats)) (omega arith))
found_object p s ds c n at fPlain ats (iValue x y) e = omega (arith, above_split 0 0 (hg.height_attributes ats) (counted y))
found_object p s ds c n at fPlain ats (iList x a es u z) e = omega arith
found_object p s ds c n at (fArray x v y) ats iNothing e = omega (arith, above_mono (max (max (counted_form (fArray x v y)) (hg.height_attributes ats)) 0) (max (max (counted_form (fArray x v y)) (ht.form_needs (kept_form (fArray x v y)))) (hg.height_attributes ats)) (omega arith))
found_object p s ds c n at (fArray x v y) ats (iValue z w) e = omega (arith, above_split (counted_form (fArray x v y)) (ht.form_needs (kept_form (fArray x v y))) (hg.height_attributes ats) (counted w))
found_object p s ds c n at (fArray x v y) ats (iList z a es u w) e = omega arith
found_object p s ds c n at (fFunction ps) ats i e = cc

-- in a block no function is declared
found_height : (p : Place) (s : Spoken) (ds : Decs) (c : Option ℕ) (n : List ℕ) (at : ℕ) (f : Form) (ats : Ats) (i : Initial) → sh.may_declare (ht.site_of_place p) s.told f i ≡ true → placed_height p (declarator_height f ats i) ≤ max (low (Behind (entire p s ds c n at f ats))) (initial_high (entire p s ds c n at f ats) i)
found_height p s ds c n at fPlain ats i m = omega (arith, placed_le p (declarator_height fPlain ats i), found_object p s ds c n at fPlain ats i refl)
found_height p s ds c n at (fArray x v y) ats i m = omega (arith, placed_le p (declarator_height (fArray x v y) ats i), found_object p s ds c n at (fArray x v y) ats i refl)
found_height placeFile s ds c n at (fFunction ps) ats i m = omega arith
found_height (placeBlock o) s ds c n at (fFunction ps) ats iNothing m = cc
found_height (placeBlock o) s ds c n at (fFunction ps) ats (iValue x e) m = cc
found_height (placeBlock o) s ds c n at (fFunction ps) ats (iList x a es u z) m = cc
found_height (placeFor k a x o) s ds c n at (fFunction ps) ats iNothing m = cc
found_height (placeFor k a x o) s ds c n at (fFunction ps) ats (iValue y e) m = cc
found_height (placeFor k a x o) s ds c n at (fFunction ps) ats (iList y b es u z) m = cc

-- What stands behind a name.

rest_read : {ts : List SymbolAt} {o : Option Turn} (ms : List (List ℕ)) (p : Place) (s : Spoken) (ds : Decs) (c : Option ℕ) (n : List ℕ) (at : ℕ) (f : Form) (ats : Ats) (v : Initial) (t : sh.ShapedDeclarators (ht.site_of_place p) s.told ms (declarators_and ds c (named n at) f ats v)) (rest : List SymbolAt) → Leads ts o (spell_form f (spell_attributes ats (spell_initial v rest))) (stand (Behind (mk.declared_plain (so_far p s ds) c n at)) (sh.declared s.told ds ms)) (low (Behind (mk.declared_plain (so_far p s ds) c n at))) → Leads ts o rest (stand (behind_initial (entire p s ds c n at f ats) v) (sh.declared s.told ds ms)) (placed_height p (declarator_height f ats v))
rest_read ms p s ds c n at f ats v t rest y =
    let ns = sh.declared s.told ds ms in
    atleast (placed_height p (declarator_height f ats v)) (found_height p s ds c n at f ats v t.2)
    (attributes_read ats ns p s ds c n at f t.5 (may_attribute (ht.site_of_place p) s.told f v t.2) (spell_initial v rest)
    (form_read f ns p s ds c n at v t.4 t.2 (spell_attributes ats (spell_initial v rest)) y)
    then initial_read v ns p s ds c n at f ats t.6 t.2 rest)

name_read : (ns : List (List ℕ)) (p : Place) (s : Spoken) (n : List ℕ) (at : ℕ) → sh.has ns n ≡ false → is_typed s.told.typing ≡ true → (rest : List SymbolAt) → Leads (b.name_sign n at ∷ rest) (stand (Specifiers s (aroundPlace p)) ns) rest (stand (Behind (mk.declared_plain (so_far p s no_declarators) None n at)) ns) (low (Behind (mk.declared_plain (so_far p s no_declarators) None n at)))
name_read ns p s n at h y rest =
    go (b.name_sign n at) rest (Specifiers s (aroundPlace p)) (Behind (mk.declared_plain (so_far p s no_declarators) None n at)) ns ns
    (ap (λ q. kept ns (sp.step_kind (if q then spTypedef n else spOther) (sy.Name n) at s (aroundPlace p))) h
    ∙ ap (kept ns) (if_true (is_typed s.told.typing) (sp.behind_words (sy.Name n) at s (aroundPlace p)) None y))

pub first_name : (ns : List (List ℕ)) (p : Place) (s : Spoken) (n : List ℕ) (at : ℕ) → sh.has ns n ≡ false → is_typed s.told.typing ≡ true → (rest : List SymbolAt) → Leads (b.name_sign n at ∷ rest) (stand (Specifiers s (aroundPlace p)) ns) rest (stand (Behind (mk.declared_plain (so_far p s no_declarators) None n at)) ns) 0
first_name ns p s n at h y rest = atleast 0 (omega arith) (name_read ns p s n at h y rest)

-- what is found of declared names before a `;`
abbrev declarators_found : Place → Decs → ℕ
declarators_found p no_declarators = 0
declarators_found p (declarators_and ds c n f ats i) = placed_height p (counted_declarators (declarators_and ds c n f ats i))

-- one declared name more
more_found : (p : Place) (ds : Decs) (h : ℕ) → placed_height p (max (counted_declarators ds) h) ≤ max (declarators_found p ds) (placed_height p h)
more_found placeFile no_declarators h = omega arith
more_found (placeBlock o) no_declarators h = omega arith
more_found (placeFor m a x o) no_declarators h = omega arith
more_found p (declarators_and ds c n f ats i) h = placed_max p (counted_declarators (declarators_and ds c n f ats i)) h

decs_read : (ds : Decs) (ms : List (List ℕ)) (p : Place) (s : Spoken) → sh.ShapedDeclarators (ht.site_of_place p) s.told ms ds → is_typed s.told.typing ≡ true → (rest : List SymbolAt) → Leads (spell_declarators ds rest) (stand (Specifiers s (aroundPlace p)) ms) rest (stand (behind_decs p s ds) (names_in s.told ds ms)) (declarators_found p ds)
decs_read no_declarators ms p s t y rest = stays rest _ _ refl
decs_read (declarators_and no_declarators None (named n at) f ats v) ms p s t y rest =
    atleast (placed_height p (max 0 (declarator_height f ats v))) (omega (arith, more_found p no_declarators (declarator_height f ats v)))
    (rest_read ms p s no_declarators None n at f ats v t rest (name_read ms p s n at t.3 y (spell_form f (spell_attributes ats (spell_initial v rest)))))
decs_read (declarators_and no_declarators (Some x) (named n at) f ats v) ms p s t y rest = absurd t.1
decs_read (declarators_and (declarators_and ds c0 n0 f0 a0 v0) None (named n at) f ats v) ms p s t y rest = absurd t.1
decs_read (declarators_and ds (Some x) (named n at) f ats v) ms p s t y rest =
    let ns = sh.declared s.told ds ms in
    let d = mk.declared_plain (so_far p s ds) (Some x) n at in
    let r = spell_form f (spell_attributes ats (spell_initial v rest)) in
    atleast (placed_height p (max (counted_declarators ds) (declarator_height f ats v))) (more_found p ds (declarator_height f ats v))
    (decs_read ds ms p s t.0 y (sign sy.Comma x ∷ b.name_sign n at ∷ r)
    then rest_read ms p s ds (Some x) n at f ats v t rest
    (atleast (low (Behind d)) (omega arith)
    (decs_comma ds ms p s x t.0 (some_not (sh.are_no_declarators ds) x t.1) (b.name_sign n at ∷ r)
    then go (b.name_sign n at) r (Next (so_far p s ds) x) (Behind d) ns ns (ap (λ q. kept ns (ex.when (not q) (Behind d))) t.3))))

end_read : (ds : Decs) (ms : List (List ℕ)) (p : Place) (s : Spoken) (x : ℕ) → sh.ShapedDeclarators (ht.site_of_place p) s.told ms ds → sh.may_end s.told ds ≡ true → is_typed s.told.typing ≡ true → (rest : List SymbolAt) → Leads (sign sy.Semicolon x ∷ rest) (stand (behind_decs p s ds) (names_in s.told ds ms)) rest (stand (ex.ended (so_far p s ds) x) (sh.declared s.told ds ms)) (low (ex.ended (so_far p s ds) x))
end_read no_declarators ms p s x t m y rest =
    go (sign sy.Semicolon x) rest (Specifiers s (aroundPlace p)) (ex.ended (so_far p s no_declarators) x) ms ms
    (ap (kept ms) (if_true (is_typed s.told.typing) (sp.behind_words sy.Semicolon x s (aroundPlace p)) None y)
    ∙ ap (kept ms) (when_true (not (is_void s.told.typing)) (ex.ended (so_far p s no_declarators) x) m))
end_read (declarators_and ds c (named n at) f ats v) ms p s x t m y rest = dec_end v ms p s ds c n at f ats x t.6 t.2 rest

-- with no declared name the end alone shows the height
end_found : (p : Place) (s : Spoken) (ds : Decs) (x : ℕ) → placed_height p (counted_declarators ds) ≤ max (declarators_found p ds) (low (ex.ended (so_far p s ds) x))
end_found p s (declarators_and ds c n f ats i) x = omega arith
end_found placeFile s no_declarators x = omega arith
end_found (placeBlock o) s no_declarators x = omega arith
end_found (placeFor m a y o) s no_declarators x = omega arith

-- behind the words of a declaration
pub declared_read : (ws : Words) (ds : Decs) (x : ℕ) (ms : List (List ℕ)) (p : Place) (f : sh.ShapedDeclares (ht.site_of_place p) ms ws ds) → (rest : List SymbolAt) → Leads (spell_declarators ds (sign sy.Semicolon x ∷ rest)) (stand (Specifiers (worded ws f.specs.told) (aroundPlace p)) ms) rest (stand (ex.ended (so_far p (worded ws f.specs.told) ds) x) (sh.declared f.specs.told ds ms)) (max (placed_height p (counted_declarators ds)) (low (ex.ended (so_far p (worded ws f.specs.told) ds) x)))
declared_read ws ds x ms p f rest =
    let s = worded ws f.specs.told in
    atleast (max (placed_height p (counted_declarators ds)) (low (ex.ended (so_far p s ds) x))) (omega (arith, end_found p s ds x))
    (decs_read ds ms p s f.declarators f.specs.typed (sign sy.Semicolon x ∷ rest)
    then end_read ds ms p s x f.declarators f.ends f.specs.typed rest)
