-- The machine that keeps each tree goes through the declared names of each shaped declaration.
use Rattle.first_token_laws.proofs.Full as full
use Rattle.std.proofs.Common.{◌≡◌, ℕ, ◌≤◌, List, ◌∷◌, Option, None, Some, Bool, true, false, not, if◌then◌else◌, leb, refl, sym, ap, ◌∙◌, arith, le-leb}
use Rattle.c_tree.specs.declared.symbol.Symbol.TheVariants as sy
use Rattle.c_tree.specs.declared.symbol.SymbolAt.{SymbolAt}
use Rattle.c_tree.specs.declared.known.Site.{Site}
use Rattle.c_tree.specs.declared.known.Known.{Known}
use Rattle.c_tree.specs.Symbols.{sign}
use Rattle.c_tree.specs.Spelling.{level_of, spell_attributes, spell_form, spell_initial, spell_declarators}
use Rattle.c_tree.specs.Shape as sh
use Rattle.c_tree.specs.Words.{is_typed, is_typedef, is_void}
use Rattle.c_tree.specs.Tree.{Ats, Ex, Parts, Words, Name, named, Form, fPlain, fArray, fFunction, Initial, iNothing, iValue, iList, Decs, no_declarators, declarators_and}
use Rattle.parse_machine.specs.Tokens.{spTypedef, spOther}
use Rattle.parse_machine.specs.Contexts.{Spoken, Place, Declared, baseInitial, inBase, aroundPlace, Mode, Specifiers, Next, Behind}
use Rattle.parse_machine.specs.Making as mk
use Rattle.parse_machine.specs.Making.{above}
use Rattle.parse_machine.specs.Heights as ht
use Rattle.parse_machine.specs.Heights.{low}
use Rattle.parse_machine.specs.Expressions as ex
use Rattle.parse_machine.specs.Declarations as decl
use Rattle.parse_machine.specs.Declarations.{Turn, turn, kept}
use Rattle.parse_machine.specs.Tokens as tok
use Rattle.parse_laws.proofs.Before as b
use Rattle.parse_laws.proofs.Walk.{if_true, if_false, when_true, pull_one}
use Rattle.parse_laws.proofs.WholeEx.{some_not}
use Rattle.parse_laws.proofs.ReadDecs.{may_attribute, and_right}
use Rattle.first_token_laws.proofs.FullLeads.{whole}
use Rattle.first_token_laws.proofs.FullLeads.{Leads, stand, ◌then◌, go, stays}
use Rattle.first_token_laws.proofs.FullOpened.{opened, valued, refold, folded}
use Rattle.first_token_laws.proofs.FullReadEx.{worded}
use Rattle.first_token_laws.proofs.FullReadDecs.{so_far, entire, attributes_read, form_read, behind_initial, initial_read}

abbrev pub behind_decs : Place → Spoken → Decs → Mode
behind_decs p s no_declarators = Specifiers s (aroundPlace p)
behind_decs p s (declarators_and ds c (named n at) f ats i) = behind_initial (entire p s ds c n at f ats) i

-- the names before the last declared name
abbrev pub names_in : Known → Decs → List (List ℕ) → List (List ℕ)
names_in k no_declarators ns = ns
names_in k (declarators_and ds c n f ats i) ns = sh.declared k ds ns

turn_when : (c : Bool) (u : Turn) → c ≡ true → ex.when c u ≡ Some u
turn_when c u h = rw h refl

not_true : (c : Bool) → not c ≡ true → c ≡ false
not_true true h = cc
not_true false h = refl

not_typedef : (k : Known) → decl.is_object k ≡ true → is_typedef k.storage ≡ false
not_typedef k h = not_true (is_typedef k.storage) (and_right (not (is_void k.typing)) (not (is_typedef k.storage)) h)

value_object : (s : Site) (k : Known) (f : Form) (x : ℕ) (e : Ex) → sh.may_declare s k f (iValue x e) ≡ true → decl.is_object k ≡ true
value_object s k fPlain x e h = h
value_object s k (fArray a None c) x e h = cc
value_object s k (fArray a (Some v) c) x e h = cc
value_object s k (fFunction ps) x e h = cc

list_object : (s : Site) (k : Known) (f : Form) (x a : ℕ) (es : Parts) (c : Option ℕ) (y : ℕ) → sh.may_declare s k f (iList x a es c y) ≡ true → decl.is_object k ≡ true
list_object s k fPlain x a es c y h = cc
list_object s k (fArray v None w) x a es c y h = h
list_object s k (fArray v (Some u) w) x a es c y h = h
list_object s k (fFunction ps) x a es c y h = cc

names_same : (k : Known) (ds : Decs) (c : Option ℕ) (n : Name) (f : Form) (ats : Ats) (i : Initial) (ns : List (List ℕ)) → decl.is_object k ≡ true → sh.declared k ds ns ≡ sh.declared k (declarators_and ds c n f ats i) ns
names_same k ds c n f ats i ns h = sym (if_false (is_typedef k.storage) _ (sh.declared k ds ns) (not_typedef k h))

value_fold : (ns : List (List ℕ)) (d : Declared) (x : ℕ) (e : Ex) (m : ℕ) → sh.Shaped ns e → 1 ≤ level_of e → m ≤ 1 → refold m (opened e (inBase (baseInitial d x))) ≡ ex.held (whole e) (inBase (baseInitial d x))
value_fold ns d x e m t v q = folded ns e (inBase (baseInitial d x)) m t (omega (arith, q, pull_one e v)) (omega (arith, q)) tt

-- behind a declared name
dec_comma : (i : Initial) (ms : List (List ℕ)) (p : Place) (s : Spoken) (ds : Decs) (c : Option ℕ) (n : List ℕ) (at : ℕ) (f : Form) (ats : Ats) (x : ℕ) → sh.ShapedInitial (sh.declared s.told ds ms) i → sh.may_declare (ht.site_of_place p) s.told f i ≡ true → (rest : List SymbolAt) → Leads (sign sy.Comma x ∷ rest) (stand (behind_initial (entire p s ds c n at f ats) i) (sh.declared s.told ds ms)) rest (stand (Next (so_far p s (declarators_and ds c (named n at) f ats i)) x) (sh.declared s.told (declarators_and ds c (named n at) f ats i) ms))
dec_comma iNothing ms p s ds c n at f ats x t m rest =
    let d = entire p s ds c n at f ats in
    go (sign sy.Comma x) rest (Behind d) (Next (so_far p s (declarators_and ds c (named n at) f ats iNothing)) x) (sh.declared s.told ds ms) (sh.declared s.told (declarators_and ds c (named n at) f ats iNothing) ms)
    (turn_when (decl.may_be_whole d) (turn (Next (so_far p s (declarators_and ds c (named n at) f ats iNothing)) x) (sh.declared s.told (declarators_and ds c (named n at) f ats iNothing) ms)) m)
dec_comma (iValue v e) ms p s ds c n at f ats x t m rest =
    let d = entire p s ds c n at f ats in
    go (sign sy.Comma x) rest (valued (opened e (inBase (baseInitial d v)))) (Next (so_far p s (declarators_and ds c (named n at) f ats (iValue v e))) x) (sh.declared s.told ds ms) (sh.declared s.told (declarators_and ds c (named n at) f ats (iValue v e)) ms)
    (ap (λ z. kept (sh.declared s.told ds ms) (full.step_held tok.sufComma x z)) (value_fold (sh.declared s.told ds ms) d v e 1 t.1 t.0 (omega arith))
    ∙ ap (kept (sh.declared s.told ds ms)) (when_true (leb 1 (level_of e)) (Next (so_far p s (declarators_and ds c (named n at) f ats (iValue v e))) x) (le-leb _ _ t.0))
    ∙ ap (stand (Next (so_far p s (declarators_and ds c (named n at) f ats (iValue v e))) x)) (names_same s.told ds c (named n at) f ats (iValue v e) ms (value_object (ht.site_of_place p) s.told f v e m)))
dec_comma (iList v a es u z) ms p s ds c n at f ats x t m rest =
    let d = entire p s ds c n at f ats in
    go (sign sy.Comma x) rest (behind_initial d (iList v a es u z)) (Next (so_far p s (declarators_and ds c (named n at) f ats (iList v a es u z))) x) (sh.declared s.told ds ms) (sh.declared s.told (declarators_and ds c (named n at) f ats (iList v a es u z)) ms)
    (ap (stand (Next (so_far p s (declarators_and ds c (named n at) f ats (iList v a es u z))) x)) (names_same s.told ds c (named n at) f ats (iList v a es u z) ms (list_object (ht.site_of_place p) s.told f v a es u z m)))

dec_end : (i : Initial) (ms : List (List ℕ)) (p : Place) (s : Spoken) (ds : Decs) (c : Option ℕ) (n : List ℕ) (at : ℕ) (f : Form) (ats : Ats) (x : ℕ) → sh.ShapedInitial (sh.declared s.told ds ms) i → sh.may_declare (ht.site_of_place p) s.told f i ≡ true → (rest : List SymbolAt) → Leads (sign sy.Semicolon x ∷ rest) (stand (behind_initial (entire p s ds c n at f ats) i) (sh.declared s.told ds ms)) rest (stand (ex.ended (so_far p s (declarators_and ds c (named n at) f ats i)) x) (sh.declared s.told (declarators_and ds c (named n at) f ats i) ms))
dec_end iNothing ms p s ds c n at f ats x t m rest =
    let d = entire p s ds c n at f ats in
    go (sign sy.Semicolon x) rest (Behind d) (ex.ended (so_far p s (declarators_and ds c (named n at) f ats iNothing)) x) (sh.declared s.told ds ms) (sh.declared s.told (declarators_and ds c (named n at) f ats iNothing) ms)
    (turn_when (decl.may_be_whole d) (turn (ex.ended (so_far p s (declarators_and ds c (named n at) f ats iNothing)) x) (sh.declared s.told (declarators_and ds c (named n at) f ats iNothing) ms)) m)
dec_end (iValue v e) ms p s ds c n at f ats x t m rest =
    let d = entire p s ds c n at f ats in
    go (sign sy.Semicolon x) rest (valued (opened e (inBase (baseInitial d v)))) (ex.ended (so_far p s (declarators_and ds c (named n at) f ats (iValue v e))) x) (sh.declared s.told ds ms) (sh.declared s.told (declarators_and ds c (named n at) f ats (iValue v e)) ms)
    (ap (λ z. kept (sh.declared s.told ds ms) (full.step_held tok.sufSemicolon x z)) (value_fold (sh.declared s.told ds ms) d v e 0 t.1 t.0 (omega arith))
    ∙ ap (kept (sh.declared s.told ds ms)) (when_true (leb 1 (level_of e)) (ex.ended (so_far p s (declarators_and ds c (named n at) f ats (iValue v e))) x) (le-leb _ _ t.0))
    ∙ ap (stand (ex.ended (so_far p s (declarators_and ds c (named n at) f ats (iValue v e))) x)) (names_same s.told ds c (named n at) f ats (iValue v e) ms (value_object (ht.site_of_place p) s.told f v e m)))
dec_end (iList v a es u z) ms p s ds c n at f ats x t m rest =
    let d = entire p s ds c n at f ats in
    go (sign sy.Semicolon x) rest (behind_initial d (iList v a es u z)) (ex.ended (so_far p s (declarators_and ds c (named n at) f ats (iList v a es u z))) x) (sh.declared s.told ds ms) (sh.declared s.told (declarators_and ds c (named n at) f ats (iList v a es u z)) ms)
    (ap (stand (ex.ended (so_far p s (declarators_and ds c (named n at) f ats (iList v a es u z))) x)) (names_same s.told ds c (named n at) f ats (iList v a es u z) ms (list_object (ht.site_of_place p) s.told f v a es u z m)))

decs_comma : (ds : Decs) (ms : List (List ℕ)) (p : Place) (s : Spoken) (x : ℕ) → sh.ShapedDeclarators (ht.site_of_place p) s.told ms ds → sh.are_no_declarators ds ≡ false → (rest : List SymbolAt) → Leads (sign sy.Comma x ∷ rest) (stand (behind_decs p s ds) (names_in s.told ds ms)) rest (stand (Next (so_far p s ds) x) (sh.declared s.told ds ms))
decs_comma no_declarators ms p s x t e rest = cc
decs_comma (declarators_and ds c (named n at) f ats v) ms p s x t e rest = dec_comma v ms p s ds c n at f ats x t.6 t.2 rest

-- Heights.

-- What stands behind a name.

rest_read : {ts : List SymbolAt} {o : Option Turn} (ms : List (List ℕ)) (p : Place) (s : Spoken) (ds : Decs) (c : Option ℕ) (n : List ℕ) (at : ℕ) (f : Form) (ats : Ats) (v : Initial) (t : sh.ShapedDeclarators (ht.site_of_place p) s.told ms (declarators_and ds c (named n at) f ats v)) (rest : List SymbolAt) → Leads ts o (spell_form f (spell_attributes ats (spell_initial v rest))) (stand (Behind (mk.declared_plain (so_far p s ds) c n at)) (sh.declared s.told ds ms)) → Leads ts o rest (stand (behind_initial (entire p s ds c n at f ats) v) (sh.declared s.told ds ms))
rest_read ms p s ds c n at f ats v t rest y =
    let ns = sh.declared s.told ds ms in
    (attributes_read ats ns p s ds c n at f t.5 (may_attribute (ht.site_of_place p) s.told f v t.2) (spell_initial v rest)
    (form_read f ns p s ds c n at v t.4 t.2 (spell_attributes ats (spell_initial v rest)) y)
    then initial_read v ns p s ds c n at f ats t.6 t.2 rest)

name_read : (ns : List (List ℕ)) (p : Place) (s : Spoken) (n : List ℕ) (at : ℕ) → sh.has ns n ≡ false → is_typed s.told.typing ≡ true → (rest : List SymbolAt) → Leads (b.name_sign n at ∷ rest) (stand (Specifiers s (aroundPlace p)) ns) rest (stand (Behind (mk.declared_plain (so_far p s no_declarators) None n at)) ns)
name_read ns p s n at h y rest =
    go (b.name_sign n at) rest (Specifiers s (aroundPlace p)) (Behind (mk.declared_plain (so_far p s no_declarators) None n at)) ns ns
    (ap (λ q. kept ns (full.step_kind (if q then spTypedef n else spOther) (sy.Name n) at s (aroundPlace p))) h
    ∙ ap (kept ns) (if_true (is_typed s.told.typing) (full.behind_words (sy.Name n) at s (aroundPlace p)) None y))

pub first_name : (ns : List (List ℕ)) (p : Place) (s : Spoken) (n : List ℕ) (at : ℕ) → sh.has ns n ≡ false → is_typed s.told.typing ≡ true → (rest : List SymbolAt) → Leads (b.name_sign n at ∷ rest) (stand (Specifiers s (aroundPlace p)) ns) rest (stand (Behind (mk.declared_plain (so_far p s no_declarators) None n at)) ns)
first_name ns p s n at h y rest = (name_read ns p s n at h y rest)

decs_read : (ds : Decs) (ms : List (List ℕ)) (p : Place) (s : Spoken) → sh.ShapedDeclarators (ht.site_of_place p) s.told ms ds → is_typed s.told.typing ≡ true → (rest : List SymbolAt) → Leads (spell_declarators ds rest) (stand (Specifiers s (aroundPlace p)) ms) rest (stand (behind_decs p s ds) (names_in s.told ds ms))
decs_read no_declarators ms p s t y rest = stays rest _ _ refl
decs_read (declarators_and no_declarators None (named n at) f ats v) ms p s t y rest =
    (rest_read ms p s no_declarators None n at f ats v t rest (name_read ms p s n at t.3 y (spell_form f (spell_attributes ats (spell_initial v rest)))))
decs_read (declarators_and no_declarators (Some x) (named n at) f ats v) ms p s t y rest = absurd t.1
decs_read (declarators_and (declarators_and ds c0 n0 f0 a0 v0) None (named n at) f ats v) ms p s t y rest = absurd t.1
decs_read (declarators_and ds (Some x) (named n at) f ats v) ms p s t y rest =
    let ns = sh.declared s.told ds ms in
    let d = mk.declared_plain (so_far p s ds) (Some x) n at in
    let r = spell_form f (spell_attributes ats (spell_initial v rest)) in
    (decs_read ds ms p s t.0 y (sign sy.Comma x ∷ b.name_sign n at ∷ r)
    then rest_read ms p s ds (Some x) n at f ats v t rest
    ((decs_comma ds ms p s x t.0 (some_not (sh.are_no_declarators ds) x t.1) (b.name_sign n at ∷ r)
    then go (b.name_sign n at) r (Next (so_far p s ds) x) (Behind d) ns ns (ap (λ q. kept ns (ex.when (not q) (Behind d))) t.3))))

end_read : (ds : Decs) (ms : List (List ℕ)) (p : Place) (s : Spoken) (x : ℕ) → sh.ShapedDeclarators (ht.site_of_place p) s.told ms ds → sh.may_end s.told ds ≡ true → is_typed s.told.typing ≡ true → (rest : List SymbolAt) → Leads (sign sy.Semicolon x ∷ rest) (stand (behind_decs p s ds) (names_in s.told ds ms)) rest (stand (ex.ended (so_far p s ds) x) (sh.declared s.told ds ms))
end_read no_declarators ms p s x t m y rest =
    go (sign sy.Semicolon x) rest (Specifiers s (aroundPlace p)) (ex.ended (so_far p s no_declarators) x) ms ms
    (ap (kept ms) (if_true (is_typed s.told.typing) (full.behind_words sy.Semicolon x s (aroundPlace p)) None y)
    ∙ ap (kept ms) (when_true (not (is_void s.told.typing)) (ex.ended (so_far p s no_declarators) x) m))
end_read (declarators_and ds c (named n at) f ats v) ms p s x t m y rest = dec_end v ms p s ds c n at f ats x t.6 t.2 rest

-- behind the words of a declaration
pub declared_read : (ws : Words) (ds : Decs) (x : ℕ) (ms : List (List ℕ)) (p : Place) (f : sh.ShapedDeclares (ht.site_of_place p) ms ws ds) → (rest : List SymbolAt) → Leads (spell_declarators ds (sign sy.Semicolon x ∷ rest)) (stand (Specifiers (worded ws f.specs.told) (aroundPlace p)) ms) rest (stand (ex.ended (so_far p (worded ws f.specs.told) ds) x) (sh.declared f.specs.told ds ms))
declared_read ws ds x ms p f rest =
    let s = worded ws f.specs.told in
    (decs_read ds ms p s f.declarators f.specs.typed (sign sy.Semicolon x ∷ rest)
    then end_read ds ms p s x f.declarators f.ends f.specs.typed rest)
