-- The machine that keeps each tree goes through what stands behind each declared name.
use Rattle.first_token_laws.proofs.Full as full
use Rattle.std.proofs.Common.{◌≡◌, ℕ, ◌≤◌, List, ◌∷◌, Option, None, Some, true, ◌&&◌, ◌||◌, not, leb, refl, ap, ◌∙◌, arith, le-leb}
use Rattle.c_tree.specs.declared.symbol.AssignOp.TheVariants as to
use Rattle.c_tree.specs.declared.symbol.Bracket.TheVariants as br
use Rattle.c_tree.specs.declared.symbol.Symbol.TheVariants as sy
use Rattle.c_tree.specs.declared.symbol.SymbolAt.{SymbolAt}
use Rattle.c_tree.specs.declared.known.Known.{Known}
use Rattle.c_tree.specs.Symbols.{sign}
use Rattle.c_tree.specs.Spelling.{level_of, opening, closing, comma, spell, spell_parts, spell_attribute, spell_attributes, spell_form, spell_initial}
use Rattle.c_tree.specs.Shape as sh
use Rattle.c_tree.specs.Words.{is_typedef, is_void}
use Rattle.c_tree.specs.Tree.{Ats, no_attributes, attributes_and, Ex, Parts, no_parts, parts_and, Parameters, Form, fPlain, fArray, fFunction, Initial, iNothing, iValue, iList, Decs}
use Rattle.parse_machine.specs.Contexts.{Spoken, Place, placeFile, placeBlock, placeFor, Declaring, Declared, baseLength, baseInitial, basePart, Inner, inBase, onDeclared, waitList, waitAttribute, Mode, Behind, Listed, Wait, Operand, Maybe}
use Rattle.parse_machine.specs.Making as mk
use Rattle.parse_machine.specs.Heights as ht
use Rattle.parse_machine.specs.Heights.{high, low}
use Rattle.parse_machine.specs.Expressions as ex
use Rattle.parse_machine.specs.Declarations as decl
use Rattle.parse_machine.specs.Declarations.{Turn, kept}
use Rattle.parse_machine.specs.Tokens as tok
use Rattle.parse_laws.proofs.Walk.{if_true, when_true, pull_one}
use Rattle.parse_laws.proofs.ReadDecs.{array_object}
use Rattle.high_tree_laws.proofs.Kept.{counted_initial}
use Rattle.first_token_laws.proofs.FullLeads.{whole_form, whole_parts, whole_declarators}
use Rattle.first_token_laws.proofs.FullLeads.{Leads, stand, ◌then◌, go, stays}
use Rattle.first_token_laws.proofs.FullOpened.{opened, valued, folded}
use Rattle.first_token_laws.proofs.FullFirst.{first_maybe}
use Rattle.first_token_laws.proofs.FullReadEx.{attribute_reads}
use Rattle.first_token_laws.proofs.FullWholeEx.{reads}
use Rattle.first_token_laws.proofs.FullReadDecl.{parameters_read}

-- the declared names so far
abbrev pub so_far : Place → Spoken → Decs → Declaring
so_far p s ds = mk.declaring p s (whole_declarators ds)

abbrev pub entire : Place → Spoken → Decs → Option ℕ → List ℕ → ℕ → Form → Ats → Declared
entire p s ds c n at f ats = mk.declared (so_far p s ds) c n at (whole_form f) ats

-- Attributes.

-- behind a name that was found at its height
pub attributes_read : {ts : List SymbolAt} {o : Option Turn} (ats : Ats) (ns : List (List ℕ)) (p : Place) (s : Spoken) (ds : Decs) (c : Option ℕ) (n : List ℕ) (at : ℕ) (f : Form) → sh.ShapedAttributes ats → (ht.is_function f || not (is_void s.told.typing)) ≡ true → (rest : List SymbolAt) → Leads ts o (spell_attributes ats rest) (stand (Behind (entire p s ds c n at f no_attributes)) ns) → Leads ts o rest (stand (Behind (entire p s ds c n at f ats)) ns)
attributes_read no_attributes ns p s ds c n at f t m rest y = y
attributes_read (attributes_and ats x) ns p s ds c n at f t m rest y =
    let d = entire p s ds c n at f ats in
    (attributes_read ats ns p s ds c n at f t.0 m (spell_attribute x rest) y
    then attribute_reads ns x (onDeclared d) rest (Behind d) t.1 (λ w z. ap (kept ns) (when_true (decl.may_have_attribute d) (Wait (waitAttribute w z (onDeclared d))) m)))

-- What stands behind a name.

function_place : (p : Place) (k : Known) (ps : Parameters) (i : Initial) → sh.may_declare (ht.site_of_place p) k (fFunction ps) i ≡ true → (ht.is_placed_in_file p && not (is_typedef k.storage)) ≡ true
function_place placeFile k ps iNothing h = h
function_place (placeBlock o) k ps iNothing h = cc
function_place (placeFor m a x o) k ps iNothing h = cc
function_place p k ps (iValue at e) h = cc
function_place p k ps (iList at a es c x) h = cc

-- behind a name that was found at its height
pub form_read : {ts : List SymbolAt} {o : Option Turn} (f : Form) (ns : List (List ℕ)) (p : Place) (s : Spoken) (ds : Decs) (c : Option ℕ) (n : List ℕ) (at : ℕ) (i : Initial) → sh.ShapedForm ns f → sh.may_declare (ht.site_of_place p) s.told f i ≡ true → (rest : List SymbolAt) → Leads ts o (spell_form f rest) (stand (Behind (mk.declared_plain (so_far p s ds) c n at)) ns) → Leads ts o rest (stand (Behind (entire p s ds c n at f no_attributes)) ns)
form_read fPlain ns p s ds c n at i t m rest y = y
form_read (fArray x None z) ns p s ds c n at i t m rest y =
    let d = mk.declared_plain (so_far p s ds) c n at in
    let k = inBase (baseLength d x) in
    (y
    then go (opening br.Square x) (closing br.Square z ∷ rest) (Behind d) (Maybe k) ns ns (ap (kept ns) (when_true (decl.may_be_array d) (Maybe k) (array_object (ht.site_of_place p) s.told x None z i m)))
    then go (closing br.Square z) rest (Maybe k) (Behind (entire p s ds c n at (fArray x None z) no_attributes)) ns ns refl)
form_read (fArray x (Some e) z) ns p s ds c n at i t m rest y =
    let d = mk.declared_plain (so_far p s ds) c n at in
    let k = inBase (baseLength d x) in
    (y
    then go (opening br.Square x) (spell e (closing br.Square z ∷ rest)) (Behind d) (Maybe k) ns ns (ap (kept ns) (when_true (decl.may_be_array d) (Maybe k) (array_object (ht.site_of_place p) s.told x (Some e) z i m)))
    then first_maybe ns k e t.1 (closing br.Square z ∷ rest)
    then reads e k ns t.1 t.0 (closing br.Square z ∷ rest)
    then go (closing br.Square z) rest (valued (opened e k)) (Behind (entire p s ds c n at (fArray x (Some e) z) no_attributes)) ns ns
    (ap (λ w. kept ns (full.step_held (tok.sufClose br.Square) z w)) (folded ns e k 0 t.1 (omega arith) (omega arith) tt)
    ∙ ap (kept ns) (when_true (leb 2 (level_of e)) (Behind (entire p s ds c n at (fArray x (Some e) z) no_attributes)) (le-leb _ _ t.0))))
form_read (fFunction ps) ns p s ds c n at i t m rest y =
    (y then parameters_read ps ns (mk.declared_plain (so_far p s ds) c n at) t (function_place p s.told ps i m) rest)

-- Initial values.

abbrev part_at : Declared → ℕ → ℕ → Parts → Option ℕ → Inner
part_at d x a es c = inBase (basePart d x a (whole_parts es) c)

-- behind a declared name with its value
abbrev pub behind_initial : Declared → Initial → Mode
behind_initial d iNothing = Behind d
behind_initial d (iValue at e) = valued (opened e (inBase (baseInitial d at)))
behind_initial d (iList at a es c x) = Listed (mk.with_initial d (iList at a es c x) (counted_initial (iList at a es c x)))

list_some : (es : Parts) (c : Option ℕ) (e : Ex) (d : Declared) (x a : ℕ) (ns : List (List ℕ)) → sh.ShapedParts ns es → sh.IsComma (sh.are_no_parts es) c → sh.Shaped ns e → (rest : List SymbolAt) → Leads (spell_parts es (comma c (spell e rest))) (stand (Operand (part_at d x a no_parts None)) ns) (spell e rest) (stand (Operand (part_at d x a es c)) ns)
list_some no_parts None e d x a ns s t u rest = stays (spell e rest) _ _ refl
list_some no_parts (Some at) e d x a ns s t u rest = absurd t
list_some (parts_and es c y) None e d x a ns s t u rest = absurd t
list_some (parts_and es c y) (Some at) e d x a ns s t u rest =
    let k = part_at d x a es c in
    (list_some es c y d x a ns s.2 s.0 s.3 (sign sy.Comma at ∷ spell e rest)
    then reads y k ns s.3 s.1 (sign sy.Comma at ∷ spell e rest)
    then go (sign sy.Comma at) (spell e rest) (valued (opened y k)) (Maybe (part_at d x a (parts_and es c y) (Some at))) ns ns
    (ap (λ z. kept ns (full.step_held tok.sufComma at z)) (folded ns y k 1 s.3 (pull_one y s.1) (omega arith) tt)
    ∙ ap (kept ns) (when_true (leb 1 (level_of y)) (Maybe (part_at d x a (parts_and es c y) (Some at))) (le-leb _ _ s.1)))
    then first_maybe ns (part_at d x a (parts_and es c y) (Some at)) e u rest)

list_close : (es : Parts) (c0 : Option ℕ) (e : Ex) (c : Option ℕ) (y : ℕ) (d : Declared) (x a : ℕ) (ns : List (List ℕ)) → sh.Shaped ns e → 1 ≤ level_of e → (rest : List SymbolAt) → Leads (comma c (closing br.Curly y ∷ rest)) (stand (valued (opened e (part_at d x a es c0))) ns) rest (stand (behind_initial d (iList x a (parts_and es c0 e) c y)) ns)
list_close es c0 e None y d x a ns t m rest =
    let k = part_at d x a es c0 in
    go (closing br.Curly y) rest (valued (opened e k)) (behind_initial d (iList x a (parts_and es c0 e) None y)) ns ns
    (ap (λ z. kept ns (full.step_held (tok.sufClose br.Curly) y z)) (folded ns e k 0 t (omega arith) (omega arith) tt)
    ∙ ap (kept ns) (when_true (leb 1 (level_of e)) (ex.listed d x a (whole_parts (parts_and es c0 e)) None y) (le-leb _ _ m)))
list_close es c0 e (Some at) y d x a ns t m rest =
    let k = part_at d x a es c0 in
    (go (sign sy.Comma at) (closing br.Curly y ∷ rest) (valued (opened e k)) (Maybe (part_at d x a (parts_and es c0 e) (Some at))) ns ns
    (ap (λ z. kept ns (full.step_held tok.sufComma at z)) (folded ns e k 1 t (pull_one e m) (omega arith) tt)
    ∙ ap (kept ns) (when_true (leb 1 (level_of e)) (Maybe (part_at d x a (parts_and es c0 e) (Some at))) (le-leb _ _ m)))
    then go (closing br.Curly y) rest (Maybe (part_at d x a (parts_and es c0 e) (Some at))) (behind_initial d (iList x a (parts_and es c0 e) (Some at) y)) ns ns refl)

pub initial_read : (i : Initial) (ns : List (List ℕ)) (p : Place) (s : Spoken) (ds : Decs) (c : Option ℕ) (n : List ℕ) (at : ℕ) (f : Form) (ats : Ats) → sh.ShapedInitial ns i → sh.may_declare (ht.site_of_place p) s.told f i ≡ true → (rest : List SymbolAt) → Leads (spell_initial i rest) (stand (Behind (entire p s ds c n at f ats)) ns) rest (stand (behind_initial (entire p s ds c n at f ats) i) ns)
initial_read iNothing ns p s ds c n at f ats t m rest = stays rest _ _ refl
initial_read (iValue x e) ns p s ds c n at fPlain ats t m rest =
    let d = entire p s ds c n at fPlain ats in
    let k = inBase (baseInitial d x) in
    (go (sign (sy.Assign to.Plain) x) (spell e rest) (Behind d) (Operand k) ns ns (ap (kept ns) (if_true (decl.is_object s.told) (Some (Operand k)) None m))
    then reads e k ns t.1 t.0 rest)
initial_read (iValue x e) ns p s ds c n at (fArray a None z) ats t m rest = cc
initial_read (iValue x e) ns p s ds c n at (fArray a (Some v) z) ats t m rest = cc
initial_read (iValue x e) ns p s ds c n at (fFunction ps) ats t m rest = cc
initial_read (iList x a no_parts q z) ns p s ds c n at f ats t m rest = cc
initial_read (iList x a (parts_and es c0 e) q z) ns p s ds c n at fPlain ats t m rest = cc
initial_read (iList x a (parts_and es c0 e) q z) ns p s ds c n at (fFunction ps) ats t m rest = cc
initial_read (iList x a (parts_and es c0 e) q z) ns p s ds c n at (fArray v w u) ats t m rest =
    let d = entire p s ds c n at (fArray v w u) ats in
    (go (sign (sy.Assign to.Plain) x) (opening br.Curly a ∷ spell_parts (parts_and es c0 e) (comma q (closing br.Curly z ∷ rest))) (Behind d) (Wait (waitList d x)) ns ns (ap (kept ns) (if_true (decl.is_object s.told) (Some (Wait (waitList d x))) None (array_object (ht.site_of_place p) s.told v w u (iList x a (parts_and es c0 e) q z) m)))
    then go (opening br.Curly a) (spell_parts (parts_and es c0 e) (comma q (closing br.Curly z ∷ rest))) (Wait (waitList d x)) (Operand (part_at d x a no_parts None)) ns ns refl
    then list_some es c0 e d x a ns t.1.2 t.1.0 t.1.3 (comma q (closing br.Curly z ∷ rest))
    then reads e (part_at d x a es c0) ns t.1.3 t.1.1 (comma q (closing br.Curly z ∷ rest))
    then list_close es c0 e q z d x a ns t.1.3 t.1.1 rest)
