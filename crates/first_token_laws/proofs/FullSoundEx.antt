-- The machine that keeps each tree: a token where an operand is to come, and an operator or an end behind one.
use Rattle.first_token_laws.proofs.Full as full
use Rattle.std.proofs.Common.{◌≡◌, ℕ, ◌≤◌, List, [], ◌∷◌, Some, Bool, true, false, ◌&&◌, not, if◌then◌else◌, leb, refl, ◌∙◌, arith, leb-true}
use Rattle.c_tree.specs.declared.symbol.BinaryOp.{BinaryOp}
use Rattle.c_tree.specs.declared.symbol.BinaryOp.TheVariants as op
use Rattle.c_tree.specs.declared.symbol.AssignOp.{AssignOp}
use Rattle.c_tree.specs.declared.symbol.Crement.TheVariants as cr
use Rattle.c_tree.specs.declared.symbol.Bracket.TheVariants as br
use Rattle.c_tree.specs.declared.symbol.Symbol.{Symbol}
use Rattle.c_tree.specs.declared.symbol.Symbol.TheVariants as sy
use Rattle.c_tree.specs.declared.symbol.SymbolAt.{SymbolAt}
use Rattle.c_tree.specs.declared.tree.PrefixOp.TheVariants as pre
use Rattle.c_tree.specs.Symbols.{sign}
use Rattle.c_tree.specs.Spelling.{level, level_of, opening, spell}
use Rattle.c_tree.specs.Shape as sh
use Rattle.c_tree.specs.Tree.{Ex, eName, eNumber, eLetter, iValue}
use Rattle.parse_machine.specs.Tokens.{prefix_of}
use Rattle.parse_machine.specs.Contexts.{Part, Bind, bPrefix, bComma, Opened, oParen, oArgument, oThen, Outer, Base, baseStatement, baseCase, baseInitial, basePart, Inner, inBase, inBind, inOpen, inConstant, forkCast, Either, Operand}
use Rattle.parse_machine.specs.Heights.{least}
use Rattle.parse_laws.proofs.Before as b
use Rattle.parse_laws.proofs.Fits.{scope, inner_names, FitOuter, FitInner}
use Rattle.parse_machine.specs.Expressions as ex
use Rattle.parse_laws.proofs.Parts.{least_le, comma_some}
use Rattle.first_token_laws.proofs.FullGood.{GoodHeld, GoodMode, tested, value_made}
use Rattle.parse_laws.proofs.Good.{not_true, both_left, both_right}
use Rattle.parse_laws.proofs.SoundEx.{parts_more, may_value, with_initial_fits, object_with_names, valued_fits}

abbrev Reader : Type 0
Reader = List SymbolAt → List SymbolAt

-- Where an operand is to come.

open_good : (file : List (List ℕ)) (at : ℕ) (k : Inner) (c : Bool) → (c ≡ true → least k ≤ 13) → FitInner file k → GoodMode file (inner_names file k) (λ r. b.inner k (opening br.Round at ∷ r)) (Some (if c then Either (forkCast at k) [] else Operand (inOpen (oParen at) k)))
open_good file at k true h f = (refl, (h refl, f), λ r. refl)
open_good file at k false h f = (refl, (tt, f), λ r. refl)

pub operand_good : (file : List (List ℕ)) (t : Symbol) (at : ℕ) (k : Inner) → FitInner file k → GoodMode file (inner_names file k) (λ r. b.inner k (sign t at ∷ r)) (full.step_operand (inner_names file k) (prefix_of t) at k)
operand_good file (sy.Name n) at k f = tested file _ _ (not (sh.has (inner_names file k) n)) _ (λ h. value_made file _ 15 1 (eName n at) k (omega (arith, least_le k)) refl (not_true _ h) f (λ r. refl))
operand_good file (sy.Number v g) at k f = value_made file _ 15 1 (eNumber v g at) k (omega (arith, least_le k)) refl tt f (λ r. refl)
operand_good file (sy.Letter v) at k f = value_made file _ 15 1 (eLetter v at) k (omega (arith, least_le k)) refl tt f (λ r. refl)
operand_good file (sy.Open br.Round) at k f = open_good file at k (leb (least k) 13) (λ h. leb-true _ _ h) f
operand_good file sy.Sizeof at k f = (refl, f, λ r. refl)
operand_good file (sy.Crement cr.Increment) at k f = (refl, (tt, f), λ r. refl)
operand_good file (sy.Crement cr.Decrement) at k f = (refl, (tt, f), λ r. refl)
operand_good file (sy.Binary op.Add) at k f = (refl, (tt, f), λ r. refl)
operand_good file (sy.Binary op.Subtract) at k f = (refl, (tt, f), λ r. refl)
operand_good file sy.Tilde at k f = (refl, (tt, f), λ r. refl)
operand_good file sy.Bang at k f = (refl, (tt, f), λ r. refl)
operand_good file sy.Extension at k f = (refl, (tt, f), λ r. refl)
operand_good file _ at k f = tt

pub sizeof_good : (file : List (List ℕ)) (t : Symbol) (at x : ℕ) (k : Inner) → FitInner file k → GoodMode file (inner_names file k) (λ r. b.inner k (sign sy.Sizeof x ∷ sign t at ∷ r)) (full.step_sizeof (inner_names file k) (prefix_of t) at x k)
sizeof_good file (sy.Open br.Round) at x k f = (refl, f, λ r. refl)
sizeof_good file (sy.Binary op.OrElse) at x k f = operand_good file (sy.Binary op.OrElse) at (inBind (bPrefix pre.Sizeof x) k) (tt, f)
sizeof_good file (sy.Binary op.AndAlso) at x k f = operand_good file (sy.Binary op.AndAlso) at (inBind (bPrefix pre.Sizeof x) k) (tt, f)
sizeof_good file (sy.Binary op.BitOr) at x k f = operand_good file (sy.Binary op.BitOr) at (inBind (bPrefix pre.Sizeof x) k) (tt, f)
sizeof_good file (sy.Binary op.BitXor) at x k f = operand_good file (sy.Binary op.BitXor) at (inBind (bPrefix pre.Sizeof x) k) (tt, f)
sizeof_good file (sy.Binary op.BitAnd) at x k f = operand_good file (sy.Binary op.BitAnd) at (inBind (bPrefix pre.Sizeof x) k) (tt, f)
sizeof_good file (sy.Binary op.Equal) at x k f = operand_good file (sy.Binary op.Equal) at (inBind (bPrefix pre.Sizeof x) k) (tt, f)
sizeof_good file (sy.Binary op.NotEqual) at x k f = operand_good file (sy.Binary op.NotEqual) at (inBind (bPrefix pre.Sizeof x) k) (tt, f)
sizeof_good file (sy.Binary op.Less) at x k f = operand_good file (sy.Binary op.Less) at (inBind (bPrefix pre.Sizeof x) k) (tt, f)
sizeof_good file (sy.Binary op.Greater) at x k f = operand_good file (sy.Binary op.Greater) at (inBind (bPrefix pre.Sizeof x) k) (tt, f)
sizeof_good file (sy.Binary op.LessEqual) at x k f = operand_good file (sy.Binary op.LessEqual) at (inBind (bPrefix pre.Sizeof x) k) (tt, f)
sizeof_good file (sy.Binary op.GreaterEqual) at x k f = operand_good file (sy.Binary op.GreaterEqual) at (inBind (bPrefix pre.Sizeof x) k) (tt, f)
sizeof_good file (sy.Binary op.ShiftLeft) at x k f = operand_good file (sy.Binary op.ShiftLeft) at (inBind (bPrefix pre.Sizeof x) k) (tt, f)
sizeof_good file (sy.Binary op.ShiftRight) at x k f = operand_good file (sy.Binary op.ShiftRight) at (inBind (bPrefix pre.Sizeof x) k) (tt, f)
sizeof_good file (sy.Binary op.Add) at x k f = operand_good file (sy.Binary op.Add) at (inBind (bPrefix pre.Sizeof x) k) (tt, f)
sizeof_good file (sy.Binary op.Subtract) at x k f = operand_good file (sy.Binary op.Subtract) at (inBind (bPrefix pre.Sizeof x) k) (tt, f)
sizeof_good file (sy.Binary op.Multiply) at x k f = operand_good file (sy.Binary op.Multiply) at (inBind (bPrefix pre.Sizeof x) k) (tt, f)
sizeof_good file (sy.Binary op.Divide) at x k f = operand_good file (sy.Binary op.Divide) at (inBind (bPrefix pre.Sizeof x) k) (tt, f)
sizeof_good file (sy.Binary op.Remainder) at x k f = operand_good file (sy.Binary op.Remainder) at (inBind (bPrefix pre.Sizeof x) k) (tt, f)
sizeof_good file (sy.Crement cr.Increment) at x k f = operand_good file (sy.Crement cr.Increment) at (inBind (bPrefix pre.Sizeof x) k) (tt, f)
sizeof_good file (sy.Crement cr.Decrement) at x k f = operand_good file (sy.Crement cr.Decrement) at (inBind (bPrefix pre.Sizeof x) k) (tt, f)
sizeof_good file (sy.Open br.Square) at x k f = operand_good file (sy.Open br.Square) at (inBind (bPrefix pre.Sizeof x) k) (tt, f)
sizeof_good file (sy.Open br.Curly) at x k f = operand_good file (sy.Open br.Curly) at (inBind (bPrefix pre.Sizeof x) k) (tt, f)
sizeof_good file t at x k f = operand_good file t at (inBind (bPrefix pre.Sizeof x) k) (tt, f)

-- Behind an operand, where all that binds tighter is whole.

pub binary_good : (file ns : List (List ℕ)) (p : Reader) (o : BinaryOp) (at : ℕ) (e : Part) (k : Inner) → GoodHeld file ns p (ex.held e k) → GoodMode file ns (λ r. p (sign (sy.Binary o) at ∷ r)) (ex.binary o at e k)
binary_good file ns p o at e k g =
    tested file ns _ (leb (least k) (level o) && leb (level o) e.level) _ (λ h.
    let x = leb-true _ _ (both_left (leb (least k) (level o)) (leb (level o) e.level) h) in
    let y = leb-true _ _ (both_right (leb (least k) (level o)) (leb (level o) e.level) h) in
    (g.names, ((x, omega (arith, y, g.fits.level), g.fits.shaped), g.around), λ r. g.reads (sign (sy.Binary o) at ∷ r)))

pub assign_good : (file ns : List (List ℕ)) (p : Reader) (o : AssignOp) (at : ℕ) (e : Part) (k : Inner) → GoodHeld file ns p (ex.held e k) → GoodMode file ns (λ r. p (sign (sy.Assign o) at ∷ r)) (ex.assign o at e k)
assign_good file ns p o at e k g =
    tested file ns _ (leb (least k) 1 && leb 14 e.level) _ (λ h.
    let x = leb-true _ _ (both_left (leb (least k) 1) (leb 14 e.level) h) in
    let y = leb-true _ _ (both_right (leb (least k) 1) (leb 14 e.level) h) in
    (g.names, ((x, omega (arith, y, g.fits.level), g.fits.shaped), g.around), λ r. g.reads (sign (sy.Assign o) at ∷ r)))

pub question_good : (file ns : List (List ℕ)) (p : Reader) (at : ℕ) (e : Part) (k : Inner) → GoodHeld file ns p (ex.held e k) → GoodMode file ns (λ r. p (sign sy.Question at ∷ r)) (ex.question at e k)
question_good file ns p at e k g =
    tested file ns _ (leb (least k) 2 && leb 3 e.level) _ (λ h.
    let x = leb-true _ _ (both_left (leb (least k) 2) (leb 3 e.level) h) in
    let y = leb-true _ _ (both_right (leb (least k) 2) (leb 3 e.level) h) in
    (g.names, ((x, omega (arith, y, g.fits.level), g.fits.shaped), g.around), λ r. g.reads (sign sy.Question at ∷ r)))

-- Behind a comma.

sequence_good : (file ns : List (List ℕ)) (p : Reader) (at : ℕ) (e : Part) (k : Inner) → GoodHeld file ns p (ex.held e k) → GoodMode file ns (λ r. p (sign sy.Comma at ∷ r)) (ex.sequence at e k)
sequence_good file ns p at e k g =
    tested file ns _ (leb (least k) 0 && leb 1 e.level) _ (λ h.
    let x = leb-true _ _ (both_left (leb (least k) 0) (leb 1 e.level) h) in
    let y = leb-true _ _ (both_right (leb (least k) 0) (leb 1 e.level) h) in
    (g.names, ((x, refl, (tt, omega (arith, y, g.fits.level), tt, g.fits.shaped)), g.around), λ r. g.reads (sign sy.Comma at ∷ r)))

comma_base_good : (file ns : List (List ℕ)) (p : Reader) (at : ℕ) (e : Part) (x : Base) → GoodHeld file ns p (ex.held e (inBase x)) → GoodMode file ns (λ r. p (sign sy.Comma at ∷ r)) (ex.comma_base at e x)
comma_base_good file ns p at e (baseInitial d y) g =
    tested file ns _ (leb 1 e.level) _ (λ h.
    let v : 1 ≤ level_of e.value = omega (arith, leb-true _ _ h, g.fits.level) in
    let w = with_initial_fits file d (iValue y e.value) e.height g.around.0 (may_value _ _ _ y e.value g.around.2 g.around.1) (v, g.fits.shaped) in
    (g.names ∙ object_with_names file d (iValue y e.value) e.height g.around.2, (w, refl), λ r. g.reads (sign sy.Comma at ∷ r)))
comma_base_good file ns p at e (basePart d y a es c) g =
    tested file ns _ (leb 1 e.level) _ (λ h.
    (g.names, (g.around.0, g.around.1, g.around.2, parts_more _ es.value c e g.around.3 g.around.4 (leb-true _ _ h) g.fits, tt), λ r. g.reads (sign sy.Comma at ∷ r)))
comma_base_good file ns p at e x g = sequence_good file ns p at e (inBase x) g

comma_open_good : (file ns : List (List ℕ)) (p : Reader) (at : ℕ) (e : Part) (x : Opened) (k : Inner) → GoodHeld file ns p (ex.held e (inOpen x k)) → GoodMode file ns (λ r. p (sign sy.Comma at ∷ r)) (ex.comma_open at e x k)
comma_open_good file ns p at e (oArgument f a es c) k g =
    tested file ns _ (leb 1 e.level) _ (λ h.
    (g.names, ((g.around.0.0, g.around.0.1, parts_more _ es.value c e g.around.0.2 g.around.0.3 (leb-true _ _ h) g.fits, tt), g.around.1), λ r. g.reads (sign sy.Comma at ∷ r)))
comma_open_good file ns p at e x k g = sequence_good file ns p at e (inOpen x k) g

comma_bind_good : (file ns : List (List ℕ)) (p : Reader) (at : ℕ) (e : Part) (x : Bind) (k : Inner) → GoodHeld file ns p (ex.held e (inBind x k)) → GoodMode file ns (λ r. p (sign sy.Comma at ∷ r)) (ex.comma_bind at e x k)
comma_bind_good file ns p at e (bComma es c) k g =
    tested file ns _ (leb 1 e.level) _ (λ h.
    (g.names, ((g.around.0.0, refl, parts_more _ es.value (Some c) e g.around.0.2 (comma_some _ c g.around.0.1) (leb-true _ _ h) g.fits), g.around.1), λ r. g.reads (sign sy.Comma at ∷ r)))
comma_bind_good file ns p at e _ k g = tt

pub comma_good : (file ns : List (List ℕ)) (p : Reader) (at : ℕ) (e : Part) (k : Inner) → GoodHeld file ns p (ex.held e k) → GoodMode file ns (λ r. p (sign sy.Comma at ∷ r)) (ex.comma at e k)
comma_good file ns p at e (inBase x) g = comma_base_good file ns p at e x g
comma_good file ns p at e (inBind x k) g = comma_bind_good file ns p at e x k g
comma_good file ns p at e (inOpen x k) g = comma_open_good file ns p at e x k g
comma_good file ns p at e (inConstant w s y es c n x a) g =
    tested file ns _ (leb 2 e.level) _ (λ h.
    (g.names, record { around = g.around.0; named = g.around.1; head = g.around.2; before = valued_fits _ es.value c n x a e g.around.3 g.around.4 g.around.5 (leb-true _ _ h) g.fits; comma = tt }, λ r. g.reads (sign sy.Comma at ∷ r)))

-- Behind a colon.

label_good : (file ns : List (List ℕ)) (p : Reader) (at : ℕ) (v : Ex) (o : Outer) → ns ≡ scope file o → sh.Shaped (scope file o) v → FitOuter file o → ((r : List SymbolAt) → b.outer o (spell v r) ≡ p r) → GoodMode file ns (λ r. p (sign sy.Colon at ∷ r)) (ex.label at v o)
label_good file ns p at (eName n x) o e s f g = (e, (s, tt, f), λ r. g (sign sy.Colon at ∷ r))
label_good file ns p at _ o e s f g = tt

colon_base_good : (file ns : List (List ℕ)) (p : Reader) (at : ℕ) (e : Part) (x : Base) → GoodHeld file ns p (ex.held e (inBase x)) → GoodMode file ns (λ r. p (sign sy.Colon at ∷ r)) (ex.colon_base at e x)
colon_base_good file ns p at e (baseCase y o) g =
    tested file ns _ (leb 2 e.level) _ (λ h. (g.names, ((omega (arith, leb-true _ _ h, g.fits.level), g.fits.shaped), g.around), λ r. g.reads (sign sy.Colon at ∷ r)))
colon_base_good file ns p at e (baseStatement o) g = label_good file ns p at e.value o g.names g.fits.shaped g.around g.reads
colon_base_good file ns p at e _ g = tt

colon_open_good : (file ns : List (List ℕ)) (p : Reader) (at : ℕ) (e : Part) (x : Opened) (k : Inner) → GoodHeld file ns p (ex.held e (inOpen x k)) → GoodMode file ns (λ r. p (sign sy.Colon at ∷ r)) (ex.colon_open at e x k)
colon_open_good file ns p at e (oThen c y) k g = (g.names, ((g.around.0.0, g.around.0.1, g.around.0.2, g.fits.shaped), g.around.1), λ r. g.reads (sign sy.Colon at ∷ r))
colon_open_good file ns p at e _ k g = tt

pub colon_good : (file ns : List (List ℕ)) (p : Reader) (at : ℕ) (e : Part) (k : Inner) → GoodHeld file ns p (ex.held e k) → GoodMode file ns (λ r. p (sign sy.Colon at ∷ r)) (ex.colon at e k)
colon_good file ns p at e (inBase x) g = colon_base_good file ns p at e x g
colon_good file ns p at e (inOpen x k) g = colon_open_good file ns p at e x k g
colon_good file ns p at e _ g = tt
