-- The machine that keeps each tree: a mode that comes behind a token is fit, and has read the token.
use Rattle.std.proofs.Common.{◌≡◌, ℕ, ◌≤◌, List, Option, None, Some, Bool, true, false, if◌then◌else◌, leb, refl, ap, ◌∙◌, arith}
use Rattle.c_tree.specs.declared.symbol.SymbolAt.{SymbolAt}
use Rattle.c_tree.specs.Spelling.{level_of, spell}
use Rattle.c_tree.specs.Shape as sh
use Rattle.c_tree.specs.Tree.{Ex}
use Rattle.parse_machine.specs.Contexts.{Part, Bind, bBinary, bPrefix, bCast, bAssign, bElse, bComma, Inner, inBase, inBind, inOpen, inConstant, Mode, Value}
use Rattle.parse_machine.specs.Making.{bind_level}
use Rattle.parse_machine.specs.Heights as ht
use Rattle.parse_machine.specs.Heights.{least}
use Rattle.parse_machine.specs.Expressions as ex
use Rattle.parse_machine.specs.Declarations.{Turn, kept}
use Rattle.parse_laws.proofs.Before as b
use Rattle.parse_laws.proofs.Fits.{inner_names, names_of, FitPart, FitBind, FitInner, Fit}
use Rattle.parse_laws.proofs.Good.{Reads, reads_on}
use Rattle.parse_laws.proofs.Parts.{least_le, several, comma_some}
use Rattle.first_token_laws.proofs.Full as full

abbrev Reader : Type 0
Reader = List SymbolAt → List SymbolAt

abbrev pub GoodMode : List (List ℕ) → List (List ℕ) → Reader → Option Mode → Type 0
GoodMode file ns p None = Unit {0}
GoodMode file ns p (Some m) = (ns ≡ names_of file m) × Fit file m × Reads m p

abbrev pub GoodTurn : List (List ℕ) → Reader → Option Turn → Type 0
GoodTurn file p None = Unit {0}
GoodTurn file p (Some u) = (u.names ≡ names_of file u.mode) × Fit file u.mode × Reads u.mode p

pub kept_good : (file ns : List (List ℕ)) (p : Reader) (o : Option Mode) → GoodMode file ns p o → GoodTurn file p (kept ns o)
kept_good file ns p None g = tt
kept_good file ns p (Some m) g = g

-- the same under other names and another reading that are equal
pub same_mode : (file ns ms : List (List ℕ)) (p q : Reader) (o : Option Mode) → ms ≡ ns → ((r : List SymbolAt) → p r ≡ q r) → GoodMode file ns p o → GoodMode file ms q o
same_mode file ns ms p q None e f g = tt
same_mode file ns ms p q (Some m) e f g = (e ∙ g.0, g.1, reads_on m p q f g.2)

pub same_turn : (file : List (List ℕ)) (p q : Reader) (o : Option Turn) → ((r : List SymbolAt) → p r ≡ q r) → GoodTurn file p o → GoodTurn file q o
same_turn file p q None f g = tt
same_turn file p q (Some u) f g = (g.0, g.1, reads_on u.mode p q f g.2)

-- where a test holds
pub tested : (file ns : List (List ℕ)) (p : Reader) (c : Bool) (m : Mode) → (c ≡ true → GoodMode file ns p (Some m)) → GoodMode file ns p (ex.when c m)
tested file ns p true m h = h refl
tested file ns p false m h = tt

pub guarded : (file ns : List (List ℕ)) (p : Reader) (c : Bool) (o : Option Mode) → (c ≡ true → GoodMode file ns p o) → GoodMode file ns p (if c then o else None)
guarded file ns p true o h = h refl
guarded file ns p false o h = tt

-- an expression that is made
pub value_made : (file : List (List ℕ)) (p : Reader) (l h : ℕ) (e : Ex) (k : Inner) → least k ≤ l → level_of e ≡ l → sh.Shaped (inner_names file k) e → FitInner file k → ((r : List SymbolAt) → b.inner k (spell e r) ≡ p r) → GoodMode file (inner_names file k) p (Some (Value (full.part l h e) k))
value_made file p l h e k z q s f g = (refl, (z, record { level = q; shaped = s }, f), g)

-- an operator with its last operand
record Made (ns : List (List ℕ)) (l : ℕ) (x : Bind) (e : Part) : Type 0 where
  least : l ≤ (full.bound x e).level
  fits : FitPart ns (full.bound x e)
  spells : (r : List SymbolAt) → spell (full.bound x e).value r ≡ b.bind x (spell e.value r)

made : (ns : List (List ℕ)) (l : ℕ) (x : Bind) (e : Part) → l ≤ 14 → FitBind ns l x → ht.least_bind x ≤ e.level → FitPart ns e → Made ns l x e
made ns l (bBinary a o at) e z f m p = record { least = f.0; fits = record { level = refl; shaped = (f.1, omega (arith, m, p.level), f.2, p.shaped) }; spells = λ r. refl }
made ns l (bPrefix o at) e z f m p = record { least = z; fits = record { level = refl; shaped = (omega (arith, m, p.level), p.shaped) }; spells = λ r. refl }
made ns l (bCast a ws c) e z f m p = record { least = f.0; fits = record { level = refl; shaped = (omega (arith, m, p.level), f.1, f.2, p.shaped) }; spells = λ r. refl }
made ns l (bAssign a o at) e z f m p = record { least = f.0; fits = record { level = refl; shaped = (f.1, omega (arith, m, p.level), f.2, p.shaped) }; spells = λ r. refl }
made ns l (bElse c x a y) e z f m p = record { least = f.0; fits = record { level = refl; shaped = (f.1, omega (arith, m, p.level), f.2, f.3, p.shaped) }; spells = λ r. refl }
made ns l (bComma es at) e z f m p = record { least = f.0; fits = record { level = refl; shaped = (several es.value (Some at) e.value f.1, (comma_some _ at f.1, omega (arith, m, p.level), f.2, p.shaped)) }; spells = λ r. refl }

-- what is whole where all that binds tighter is made whole
pub record GoodHeld (file ns : List (List ℕ)) (p : Reader) (x : ex.Held) : Type 0 where
  pub least : least x.around ≤ x.value.level
  pub fits : FitPart (inner_names file x.around) x.value
  pub around : FitInner file x.around
  pub reads : (r : List SymbolAt) → b.inner x.around (spell x.value.value r) ≡ p r
  pub names : ns ≡ inner_names file x.around

held_good : (file : List (List ℕ)) (k : Inner) (e : Part) → least k ≤ e.level → FitPart (inner_names file k) e → FitInner file k → GoodHeld file (inner_names file k) (λ r. b.inner k (spell e.value r)) (ex.held e k)
held_good file k e l p f = record { least = l; fits = p; around = f; reads = λ r. refl; names = refl }

pick_held : (file ns : List (List ℕ)) (p : Reader) (c : Bool) (x y : ex.Held) → GoodHeld file ns p x → GoodHeld file ns p y → GoodHeld file ns p (if c then x else y)
pick_held file ns p true x y g h = g
pick_held file ns p false x y g h = h

same_held : (file ns : List (List ℕ)) (p q : Reader) (x : ex.Held) → ((r : List SymbolAt) → p r ≡ q r) → GoodHeld file ns p x → GoodHeld file ns q x
same_held file ns p q x e g = record { least = g.least; fits = g.fits; around = g.around; reads = λ r. g.reads r ∙ e r; names = g.names }

pub fold_good : (file : List (List ℕ)) (k : Inner) (n : ℕ) (e : Part) → least k ≤ e.level → FitPart (inner_names file k) e → FitInner file k → GoodHeld file (inner_names file k) (λ r. b.inner k (spell e.value r)) (full.fold k n e)
fold_good file (inBind x k) n e l p f =
    let m = made (inner_names file k) (least k) x e (least_le k) f.0 l p in
    pick_held file (inner_names file k) _ (leb n (bind_level x)) _ _
    (same_held file (inner_names file k) _ _ _ (λ r. ap (b.inner k) (m.spells r)) (fold_good file k n (full.bound x e) m.least m.fits f.1))
    (held_good file (inBind x k) e l p f)
fold_good file (inBase x) n e l p f = held_good file (inBase x) e l p f
fold_good file (inOpen x k) n e l p f = held_good file (inOpen x k) e l p f
fold_good file (inConstant w s y es c z at a) n e l p f = held_good file (inConstant w s y es c z at a) e l p f
