-- A mode that comes behind a token is fit, and has read the token.
use Rattle.std.proofs.Common.{◌≡◌, ℕ, ◌≤◌, List, ◌∷◌, Option, None, Some, Bool, true, false, ◌&&◌, not, if◌then◌else◌, refl, ap, ◌∙◌, le_trans}
use Rattle.c_tree.specs.declared.symbol.Symbol.TheVariants as sy
use Rattle.c_tree.specs.declared.symbol.SymbolAt.{SymbolAt}
use Rattle.c_tree.specs.Symbols.{sign}
use Rattle.c_tree.specs.Spelling.{level_of, spell}
use Rattle.c_tree.specs.Shape as sh
use Rattle.c_tree.specs.Tree.{Ex}
use Rattle.parse_machine.specs.Contexts.{Inner, Mode, Value, Finished}
use Rattle.parse_machine.specs.Making.{part}
use Rattle.parse_machine.specs.Heights.{least, low}
use Rattle.parse_laws.proofs.Before as b
use Rattle.parse_laws.proofs.Fits.{inner_names, names_of, FitInner, Fit}
use Rattle.parse_laws.proofs.Parts.{high_ge, part_fits, part_spells}
use Rattle.parse_machine.specs.Expressions as ex
use Rattle.parse_machine.specs.Declarations.{Turn, kept}

-- what the mode has read; the end keeps no offset
abbrev pub Reads : Mode → (List SymbolAt → List SymbolAt) → Type 0
Reads Finished p = (at : ℕ) × ((r : List SymbolAt) → sign sy.End at ∷ r ≡ p r)
Reads m p = (r : List SymbolAt) → b.mode m r ≡ p r

pub reads_on : (m : Mode) (p q : List SymbolAt → List SymbolAt) → ((r : List SymbolAt) → p r ≡ q r) → Reads m p → Reads m q
reads_on Finished p q e f = (f.0, λ r. f.1 r ∙ e r)
reads_on _ p q e f = λ r. f r ∙ e r

abbrev pub GoodMode : List (List ℕ) → List (List ℕ) → (List SymbolAt → List SymbolAt) → Option Mode → Type 0
GoodMode file ns p None = Unit {0}
GoodMode file ns p (Some m) = low m ≤ 200 → (ns ≡ names_of file m) × Fit file m × Reads m p

abbrev pub GoodTurn : List (List ℕ) → (List SymbolAt → List SymbolAt) → Option Turn → Type 0
GoodTurn file p None = Unit {0}
GoodTurn file p (Some u) = low u.mode ≤ 200 → (u.names ≡ names_of file u.mode) × Fit file u.mode × Reads u.mode p

pub kept_good : (file ns : List (List ℕ)) (p : List SymbolAt → List SymbolAt) (o : Option Mode) → GoodMode file ns p o → GoodTurn file p (kept ns o)
kept_good file ns p None g = tt
kept_good file ns p (Some m) g = g

-- the same under other names and another reading that are equal
pub same_mode : (file ns ms : List (List ℕ)) (p q : List SymbolAt → List SymbolAt) (o : Option Mode) → ms ≡ ns → ((r : List SymbolAt) → p r ≡ q r) → GoodMode file ns p o → GoodMode file ms q o
same_mode file ns ms p q None e f g = tt
same_mode file ns ms p q (Some m) e f g = λ l. let h = g l in (e ∙ h.0, h.1, reads_on m p q f h.2)

pub same_turn : (file : List (List ℕ)) (p q : List SymbolAt → List SymbolAt) (o : Option Turn) → ((r : List SymbolAt) → p r ≡ q r) → GoodTurn file p o → GoodTurn file q o
same_turn file p q None f g = tt
same_turn file p q (Some u) f g = λ l. let h = g l in (h.0, h.1, reads_on u.mode p q f h.2)

-- where a test holds
pub tested : (file ns : List (List ℕ)) (p : List SymbolAt → List SymbolAt) (c : Bool) (m : Mode) → (c ≡ true → GoodMode file ns p (Some m)) → GoodMode file ns p (ex.when c m)
tested file ns p true m h = h refl
tested file ns p false m h = tt

pub guarded : (file ns : List (List ℕ)) (p : List SymbolAt → List SymbolAt) (c : Bool) (o : Option Mode) → (c ≡ true → GoodMode file ns p o) → GoodMode file ns p (if c then o else None)
guarded file ns p true o h = h refl
guarded file ns p false o h = tt

pub not_true : (c : Bool) → not c ≡ true → c ≡ false
not_true true h = cc
not_true false h = refl

pub not_false : (c : Bool) → c ≡ false → not c ≡ true
not_false true h = cc
not_false false h = refl

pub both_left : (c d : Bool) → (c && d) ≡ true → c ≡ true
both_left true d h = refl
both_left false d h = cc

pub both_right : (c d : Bool) → (c && d) ≡ true → d ≡ true
both_right true true h = refl
both_right true false h = cc
both_right false true h = refl
both_right false false h = cc

-- an expression that is made
pub value_made : (file : List (List ℕ)) (p : List SymbolAt → List SymbolAt) (l h : ℕ) (e : Ex) (k : Inner) → least k ≤ l → level_of e ≡ l → sh.Shaped (inner_names file k) e → FitInner file k → ((r : List SymbolAt) → b.inner k (spell e r) ≡ p r) → GoodMode file (inner_names file k) p (Some (Value (part l h e) k))
value_made file p l h e k z q s f g = λ w.
    let i : h ≤ 200 = le_trans (high_ge k h) w in
    (refl, (z, part_fits (inner_names file k) l h e i q s, f), λ r. ap (b.inner k) (part_spells l h e i r) ∙ g r)
