-- Expressions that are made: where they are not too high, they are what they are said to be.
use Rattle.std.proofs.Common.{◌≡◌, ℕ, suc, ◌≤◌, max, List, Option, Some, Bool, true, false, not, if◌then◌else◌, leb, refl, subst, sym, ap, ◌∙◌, arith, le-leb, le_trans}
use Rattle.c_tree.specs.declared.symbol.BinaryOp.{BinaryOp}
use Rattle.c_tree.specs.declared.symbol.BinaryOp.TheVariants as op
use Rattle.c_tree.specs.declared.symbol.SymbolAt.{SymbolAt}
use Rattle.c_tree.specs.declared.tree.PrefixOp.{PrefixOp}
use Rattle.c_tree.specs.declared.tree.PrefixOp.TheVariants as pre
use Rattle.c_tree.specs.Spelling.{level, operand_level, level_of, spell}
use Rattle.c_tree.specs.Shape as sh
use Rattle.c_tree.specs.Tree.{Ex, Parts, parts_and}
use Rattle.parse_machine.specs.Contexts.{Part, Bind, bBinary, bPrefix, bCast, bAssign, bElse, bComma, Opened, oParen, oIndex, oArgument, oThen, Declaring, Declared, Base, baseStatement, baseTest, baseDo, baseReturn, baseCase, baseStart, baseMore, baseStep, baseLength, baseInitial, basePart, Inner, inBase, inBind, inOpen, inConstant, Around, aroundCast, aroundSizeof, aroundParameter, aroundPlace}
use Rattle.parse_machine.specs.Making.{above, part, bound, bind_level}
use Rattle.parse_machine.specs.Heights as ht
use Rattle.parse_machine.specs.Heights.{least, high, around_high, low, depth, is_list}
use Rattle.parse_laws.proofs.Before as b
use Rattle.parse_laws.proofs.Fits.{inner_names, FitPart, FitBind, FitInner}
use Rattle.parse_machine.specs.Expressions as ex

-- Heights only rise.

pick_ge : (b : Bool) (h : ℕ) → h ≤ (if b then suc h else h)
pick_ge true h = omega arith
pick_ge false h = omega arith

pub above_ge : (h : ℕ) → h ≤ above h
above_ge h = pick_ge (leb h 200) h

either_ge : (b : Bool) (h x y : ℕ) → h ≤ x → h ≤ y → h ≤ (if b then x else y)
either_ge true h x y p q = p
either_ge false h x y p q = q

declarator_ge : (d : Declaring) (h : ℕ) → h ≤ ht.declarator_high d h
declarator_ge d h = omega (arith, above_ge h)

pub parameters_ge : (d : Declaring) (h : ℕ) → h ≤ ht.parameters_high d h
parameters_ge d h = either_ge (ht.is_first d) h (suc h) (ht.declarator_high d h) (omega arith) (declarator_ge d h)

pub declared_ge : (d : Declared) (h : ℕ) → h ≤ ht.declared_high d h
declared_ge d h =
    either_ge (ht.is_function d.form.value) h _ _ (omega (arith, parameters_ge d.around (max d.form.height h))) (omega (arith, declarator_ge d.around (max (max d.form.height (ht.form_needs d.form.value)) h)))

base_ge : (x : Base) (h : ℕ) → h ≤ ht.base_high x h
base_ge (baseStatement o) h = omega arith
base_ge (baseTest t at a o) h = omega arith
base_ge (baseDo at s x a o) h = omega arith
base_ge (baseReturn at o) h = omega arith
base_ge (baseCase at o) h = omega arith
base_ge (baseStart m at a o) h = omega arith
base_ge (baseMore m at a s o) h = omega arith
base_ge (baseStep m at a s e x o) h = omega arith
base_ge (baseLength d a) h = omega (arith, declarator_ge d.around (max h 1))
base_ge (baseInitial d at) h = declared_ge d h
base_ge (basePart d at a es c) h = omega (arith, above_ge (max h 1), declared_ge d (above (max h 1)))

bind_ge : (x : Bind) (h : ℕ) → h ≤ ht.bind_high x h
bind_ge (bBinary a o at) h = omega (arith, above_ge (max a.height h))
bind_ge (bPrefix o at) h = above_ge h
bind_ge (bCast a ws c) h = omega (arith, above_ge (max (above ws.height) h))
bind_ge (bAssign a o at) h = omega (arith, above_ge (max a.height h))
bind_ge (bElse c x a y) h = omega (arith, above_ge (max (max c.height a.height) h))
bind_ge (bComma es at) h = omega (arith, above_ge (max es.height h))

open_ge : (x : Opened) (h : ℕ) → h ≤ ht.open_high x h
open_ge (oParen a) h = above_ge h
open_ge (oIndex f x) h = omega (arith, above_ge (max f.height h))
open_ge (oArgument f a es c) h = omega (arith, above_ge (max (max f.height es.height) h))
open_ge (oThen c x) h = omega (arith, above_ge (max c.height h))

mutual
  pub high_ge : (k : Inner) (h : ℕ) → h ≤ high k h
  high_ge (inBase x) h = base_ge x h
  high_ge (inBind x k) h = le_trans (bind_ge x h) (high_ge k (ht.bind_high x h))
  high_ge (inOpen x k) h = le_trans (open_ge x h) (high_ge k (ht.open_high x h))
  high_ge (inConstant w s e es c n at a) h =
      let i = around_ge w (max s.height (above (max es.height (above h)))) in
      omega (arith, i, above_ge (max es.height (above h)), above_ge h)

  pub around_ge : (w : Around) (h : ℕ) → h ≤ around_high w h
  around_ge (aroundCast a k) h = let i = high_ge k (above (above h)) in omega (arith, i, above_ge h, above_ge (above h))
  around_ge (aroundSizeof at a k) h = let i = high_ge k (above (above h)) in omega (arith, i, above_ge h, above_ge (above h))
  around_ge (aroundParameter d a ps c) h =
      let i = parameters_ge d.around (above (max ps.height (above h))) in omega (arith, i, above_ge h, above_ge (max ps.height (above h)))
  around_ge (aroundPlace p) h = omega (arith, above_ge h)

-- Levels.

pub level_le : (o : BinaryOp) → level o ≤ 12
level_le op.OrElse = omega arith
level_le op.AndAlso = omega arith
level_le op.BitOr = omega arith
level_le op.BitXor = omega arith
level_le op.BitAnd = omega arith
level_le op.Equal = omega arith
level_le op.NotEqual = omega arith
level_le op.Less = omega arith
level_le op.Greater = omega arith
level_le op.LessEqual = omega arith
level_le op.GreaterEqual = omega arith
level_le op.ShiftLeft = omega arith
level_le op.ShiftRight = omega arith
level_le op.Add = omega arith
level_le op.Subtract = omega arith
level_le op.Multiply = omega arith
level_le op.Divide = omega arith
level_le op.Remainder = omega arith

pub operand_le : (o : PrefixOp) → operand_level o ≤ 14
operand_le pre.Increment = omega arith
operand_le pre.Decrement = omega arith
operand_le pre.Plus = omega arith
operand_le pre.Minus = omega arith
operand_le pre.Complement = omega arith
operand_le pre.Not = omega arith
operand_le pre.Extension = omega arith
operand_le pre.Sizeof = omega arith

least_base_le : (x : Base) → ht.least_base x ≤ 2
least_base_le (baseStatement o) = omega arith
least_base_le (baseTest t at a o) = omega arith
least_base_le (baseDo at s x a o) = omega arith
least_base_le (baseReturn at o) = omega arith
least_base_le (baseCase at o) = omega arith
least_base_le (baseStart m at a o) = omega arith
least_base_le (baseMore m at a s o) = omega arith
least_base_le (baseStep m at a s e x o) = omega arith
least_base_le (baseLength d a) = omega arith
least_base_le (baseInitial d at) = omega arith
least_base_le (basePart d at a es c) = omega arith

least_bind_le : (x : Bind) → ht.least_bind x ≤ 14
least_bind_le (bBinary a o at) = omega (arith, level_le o)
least_bind_le (bPrefix o at) = operand_le o
least_bind_le (bCast a ws c) = omega arith
least_bind_le (bAssign a o at) = omega arith
least_bind_le (bElse c x a y) = omega arith
least_bind_le (bComma es at) = omega arith

least_open_le : (x : Opened) → ht.least_open x ≤ 1
least_open_le (oParen a) = omega arith
least_open_le (oIndex f x) = omega arith
least_open_le (oArgument f a es c) = omega arith
least_open_le (oThen c x) = omega arith

pub least_le : (k : Inner) → least k ≤ 14
least_le (inBase x) = omega (arith, least_base_le x)
least_le (inBind x k) = least_bind_le x
least_le (inOpen x k) = omega (arith, least_open_le x)
least_le (inConstant w s h es c n at a) = omega arith

-- Parts that are made.

real : (b : Bool) (x y : Ex) → b ≡ true → (if b then x else y) ≡ x
real b x y h = rw h refl

pub part_real : (l h : ℕ) (e : Ex) → h ≤ 200 → (part l h e).value ≡ e
part_real l h e p = real (leb h 200) e _ (le-leb _ _ p)

pub part_fits : (ns : List (List ℕ)) (l h : ℕ) (e : Ex) → h ≤ 200 → level_of e ≡ l → sh.Shaped ns e → FitPart ns (part l h e)
part_fits ns l h e p q s = record { level = ap level_of (part_real l h e p) ∙ q; shaped = subst (sh.Shaped ns) (sym (part_real l h e p)) s }

pub part_spells : (l h : ℕ) (e : Ex) → h ≤ 200 → (r : List SymbolAt) → spell (part l h e).value r ≡ spell e r
part_spells l h e p r = ap (λ x. spell x r) (part_real l h e p)

pub several : (es : Parts) (c : Option ℕ) (e : Ex) → sh.are_no_parts es ≡ false → sh.are_several (parts_and es c e) ≡ true
several es c e h = ap not h

pub comma_some : (x : Bool) (at : ℕ) → x ≡ false → sh.IsComma x (Some at)
comma_some x at h = subst (λ y. sh.IsComma y (Some at)) (sym h) tt

bound_height : (x : Bind) (e : Part) → (bound x e).height ≡ ht.bind_high x e.height
bound_height (bBinary a o at) e = refl
bound_height (bPrefix o at) e = refl
bound_height (bCast a ws c) e = refl
bound_height (bAssign a o at) e = refl
bound_height (bElse c x a y) e = refl
bound_height (bComma es at) e = refl

-- an operator with its last operand
pub record Made (ns : List (List ℕ)) (l : ℕ) (x : Bind) (e : Part) : Type 0 where
  pub least : l ≤ (bound x e).level
  pub fits : FitPart ns (bound x e)
  pub spells : (r : List SymbolAt) → spell (bound x e).value r ≡ b.bind x (spell e.value r)

made : (ns : List (List ℕ)) (l : ℕ) (x : Bind) (e : Part) → l ≤ 14 → FitBind ns l x → ht.least_bind x ≤ e.level → FitPart ns e → (bound x e).height ≤ 200 → Made ns l x e
made ns l (bBinary a o at) e z f m p h = record { least = f.0; fits = part_fits ns _ _ _ h refl (f.1, omega (arith, m, p.level), f.2, p.shaped); spells = part_spells (level o) _ _ h }
made ns l (bPrefix o at) e z f m p h = record { least = z; fits = part_fits ns _ _ _ h refl (omega (arith, m, p.level), p.shaped); spells = part_spells 14 _ _ h }
made ns l (bCast a ws c) e z f m p h = record { least = f.0; fits = part_fits ns _ _ _ h refl (omega (arith, m, p.level), f.1, f.2, p.shaped); spells = part_spells 13 _ _ h }
made ns l (bAssign a o at) e z f m p h = record { least = f.0; fits = part_fits ns _ _ _ h refl (f.1, omega (arith, m, p.level), f.2, p.shaped); spells = part_spells 1 _ _ h }
made ns l (bElse c x a y) e z f m p h = record { least = f.0; fits = part_fits ns _ _ _ h refl (f.1, omega (arith, m, p.level), f.2, f.3, p.shaped); spells = part_spells 2 _ _ h }
made ns l (bComma es at) e z f m p h =
    record { least = f.0; fits = part_fits ns _ _ _ h refl (several es.value (Some at) e.value f.1, (comma_some _ at f.1, omega (arith, m, p.level), f.2, p.shaped)); spells = part_spells 0 _ _ h }

-- what is whole where all that binds tighter is made whole
pub record GoodHeld (file ns : List (List ℕ)) (p : List SymbolAt → List SymbolAt) (x : ex.Held) : Type 0 where
  pub least : least x.around ≤ x.value.level
  pub fits : FitPart (inner_names file x.around) x.value
  pub around : FitInner file x.around
  pub reads : (r : List SymbolAt) → b.inner x.around (spell x.value.value r) ≡ p r
  pub names : ns ≡ inner_names file x.around
  pub high : high x.around x.value.height ≤ 200

held_good : (file : List (List ℕ)) (k : Inner) (e : Part) → high k e.height ≤ 200 → least k ≤ e.level → FitPart (inner_names file k) e → FitInner file k → GoodHeld file (inner_names file k) (λ r. b.inner k (spell e.value r)) (ex.held e k)
held_good file k e h l p f = record { least = l; fits = p; around = f; reads = λ r. refl; names = refl; high = h }

pick_held : (file ns : List (List ℕ)) (p : List SymbolAt → List SymbolAt) (c : Bool) (x y : ex.Held) → GoodHeld file ns p x → GoodHeld file ns p y → GoodHeld file ns p (if c then x else y)
pick_held file ns p true x y g h = g
pick_held file ns p false x y g h = h

same_held : (file ns : List (List ℕ)) (p q : List SymbolAt → List SymbolAt) (x : ex.Held) → ((r : List SymbolAt) → p r ≡ q r) → GoodHeld file ns p x → GoodHeld file ns q x
same_held file ns p q x e g = record { least = g.least; fits = g.fits; around = g.around; reads = λ r. g.reads r ∙ e r; names = g.names; high = g.high }

pub fold_good : (file : List (List ℕ)) (k : Inner) (n : ℕ) (e : Part) → high k e.height ≤ 200 → least k ≤ e.level → FitPart (inner_names file k) e → FitInner file k → GoodHeld file (inner_names file k) (λ r. b.inner k (spell e.value r)) (ex.fold k n e)
fold_good file (inBind x k) n e h l p f =
    let q : high k (bound x e).height ≤ 200 = subst (λ m. high k m ≤ 200) (sym (bound_height x e)) h in
    let m = made (inner_names file k) (least k) x e (least_le k) f.0 l p (le_trans (high_ge k (bound x e).height) q) in
    pick_held file (inner_names file k) _ (leb n (bind_level x)) _ _
    (same_held file (inner_names file k) _ _ _ (λ r. ap (b.inner k) (m.spells r)) (fold_good file k n (bound x e) q m.least m.fits f.1))
    (held_good file (inBind x k) e h l p f)
fold_good file (inBase x) n e h l p f = held_good file (inBase x) e h l p f
fold_good file (inOpen x k) n e h l p f = held_good file (inOpen x k) e h l p f
fold_good file (inConstant w s y es c z at a) n e h l p f = held_good file (inConstant w s y es c z at a) e h l p f
