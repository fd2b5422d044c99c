-- Elements lie first, then slots, then draws, then the index; and within each of these parts everything has a cell of its own.
use Rattle.std.proofs.Common.{◌≡◌, ℕ, zero, suc, ◌+◌, ◌<◌, ◌≤◌, Bool, true, false, List, [], ◌∷◌, ◌++◌, length, refl, sym, ap, ◌∙◌, subst, arith, Some, None, slice_get, replicate, length-append}
use Rattle.std.specs.Prelude.{slice_index_or, nat_eq, if◌then◌else◌}
use Rattle.std.proofs.lemmas.Bool.{eqb-true}
use Rattle.std.proofs.lemmas.Option.{same_Some, none-some}
use Rattle.lv_base.specs.declared.kind.Model.{Model}
use Rattle.lv_base.specs.Integers.{width_of}
use Rattle.c_typed.specs.declared.tree.Object.{Object}
use Rattle.c_graph.specs.declared.graph.Cell.{Cell}
use Rattle.code_layout.specs.Reading.{marks_behind}
use Rattle.code_layout.specs.Layout.{Lay, elements_of, element_cells, object_cells, firsts_from, slot_cells, slots_from, drawn_cells, drawn_from, drawn_in, index_at, widths_behind, keeps_some, lay_of}
use Rattle.code_layout.proofs.Adding.{length-element_cells}
use Rattle.layout_laws.specs.Differ.{Thing, OfElement, OfSlot, OfDraws, OfIndex, IsElement, IsCellOf, Differ, CellsDiffer}

-- ---- Elements

element-low : (os : List Object) (base k first : ℕ) → slice_get (firsts_from base os) k ≡ Some first → base ≤ first
element-low [] base k first f = absurd (none-some first f)
element-low (x ∷ os) base zero first f = omega (arith, same_Some base first f)
element-low (x ∷ os) base (suc k) first f = omega (arith, element-low os (base + elements_of x) k first f)

element-high : (model : Model) (number : ℕ) (os : List Object) (base k first j : ℕ) (o : Object) → slice_get os k ≡ Some o → slice_get (firsts_from base os) k ≡ Some first → j < elements_of o
    → first + j < base + length (object_cells model number os)
element-high model number [] base k first j o e f lt = absurd (none-some o e)
element-high model number (x ∷ os) base zero first j o e f lt =
    let within : j < elements_of x = subst (λ (z : Object). j < elements_of z) (sym (same_Some x o e)) lt in
    let n : length (object_cells model number (x ∷ os)) ≡ length (element_cells (width_of x.kind model) number (elements_of x)) + length (object_cells model (suc number) os) =
    length-append (element_cells (width_of x.kind model) number (elements_of x)) (object_cells model (suc number) os) in
    omega (arith, n, length-element_cells (width_of x.kind model) number (elements_of x), same_Some base first f, within)
element-high model number (x ∷ os) base (suc k) first j o e f lt =
    let n : length (object_cells model number (x ∷ os)) ≡ length (element_cells (width_of x.kind model) number (elements_of x)) + length (object_cells model (suc number) os) =
    length-append (element_cells (width_of x.kind model) number (elements_of x)) (object_cells model (suc number) os) in
    omega (arith, n, length-element_cells (width_of x.kind model) number (elements_of x), element-high model (suc number) os (base + elements_of x) k first j o e f lt)

element-same : (os : List Object) (base k n first other i j : ℕ) (o p : Object) → slice_get os k ≡ Some o → slice_get (firsts_from base os) k ≡ Some first → i < elements_of o
    → slice_get os n ≡ Some p → slice_get (firsts_from base os) n ≡ Some other → j < elements_of p → first + i ≡ other + j → (k ≡ n) × (i ≡ j)
element-same [] base k n first other i j o p e f lt g h lu same = absurd (none-some o e)
element-same (x ∷ os) base zero zero first other i j o p e f lt g h lu same = (refl, omega (arith, same_Some base first f, same_Some base other h, same))
element-same (x ∷ os) base zero (suc n) first other i j o p e f lt g h lu same =
    let within : i < elements_of x = subst (λ (z : Object). i < elements_of z) (sym (same_Some x o e)) lt in
    absurd (omega (arith, same_Some base first f, element-low os (base + elements_of x) n other h, within, same))
element-same (x ∷ os) base (suc k) zero first other i j o p e f lt g h lu same =
    let within : j < elements_of x = subst (λ (z : Object). j < elements_of z) (sym (same_Some x p g)) lu in
    absurd (omega (arith, same_Some base other h, element-low os (base + elements_of x) k first f, within, same))
element-same (x ∷ os) base (suc k) (suc n) first other i j o p e f lt g h lu same =
    let r = element-same os (base + elements_of x) k n first other i j o p e f lt g h lu same in
    (ap suc r.0, r.1)

-- ---- Slots

slot-low : (read : List Bool) (base s c : ℕ) → slice_index_or (slots_from base read) s None ≡ Some c → base ≤ c
slot-low [] base s c e = absurd (none-some c e)
slot-low (true ∷ read) base zero c e = omega (arith, same_Some base c e)
slot-low (true ∷ read) base (suc s) c e = omega (arith, slot-low read (suc base) s c e)
slot-low (false ∷ read) base zero c e = absurd (none-some c e)
slot-low (false ∷ read) base (suc s) c e = slot-low read base s c e

slot-high : (read : List Bool) (base s c : ℕ) → slice_index_or (slots_from base read) s None ≡ Some c → c < base + length (slot_cells read)
slot-high [] base s c e = absurd (none-some c e)
slot-high (true ∷ read) base zero c e = omega (arith, same_Some base c e)
slot-high (true ∷ read) base (suc s) c e = omega (arith, slot-high read (suc base) s c e)
slot-high (false ∷ read) base zero c e = absurd (none-some c e)
slot-high (false ∷ read) base (suc s) c e = slot-high read base s c e

slot-same : (read : List Bool) (base s t c : ℕ) → slice_index_or (slots_from base read) s None ≡ Some c → slice_index_or (slots_from base read) t None ≡ Some c → s ≡ t
slot-same [] base s t c e f = absurd (none-some c e)
slot-same (true ∷ read) base zero zero c e f = refl
slot-same (true ∷ read) base zero (suc t) c e f = absurd (omega (arith, same_Some base c e, slot-low read (suc base) t c f))
slot-same (true ∷ read) base (suc s) zero c e f = absurd (omega (arith, same_Some base c f, slot-low read (suc base) s c e))
slot-same (true ∷ read) base (suc s) (suc t) c e f = ap suc (slot-same read (suc base) s t c e f)
slot-same (false ∷ read) base zero t c e f = absurd (none-some c e)
slot-same (false ∷ read) base (suc s) zero c e f = absurd (none-some c f)
slot-same (false ∷ read) base (suc s) (suc t) c e f = ap suc (slot-same read base s t c e f)

-- ---- Draws

-- the first cell of a width, or one behind it
data Drawn (x base w c : ℕ) (ws : List ℕ) : Type 0 where
  here : x ≡ w → base ≡ c → Drawn x base w c ws
  behind : drawn_in (drawn_from (suc base) ws) w ≡ Some c → Drawn x base w c ws

drawn-by : (b : Bool) (x base w c : ℕ) (ws : List ℕ) → nat_eq x w ≡ b → (if b then Some base else drawn_in (drawn_from (suc base) ws) w) ≡ Some c → Drawn x base w c ws
drawn-by true x base w c ws q e = here (eqb-true x w q) (same_Some base c e)
drawn-by false x base w c ws q e = behind e

drawn : (x base w c : ℕ) (ws : List ℕ) → drawn_in (drawn_from base (x ∷ ws)) w ≡ Some c → Drawn x base w c ws
drawn x base w c ws e = drawn-by (nat_eq x w) x base w c ws refl e

draw-low : (ws : List ℕ) (base w c : ℕ) → drawn_in (drawn_from base ws) w ≡ Some c → base ≤ c
draw-low [] base w c e = absurd (none-some c e)
draw-low (x ∷ ws) base w c e = elim (drawn x base w c ws e) [ here q b ↦ omega (arith, b) | behind f ↦ omega (arith, draw-low ws (suc base) w c f) ]

draw-high : (ws : List ℕ) (base w c : ℕ) → drawn_in (drawn_from base ws) w ≡ Some c → c < base + length (drawn_cells ws)
draw-high [] base w c e = absurd (none-some c e)
draw-high (x ∷ ws) base w c e = elim (drawn x base w c ws e) [ here q b ↦ omega (arith, b) | behind f ↦ omega (arith, draw-high ws (suc base) w c f) ]

draw-same : (ws : List ℕ) (base w v c : ℕ) → drawn_in (drawn_from base ws) w ≡ Some c → drawn_in (drawn_from base ws) v ≡ Some c → w ≡ v
draw-same [] base w v c e f = absurd (none-some c e)
draw-same (x ∷ ws) base w v c e f = elim (drawn x base w c ws e) [
  | here q b ↦ elim (drawn x base v c ws f) [ here r d ↦ sym q ∙ r | behind h ↦ absurd (omega (arith, b, draw-low ws (suc base) v c h)) ]
  | behind g ↦ elim (drawn x base v c ws f) [ here r d ↦ absurd (omega (arith, d, draw-low ws (suc base) w c g)) | behind h ↦ draw-same ws (suc base) w v c g h ]
]

-- ---- The index

index-is : (kept : Bool) (base c : ℕ) → index_at base kept ≡ Some c → base ≡ c
index-is true base c e = same_Some base c e
index-is false base c e = absurd (none-some c e)

-- ---- All of them

module _ (model : Model) (objects : List Object) (read : List Bool) (ws : List ℕ) (kept : Bool) where
  abbrev es : List Cell
  es = object_cells model 0 objects

  abbrev ss : List Cell
  ss = slot_cells read

  abbrev ds : List Cell
  ds = drawn_cells ws

  abbrev l : Lay
  l = lay_of model objects read ws kept

  slots-end : length (es ++ ss) ≡ length es + length ss
  slots-end = length-append es ss

  draws-end : length (es ++ ss ++ ds) ≡ length es + length ss + length ds
  draws-end = let a : length (es ++ ss ++ ds) ≡ length (es ++ ss) + length ds = length-append (es ++ ss) ds in omega (arith, a, slots-end)

  -- the part in which a thing has its cell
  abbrev IsIn : Thing → ℕ → Type 0
  IsIn (OfElement o j) c = c < length es
  IsIn (OfSlot s) c = (length es ≤ c) × (c < length es + length ss)
  IsIn (OfDraws w) c = (length es + length ss ≤ c) × (c < length es + length ss + length ds)
  IsIn OfIndex c = c ≡ length es + length ss + length ds

  lies-in : (x : Thing) (c : ℕ) → IsCellOf objects l x c → IsIn x c
  lies-in (OfElement o j) c h = omega (arith, element-high model 0 objects 0 o h.first j h.told h.there h.begins h.within, h.is)
  lies-in (OfSlot s) c h = (slot-low read (length es) s c h, slot-high read (length es) s c h)
  lies-in (OfDraws w) c h =
      let low : length (es ++ ss) ≤ c = draw-low ws (length (es ++ ss)) w c h in
      let high : c < length (es ++ ss) + length ds = draw-high ws (length (es ++ ss)) w c h in
      (omega (arith, low, slots-end), omega (arith, high, slots-end))
  lies-in OfIndex c h = let e : length (es ++ ss ++ ds) ≡ c = index-is kept (length (es ++ ss ++ ds)) c h in omega (arith, e, draws-end)

  same-element : (o j p i c : ℕ) → IsElement objects l o j c → IsElement objects l p i c → OfElement o j ≡ OfElement p i
  same-element o j p i c h k =
      let r = element-same objects 0 o p h.first k.first j i h.told k.told h.there h.begins h.within k.there k.begins k.within (sym h.is ∙ k.is) in
      ap (λ (n : ℕ). OfElement n j) r.0 ∙ ap (OfElement p) r.1

  alike : (x y : Thing) (c : ℕ) → IsIn x c → IsIn y c → IsCellOf objects l x c → IsCellOf objects l y c → x ≡ y
  alike (OfElement o j) (OfElement p i) c a b h k = same-element o j p i c h k
  alike (OfElement o j) (OfSlot t) c a b h k = absurd (omega (arith, a, b.0))
  alike (OfElement o j) (OfDraws v) c a b h k = absurd (omega (arith, a, b.0))
  alike (OfElement o j) OfIndex c a b h k = absurd (omega (arith, a, b))
  alike (OfSlot s) (OfElement p i) c a b h k = absurd (omega (arith, a.0, b))
  alike (OfSlot s) (OfSlot t) c a b h k = ap OfSlot (slot-same read (length es) s t c h k)
  alike (OfSlot s) (OfDraws v) c a b h k = absurd (omega (arith, a.1, b.0))
  alike (OfSlot s) OfIndex c a b h k = absurd (omega (arith, a.1, b))
  alike (OfDraws w) (OfElement p i) c a b h k = absurd (omega (arith, a.0, b))
  alike (OfDraws w) (OfSlot t) c a b h k = absurd (omega (arith, a.0, b.1))
  alike (OfDraws w) (OfDraws v) c a b h k = ap OfDraws (draw-same ws (length (es ++ ss)) w v c h k)
  alike (OfDraws w) OfIndex c a b h k = absurd (omega (arith, a.1, b))
  alike OfIndex (OfElement p i) c a b h k = absurd (omega (arith, a, b))
  alike OfIndex (OfSlot t) c a b h k = absurd (omega (arith, a, b.1))
  alike OfIndex (OfDraws v) c a b h k = absurd (omega (arith, a, b.1))
  alike OfIndex OfIndex c a b h k = refl

  differ : Differ objects l
  differ x y c h k = alike x y c (lies-in x c h) (lies-in y c k) h k

pub cells_differ : CellsDiffer
cells_differ objects model code slots = differ model objects (marks_behind objects (replicate slots false) code) (widths_behind model [] code) (keeps_some objects code)
