-- The cells of a layout that stand for elements of objects.
use Rattle.std.proofs.Common.{◌≡◌, ◌∙◌, ap, sym, subst, refl, ℕ, zero, suc, ◌<◌, ◌+◌, List, [], ◌∷◌, ◌++◌, length, Bool, true, false, ◌⊎◌, inl, inr, arith}
use Rattle.std.specs.Prelude.{Some, None, slice_get}
use Rattle.lv_base.specs.declared.kind.Model.{Model}
use Rattle.lv_base.specs.Integers.{width_of}
use Rattle.c_typed.specs.declared.tree.Object.{Object}
use Rattle.slot_code.specs.declared.flat.Instruction.{Instruction}
use Rattle.c_graph.specs.declared.graph.Cell.{Cell}
use Rattle.c_graph.specs.declared.graph.Origin.{Origin}
use Rattle.c_graph.specs.declared.graph.Origin.TheVariants.{Element, Saved}
use Rattle.code_layout.specs.Reading.{marks_behind}
use Rattle.code_layout.specs.Layout.{elements_of, cell_of, element_cells, object_cells, firsts_from, slot_cells, drawn_cells, index_cells, lay_of, widths_behind, keeps_some}
use Rattle.code_layout.proofs.Adding.{length-element_cells}
use Rattle.code_moves.specs.Setting.{Setting}
use Rattle.cfg_build.specs.Graphs.{program_setting, program_code}
use Rattle.witness_visit_laws.specs.Visited.{IsStanding, CellsStand}
use Rattle.witness_visit_laws.specs.Laws.{InlinedCellsStand}

get-append : {A : Type 0} (xs ys : List A) (c : ℕ) (v : A) → slice_get (xs ++ ys) c ≡ Some v → (slice_get xs c ≡ Some v) ⊎ ((i : ℕ) × (c ≡ length xs + i) × (slice_get ys i ≡ Some v))
get-append [] ys c v e = inr (c, omega arith, e)
get-append (x ∷ xs) ys zero v e = inl e
get-append {A} (x ∷ xs) ys (suc c) v e = go (get-append xs ys c v e)
  where
    go : (slice_get xs c ≡ Some v) ⊎ ((i : ℕ) × (c ≡ length xs + i) × (slice_get ys i ≡ Some v)) → (slice_get xs c ≡ Some v) ⊎ ((i : ℕ) × (suc c ≡ suc (length xs) + i) × (slice_get ys i ≡ Some v))
    go (inl f) = inl f
    go (inr (i, f, g)) = inr (i, omega (arith, f), g)

one-there : {A : Type 0} (x v : A) (i : ℕ) → slice_get (x ∷ []) i ≡ Some v → (i ≡ 0) × (v ≡ x)
one-there x v zero e = (refl, cc)
one-there x v (suc i) e = absurd cc

-- ---- Objects

element-there : (w number n c : ℕ) (cell : Cell) → slice_get (element_cells w number n) c ≡ Some cell → (c < n) × (cell ≡ cell_of w (Element number c))
element-there w number zero c cell e = absurd cc
element-there w number (suc n) c cell e = go (λ f. element-there w number n c cell f) (get-append (element_cells w number n) (cell_of w (Element number n) ∷ []) c cell e)
  where
    go : (slice_get (element_cells w number n) c ≡ Some cell → (c < n) × (cell ≡ cell_of w (Element number c)))
        → (slice_get (element_cells w number n) c ≡ Some cell) ⊎ ((i : ℕ) × (c ≡ length (element_cells w number n) + i) × (slice_get (cell_of w (Element number n) ∷ []) i ≡ Some cell)) →
        (c < suc n) × (cell ≡ cell_of w (Element number c))
    go before (inl f) = let r = before f in (omega (arith, r.0), r.1)
    go before (inr (i, f, g)) =
        let r = one-there (cell_of w (Element number n)) cell i g in
        let same : n ≡ c = omega (arith, f, r.0, length-element_cells w number n) in
        (omega (arith, same), r.1 ∙ ap (λ (k : ℕ). cell_of w (Element number k)) same)

record Stands (model : Model) (number first : ℕ) (os : List Object) (c : ℕ) (cell : Cell) : Type 0 where
  place : ℕ
  index : ℕ
  begin : ℕ
  told : Object
  known : slice_get os place ≡ Some told
  begins : slice_get (firsts_from first os) place ≡ Some begin
  origin : cell.origin ≡ Element (number + place) index
  within : index < elements_of told
  at : first + c ≡ begin + index
  wide : cell.width ≡ width_of told.kind model

object-there : (model : Model) (number first : ℕ) (os : List Object) (c : ℕ) (cell : Cell) → slice_get (object_cells model number os) c ≡ Some cell → Stands model number first os c cell
object-there model number first [] c cell e = absurd cc
object-there model number first (o ∷ os) c cell e = go (λ i f. object-there model (suc number) (first + elements_of o) os i cell f) (get-append (element_cells (width_of o.kind model) number (elements_of o)) (object_cells model (suc number) os) c cell e)
  where
    go : ((i : ℕ) → slice_get (object_cells model (suc number) os) i ≡ Some cell → Stands model (suc number) (first + elements_of o) os i cell)
        → (slice_get (element_cells (width_of o.kind model) number (elements_of o)) c ≡ Some cell)
        ⊎ ((i : ℕ) × (c ≡ length (element_cells (width_of o.kind model) number (elements_of o)) + i) × (slice_get (object_cells model (suc number) os) i ≡ Some cell)) → Stands model number first (o ∷ os) c cell
    go behind (inl f) =
        let r = element-there (width_of o.kind model) number (elements_of o) c cell f in
        let none : number ≡ number + 0 = omega arith in
        record {
          place = 0;
          index = c;
          begin = first;
          told = o;
          known = refl;
          begins = refl;
          origin = ap (λ (x : Cell). x.origin) r.1 ∙ ap (λ (n : ℕ). Element n c) none;
          within = r.0;
          at = refl;
          wide = ap (λ (x : Cell). x.width) r.1;
        }
    go behind (inr (i, f, g)) =
        let r = behind i g in
        let next : suc number + r.place ≡ number + suc r.place = omega arith in
        record {
          place = suc r.place;
          index = r.index;
          begin = r.begin;
          told = r.told;
          known = r.known;
          begins = r.begins;
          origin = r.origin ∙ ap (λ (n : ℕ). Element n r.index) next;
          within = r.within;
          at = omega (arith, f, r.at, length-element_cells (width_of o.kind model) number (elements_of o));
          wide = r.wide;
        }

-- ---- Cells of no object

saved-slot : (read : List Bool) (i : ℕ) (cell : Cell) → slice_get (slot_cells read) i ≡ Some cell → cell.origin ≡ Saved
saved-slot [] i cell e = absurd cc
saved-slot (true ∷ read) zero cell e = let same : cell_of 64 Saved ≡ cell = cc in ap (λ (x : Cell). x.origin) (sym same)
saved-slot (true ∷ read) (suc i) cell e = saved-slot read i cell e
saved-slot (false ∷ read) i cell e = saved-slot read i cell e

saved-drawn : (ws : List ℕ) (i : ℕ) (cell : Cell) → slice_get (drawn_cells ws) i ≡ Some cell → cell.origin ≡ Saved
saved-drawn [] i cell e = absurd cc
saved-drawn (w ∷ ws) zero cell e = let same : cell_of w Saved ≡ cell = cc in ap (λ (x : Cell). x.origin) (sym same)
saved-drawn (w ∷ ws) (suc i) cell e = saved-drawn ws i cell e

saved-index : (kept : Bool) (i : ℕ) (cell : Cell) → slice_get (index_cells kept) i ≡ Some cell → cell.origin ≡ Saved
saved-index true i cell e = let r = one-there (cell_of 64 Saved) cell i e in ap (λ (x : Cell). x.origin) r.1
saved-index false i cell e = absurd cc

not-saved : (o : Origin) (object element : ℕ) → o ≡ Element object element → o ≡ Saved → ⊥
not-saved o object element e f = cc

element-same : (a b c d : ℕ) → Element a b ≡ Element c d → (a ≡ c) × (b ≡ d)
element-same a b c d e = (cc, cc)

-- ---- Layouts

module _ (objects : List Object) (model : Model) (read : List Bool) (widths : List ℕ) (kept : Bool) where
  abbrev setting : Setting
  setting = record { objects = objects; model = model; lay = lay_of model objects read widths kept }

  abbrev elements : List Cell
  elements = object_cells model 0 objects

  from-object : (c object element : ℕ) (cell : Cell) → slice_get elements c ≡ Some cell → cell.origin ≡ Element object element → IsStanding setting c cell object element
  from-object c object element cell e from =
      let r = object-there model 0 0 objects c cell e in
      let none : 0 + r.place ≡ r.place = omega arith in
      let same = element-same (0 + r.place) r.index object element (sym r.origin ∙ from) in
      let place : r.place ≡ object = sym none ∙ same.0 in
      record {
        told = r.told;
        first = r.begin;
        known = ap (slice_get objects) (sym place) ∙ r.known;
        begins = ap (slice_get (firsts_from 0 objects)) (sym place) ∙ r.begins;
        within = subst (λ (k : ℕ). k < elements_of r.told) same.1 r.within;
        place = omega (arith, r.at, same.1);
        wide = r.wide;
      }

  from-slots : (c object element : ℕ) (cell : Cell) → cell.origin ≡ Element object element
      → (slice_get elements c ≡ Some cell) ⊎ ((i : ℕ) × (c ≡ length elements + i) × (slice_get (slot_cells read) i ≡ Some cell)) → IsStanding setting c cell object element
  from-slots c object element cell from (inl e) = from-object c object element cell e from
  from-slots c object element cell from (inr (i, f, g)) = absurd (not-saved cell.origin object element from (saved-slot read i cell g))

  from-drawn : (c object element : ℕ) (cell : Cell) → cell.origin ≡ Element object element
      → (slice_get (elements ++ slot_cells read) c ≡ Some cell) ⊎ ((i : ℕ) × (c ≡ length (elements ++ slot_cells read) + i) × (slice_get (drawn_cells widths) i ≡ Some cell))
      → IsStanding setting c cell object element
  from-drawn c object element cell from (inl e) = from-slots c object element cell from (get-append elements (slot_cells read) c cell e)
  from-drawn c object element cell from (inr (i, f, g)) = absurd (not-saved cell.origin object element from (saved-drawn widths i cell g))

  from-index : (c object element : ℕ) (cell : Cell) → cell.origin ≡ Element object element
      → (slice_get ((elements ++ slot_cells read) ++ drawn_cells widths) c ≡ Some cell)
      ⊎ ((i : ℕ) × (c ≡ length ((elements ++ slot_cells read) ++ drawn_cells widths) + i) × (slice_get (index_cells kept) i ≡ Some cell)) → IsStanding setting c cell object element
  from-index c object element cell from (inl e) = from-drawn c object element cell from (get-append (elements ++ slot_cells read) (drawn_cells widths) c cell e)
  from-index c object element cell from (inr (i, f, g)) = absurd (not-saved cell.origin object element from (saved-index kept i cell g))

  layout-stands : CellsStand setting setting.lay.cells
  layout-stands c object element cell e from = from-index c object element cell from (get-append ((elements ++ slot_cells read) ++ drawn_cells widths) (index_cells kept) c cell e)

pub inlined-cells-stand : InlinedCellsStand
inlined-cells-stand t order p g follows inlines =
    let s : Setting = program_setting t order in
    let stand : CellsStand s s.lay.cells = layout-stands t.objects t.model _ _ _ in
    subst (λ (cells : List Cell). CellsStand s cells) (sym (inlines.cells ∙ follows.cells)) stand
