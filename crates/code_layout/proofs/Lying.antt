-- The cells of a layout, part by part.
use Rattle.std.proofs.Common.{◌≡◌, ℕ, zero, suc, ◌+◌, ◌-◌, ◌<◌, ◌⊎◌, inl, inr, Bool, true, false, List, [], ◌∷◌, ◌++◌, length, refl, sym, ap, ◌∙◌, subst, arith, Option, Some, None, slice_get, replicate}
use Rattle.std.specs.Prelude.{slice_index_or, nat_eq, if◌then◌else◌}
use Rattle.std.proofs.lemmas.Bool.{eqb-true}
use Rattle.lv_base.specs.declared.kind.Model.{Model}
use Rattle.lv_base.specs.Integers.{width_of}
use Rattle.c_typed.specs.declared.tree.Object.{Object}
use Rattle.c_graph.specs.declared.graph.Cell.{Cell}
use Rattle.c_graph.specs.declared.graph.Origin.TheVariants.{Element}
use Rattle.c_graph.specs.Shape.{widths_of}
use Rattle.code_layout.specs.Reading.{marks_behind}
use Rattle.code_layout.specs.Layout.{elements_of, cell_of, element_cells, object_cells, firsts_from, slot_cells, slots_from, drawn_cells, drawn_from, drawn_in, index_cells, index_at, widths_behind, keeps_some, lay_of}
use Rattle.code_layout.specs.Lies.{IsWide, Lies, LayoutsLie}
use Rattle.code_layout.proofs.Adding.{length-element_cells}

-- a cell of this width stands there
abbrev At : List Cell → ℕ → ℕ → Type 0
At [] c w = ⊥
At (x ∷ xs) zero w = x.width ≡ w
At (x ∷ xs) (suc c) w = At xs c w

at-left : (xs ys : List Cell) (c w : ℕ) → At xs c w → At (xs ++ ys) c w
at-left [] ys c w h = absurd h
at-left (x ∷ xs) ys zero w h = h
at-left (x ∷ xs) ys (suc c) w h = at-left xs ys c w h

at-right : (xs ys : List Cell) (k c w : ℕ) → k ≡ length xs + c → At ys c w → At (xs ++ ys) k w
at-right [] ys k c w e h = let q : k ≡ c = omega (arith, e) in subst (λ (n : ℕ). At ys n w) (sym q) h
at-right (x ∷ xs) ys zero c w e h = absurd (omega (arith, e))
at-right (x ∷ xs) ys (suc k) c w e h = at-right xs ys k c w (omega (arith, e)) h

at-wide : (xs : List Cell) (c w : ℕ) → At xs c w → IsWide (widths_of xs) c w
at-wide [] c w h = absurd h
at-wide (x ∷ xs) zero w h = (omega arith, h)
at-wide (x ∷ xs) (suc c) w h = let r = at-wide xs c w h in (omega (arith, r.0), r.1)

below-or : (k n : ℕ) → k < suc n → (k < n) ⊎ (k ≡ n)
below-or zero zero lt = inr refl
below-or zero (suc n) lt = inl (omega arith)
below-or (suc k) zero lt = absurd (omega (arith, lt))
below-or (suc k) (suc n) lt = elim (below-or k n (omega (arith, lt))) [ inl h ↦ inl (omega (arith, h)) | inr e ↦ inr (ap suc e) ]

-- ---- Objects

elements-at : (w number n k : ℕ) → k < n → At (element_cells w number n) k w
elements-at w number zero k lt = absurd (omega (arith, lt))
elements-at w number (suc n) k lt = elim (below-or k n lt) [
  | inl h ↦ at-left (element_cells w number n) (cell_of w (Element number n) ∷ []) k w (elements-at w number n k h)
  | inr e ↦ at-right (element_cells w number n) (cell_of w (Element number n) ∷ []) k 0 w (omega (arith, e, length-element_cells w number n)) refl
]

-- an object's elements stand so many cells behind the first object's
record Stands (model : Model) (number : ℕ) (os : List Object) (base first : ℕ) (o : Object) : Type 0 where
  pub behind : ℕ
  pub is : first ≡ base + behind
  pub at : (j : ℕ) → j < elements_of o → At (object_cells model number os) (behind + j) (width_of o.kind model)

abbrev flag : (A : Type 0) → Option A → ℕ
flag A None = 0
flag A (Some x) = 1

none-is : (A : Type 0) (x : A) → Some x ≡ None → ⊥
none-is A x e = let n : ◌≡◌ {A = ℕ} 1 0 = ap (flag A) e in omega (arith, n)

some-is : {A : Type 0} (x y : A) → Some x ≡ Some y → x ≡ y
some-is x y e = ap (λ (o : Option _). elim o [ None ↦ x | Some z ↦ z ]) e

objects-at : (model : Model) (os : List Object) (number base k first : ℕ) (o : Object) → slice_get os k ≡ Some o → slice_get (firsts_from base os) k ≡ Some first → Stands model number os base first o
objects-at model [] number base k first o e f = absurd (none-is Object o (sym e))
objects-at model (x ∷ os) number base zero first o e f =
    let same : x ≡ o = some-is x o e in
    let is : base ≡ first = some-is base first f in
    record {
      behind = 0;
      is = omega (arith, is);
      at = λ j lt.
          let q : j ≡ 0 + j = omega arith in
          subst (λ (n : ℕ). At (object_cells model number (x ∷ os)) n (width_of o.kind model)) q
          (at-left (element_cells (width_of x.kind model) number (elements_of x)) (object_cells model (suc number) os) j (width_of o.kind model)
          (subst (λ (w : ℕ). At (element_cells (width_of x.kind model) number (elements_of x)) j w) (ap (λ (z : Object). width_of z.kind model) same)
          (elements-at (width_of x.kind model) number (elements_of x) j (subst (λ (z : Object). j < elements_of z) (sym same) lt))));
    }
objects-at model (x ∷ os) number base (suc k) first o e f =
    let h = objects-at model os (suc number) (base + elements_of x) k first o e f in
    record {
      behind = elements_of x + h.behind;
      is = omega (arith, h.is);
      at = λ j lt. at-right (element_cells (width_of x.kind model) number (elements_of x)) (object_cells model (suc number) os) (elements_of x + h.behind + j) (h.behind + j) (width_of o.kind model)
          (omega (arith, length-element_cells (width_of x.kind model) number (elements_of x))) (h.at j lt);
    }

-- ---- Slots, draws and the index

-- a cell of this width stands so many cells behind one
record Follows (cs : List Cell) (base c w : ℕ) : Type 0 where
  pub behind : ℕ
  pub is : c ≡ base + behind
  pub at : At cs behind w

slots-at : (read : List Bool) (base slot c : ℕ) → slice_index_or (slots_from base read) slot None ≡ Some c → Follows (slot_cells read) base c 64
slots-at [] base slot c e = absurd (none-is ℕ c (sym e))
slots-at (true ∷ read) base zero c e = record { behind = 0; is = omega (arith, some-is base c e); at = refl }
slots-at (true ∷ read) base (suc slot) c e = let h = slots-at read (suc base) slot c e in record { behind = suc h.behind; is = omega (arith, h.is); at = h.at }
slots-at (false ∷ read) base zero c e = absurd (none-is ℕ c (sym e))
slots-at (false ∷ read) base (suc slot) c e = slots-at read base slot c e

draws-more : (b : Bool) (x base w c : ℕ) (ws : List ℕ) → nat_eq x w ≡ b → ((drawn_in (drawn_from (suc base) ws) w ≡ Some c) → Follows (drawn_cells ws) (suc base) c w)
    → (if b then Some base else drawn_in (drawn_from (suc base) ws) w) ≡ Some c → Follows (drawn_cells (x ∷ ws)) base c w
draws-more true x base w c ws q h e = record { behind = 0; is = omega (arith, some-is base c e); at = eqb-true x w q }
draws-more false x base w c ws q h e = let r = h e in record { behind = suc r.behind; is = omega (arith, r.is); at = r.at }

draws-at : (ws : List ℕ) (base w c : ℕ) → drawn_in (drawn_from base ws) w ≡ Some c → Follows (drawn_cells ws) base c w
draws-at [] base w c e = absurd (none-is ℕ c (sym e))
draws-at (x ∷ ws) base w c e = draws-more (nat_eq x w) x base w c ws refl (draws-at ws (suc base) w c) e

index-stands : (kept : Bool) (base c : ℕ) → index_at base kept ≡ Some c → Follows (index_cells kept) base c 64
index-stands true base c e = record { behind = 0; is = omega (arith, some-is base c e); at = refl }
index-stands false base c e = absurd (none-is ℕ c (sym e))

-- ---- All of them

lies : (model : Model) (objects : List Object) (read : List Bool) (ws : List ℕ) (kept : Bool) → Lies model objects (lay_of model objects read ws kept) (widths_of (lay_of model objects read ws kept).cells)
lies model objects read ws kept =
    let es : List Cell = object_cells model 0 objects in
    let ss : List Cell = slot_cells read in
    let ds : List Cell = drawn_cells ws in
    let ks : List Cell = index_cells kept in
    record {
      elements = λ k first o e f.
          let h : Stands model 0 objects 0 first o = objects-at model objects 0 0 k first o e f in
          let at : (j : ℕ) → j < elements_of o → IsWide (widths_of (es ++ ss ++ ds ++ ks)) (first + j) (width_of o.kind model) =
          λ j lt. at-wide (es ++ ss ++ ds ++ ks) (first + j) (width_of o.kind model) (at-left (es ++ ss ++ ds) ks (first + j) _ (at-left (es ++ ss) ds (first + j) _ (at-left es ss (first + j) _
          (subst (λ (n : ℕ). At es n (width_of o.kind model)) (let q : h.behind + j ≡ first + j = omega (arith, h.is) in q) (h.at j lt))))) in
          let zero-is : first + 0 ≡ first = omega arith in
          let here : IsWide (widths_of (es ++ ss ++ ds ++ ks)) first (width_of o.kind model) = subst (λ (n : ℕ). IsWide (widths_of (es ++ ss ++ ds ++ ks)) n (width_of o.kind model)) zero-is (at 0 (omega arith)) in
          let last = at (elements_of o - 1) (omega arith) in
          ((omega arith, omega (arith, last.0), λ j lt. (at j lt).1 ∙ sym here.1), here.1);
      slots = λ slot c e.
          let h : Follows ss (length es) c 64 = slots-at read (length es) slot c e in
          at-wide (es ++ ss ++ ds ++ ks) c 64 (at-left (es ++ ss ++ ds) ks c 64 (at-left (es ++ ss) ds c 64 (at-right es ss c h.behind 64 h.is h.at)));
      draws = λ w c e.
          let h : Follows ds (length (es ++ ss)) c w = draws-at ws (length (es ++ ss)) w c e in
          at-wide (es ++ ss ++ ds ++ ks) c w (at-left (es ++ ss ++ ds) ks c w (at-right (es ++ ss) ds c h.behind w h.is h.at));
      index = λ c e.
          let h : Follows ks (length (es ++ ss ++ ds)) c 64 = index-stands kept (length (es ++ ss ++ ds)) c e in
          at-wide (es ++ ss ++ ds ++ ks) c 64 (at-right (es ++ ss ++ ds) ks c h.behind 64 h.is h.at);
    }

pub layouts_lie : LayoutsLie
layouts_lie objects model code slots = lies model objects (marks_behind objects (replicate slots false) code) (widths_behind model [] code) (keeps_some objects code)
