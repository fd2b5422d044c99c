-- Slots and values that are read off a store, so that the store mirrors them.
use Rattle.std.proofs.Common.{◌≡◌, ℕ, zero, suc, ◌+◌, ◌<◌, ◌^◌, refl, sym, ap, ◌∙◌, subst, arith, map, List, [], ◌∷◌, length, Option, None, Some, slice_get, slice_index, slice_index_or, ℤ, pos}
use Rattle.std.proofs.Math.Nat.{mod-eq_of_lt}
use Rattle.std.proofs.lemmas.Int.{ints}
use Rattle.std.proofs.lemmas.Option.{same_Some, none-some}
use Rattle.lv_base.specs.declared.kind.Kind.{Kind}
use Rattle.lv_base.specs.declared.kind.Model.{Model}
use Rattle.lv_base.specs.Integers.{InAny, residue, width_of, wrapped}
use Rattle.c_typed.specs.declared.tree.Object.{Object}
use Rattle.c_graph.specs.Shape.{widths_of}
use Rattle.c_graph.specs.Steps.{IsWhole}
use Rattle.slot_code.specs.Slots.{get}
use Rattle.typed_range_laws.proofs.Bounds.{wrapped_in_range}
use Rattle.word_laws.proofs.Wrapping.{wrapped_back}
use Rattle.code_layout.specs.Layout.{elements_of, slot_cell}
use Rattle.code_moves.specs.Setting.{Setting}
use Rattle.code_moves.specs.Values.{held}
use Rattle.code_move_laws.specs.Mirrors.{IsLaid, row, element_of, Holds, Mirrors}
use Rattle.code_move_laws.proofs.Elements.{begins}
use Rattle.code_move_laws.proofs.Stores.{element-wide, element-within}

-- ---- Values

-- the values of a kind that so many cells hold, from one on
abbrev pub read_row : Kind → Model → List ℕ → ℕ → ℕ → List ℤ
read_row kind model store first zero = []
read_row kind model store first (suc n) = wrapped kind model (slice_index store first) ∷ read_row kind model store (first + 1) n

-- those of all objects, which begin at these cells
abbrev pub read_rows : Model → List ℕ → List Object → List ℕ → List (List ℤ)
read_rows model store [] firsts = []
read_rows model store (o ∷ os) [] = read_row o.kind model store 0 (elements_of o) ∷ read_rows model store os []
read_rows model store (o ∷ os) (first ∷ firsts) = read_row o.kind model store first (elements_of o) ∷ read_rows model store os firsts

length-row : (kind : Kind) (model : Model) (store : List ℕ) (first n : ℕ) → length (read_row kind model store first n) ≡ n
length-row kind model store first zero = refl
length-row kind model store first (suc n) = ap suc (length-row kind model store (first + 1) n)

value-in-row : (kind : Kind) (model : Model) (store : List ℕ) (first n j : ℕ) → j < n → slice_index_or (read_row kind model store first n) j (pos 0) ≡ wrapped kind model (slice_index store (first + j))
value-in-row kind model store first zero j lt = absurd (omega (arith, lt))
value-in-row kind model store first (suc n) zero lt = let e : first ≡ first + 0 = omega arith in ap (λ (c : ℕ). wrapped kind model (slice_index store c)) e
value-in-row kind model store first (suc n) (suc j) lt =
    let e : first + 1 + j ≡ first + suc j = omega arith in
    value-in-row kind model store (first + 1) n j (omega (arith, lt)) ∙ ap (λ (c : ℕ). wrapped kind model (slice_index store c)) e

length-rows : (model : Model) (store : List ℕ) (os : List Object) (firsts : List ℕ) → length (read_rows model store os firsts) ≡ length os
length-rows model store [] firsts = refl
length-rows model store (o ∷ os) [] = ap suc (length-rows model store os [])
length-rows model store (o ∷ os) (first ∷ firsts) = ap suc (length-rows model store os firsts)

row-there : (model : Model) (store : List ℕ) (os : List Object) (firsts : List ℕ) (k first : ℕ) (o : Object) → slice_get os k ≡ Some o → slice_get firsts k ≡ Some first → row (read_rows model store os firsts) k ≡ read_row o.kind model store first (elements_of o)
row-there model store [] firsts k first o e f = absurd (none-some o e)
row-there model store (x ∷ os) [] k first o e f = absurd (none-some first f)
row-there model store (x ∷ os) (c ∷ firsts) zero first o e f =
    ap (λ (z : Object). read_row z.kind model store c (elements_of z)) (same_Some x o e) ∙ ap (λ (z : ℕ). read_row o.kind model store z (elements_of o)) (same_Some c first f)
row-there model store (x ∷ os) (c ∷ firsts) (suc k) first o e f = row-there model store os firsts k first o e f

-- ---- Slots

abbrev pub read_slots : List (Option ℕ) → List ℕ → List ℤ
read_slots cells store = map (λ o. pos (held store o)) cells

slot-there : (cells : List (Option ℕ)) (store : List ℕ) (slot : ℕ) → get (read_slots cells store) slot ≡ pos (held store (slice_index_or cells slot None))
slot-there [] store slot = refl
slot-there (c ∷ cells) store zero = refl
slot-there (c ∷ cells) store (suc slot) = slot-there cells store slot

number-any : (n : ℕ) → n < 2 ^ 64 → InAny (pos n)
number-any n lt = (omega (arith, ints), omega (arith, ints, lt))

-- ---- The store mirrors what is read off it

module _ (g : Setting) (laid : IsLaid g) (store : List ℕ) (whole : IsWhole (widths_of g.lay.cells) store) where
  abbrev slots : List ℤ
  slots = read_slots g.lay.slots store

  abbrev values : List (List ℤ)
  values = read_rows g.model store g.objects g.lay.firsts

  slot-below : (cell slot : ℕ) → slot_cell g.lay slot ≡ Some cell → slice_index store cell < 2 ^ 64
  slot-below cell slot e =
      let wide = laid.lies.slots slot cell e in
      subst (λ (w : ℕ). slice_index store cell < 2 ^ w) wide.1 (whole.fits cell wide.0)

  held-any : (slot : ℕ) (o : Option ℕ) → slot_cell g.lay slot ≡ o → InAny (pos (held store o))
  held-any slot None e = number-any 0 (omega arith)
  held-any slot (Some cell) e = number-any (slice_index store cell) (slot-below cell slot e)

  says : (slot cell : ℕ) → slot_cell g.lay slot ≡ Some cell → slice_index store cell ≡ residue 64 (get slots slot)
  says slot cell e =
      let is : get slots slot ≡ pos (slice_index store cell) = slot-there g.lay.slots store slot ∙ ap (λ (o : Option ℕ). pos (held store o)) e in
      sym (ap (residue 64) is ∙ mod-eq_of_lt (slot-below cell slot e))

  rows-are : (k : ℕ) (o : Object) → slice_get g.objects k ≡ Some o → length (row values k) ≡ elements_of o
  rows-are k o e =
      let b = begins g k o laid e in
      ap length (row-there g.model store g.objects g.lay.firsts k b.0 o e b.1) ∙ length-row o.kind g.model store b.0 (elements_of o)

  elements-are : (k first j : ℕ) (o : Object) → slice_get g.objects k ≡ Some o → slice_get g.lay.firsts k ≡ Some first → j < elements_of o → Holds o.kind g.model (slice_index store (first + j)) (element_of values k j)
  elements-are k first j o e b lt =
      let is : element_of values k j ≡ wrapped o.kind g.model (slice_index store (first + j)) =
      ap (λ (r : List ℤ). slice_index_or r j (pos 0)) (row-there g.model store g.objects g.lay.firsts k first o e b) ∙ value-in-row o.kind g.model store first (elements_of o) j lt in
      let there = element-within g laid k first j o store e b lt whole in
      let below : slice_index store (first + j) < 2 ^ width_of o.kind g.model =
      subst (λ (w : ℕ). slice_index store (first + j) < 2 ^ w) (element-wide g laid k first j o e b lt) (whole.fits (first + j) (omega (arith, there, whole.length))) in
      subst (λ (v : ℤ). Holds o.kind g.model (slice_index store (first + j)) v) (sym is) (sym (wrapped_back o.kind g.model (slice_index store (first + j)) below), wrapped_in_range o.kind g.model (slice_index store (first + j)) below)

  pub mirrored : Mirrors g (read_slots g.lay.slots store) (read_rows g.model store g.objects g.lay.firsts) store
  mirrored = record {
    whole = whole;
    any = λ slot. subst InAny (sym (slot-there g.lay.slots store slot)) (held-any slot (slot_cell g.lay slot) refl);
    slot = says;
    objects = length-rows g.model store g.objects g.lay.firsts;
    rows = rows-are;
    elements = elements-are;
  }
