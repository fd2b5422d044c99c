-- A store of zeros mirrors a machine whose slots and objects hold 0.
use Rattle.std.proofs.Common.{◌≡◌, ℕ, zero, suc, ◌+◌, ◌<◌, ◌≤◌, ◌^◌, ◌⊎◌, inl, inr, refl, sym, ap, ◌∙◌, subst, arith, List, [], ◌∷◌, length, replicate, Some, slice_get, slice_index, slice_index_or, ℤ, pos}
use Rattle.std.proofs.Math.Nat.{mod-eq_of_lt}
use Rattle.std.proofs.lemmas.Bool.{cases_lt}
use Rattle.std.proofs.lemmas.Int.{ints}
use Rattle.std.proofs.lemmas.List.{get_or-replicate, get_or_past, length-replicate}
use Rattle.std.proofs.lemmas.Nat.{pow_pos}
use Rattle.std.proofs.lemmas.Option.{same_Some, none-some}
use Rattle.lv_base.specs.declared.kind.Kind.{Kind}
use Rattle.lv_base.specs.declared.kind.Model.{Model}
use Rattle.lv_base.specs.Integers.{InRange, InAny, residue, width_of}
use Rattle.c_typed.specs.declared.tree.Object.{Object}
use Rattle.typed_range_laws.proofs.Agreeing.{each_none}
use Rattle.c_graph.specs.declared.graph.Cell.{Cell}
use Rattle.c_graph.specs.Shape.{widths_of}
use Rattle.c_graph.specs.Steps.{IsWhole}
use Rattle.code_layout.specs.Layout.{elements_of}
use Rattle.code_moves.specs.Setting.{Setting}
use Rattle.code_move_laws.specs.Mirrors.{row, element_of, Holds, Mirrors}

-- ---- Zeros

pub zero-at : {A : Type 0} (z : A) (n i : ℕ) → slice_index_or (replicate n z) i z ≡ z
zero-at z n i = go (cases_lt i n)
  where
    go : (i < n) ⊎ (n ≤ i) → slice_index_or (replicate n z) i z ≡ z
    go (inl lt) = get_or-replicate n i z z lt
    go (inr le) = get_or_past (replicate n z) i z (omega (arith, le, length-replicate n z))

pub zero-bits : (w : ℕ) → residue w (pos 0) ≡ 0
zero-bits w = mod-eq_of_lt (pow_pos w)

zero-any : InAny (pos 0)
zero-any = (omega (arith, ints), omega (arith, ints))

pub zero-range : (kind : Kind) (model : Model) → InRange kind model (pos 0)
zero-range kind model = each_none model [] kind 0

-- ---- Objects whose elements are 0

abbrev pub zero_rows : List Object → List (List ℤ)
zero_rows [] = []
zero_rows (o ∷ os) = replicate (elements_of o) (pos 0) ∷ zero_rows os

pub length-rows : (os : List Object) → length (zero_rows os) ≡ length os
length-rows [] = refl
length-rows (o ∷ os) = ap suc (length-rows os)

row-at : (os : List Object) (k : ℕ) (o : Object) → slice_get os k ≡ Some o → row (zero_rows os) k ≡ replicate (elements_of o) (pos 0)
row-at [] k o e = absurd (none-some o e)
row-at (x ∷ os) zero o e = ap (λ (p : Object). replicate (elements_of p) (pos 0)) (same_Some x o e)
row-at (x ∷ os) (suc k) o e = row-at os k o e

element-at : (os : List Object) (k : ℕ) (o : Object) (j : ℕ) → slice_get os k ≡ Some o → element_of (zero_rows os) k j ≡ pos 0
element-at os k o j e = ap (λ (r : List ℤ). slice_index_or r j (pos 0)) (row-at os k o e) ∙ zero-at (pos 0) (elements_of o) j

-- ---- The store

length-widths : (cs : List Cell) → length (widths_of cs) ≡ length cs
length-widths [] = refl
length-widths (c ∷ cs) = ap suc (length-widths cs)

abbrev pub zeros_of : Setting → List ℕ
zeros_of g = replicate (length g.lay.cells) 0

zero-cell : (g : Setting) (c : ℕ) → slice_index (zeros_of g) c ≡ 0
zero-cell g c = zero-at 0 (length g.lay.cells) c

zero-whole : (g : Setting) → IsWhole (widths_of g.lay.cells) (zeros_of g)
zero-whole g = record {
  length = length-replicate (length g.lay.cells) 0 ∙ sym (length-widths g.lay.cells);
  fits = λ c lt. subst (λ (x : ℕ). x < 2 ^ slice_index (widths_of g.lay.cells) c) (sym (zero-cell g c)) (pow_pos (slice_index (widths_of g.lay.cells) c));
}

pub zeros-mirror : (g : Setting) → Mirrors g [] (zero_rows g.objects) (zeros_of g)
zeros-mirror g = record {
  whole = zero-whole g;
  any = λ slot. zero-any;
  slot = λ slot cell e. zero-cell g cell ∙ sym (zero-bits 64);
  objects = length-rows g.objects;
  rows = λ k o e. ap length (row-at g.objects k o e) ∙ length-replicate (elements_of o) (pos 0);
  elements = λ k first j o e b lt.
      subst (λ (v : ℤ). Holds o.kind g.model (slice_index (zeros_of g) (first + j)) v) (sym (element-at g.objects k o j e))
      (zero-cell g (first + j) ∙ sym (zero-bits (width_of o.kind g.model)), zero-range o.kind g.model);
}
