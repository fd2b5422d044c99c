-- Where everything lies, in a table that grew.
use Rattle.std.proofs.Common.{◌≡◌, ℕ, ◌+◌, ◌<◌, Bool, true, false, nat_lt, List, [], refl, sym, ap, ◌∙◌, subst, arith, Option, Some, None, Result, Ok, Err, slice_get, slice_index, if◌then◌else◌}
use Rattle.std.specs.Prelude.{IfOk}
use Rattle.lv_base.specs.declared.fail.Memory.{Memory}
use Rattle.lv_base.specs.declared.kind.Kind.{Kind}
use Rattle.lv_base.specs.declared.kind.Model.{Model}
use Rattle.lv_base.specs.Integers.{width_of}
use Rattle.bv_term.specs.declared.term.TermId.{TermId}
use Rattle.bv_term.specs.declared.term.Term.TheVariants.{Element}
use Rattle.bv_term.specs.WellFormed.{Table, IsArray}
use Rattle.bv_term.proofs.Growing.{length-widths}
use Rattle.c_typed.specs.declared.tree.Object.{Object}
use Rattle.c_terms.specs.declared.words.Words.{Words}
use Rattle.c_terms.specs.declared.failing.Tests.{Tests}
use Rattle.c_terms.specs.Operations.{Failure}
use Rattle.c_terms.specs.Shown.{Shows, Gives, Grows, Puts, Finds}
use Rattle.c_terms.proofs.Putting.{grows-twice}
use Rattle.code_layout.specs.Layout.{elements_of}
use Rattle.code_layout.specs.Lies.{IsWide, Lies}
use Rattle.code_moves.specs.declared.ground.Room.{Room}
use Rattle.code_moves.specs.Setting.{Setting, Stands, room_at, room_of, IsRoom}
use Rattle.code_moves.specs.Moves.{kept_in, kept_cell, kept_value}

pub stand-later : (g : Setting) (a b : Words) → Grows a b → Stands g a → Stands g b
stand-later g a b k h = record { lies = subst (λ (cells : List ℕ). Lies g.model g.objects g.lay cells) (sym k.extends.0) h.lies }

pub wide-later : (a b : Words) (c w : ℕ) → Grows a b → IsWide a.terms.cells c w → IsWide b.terms.cells c w
wide-later a b c w k h = subst (λ (cells : List ℕ). IsWide cells c w) (sym k.extends.0) h

-- ---- Rooms

abbrev flag : (A : Type 0) → Option A → ℕ
flag A None = 0
flag A (Some x) = 1

pub none-is : (A : Type 0) (x : A) → Some x ≡ None → ⊥
none-is A x e = let n : ◌≡◌ {A = ℕ} 1 0 = ap (flag A) e in omega (arith, n)

abbrev room-with : Object → ℕ → Room
room-with o first = record { first = first; length = elements_of o; kind = o.kind; is_array = nat_lt 0 o.length }

record Found (o : Option Object) (f : Option ℕ) (r : Room) : Type 0 where
  pub object : Object
  pub first : ℕ
  pub there : o ≡ Some object
  pub begins : f ≡ Some first
  pub is : room-with object first ≡ r

some-room : (x y : Room) → Some x ≡ Some y → x ≡ y
some-room x y e = ap (λ (o : Option Room). elim o [ None ↦ x | Some z ↦ z ]) e

found : (o : Option Object) (f : Option ℕ) (r : Room) → room_at o f ≡ Some r → Found o f r
found None f r e = absurd (none-is Room r (sym e))
found (Some o) None r e = absurd (none-is Room r (sym e))
found (Some o) (Some first) r e = record { object = o; first = first; there = refl; begins = refl; is = some-room (room-with o first) r e }

pub room-stands : (g : Setting) (w : Words) (object : ℕ) (r : Room) → Stands g w → Some r ≡ room_of g object → IsRoom g.model r w.terms.cells
room-stands g w object r h e =
    let k : Found (slice_get g.objects object) (slice_get g.lay.firsts object) r = found (slice_get g.objects object) (slice_get g.lay.firsts object) r (sym e) in
    let l = h.lies.elements object k.first k.object k.there k.begins in
    subst (λ (z : Room). IsRoom g.model z w.terms.cells) k.is (record { elements = l.0; wide = l.1 })

pub room-later : (a b : Words) (model : Model) (r : Room) → Grows a b → IsRoom model r a.terms.cells → IsRoom model r b.terms.cells
room-later a b model r k h = subst (λ (cells : List ℕ). IsRoom model r cells) (sym k.extends.0) h

-- the cell of an element
pub room-wide : (cells : List ℕ) (model : Model) (r : Room) (element cell : ℕ) → IsRoom model r cells → element < r.length → cell ≡ r.first + element → IsWide cells cell (width_of r.kind model)
room-wide cells model r element cell h lt e =
    subst (λ (n : ℕ). IsWide cells n (width_of r.kind model)) (sym e) (omega (arith, h.elements.1, lt), h.elements.2 element lt ∙ h.wide)

pub room-first : (cells : List ℕ) (model : Model) (r : Room) → IsRoom model r cells → IsWide cells r.first (width_of r.kind model)
room-first cells model r h = (omega (arith, h.elements.0, h.elements.1), h.wide)

-- ---- Elements

pub gives-element : (T : Table) (s : List ℕ) (first n : ℕ) (i : TermId) (w a : ℕ) → IsArray T.cells first n → Shows T s i w a
    → Gives T s (Element first n i) (slice_index T.cells first) (if nat_lt a n then slice_index s (first + a) else 0)
gives-element T s first n i w a array h = record {
  fits = (array, omega (arith, h.there, length-widths T.cells [] T.terms));
  width = refl;
  told = ap (λ (x : ℕ). if nat_lt x n then slice_index s (first + x) else 0) h.told;
}

-- ---- By a test

pub chosen-true : (r : Result TermId Memory) (a b : Words) (s : List ℕ) (w x y : ℕ) (t : Bool) → t ≡ true → IfOk r (λ u. Puts a b s u w x) → IfOk r (λ u. Puts a b s u w (if t then x else y))
chosen-true r a b s w x y t e h = subst (λ (z : Bool). IfOk r (λ u. Puts a b s u w (if z then x else y))) (sym e) h

pub chosen-false : (r : Result TermId Memory) (a b : Words) (s : List ℕ) (w x y : ℕ) (t : Bool) → t ≡ false → IfOk r (λ u. Puts a b s u w y) → IfOk r (λ u. Puts a b s u w (if t then x else y))
chosen-false r a b s w x y t e h = subst (λ (z : Bool). IfOk r (λ u. Puts a b s u w (if z then x else y))) (sym e) h

-- ---- Tests

pub finds-after : (r : Result Tests Memory) (a b c : Words) (s : List ℕ) (xs : List Failure) → Grows a b → IfOk r (λ t. Finds b c s t xs) → IfOk r (λ t. Finds a c s t xs)
finds-after (Err e) a b c s xs g h = tt
finds-after (Ok t) a b c s xs g h = record { grows = grows-twice a b c g h.grows; fails = h.fails }

pub finds-equal : (r : Result Tests Memory) (a b : Words) (s : List ℕ) (xs ys : List Failure) → xs ≡ ys → IfOk r (λ t. Finds a b s t xs) → IfOk r (λ t. Finds a b s t ys)
finds-equal r a b s xs ys e h = subst (λ (zs : List Failure). IfOk r (λ t. Finds a b s t zs)) e h

pub as-wide : (T : Table) (s : List ℕ) (t : TermId) (v w x : ℕ) → v ≡ w → Shows T s t v x → Shows T s t w x
as-wide T s t v w x e h = subst (λ (z : ℕ). Shows T s t z x) e h

pub over-list : (f : Kind → Model → List Failure) (k l : Kind) (m n : Model) → k ≡ l → m ≡ n → f k m ≡ f l n
over-list f k l m n p q = ap (λ (z : Kind). f z m) p ∙ ap (f l) q

pub without : (b : Bool) (xs : List Failure) → b ≡ false → [] ≡ (if b then xs else [])
without b xs e = sym (ap (λ (z : Bool). if z then xs else []) e)

pub within : (b : Bool) (xs : List Failure) → b ≡ true → xs ≡ (if b then xs else [])
within b xs e = sym (ap (λ (z : Bool). if z then xs else []) e)

pub since : (a b c : Words) (s : List ℕ) (t : TermId) (w x : ℕ) → Grows a b → Puts b c s t w x → Puts a c s t w x
since a b c s t w x g h = record { grows = grows-twice a b c g h.grows; shows = h.shows }

-- ---- The cell of an index

kept-if : (b : Bool) (i : Option ℕ) (cell : ℕ) → Some cell ≡ (if b then i else None) → i ≡ Some cell
kept-if true i cell e = sym e
kept-if false i cell e = absurd (none-is ℕ cell e)

kept-is : (o : Option Room) (i : Option ℕ) (cell : ℕ) → Some cell ≡ kept_in o i → i ≡ Some cell
kept-is None i cell e = absurd (none-is ℕ cell e)
kept-is (Some r) i cell e = kept-if r.is_array i cell e

pub index-stands : (g : Setting) (w : Words) (object cell : ℕ) → Stands g w → Some cell ≡ kept_cell g object → IsWide w.terms.cells cell 64
index-stands g w object cell h e = h.lies.index cell (kept-is (room_of g object) g.lay.index cell e)

pub shown-by : (r : Result TermId Memory) (a b : Words) (s : List ℕ) (cell bits : ℕ) (f : List ℕ → ℕ) (o : Option ℕ) → Some cell ≡ o → bits ≡ 64 → IfOk r (λ t. Puts a b s t bits (slice_index s cell)) → IfOk r (λ t. Shows b.terms s t 64 (kept_value o f s))
shown-by (Err x) a b s cell bits f o e w h = tt
shown-by (Ok t) a b s cell bits f o e w h = subst (λ (k : Option ℕ). Shows b.terms s t 64 (kept_value k f s)) e (as-wide b.terms s t bits 64 (slice_index s cell) w h.shows)
