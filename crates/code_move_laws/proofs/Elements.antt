-- Elements are read and written, those beyond the end of their object too.
use Rattle.std.proofs.Common.{◌≡◌, ℕ, zero, suc, ◌+◌, ◌<◌, ◌≤◌, ◌⊎◌, inl, inr, refl, sym, ap, ◌∙◌, subst, arith, max, nat_lt, lt-ltb, le-ltb, Bool, true, false, if◌then◌else◌, List, [], ◌∷◌, length, Option, None, Some, slice_get, slice_set, slice_index, slice_index_or, ℤ, pos}
use Rattle.std.specs.Prelude.{nat_eq}
use Rattle.std.proofs.Math.Nat.{mod-eq_of_lt}
use Rattle.std.proofs.lemmas.Nat.{pow_pos}
use Rattle.std.proofs.lemmas.Bool.{cases_lt, ltb-false, ne_eqb}
use Rattle.std.proofs.lemmas.List.{get_or_past, set_past, set-get_or}
use Rattle.std.proofs.lemmas.Option.{none-some, slice_get-get_or, slice_get_past, slice_get_within, slice_get-map}
use Rattle.std.specs.Option.{option_map}
use Rattle.lv_base.specs.declared.kind.Model.{Model}
use Rattle.lv_base.specs.declared.kind.Kind.{Kind}
use Rattle.lv_base.specs.Integers.{InRange, InAny, residue, width_of}
use Rattle.c_typed.specs.declared.tree.Object.{Object}
use Rattle.c_typed.specs.Run.{size_of, kind_of}
use Rattle.c_typed.specs.View.{object_of}
use Rattle.slot_code.specs.Slots.{get}
use Rattle.typed_range_laws.proofs.Bounds.{in_any, truth_in_range}
use Rattle.word_laws.proofs.Residues.{residue_below}
use Rattle.word_laws.proofs.Answering.{narrow_slot, widen_slot}
use Rattle.c_terms.specs.Numbers.{narrowed, widened}
use Rattle.c_graph.specs.declared.graph.Cell.{Cell}
use Rattle.c_graph.specs.Shape.{widths_of}
use Rattle.c_graph.specs.Steps.{moment, stored_at}
use Rattle.code_layout.specs.Reading.{is_array, is_array_at}
use Rattle.code_layout.specs.Layout.{elements_of}
use Rattle.code_moves.specs.Setting.{Setting, room_at, room_of}
use Rattle.code_moves.specs.Values.{slot_value, element_in, element_value, scalar_in, scalar_value}
use Rattle.code_moves.specs.Deeds.{Sets, SetsAt}
use Rattle.code_moves.specs.Moves.{writes, writes_in}
use Rattle.layout_laws.specs.Serve.{HasSlot}
use Rattle.code_move_laws.specs.Ways.{objects_of, number_picked, read_back}
use Rattle.code_move_laws.specs.Mirrors.{IsLaid, row, element_of, Holds, Mirrors}
use Rattle.code_move_laws.proofs.Numbers.{number_slot, wrapped_same}
use Rattle.code_move_laws.proofs.Stores.{element-same, element-set}
use Rattle.code_move_laws.proofs.Reaching.{Comes, nothing, slot-read}

pub none-past : (xs : List Object) (k : ℕ) → slice_get xs k ≡ None → length xs ≤ k
none-past [] k e = omega arith
none-past (x ∷ xs) zero e = absurd (none-some x (sym e))
none-past (x ∷ xs) (suc k) e = omega (arith, none-past xs k e)

length-widths : (cs : List Cell) → length (widths_of cs) ≡ length cs
length-widths [] = refl
length-widths (c ∷ cs) = ap suc (length-widths cs)

-- ---- Sizes

size_as : (m : ℕ) → (if nat_eq m 0 then 1 else m) ≡ max m 1
size_as zero = refl
size_as (suc m) = let e : suc m ≡ max (suc m) 1 = omega arith in ap (λ (b : Bool). if b then 1 else suc m) (ne_eqb (suc m) 0 (λ q. omega (arith, q))) ∙ e

pub size_is : (o : Object) → size_of (Some (object_of o)) ≡ elements_of o
size_is o = size_as o.length

-- an object of the typed tree
pub told-size : (g : Setting) (object : ℕ) (o : Object) → slice_get g.objects object ≡ Some o → size_of (slice_get (objects_of g) object) ≡ elements_of o
told-size g object o e = ap size_of (slice_get-map object_of g.objects object) ∙ ap (λ (p : Option Object). size_of (option_map object_of p)) e ∙ size_is o

pub told-none : (g : Setting) (object : ℕ) → slice_get g.objects object ≡ None → size_of (slice_get (objects_of g) object) ≡ 0
told-none g object e = ap size_of (slice_get-map object_of g.objects object) ∙ ap (λ (p : Option Object). size_of (option_map object_of p)) e

pub told-kind : (g : Setting) (object : ℕ) (o : Object) → slice_get g.objects object ≡ Some o → kind_of (slice_get (objects_of g) object) ≡ o.kind
told-kind g object o e = ap kind_of (slice_get-map object_of g.objects object) ∙ ap (λ (p : Option Object). kind_of (option_map object_of p)) e

-- ---- Objects among the cells

-- an object's first cell
pub begins : (g : Setting) (object : ℕ) (o : Object) → IsLaid g → slice_get g.objects object ≡ Some o → (first : ℕ) × (slice_get g.lay.firsts object ≡ Some first)
begins g object o laid e = go (cases_lt object (length g.lay.firsts))
  where
    go : (object < length g.lay.firsts) ⊎ (length g.lay.firsts ≤ object) → (first : ℕ) × (slice_get g.lay.firsts object ≡ Some first)
    go (inl lt) = (slice_index_or g.lay.firsts object 0, slice_get-get_or g.lay.firsts object 0 lt)
    go (inr le) = absurd (none-some o (sym (slice_get_past g.objects object (omega (arith, le, laid.firsts))) ∙ e))

pub elements-few : (g : Setting) (object first : ℕ) (o : Object) → IsLaid g → slice_get g.objects object ≡ Some o → slice_get g.lay.firsts object ≡ Some first → elements_of o < 4294967296
elements-few g object first o laid t b = let l = laid.lies.elements object first o t b in omega (arith, l.0.1, laid.few, length-widths g.lay.cells)

pub size-few : (g : Setting) (object : ℕ) → IsLaid g → size_of (slice_get (objects_of g) object) < 4294967296
size-few g object laid = go (slice_get g.objects object) refl
  where
    go : (p : Option Object) → slice_get g.objects object ≡ p → size_of (slice_get (objects_of g) object) < 4294967296
    go None e = omega (arith, told-none g object e)
    go (Some o) e = let b = begins g object o laid e in omega (arith, told-size g object o e, elements-few g object b.0 o laid e b.1)

pub room-is : (g : Setting) (object first : ℕ) (o : Object) → slice_get g.objects object ≡ Some o → slice_get g.lay.firsts object ≡ Some first → room_of g object ≡ room_at (Some o) (Some first)
room-is g object first o t b = ap (room_at (slice_get g.objects object)) b ∙ ap (λ (p : Option Object). room_at p (Some first)) t

pub no-room : (g : Setting) (object : ℕ) → slice_get g.objects object ≡ None → room_of g object ≡ None
no-room g object e = ap (λ (p : Option Object). room_at p (slice_get g.lay.firsts object)) e

-- ---- Values of an object

-- the kind of an object's values
abbrev pub kind_at : Setting → ℕ → Kind
kind_at g object = kind_of (slice_get (objects_of g) object)

zero-at : (kind : Kind) (model : Model) (v : ℤ) → v ≡ pos 0 → InRange kind model v
zero-at kind model v e = subst (InRange kind model) (sym e) (truth_in_range kind model false)

-- what an object that is not there gives
beyond-values : (g : Setting) (slots : List ℤ) (values : List (List ℤ)) (store : List ℕ) (object n : ℕ) → Mirrors g slots values store → slice_get g.objects object ≡ None → element_of values object n ≡ pos 0
beyond-values g slots values store object n h e =
    let past : length values ≤ object = omega (arith, none-past g.objects object e, h.objects) in
    ap (λ (r : List ℤ). slice_index_or r n (pos 0)) (get_or_past values object [] past)

-- and one beyond the end
beyond-row : (g : Setting) (slots : List ℤ) (values : List (List ℤ)) (store : List ℕ) (object n : ℕ) (o : Object) → Mirrors g slots values store → slice_get g.objects object ≡ Some o → elements_of o ≤ n → element_of values object n ≡ pos 0
beyond-row g slots values store object n o h e le = get_or_past (row values object) n (pos 0) (omega (arith, le, h.rows object o e))

-- each value of an object is of its kind
pub element-range : (g : Setting) (slots : List ℤ) (values : List (List ℤ)) (store : List ℕ) (object n : ℕ) → IsLaid g → Mirrors g slots values store → InRange (kind_at g object) g.model (element_of values object n)
element-range g slots values store object n laid h = go (slice_get g.objects object) refl
  where
    go : (p : Option Object) → slice_get g.objects object ≡ p → InRange (kind_at g object) g.model (element_of values object n)
    go None e = zero-at (kind_at g object) g.model (element_of values object n) (beyond-values g slots values store object n h e)
    go (Some o) e = by (cases_lt n (elements_of o))
      where
        by : (n < elements_of o) ⊎ (elements_of o ≤ n) → InRange (kind_at g object) g.model (element_of values object n)
        by (inl lt) = let b = begins g object o laid e in subst (λ (k : Kind). InRange k g.model (element_of values object n)) (sym (told-kind g object o e)) (h.elements object b.0 n o e b.1 lt).1
        by (inr le) = zero-at (kind_at g object) g.model (element_of values object n) (beyond-row g slots values store object n o h e le)

-- and so of some kind
pub element-any : (g : Setting) (slots : List ℤ) (values : List (List ℤ)) (store : List ℕ) (object n : ℕ) → IsLaid g → Mirrors g slots values store → InAny (element_of values object n)
element-any g slots values store object n laid h = in_any (kind_at g object) g.model (element_of values object n) (element-range g slots values store object n laid h)

-- ---- An element that is reached through a number

-- the object's element of this number is the one that is reached through the other: in an array the same, else the first
abbrev pub Reached : Setting → (object n index : ℕ) → Type 0
Reached g object n index = (if is_array g.objects object then index else 0) ≡ n

pub reached : (g : Setting) (slots : List ℤ) (values : List (List ℤ)) (store : List ℕ) (slot object : ℕ) → Mirrors g slots values store → (is_array g.objects object ≡ true → HasSlot g.lay slot)
    → Reached g object (number_picked g object (get slots slot)) (slot_value g store slot)
reached g slots values store slot object h has = go (is_array g.objects object) refl
  where
    go : (b : Bool) → is_array g.objects object ≡ b → (if b then slot_value g store slot else 0) ≡ (if b then residue 64 (get slots slot) else 0)
    go true e = slot-read g slots values store slot slot h (has e) refl
    go false e = refl

-- an object that is there
reached-there : (g : Setting) (object n index : ℕ) (o : Object) (b : Bool) → Reached g object n index → slice_get g.objects object ≡ Some o → nat_lt 0 o.length ≡ b → (if b then index else 0) ≡ n
reached-there g object n index o b r e array = sym (ap (λ (c : Bool). if c then index else 0) (ap is_array_at e ∙ array)) ∙ r

scalar-one : (m : ℕ) → nat_lt 0 m ≡ false → max m 1 ≡ 1
scalar-one m e = let z : m ≤ 0 = ltb-false 0 m e in omega (arith, z)

-- an index picks the element of its number
pub picked-index : (g : Setting) (object n : ℕ) → IsLaid g → n < size_of (slice_get (objects_of g) object) → number_picked g object (pos n) ≡ n
picked-index g object n laid lt = go (is_array g.objects object) refl
  where
    alone : (p : Option Object) → slice_get g.objects object ≡ p → is_array_at p ≡ false → n ≡ 0
    alone None e array = absurd (omega (arith, lt, told-none g object e))
    alone (Some o) e array = omega (arith, lt, told-size g object o e, scalar-one o.length array)

    go : (b : Bool) → is_array g.objects object ≡ b → (if b then residue 64 (pos n) else 0) ≡ n
    go true e = number_slot n (omega (arith, lt, size-few g object laid))
    go false e = sym (alone (slice_get g.objects object) refl e)

-- what a cell that holds a value of a kind is as a slot's
pub held-slot : (kind : Kind) (model : Model) (x : ℕ) (v : ℤ) → Holds kind model x v → widened kind model x ≡ residue 64 v
held-slot kind model x v h = ap (widened kind model) h.0 ∙ widen_slot kind model (residue (width_of kind model) v) (residue_below (width_of kind model) v) ∙ ap (residue 64) (wrapped_same kind model v h.1)

zero-held : (kind : Kind) (model : Model) → Holds kind model 0 (pos 0)
zero-held kind model = (sym (mod-eq_of_lt (pow_pos (width_of kind model))), truth_in_range kind model false)

-- its value: 0 beyond the end
module _ (g : Setting) (slots : List ℤ) (values : List (List ℤ)) (store : List ℕ) (object : ℕ) (laid : IsLaid g) (h : Mirrors g slots values store) where
  cell-read : (first n : ℕ) (o : Object) → slice_get g.objects object ≡ Some o → slice_get g.lay.firsts object ≡ Some first → n < elements_of o
      → widened o.kind g.model (slice_index store (first + n)) ≡ residue 64 (element_of values object n)
  cell-read first n o there base lt = held-slot o.kind g.model (slice_index store (first + n)) (element_of values object n) (h.elements object first n o there base lt)

  first-read : (first : ℕ) (o : Object) → slice_get g.objects object ≡ Some o → slice_get g.lay.firsts object ≡ Some first → widened o.kind g.model (slice_index store first) ≡ residue 64 (element_of values object 0)
  first-read first o there base =
      let f : first ≡ first + 0 = omega arith in
      ap (λ (k : ℕ). widened o.kind g.model (slice_index store k)) f ∙ cell-read first 0 o there base (omega arith)

  array-read : (first n : ℕ) (o : Object) → slice_get g.objects object ≡ Some o → slice_get g.lay.firsts object ≡ Some first → (n < elements_of o) ⊎ (elements_of o ≤ n)
      → widened o.kind g.model (if nat_lt n (elements_of o) then slice_index store (first + n) else 0) ≡ residue 64 (element_of values object n)
  array-read first n o there base (inl lt) = ap (λ (t : Bool). widened o.kind g.model (if t then slice_index store (first + n) else 0)) (lt-ltb n (elements_of o) lt) ∙ cell-read first n o there base lt
  array-read first n o there base (inr le) =
      ap (λ (t : Bool). widened o.kind g.model (if t then slice_index store (first + n) else 0)) (le-ltb n (elements_of o) le)
      ∙ held-slot o.kind g.model 0 (pos 0) (zero-held o.kind g.model) ∙ sym (ap (residue 64) (beyond-row g slots values store object n o h there le))

  bits-read : (b : Bool) (first index : ℕ) (o : Object) → slice_get g.objects object ≡ Some o → slice_get g.lay.firsts object ≡ Some first
      → widened o.kind g.model (if b then (if nat_lt index (elements_of o) then slice_index store (first + index) else 0) else slice_index store first) ≡ residue 64 (element_of values object (if b then index else 0))
  bits-read true first index o there base = array-read first index o there base (cases_lt index (elements_of o))
  bits-read false first index o there base = first-read first o there base

  pub element-read : (n index : ℕ) → Reached g object n index → element_value g store object index ≡ residue 64 (element_of values object n)
  element-read n index r = go (slice_get g.objects object) refl
    where
      go : (p : Option Object) → slice_get g.objects object ≡ p → element_value g store object index ≡ residue 64 (element_of values object n)
      go None e = ap (λ p. element_in g.model p store index) (no-room g object e) ∙ sym (ap (residue 64) (beyond-values g slots values store object n h e))
      go (Some o) e =
          let b = begins g object o laid e in
          ap (λ p. element_in g.model p store index) (room-is g object b.0 o e b.1) ∙ bits-read (nat_lt 0 o.length) b.0 index o e b.1
          ∙ ap (λ (k : ℕ). residue 64 (element_of values object k)) (reached-there g object n index o (nat_lt 0 o.length) r e refl)

  -- the first element of any object
  pub scalar-read : scalar_value g store object ≡ residue 64 (element_of values object 0)
  scalar-read = go (slice_get g.objects object) refl
    where
      go : (p : Option Object) → slice_get g.objects object ≡ p → scalar_value g store object ≡ residue 64 (element_of values object 0)
      go (Some o) e = let b = begins g object o laid e in ap (λ p. scalar_in g.model p store) (room-is g object b.0 o e b.1) ∙ first-read b.0 o e b.1
      go None e = ap (λ p. scalar_in g.model p store) (no-room g object e) ∙ sym (ap (residue 64) (beyond-values g slots values store object 0 h e))

-- ---- A value is written

-- the values of objects where an element has this one
abbrev pub with_element : List (List ℤ) → (object n : ℕ) → ℤ → List (List ℤ)
with_element values object n v = slice_set values object (slice_set (row values object) n v)

-- The element's cell gets the low bits of a value of its kind; beyond the end nothing changes.
module _ (g : Setting) (slots : List ℤ) (values : List (List ℤ)) (store : List ℕ) (object n : ℕ) (v : ℤ) (laid : IsLaid g) (h : Mirrors g slots values store) where
  abbrev new : List (List ℤ)
  new = with_element values object n v

  none-stays : slice_get g.objects object ≡ None → new ≡ values
  none-stays e = set_past values object (slice_set (row values object) n v) (omega (arith, none-past g.objects object e, h.objects))

  beyond-stays : (o : Object) → slice_get g.objects object ≡ Some o → elements_of o ≤ n → new ≡ values
  beyond-stays o e le = ap (slice_set values object) (set_past (row values object) n v (omega (arith, le, h.rows object o e))) ∙ set-get_or values object []

  -- what is read of it then
  pub element-now : element_of new object n ≡ read_back g object n v
  element-now = go (slice_get g.objects object) refl
    where
      by_size : (b : Bool) → nat_lt n (size_of (slice_get (objects_of g) object)) ≡ b → (if b then v else pos 0) ≡ read_back g object n v
      by_size b e = ap (λ (c : Bool). if c then v else pos 0) (sym e)

      go : (p : Option Object) → slice_get g.objects object ≡ p → element_of new object n ≡ read_back g object n v
      go None e =
          ap (λ (vs : List (List ℤ)). element_of vs object n) (none-stays e) ∙ beyond-values g slots values store object n h e
          ∙ by_size false (le-ltb n (size_of (slice_get (objects_of g) object)) (omega (arith, told-none g object e)))
      go (Some o) e = by (cases_lt n (elements_of o))
        where
          by : (n < elements_of o) ⊎ (elements_of o ≤ n) → element_of new object n ≡ read_back g object n v
          by (inl lt) =
              element-same values object n v (omega (arith, slice_get_within g.objects object o e, h.objects)) (omega (arith, h.rows object o e, lt))
              ∙ by_size true (lt-ltb n (size_of (slice_get (objects_of g) object)) (omega (arith, told-size g object o e, lt)))
          by (inr le) =
              ap (λ (vs : List (List ℤ)). element_of vs object n) (beyond-stays o e le) ∙ beyond-row g slots values store object n o h e le
              ∙ by_size false (le-ltb n (size_of (slice_get (objects_of g) object)) (omega (arith, told-size g object o e, le)))

  module _ (inputs : List ℤ) (u : ℤ) (index value : List ℕ → ℕ) (range : InRange (kind_at g object) g.model v) (same : residue (width_of (kind_at g object) g.model) u ≡ residue (width_of (kind_at g object) g.model) v) (is : value store ≡ residue 64 u) where
    module _ (first : ℕ) (o : Object) (there : slice_get g.objects object ≡ Some o) (base : slice_get g.lay.firsts object ≡ Some first) where
      abbrev lowest : List ℕ → ℕ
      lowest s = narrowed o.kind g.model (value s)

      low : lowest store ≡ residue (width_of o.kind g.model) v
      low =
          ap (narrowed o.kind g.model) is ∙ narrow_slot o.kind g.model u
          ∙ subst (λ (k : Kind). residue (width_of k g.model) u ≡ residue (width_of k g.model) v) (told-kind g object o there) same

      there-set : n < elements_of o → Mirrors g slots new (slice_set store (first + n) (lowest store))
      there-set lt =
          subst (λ (x : ℕ). Mirrors g slots new (slice_set store (first + n) x)) (sym low)
          (element-set g laid slots values store h object first n o v there base lt (subst (λ (k : Kind). InRange k g.model v) (told-kind g object o there) range))

      array-write : (index store ≡ n) → (n < elements_of o) ⊎ (elements_of o ≤ n) → Comes g (SetsAt first (elements_of o) index lowest ∷ []) store inputs inputs slots new
      array-write at (inl lt) =
          let x : ℕ = lowest store in
          let stored : stored_at store first (elements_of o) (index store) (lowest store) ≡ slice_set store (first + n) (lowest store) =
          ap (λ (k : ℕ). stored_at store first (elements_of o) k (lowest store)) at ∙ ap (λ (t : Bool). if t then slice_set store (first + n) (lowest store) else store) (lt-ltb n (elements_of o) lt) in
          record { after = slice_set store (first + n) (lowest store); reaches = ap (λ (s : List ℕ). Some (moment s inputs)) stored; mirrors = there-set lt }
      array-write at (inr le) =
          let stored : stored_at store first (elements_of o) (index store) (lowest store) ≡ store =
          ap (λ (k : ℕ). stored_at store first (elements_of o) k (lowest store)) at ∙ ap (λ (t : Bool). if t then slice_set store (first + n) (lowest store) else store) (le-ltb n (elements_of o) le) in
          record { after = store; reaches = ap (λ (s : List ℕ). Some (moment s inputs)) stored; mirrors = subst (λ (vs : List (List ℤ)). Mirrors g slots vs store) (sym (beyond-stays o there le)) h }

      either-write : (b : Bool) → (if b then index store else 0) ≡ n → Comes g ((if b then SetsAt first (elements_of o) index lowest else Sets first lowest) ∷ []) store inputs inputs slots new
      either-write true e = array-write e (cases_lt n (elements_of o))
      either-write false e =
          let at : first ≡ first + n = omega (arith, e) in
          record { after = slice_set store (first + n) (lowest store); reaches = ap (λ (k : ℕ). Some (moment (slice_set store k (lowest store)) inputs)) at; mirrors = there-set (omega (arith, e)) }

    pub write : Reached g object n (index store) → Comes g (writes g object index value) store inputs inputs slots new
    write r = go (slice_get g.objects object) refl
      where
        go : (p : Option Object) → slice_get g.objects object ≡ p → Comes g (writes g object index value) store inputs inputs slots new
        go None e =
            subst (λ p. Comes g (writes_in g.model p index value) store inputs inputs slots new) (sym (no-room g object e))
            (nothing g store inputs slots new (subst (λ (vs : List (List ℤ)). Mirrors g slots vs store) (sym (none-stays e)) h))
        go (Some o) e =
            let b = begins g object o laid e in
            subst (λ p. Comes g (writes_in g.model p index value) store inputs inputs slots new) (sym (room-is g object b.0 o e b.1))
            (either-write b.0 o e b.1 (nat_lt 0 o.length) (reached-there g object n (index store) o (nat_lt 0 o.length) r e refl))
