-- One cell is set: the store mirrors the machine whose slot or element got the value.
use Rattle.std.proofs.Common.{◌≡◌, ℕ, ◌+◌, ◌<◌, ◌^◌, ◌⊎◌, inl, inr, refl, sym, ap, ◌∙◌, subst, arith, List, [], length, None, Some, slice_get, slice_set, slice_index, slice_index_or, ℤ, pos}
use Rattle.std.proofs.lemmas.Bool.{cases_eq}
use Rattle.std.proofs.lemmas.List.{length-set, get_or-set_same, get_or-set_other}
use Rattle.std.proofs.lemmas.Option.{same_Some, none-some, slice_get_within}
use Rattle.lv_base.specs.Integers.{InRange, InAny, residue, width_of}
use Rattle.c_typed.specs.declared.tree.Object.{Object}
use Rattle.slot_code.specs.Slots.{get, put}
use Rattle.slot_laws.proofs.Lying.{put_same, put_other}
use Rattle.typed_range_laws.proofs.Agreeing.{set_at}
use Rattle.word_laws.proofs.Residues.{residue_below}
use Rattle.c_graph.specs.Shape.{widths_of}
use Rattle.c_graph.specs.Steps.{IsWhole}
use Rattle.code_layout.specs.Layout.{elements_of, slot_cell}
use Rattle.code_moves.specs.Setting.{Setting}
use Rattle.layout_laws.specs.Differ.{Thing, OfElement, OfSlot, OfDraws, OfIndex, IsElement, IsCellOf}
use Rattle.code_move_laws.specs.Mirrors.{IsLaid, row, element_of, Holds, Mirrors}

-- ---- Things

abbrev part : Thing → ℕ
part (OfElement o j) = 0
part (OfSlot s) = 1
part (OfDraws w) = 2
part OfIndex = 3

abbrev slot_in : Thing → ℕ
slot_in (OfSlot s) = s
slot_in _ = 0

abbrev object_in : Thing → ℕ
object_in (OfElement o j) = o
object_in _ = 0

abbrev element_in : Thing → ℕ
element_in (OfElement o j) = j
element_in _ = 0

pub not-part : (x y : Thing) (m n : ℕ) → part x ≡ m → part y ≡ n → (m ≡ n → ⊥) → x ≡ y → ⊥
not-part x y m n a b d e = d (sym a ∙ ap part e ∙ b)

-- ---- Rows

pub element-same : (values : List (List ℤ)) (k n : ℕ) (v : ℤ) → k < length values → n < length (row values k) → element_of (slice_set values k (slice_set (row values k) n v)) k n ≡ v
element-same values k n v lk ln =
    ap (λ (r : List ℤ). slice_index_or r n (pos 0)) (get_or-set_same values k (slice_set (row values k) n v) [] lk) ∙ get_or-set_same (row values k) n v (pos 0) ln

pub element-beside : (values : List (List ℤ)) (k n j : ℕ) (v : ℤ) → k < length values → (j ≡ n → ⊥) → element_of (slice_set values k (slice_set (row values k) n v)) k j ≡ element_of values k j
element-beside values k n j v lk d =
    ap (λ (r : List ℤ). slice_index_or r j (pos 0)) (get_or-set_same values k (slice_set (row values k) n v) [] lk) ∙ get_or-set_other (row values k) n j v (pos 0) d

pub element-elsewhere : (values : List (List ℤ)) (k m j : ℕ) (r : List ℤ) → (m ≡ k → ⊥) → element_of (slice_set values k r) m j ≡ element_of values m j
element-elsewhere values k m j r d = ap (λ (r : List ℤ). slice_index_or r j (pos 0)) (get_or-set_other values k m r [] d)

-- ---- Cells

module _ (g : Setting) (laid : IsLaid g) where
  abbrev pub W : List ℕ
  W = widths_of g.lay.cells

  pub whole-set : (store : List ℕ) (c x : ℕ) → IsWhole W store → x < 2 ^ slice_index W c → IsWhole W (slice_set store c x)
  whole-set store c x h lt = record {
    length = length-set store c x ∙ h.length;
    fits = λ d ld. set_at (λ (y : ℕ). y < 2 ^ slice_index W d) store c x d 0 (λ e. subst (λ (k : ℕ). x < 2 ^ slice_index W k) (sym e) lt) (h.fits d ld);
  }

  pub apart : (x y : Thing) (c d : ℕ) → IsCellOf g.objects g.lay x c → IsCellOf g.objects g.lay y d → (x ≡ y → ⊥) → d ≡ c → ⊥
  apart x y c d h k n e = n (laid.differ x y c h (subst (λ (z : ℕ). IsCellOf g.objects g.lay y z) e k))

  -- another thing's cell says what it said
  pub beside : (x y : Thing) (c d v : ℕ) (store : List ℕ) → IsCellOf g.objects g.lay x c → IsCellOf g.objects g.lay y d → (x ≡ y → ⊥) → slice_index (slice_set store c v) d ≡ slice_index store d
  beside x y c d v store h k n = get_or-set_other store c d v 0 (apart x y c d h k n)

  pub slot-within : (s c : ℕ) (store : List ℕ) → slot_cell g.lay s ≡ Some c → IsWhole W store → c < length store
  slot-within s c store e h = let l = laid.lies.slots s c e in omega (arith, l.0, h.length)

  pub slot-fits : (s c : ℕ) (v : ℤ) → slot_cell g.lay s ≡ Some c → residue 64 v < 2 ^ slice_index W c
  slot-fits s c v e = let l = laid.lies.slots s c e in subst (λ (w : ℕ). residue 64 v < 2 ^ w) (sym l.1) (residue_below 64 v)

  pub element-within : (k first n : ℕ) (o : Object) (store : List ℕ) → slice_get g.objects k ≡ Some o → slice_get g.lay.firsts k ≡ Some first → n < elements_of o → IsWhole W store → first + n < length store
  element-within k first n o store t b lt h = let l = laid.lies.elements k first o t b in omega (arith, l.0.1, h.length, lt)

  pub element-wide : (k first n : ℕ) (o : Object) → slice_get g.objects k ≡ Some o → slice_get g.lay.firsts k ≡ Some first → n < elements_of o → slice_index W (first + n) ≡ width_of o.kind g.model
  element-wide k first n o t b lt = let l = laid.lies.elements k first o t b in (l.0).2 n lt ∙ l.1

  module _ (slots : List ℤ) (values : List (List ℤ)) (store : List ℕ) (h : Mirrors g slots values store) where
    any-put : (s : ℕ) (v : ℤ) → InAny v → (t : ℕ) → InAny (get (put slots s v) t)
    any-put s v a t = go (cases_eq t s)
      where
        go : (t ≡ s) ⊎ (t ≡ s → ⊥) → InAny (get (put slots s v) t)
        go (inl e) = subst InAny (sym (ap (get (put slots s v)) e ∙ put_same slots s v)) a
        go (inr d) = subst InAny (sym (put_other slots s v t d)) (h.any t)

    -- a slot that has no cell
    pub unread-put : (s : ℕ) (v : ℤ) → slot_cell g.lay s ≡ None → InAny v → Mirrors g (put slots s v) values store
    unread-put s v none a = record {
      whole = h.whole;
      any = any-put s v a;
      slot = λ t c e. h.slot t c e ∙ sym (ap (residue 64) (put_other slots s v t (λ q. none-some c (sym none ∙ ap (slot_cell g.lay) (sym q) ∙ e))));
      objects = h.objects;
      rows = h.rows;
      elements = h.elements;
    }

    slot-says : (s cell : ℕ) (v : ℤ) → slot_cell g.lay s ≡ Some cell → (t c : ℕ) → slot_cell g.lay t ≡ Some c → slice_index (slice_set store cell (residue 64 v)) c ≡ residue 64 (get (put slots s v) t)
    slot-says s cell v is t c e = go (cases_eq t s)
      where
        go : (t ≡ s) ⊎ (t ≡ s → ⊥) → slice_index (slice_set store cell (residue 64 v)) c ≡ residue 64 (get (put slots s v) t)
        go (inl q) =
            let same : cell ≡ c = same_Some cell c (sym is ∙ ap (slot_cell g.lay) (sym q) ∙ e) in
            ap (slice_index (slice_set store cell (residue 64 v))) (sym same) ∙ get_or-set_same store cell (residue 64 v) 0 (slot-within s cell store is h.whole)
            ∙ sym (ap (residue 64) (ap (get (put slots s v)) q ∙ put_same slots s v))
        go (inr d) =
            beside (OfSlot s) (OfSlot t) cell c (residue 64 v) store is e (λ q. d (sym (ap slot_in q))) ∙ h.slot t c e ∙ sym (ap (residue 64) (put_other slots s v t d))

    -- a slot whose cell is set
    pub read-put : (s cell : ℕ) (v : ℤ) → slot_cell g.lay s ≡ Some cell → InAny v → Mirrors g (put slots s v) values (slice_set store cell (residue 64 v))
    read-put s cell v is a = record {
      whole = whole-set store cell (residue 64 v) h.whole (slot-fits s cell v is);
      any = any-put s v a;
      slot = slot-says s cell v is;
      objects = h.objects;
      rows = h.rows;
      elements = λ k first j o t b lt.
          subst (λ (x : ℕ). Holds o.kind g.model x (element_of values k j))
          (sym (beside (OfSlot s) (OfElement k j) cell (first + j) (residue 64 v) store is (record { told = o; first = first; there = t; begins = b; within = lt; is = refl })
          (not-part (OfSlot s) (OfElement k j) 1 0 refl refl (λ q. omega (arith, q))))) (h.elements k first j o t b lt);
    }

    -- a cell that is no slot's and no element's
    pub free-set : (x : Thing) (c v : ℕ) → IsCellOf g.objects g.lay x c → ((s : ℕ) → x ≡ OfSlot s → ⊥) → ((k j : ℕ) → x ≡ OfElement k j → ⊥) → v < 2 ^ slice_index W c → Mirrors g slots values (slice_set store c v)
    free-set x c v is no_slot no_element lt = record {
      whole = whole-set store c v h.whole lt;
      any = h.any;
      slot = λ t d e. beside x (OfSlot t) c d v store is e (no_slot t) ∙ h.slot t d e;
      objects = h.objects;
      rows = h.rows;
      elements = λ k first j o t b within.
          subst (λ (y : ℕ). Holds o.kind g.model y (element_of values k j))
          (sym (beside x (OfElement k j) c (first + j) v store is (record { told = o; first = first; there = t; begins = b; within = within; is = refl }) (no_element k j))) (h.elements k first j o t b within);
    }

    -- an element whose cell is set
    module _ (object first n : ℕ) (o : Object) (v : ℤ) (there : slice_get g.objects object ≡ Some o) (begins : slice_get g.lay.firsts object ≡ Some first) (within : n < elements_of o) (range : InRange o.kind g.model v) where
      abbrev pub bits : ℕ
      bits = residue (width_of o.kind g.model) v

      abbrev pub set_values : List (List ℤ)
      set_values = slice_set values object (slice_set (row values object) n v)

      here : IsElement g.objects g.lay object n (first + n)
      here = record { told = o; first = first; there = there; begins = begins; within = within; is = refl }

      in-values : object < length values
      in-values = omega (arith, slice_get_within g.objects object o there, h.objects)

      in-row : n < length (row values object)
      in-row = omega (arith, h.rows object o there, within)

      rows-set : (k : ℕ) (p : Object) → slice_get g.objects k ≡ Some p → length (row set_values k) ≡ elements_of p
      rows-set k p e = set_at (λ (r : List ℤ). length r ≡ elements_of p) values object (slice_set (row values object) n v) k []
          (λ q. length-set (row values object) n v ∙ ap (λ (z : ℕ). length (row values z)) (sym q) ∙ h.rows k p e) (h.rows k p e)

      says : (k begin j : ℕ) (p : Object) → slice_get g.objects k ≡ Some p → slice_get g.lay.firsts k ≡ Some begin → j < elements_of p → (k ≡ object) ⊎ (k ≡ object → ⊥) → (j ≡ n) ⊎ (j ≡ n → ⊥)
          → Holds p.kind g.model (slice_index (slice_set store (first + n) bits) (begin + j)) (element_of set_values k j)
      says k begin j p t b lt (inl q) (inl r) =
          let same : o ≡ p = same_Some o p (sym there ∙ ap (slice_get g.objects) (sym q) ∙ t) in
          let base : first ≡ begin = same_Some first begin (sym begins ∙ ap (slice_get g.lay.firsts) (sym q) ∙ b) in
          let cell : first + n ≡ begin + j = omega (arith, base, r) in
          let bit : slice_index (slice_set store (first + n) bits) (begin + j) ≡ bits =
          ap (slice_index (slice_set store (first + n) bits)) (sym cell) ∙ get_or-set_same store (first + n) bits 0 (element-within object first n o store there begins within h.whole) in
          let value : element_of set_values k j ≡ v = ap (λ (z : ℕ). element_of set_values z j) q ∙ ap (element_of set_values object) r ∙ element-same values object n v in-values in-row in
          subst (λ (z : Object). Holds z.kind g.model (slice_index (slice_set store (first + n) bits) (begin + j)) (element_of set_values k j)) same
          (subst (λ (z : ℤ). Holds o.kind g.model (slice_index (slice_set store (first + n) bits) (begin + j)) z) (sym value) (bit, range))
      says k begin j p t b lt (inl q) (inr d) =
          let there2 : IsElement g.objects g.lay k j (begin + j) = record { told = p; first = begin; there = t; begins = b; within = lt; is = refl } in
          let value : element_of set_values k j ≡ element_of values k j =
          ap (λ (z : ℕ). element_of set_values z j) q ∙ element-beside values object n j v in-values d ∙ ap (λ (z : ℕ). element_of values z j) (sym q) in
          subst (λ (z : ℤ). Holds p.kind g.model (slice_index (slice_set store (first + n) bits) (begin + j)) z) (sym value)
          (subst (λ (z : ℕ). Holds p.kind g.model z (element_of values k j))
          (sym (beside (OfElement object n) (OfElement k j) (first + n) (begin + j) bits store here there2 (λ e. d (sym (ap element_in e))))) (h.elements k begin j p t b lt))
      says k begin j p t b lt (inr d) m =
          let there2 : IsElement g.objects g.lay k j (begin + j) = record { told = p; first = begin; there = t; begins = b; within = lt; is = refl } in
          subst (λ (z : ℤ). Holds p.kind g.model (slice_index (slice_set store (first + n) bits) (begin + j)) z) (sym (element-elsewhere values object k j (slice_set (row values object) n v) d))
          (subst (λ (z : ℕ). Holds p.kind g.model z (element_of values k j))
          (sym (beside (OfElement object n) (OfElement k j) (first + n) (begin + j) bits store here there2 (λ e. d (sym (ap object_in e))))) (h.elements k begin j p t b lt))

      pub element-set : Mirrors g slots set_values (slice_set store (first + n) bits)
      element-set = record {
        whole = whole-set store (first + n) bits h.whole (subst (λ (w : ℕ). bits < 2 ^ w) (sym (element-wide object first n o there begins within)) (residue_below (width_of o.kind g.model) v));
        any = h.any;
        slot = λ t d e. beside (OfElement object n) (OfSlot t) (first + n) d bits store here e (not-part (OfElement object n) (OfSlot t) 0 1 refl refl (λ q. omega (arith, q))) ∙ h.slot t d e;
        objects = length-set values object (slice_set (row values object) n v) ∙ h.objects;
        rows = rows-set;
        elements = λ k begin j p t b lt. says k begin j p t b lt (cases_eq k object) (cases_eq j n);
      }
