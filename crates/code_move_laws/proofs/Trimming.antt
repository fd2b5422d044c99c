-- Values of slots get into objects.
use Rattle.std.proofs.Common.{◌≡◌, ℕ, zero, suc, ◌+◌, ◌-◌, ◌<◌, ◌≤◌, ◌⊎◌, inl, inr, refl, sym, ap, ◌∙◌, subst, arith, min, nat_lt, lt-ltb, le-ltb, Bool, true, false, if◌then◌else◌, List, [], ◌∷◌, ◌++◌, map, length, replicate, length-append, Option, None, Some, slice_get, slice_set, slice_index_or, ℤ, pos}
use Rattle.std.specs.Prelude.{MatchBool}
use Rattle.std.proofs.lemmas.Bool.{cases_lt}
use Rattle.std.proofs.lemmas.List.{length-map, length-replicate, set_past}
use Rattle.lv_base.specs.declared.kind.Kind.{Kind}
use Rattle.lv_base.specs.declared.kind.Model.{Model}
use Rattle.lv_base.specs.declared.kind.Op.{Op}
use Rattle.lv_base.specs.Integers.{InRange, InAny, residue, width_of, converted, arith_of, is_shift, is_promoted, IsRight}
use Rattle.c_run.specs.Run.{padded}
use Rattle.c_typed.specs.declared.tree.Object.{Object}
use Rattle.slot_code.specs.Slots.{get, put, slots_from}
use Rattle.typed_range_laws.proofs.Bounds.{wrapped_in_range, truth_in_range}
use Rattle.word_laws.proofs.Residues.{residue_below}
use Rattle.word_laws.proofs.Wrapping.{converted_promoted, wrapped_back}
use Rattle.word_laws.proofs.Answering.{narrow_slot}
use Rattle.c_terms.specs.Numbers.{narrowed}
use Rattle.c_graph.specs.Steps.{moment}
use Rattle.code_layout.specs.Reading.{is_array}
use Rattle.code_layout.specs.Layout.{elements_of}
use Rattle.code_moves.specs.Setting.{Setting, room_of}
use Rattle.code_moves.specs.Values.{slot_value}
use Rattle.code_moves.specs.Deeds.{Sets}
use Rattle.code_moves.specs.Moves.{fills, writes, index_value, begun, begins_first, begins_in, binds_in}
use Rattle.layout_laws.specs.Serve.{HasSlot}
use Rattle.code_move_laws.specs.Ways.{objects_of, converting, trimmed, trimming, number_picked}
use Rattle.code_move_laws.specs.Mirrors.{IsLaid, Mirrors, row}
use Rattle.code_move_laws.specs.Trims.{ConvertingAgrees, StoresTrim, BeginsTrim, BindsTrim}
use Rattle.code_move_laws.proofs.Numbers.{wrapped_same}
use Rattle.code_move_laws.proofs.Stores.{element-set}
use Rattle.code_move_laws.proofs.Reaching.{Comes, behind, slot-read, fill, nothing}
use Rattle.code_move_laws.proofs.Elements.{Reached, reached, kind_at, with_element, begins, room-is, no-room, none-past, told-size, told-none, told-kind}
use Rattle.code_move_laws.proofs.Elements as elements
use Rattle.code_move_laws.proofs.Objects.{index-slot, value-slot}
use Rattle.code_move_laws.proofs.Rows.{stored-rows}

-- ---- Values

converted-same : (kind : Kind) (model : Model) (v : ℤ) → is_promoted kind ≡ true → InRange kind model v → converted kind model v ≡ v
converted-same kind model v p h = converted_promoted kind model v p ∙ wrapped_same kind model v h

right-same : (b : Bool) (kind : Kind) (model : Model) (v : ℤ) → is_promoted kind ≡ true → MatchBool b (InAny v) (InRange kind model v) → (if b then v else converted kind model v) ≡ v
right-same true kind model v p h = refl
right-same false kind model v p h = converted-same kind model v p h

operands-same : (model : Model) (op : Op) (kind : Kind) (left right : ℤ) → is_promoted kind ≡ true → InRange kind model left → IsRight op kind model right → converting model op kind left right ≡ arith_of op kind model left right
operands-same model op kind left right p h r =
    ap (λ (a : ℤ). arith_of op kind model a (if is_shift op then right else converted kind model right)) (converted-same kind model left p h)
    ∙ ap (arith_of op kind model left) (right-same (is_shift op) kind model right p r)

pub converting-agrees : ConvertingAgrees
converting-agrees model = record { same = operands-same model }

trimmed-bits : (kind : Kind) (model : Model) (v : ℤ) → residue (width_of kind model) v ≡ residue (width_of kind model) (trimmed kind model v)
trimmed-bits kind model v = sym (wrapped_back kind model (residue (width_of kind model) v) (residue_below (width_of kind model) v))

trimmed-range : (kind : Kind) (model : Model) (v : ℤ) → InRange kind model (trimmed kind model v)
trimmed-range kind model v = wrapped_in_range kind model (residue (width_of kind model) v) (residue_below (width_of kind model) v)

trimming-is : (g : Setting) (object : ℕ) (o : Object) (v : ℤ) → slice_get g.objects object ≡ Some o → trimmed o.kind g.model v ≡ trimming g.model (objects_of g) object v
trimming-is g object o v e = ap (λ (k : Kind). trimmed k g.model v) (sym (told-kind g object o e))

-- ---- Store

pub stores-trim : StoresTrim
stores-trim g slots values store slot object laid serves h = (all.after, all.reaches, all.mirrors)
  where
    has : HasSlot g.lay (slot + 1)
    has = let q : slot + 1 + 0 ≡ slot + 1 = omega arith in subst (HasSlot g.lay) q (value-slot g.lay (is_array g.objects object) slot 1 0 (omega arith) serves.slots)

    reach : Reached g object (number_picked g object (get slots slot)) (slot_value g store slot)
    reach = reached g slots values store slot object h (λ array. index-slot g.lay (is_array g.objects object) slot 1 array serves.slots)

    says : (vals : List (List ℤ)) (c : List ℕ) → Mirrors g slots vals c → slot_value g c (slot + 1) ≡ residue 64 (get slots (suc slot))
    says vals c mir = slot-read g slots vals c (slot + 1) (suc slot) mir has (omega arith)

    new : List (List ℤ)
    new = with_element values object (number_picked g object (get slots slot)) (trimming g.model (objects_of g) object (get slots (suc slot)))

    first : Comes g (writes g object (index_value g slot) (index_value g (slot + 1))) store [] [] slots new
    first =
        elements.write g slots values store object (number_picked g object (get slots slot)) (trimming g.model (objects_of g) object (get slots (suc slot))) laid h [] (get slots (suc slot)) (index_value g slot) (index_value g (slot + 1))
        (trimmed-range (kind_at g object) g.model (get slots (suc slot))) (trimmed-bits (kind_at g object) g.model (get slots (suc slot))) (says values store h) reach

    all : Comes g (writes g object (index_value g slot) (index_value g (slot + 1)) ++ fills g slot (index_value g (slot + 1))) store [] [] (put slots slot (get slots (suc slot))) new
    all =
        behind g (writes g object (index_value g slot) (index_value g (slot + 1))) (fills g slot (index_value g (slot + 1))) store [] [] [] slots (put slots slot (get slots (suc slot))) new new first
        (λ c mir. fill g slots new c [] slot (get slots (suc slot)) (index_value g (slot + 1)) laid mir (h.any (suc slot)) (says new c mir))

-- ---- Begin

zeros-at : (c j : ℕ) → slice_index_or (replicate c (pos 0)) j (pos 0) ≡ pos 0
zeros-at zero j = refl
zeros-at (suc c) zero = refl
zeros-at (suc c) (suc j) = zeros-at c j

inside-at : (f : ℤ → ℤ) (slots : List ℤ) (slot n j : ℕ) (rest : List ℤ) → j < n → slice_index_or (map f (slots_from slots slot n) ++ rest) j (pos 0) ≡ f (get slots (slot + j))
inside-at f slots slot zero j rest lt = absurd (omega (arith, lt))
inside-at f slots slot (suc n) zero rest lt = let q : slot ≡ slot + 0 = omega arith in ap (λ (k : ℕ). f (get slots k)) q
inside-at f slots slot (suc n) (suc j) rest lt = let q : suc slot + j ≡ slot + suc j = omega arith in inside-at f slots (suc slot) n j rest (omega (arith, lt)) ∙ ap (λ (k : ℕ). f (get slots k)) q

beyond-at : (f : ℤ → ℤ) (slots : List ℤ) (slot n j c : ℕ) → n ≤ j → slice_index_or (map f (slots_from slots slot n) ++ replicate c (pos 0)) j (pos 0) ≡ pos 0
beyond-at f slots slot zero j c le = zeros-at c j
beyond-at f slots slot (suc n) zero c le = absurd (omega (arith, le))
beyond-at f slots slot (suc n) (suc j) c le = beyond-at f slots (suc slot) n j c (omega (arith, le))

length-from : (slots : List ℤ) (slot n : ℕ) → length (slots_from slots slot n) ≡ n
length-from slots slot zero = refl
length-from slots slot (suc n) = ap suc (length-from slots (suc slot) n)

length-padded : (f : ℤ → ℤ) (slots : List ℤ) (slot n count : ℕ) → n ≤ count → length (padded count (map f (slots_from slots slot n))) ≡ count
length-padded f slots slot n count le =
    let xs : List ℤ = map f (slots_from slots slot n) in
    let a : length (padded count xs) ≡ length xs + length (replicate (count - length xs) (pos 0)) = length-append xs (replicate (count - length xs) (pos 0)) in
    let b : length (replicate (count - length xs) (pos 0)) ≡ count - length xs = length-replicate (count - length xs) (pos 0) in
    let d : length xs ≡ n = length-map (slots_from slots slot n) f ∙ length-from slots slot n in
    omega (arith, a, b, d, le)

module _ (g : Setting) (slots : List ℤ) (values : List (List ℤ)) (store : List ℕ) (slot object count n : ℕ) (laid : IsLaid g) (h : Mirrors g slots values store) (few : n ≤ count) (has : (k : ℕ) → k < n → HasSlot g.lay (slot + k)) where
  -- what becomes of the values in a kind
  abbrev kept : Kind → List ℤ
  kept k = padded count (map (λ v. trimmed k g.model v) (slots_from slots slot n))

  begin-rows : (first : ℕ) (o : Object) → slice_get g.objects object ≡ Some o → slice_get g.lay.firsts object ≡ Some first → count ≡ elements_of o
      → Comes g (begins_first g (record { first = first; length = elements_of o; kind = o.kind; is_array = nat_lt 0 o.length }) slot n (elements_of o)) store [] [] slots (slice_set values object (kept o.kind))
  begin-rows first o there base size =
      stored-rows g laid slots values store h object first o there base (kept o.kind) (length-padded (λ v. trimmed o.kind g.model v) slots slot n count few ∙ size) range
      (λ j. begins_first g (record { first = first; length = elements_of o; kind = o.kind; is_array = nat_lt 0 o.length }) slot n j) (λ j. Sets (first + j) (λ c. narrowed o.kind g.model (begun g slot n j c))) (λ j. []) refl (λ j. refl)
      (λ j lt vals c mir. ap (λ (x : ℕ). Some (moment (slice_set c (first + j) x) [])) (bits j vals c mir (cases_lt j n)))
    where
      range-by : (j : ℕ) → (j < n) ⊎ (n ≤ j) → InRange o.kind g.model (slice_index_or (kept o.kind) j (pos 0))
      range-by j (inl lt) = subst (λ (v : ℤ). InRange o.kind g.model v) (sym (inside-at (λ v. trimmed o.kind g.model v) slots slot n j _ lt)) (trimmed-range o.kind g.model (get slots (slot + j)))
      range-by j (inr le) = subst (λ (v : ℤ). InRange o.kind g.model v) (sym (beyond-at (λ v. trimmed o.kind g.model v) slots slot n j _ le)) (truth_in_range o.kind g.model false)

      range : (j : ℕ) → j < elements_of o → InRange o.kind g.model (slice_index_or (kept o.kind) j (pos 0))
      range j lt = range-by j (cases_lt j n)

      bits : (j : ℕ) (vals : List (List ℤ)) (c : List ℕ) → Mirrors g slots vals c → (j < n) ⊎ (n ≤ j) → narrowed o.kind g.model (begun g slot n j c) ≡ residue (width_of o.kind g.model) (slice_index_or (kept o.kind) j (pos 0))
      bits j vals c mir (inl lt) =
          ap (λ (b : Bool). narrowed o.kind g.model (if b then slot_value g c (slot + j) else 0)) (lt-ltb j n lt)
          ∙ ap (narrowed o.kind g.model) (slot-read g slots vals c (slot + j) (slot + j) mir (has j lt) refl)
          ∙ narrow_slot o.kind g.model (get slots (slot + j)) ∙ trimmed-bits o.kind g.model (get slots (slot + j))
          ∙ ap (residue (width_of o.kind g.model)) (sym (inside-at (λ v. trimmed o.kind g.model v) slots slot n j _ lt))
      bits j vals c mir (inr le) =
          ap (λ (b : Bool). narrowed o.kind g.model (if b then slot_value g c (slot + j) else 0)) (le-ltb j n le)
          ∙ narrow_slot o.kind g.model (pos 0)
          ∙ ap (residue (width_of o.kind g.model)) (sym (beyond-at (λ v. trimmed o.kind g.model v) slots slot n j _ le))

pub begins-trim : BeginsTrim
begins-trim g slots values store slot object count n laid serves shaped h = (all.after, all.reaches, all.mirrors)
  where
    by_object : (p : Option Object) → slice_get g.objects object ≡ p
        → Comes g (begins_in g (room_of g object) slot count n) store [] [] slots (slice_set values object (padded count (map (λ v. trimming g.model (objects_of g) object v) (slots_from slots slot n))))
    by_object None e =
        let list : List ℤ = padded count (map (λ v. trimming g.model (objects_of g) object v) (slots_from slots slot n)) in
        let past : length values ≤ object = omega (arith, none-past g.objects object e, h.objects) in
        let stays : slice_set values object list ≡ values = set_past values object list past in
        subst (λ r. Comes g (begins_in g r slot count n) store [] [] slots (slice_set values object (padded count (map (λ v. trimming g.model (objects_of g) object v) (slots_from slots slot n))))) (sym (no-room g object e))
        (nothing g store [] slots _ (subst (λ (v : List (List ℤ)). Mirrors g slots v store) (sym stays) h))
    by_object (Some o) e =
        let b = begins g object o laid e in
        let size : count ≡ elements_of o = shaped.0 ∙ told-size g object o e in
        let most : elements_of o ≡ min count (elements_of o) = omega (arith, size) in
        subst (λ r. Comes g (begins_in g r slot count n) store [] [] slots (slice_set values object (padded count (map (λ v. trimming g.model (objects_of g) object v) (slots_from slots slot n))))) (sym (room-is g object b.0 o e b.1))
        (subst (λ (j : ℕ). Comes g (begins_first g (record { first = b.0; length = elements_of o; kind = o.kind; is_array = nat_lt 0 o.length }) slot n j) store [] [] slots
        (slice_set values object (padded count (map (λ v. trimming g.model (objects_of g) object v) (slots_from slots slot n))))) most
        (subst (λ (k : Kind). Comes g (begins_first g (record { first = b.0; length = elements_of o; kind = o.kind; is_array = nat_lt 0 o.length }) slot n (elements_of o)) store [] [] slots
        (slice_set values object (padded count (map (λ v. trimmed k g.model v) (slots_from slots slot n))))) (sym (told-kind g object o e))
        (begin-rows g slots values store slot object count n laid h shaped.1 (λ k lt. serves.slots k lt) b.0 o e b.1 size)))

    all : Comes g (begins_in g (room_of g object) slot count n) store [] [] slots (slice_set values object (padded count (map (λ v. trimming g.model (objects_of g) object v) (slots_from slots slot n))))
    all = by_object (slice_get g.objects object) refl

-- ---- Bind

row-one : (r : List ℤ) (v : ℤ) → length r ≡ 1 → slice_set r 0 v ≡ v ∷ []
row-one [] v e = absurd (omega (arith, e))
row-one (x ∷ []) v e = refl
row-one (x ∷ y ∷ r) v e = absurd (omega (arith, e))

pub binds-trim : BindsTrim
binds-trim g slots values store slot object laid serves shaped h = (all.after, all.reaches, all.mirrors)
  where
    has : HasSlot g.lay slot
    has = let q : slot + 0 ≡ slot = omega arith in subst (HasSlot g.lay) q (serves.slots 0 (omega arith))

    by_object : (p : Option Object) → slice_get g.objects object ≡ p → Comes g (binds_in g (room_of g object) slot) store [] [] slots (slice_set values object (trimming g.model (objects_of g) object (get slots slot) ∷ []))
    by_object None e = absurd (omega (arith, shaped, told-none g object e))
    by_object (Some o) e =
        let b = begins g object o laid e in
        let one : elements_of o ≡ 1 = sym (told-size g object o e) ∙ shaped in
        let v : ℤ = trimmed o.kind g.model (get slots slot) in
        let bits : narrowed o.kind g.model (slot_value g store slot) ≡ residue (width_of o.kind g.model) (trimmed o.kind g.model (get slots slot)) =
        ap (narrowed o.kind g.model) (slot-read g slots values store slot slot h has refl) ∙ narrow_slot o.kind g.model (get slots slot) ∙ trimmed-bits o.kind g.model (get slots slot) in
        let whole : slice_set (row values object) 0 (trimmed o.kind g.model (get slots slot)) ≡ trimmed o.kind g.model (get slots slot) ∷ [] = row-one (row values object) (trimmed o.kind g.model (get slots slot)) (h.rows object o e ∙ one) in
        let mir : Mirrors g slots (slice_set values object (slice_set (row values object) 0 (trimmed o.kind g.model (get slots slot)))) (slice_set store (b.0 + 0) (residue (width_of o.kind g.model) (trimmed o.kind g.model (get slots slot)))) =
        element-set g laid slots values store h object b.0 0 o (trimmed o.kind g.model (get slots slot)) e b.1 (omega (arith, one)) (trimmed-range o.kind g.model (get slots slot)) in
        subst (λ r. Comes g (binds_in g r slot) store [] [] slots (slice_set values object (trimming g.model (objects_of g) object (get slots slot) ∷ []))) (sym (room-is g object b.0 o e b.1))
        (record {
          after = slice_set store (b.0 + 0) (narrowed o.kind g.model (slot_value g store slot));
          reaches = refl;
          mirrors = subst (λ (x : ℕ). Mirrors g slots (slice_set values object (trimming g.model (objects_of g) object (get slots slot) ∷ [])) (slice_set store (b.0 + 0) x)) (sym bits)
              (subst (λ (w : ℤ). Mirrors g slots (slice_set values object (w ∷ [])) (slice_set store (b.0 + 0) (residue (width_of o.kind g.model) (trimmed o.kind g.model (get slots slot))))) (trimming-is g object o (get slots slot) e)
              (subst (λ (r : List ℤ). Mirrors g slots (slice_set values object r) (slice_set store (b.0 + 0) (residue (width_of o.kind g.model) (trimmed o.kind g.model (get slots slot))))) whole mir));
        })

    all : Comes g (binds_in g (room_of g object) slot) store [] [] slots (slice_set values object (trimming g.model (objects_of g) object (get slots slot) ∷ []))
    all = by_object (slice_get g.objects object) refl
