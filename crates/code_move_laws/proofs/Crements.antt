-- The steps of `++` and `--`: the old value, or the new one, gets into the slot.
use Rattle.std.proofs.Common.{◌≡◌, ℕ, ◌<◌, ◌^◌, refl, sym, ap, ◌∙◌, subst, arith, Bool, true, false, if◌then◌else◌, List, [], ◌∷◌, ◌++◌, length, Option, None, Some, Result, Ok, Err, slice_get, slice_set, slice_index, ℤ}
use Rattle.std.proofs.lemmas.List.{get_or-set_same}
use Rattle.std.proofs.lemmas.Option.{none-some}
use Rattle.lv_base.specs.declared.kind.Kind.{Kind}
use Rattle.lv_base.specs.declared.fault.ErrorKind.{ErrorKind}
use Rattle.lv_base.specs.Integers.{InRange, InAny, residue, converted}
use Rattle.c_tree.specs.declared.symbol.Crement.{Crement}
use Rattle.c_typed.specs.declared.tree.Object.{Object}
use Rattle.c_run.specs.Run.{Got, with_store, after, give, write, computed, element, choose}
use Rattle.slot_code.specs.declared.flat.Instruction.{Instruction}
use Rattle.slot_code.specs.declared.flat.Instruction.TheVariants as i
use Rattle.slot_code.specs.Slots.{get, put}
use Rattle.slot_code.specs.Machine.{Machine, machine}
use Rattle.slot_code.specs.Machine as flat
use Rattle.slot_laws.proofs.Lying.{put_same}
use Rattle.typed_range_laws.proofs.Ranging.{converted_in_range}
use Rattle.word_laws.specs.Laws.{error_of, first_met}
use Rattle.word_laws.proofs.Residues.{residue_below}
use Rattle.code_layout.specs.Reading.{is_array, is_array_at}
use Rattle.code_layout.specs.Layout.{slot_cell}
use Rattle.code_moves.specs.Setting.{Setting}
use Rattle.code_moves.specs.Values.{slot_value, element_value, failures_of, stepped, step_tested}
use Rattle.code_moves.specs.Deeds.{Sets}
use Rattle.code_moves.specs.Moves.{moves_of, fills, writes, index_value, old_value, new_value, step_of, changes, kept_in, kept_cell, kept_deeds, kept_value, step_behind}
use Rattle.layout_laws.specs.Differ.{OfSlot, OfElement, OfIndex}
use Rattle.layout_laws.specs.Serve.{HasSlot, Serves}
use Rattle.code_move_laws.specs.Ways.{converting, number_picked, read_back}
use Rattle.code_move_laws.specs.Mirrors.{IsLaid, element_of, Mirrors}
use Rattle.code_move_laws.specs.Steps.{Agrees}
use Rattle.cfg_build.specs.Steps.{offset_of}
use Rattle.code_move_laws.proofs.Stores.{W, beside, free-set, read-put, unread-put, not-part}
use Rattle.code_move_laws.proofs.Reaching.{Comes, behind, behind-at, slot-read, fill}
use Rattle.code_move_laws.proofs.Elements.{Reached, reached, kind_at, with_element, element-read, element-any, element-range, element-now, begins, room-is, no-room}
use Rattle.code_move_laws.proofs.Elements as elements
use Rattle.code_move_laws.proofs.Plain.{onward}
use Rattle.code_move_laws.proofs.Objects.{index-slot}
use Rattle.code_move_laws.proofs.Changing.{step_result, step-value, step-fails}

module _ (g : Setting) (inputs : List ℤ) (m : Machine) (store : List ℕ) (laid : IsLaid g) (h : Mirrors g m.slots (m.st).store store) where
  -- the element that a slot picks
  abbrev number_of : (s object : ℕ) → ℕ
  number_of s object = number_picked g object (get m.slots s)

  -- the value that it had
  abbrev old_of : (s object : ℕ) → ℤ
  old_of s object = element_of (m.st).store object (number_of s object)

  -- the values of objects where it has this one
  abbrev stepped_to : (s object : ℕ) → ℤ → List (List ℤ)
  stepped_to s object v = with_element (m.st).store object (number_of s object) v

  -- the value that gets into the slot
  abbrev given_of : (s object : ℕ) → Bool → ℤ → ℤ
  given_of s object before v = choose before (read_back g object (number_of s object) v) (old_of s object)

  -- the machine's `++` or `--`
  abbrev crement : (s at object : ℕ) → Bool → Crement → Kind → Got ℤ
  crement s at object before x k =
      flat.changed g.model (λ op kind a b. converting g.model op kind a b) inputs at before x k (element object (number_of s object)) (λ new. read_back g object (number_of s object) new) m.st

  -- the operation has a result, or it meets an error
  changes-result : (x : Instruction) (s at object : ℕ) (before : Bool) (k : Kind) (r : Result ℤ ErrorKind) → at ≡ offset_of x → first_met (failures_of g store x) ≡ error_of r
      → ((v : ℤ) → r ≡ Ok v → Comes g (moves_of g x) store [] [] (put m.slots s (given_of s object before (converted k g.model v))) (stepped_to s object (converted k g.model v)))
      → Agrees g inputs x m store
      (flat.fills m.place m.slots s (after (after (computed at r m.st) (λ v. write (element object (number_of s object)) (converted k g.model v))) (λ new. give (choose before (read_back g object (number_of s object) new) (old_of s object)))))
  changes-result x s at object before k (Err kind) a fm c = (fm, a, refl)
  changes-result x s at object before k (Ok v) a fm c =
      onward g inputs m store laid h x (put m.slots s (given_of s object before (converted k g.model v))) (with_store m.st (stepped_to s object (converted k g.model v))) refl fm (c v refl)

  module _ (s object : ℕ) (x : Crement) (k : Kind) (v : ℤ) (same : k ≡ kind_at g object) (result : step_result x k g.model (old_of s object) ≡ Ok v) where
    range : InRange (kind_at g object) g.model (converted k g.model v)
    range = subst (λ (j : Kind). InRange j g.model (converted k g.model v)) same (converted_in_range k g.model v)

    old_any : InAny (old_of s object)
    old_any = element-any g m.slots (m.st).store store object (number_of s object) laid h

    -- the new value out of the old one
    stepped-is : (b : ℕ) → b ≡ residue 64 (old_of s object) → stepped x k g.model b ≡ residue 64 (converted k g.model v)
    stepped-is b e = ap (stepped x k g.model) e ∙ step-value x k g.model (old_of s object) v old_any result

    module _ (has : is_array g.objects object ≡ true → HasSlot g.lay s) where
      reach : Reached g object (number_of s object) (slot_value g store s)
      reach = reached g m.slots (m.st).store store s object h has

      old-is : old_value g s object store ≡ residue 64 (old_of s object)
      old-is = element-read g m.slots (m.st).store store object laid h (number_of s object) (slot_value g store s) reach

      first : Comes g (step_of g s object x k) store [] [] m.slots (stepped_to s object (converted k g.model v))
      first =
          elements.write g m.slots (m.st).store store object (number_of s object) (converted k g.model v) laid h [] (converted k g.model v) (index_value g s) (new_value g s object x k) range refl
          (stepped-is (old_value g s object store) old-is) reach

      given_any : InAny (read_back g object (number_of s object) (converted k g.model v))
      given_any =
          subst InAny (element-now g m.slots (m.st).store store object (number_of s object) (converted k g.model v) laid h)
          (element-any g m.slots (stepped_to s object (converted k g.model v)) first.after object (number_of s object) laid first.mirrors)

      -- what is read of the element behind that gets into the slot
      pub new-comes : Comes g (step_of g s object x k ++ fills g s (old_value g s object)) store [] [] (put m.slots s (given_of s object true (converted k g.model v))) (stepped_to s object (converted k g.model v))
      new-comes =
          behind g (step_of g s object x k) (fills g s (old_value g s object)) store [] [] [] m.slots (put m.slots s (given_of s object true (converted k g.model v))) (stepped_to s object (converted k g.model v))
          (stepped_to s object (converted k g.model v)) first
          (λ c mir. fill g m.slots (stepped_to s object (converted k g.model v)) c [] s (given_of s object true (converted k g.model v)) (old_value g s object) laid mir given_any
          (element-read g m.slots (stepped_to s object (converted k g.model v)) c object laid mir (number_of s object) (slot_value g c s) (reached g m.slots (stepped_to s object (converted k g.model v)) c s object mir has)
          ∙ ap (residue 64) (element-now g m.slots (m.st).store store object (number_of s object) (converted k g.model v) laid h)))

      second : (cell : ℕ) (c : List ℕ) (index : List ℕ → ℕ) → slot_cell g.lay s ≡ Some cell → Mirrors g (put m.slots s (old_of s object)) (m.st).store c → Reached g object (number_of s object) (index c)
          → Comes g (writes g object index (λ st. stepped x k g.model (slice_index st cell))) c [] [] (put m.slots s (old_of s object)) (stepped_to s object (converted k g.model v))
      second cell c index there mir is =
          elements.write g (put m.slots s (old_of s object)) (m.st).store c object (number_of s object) (converted k g.model v) laid mir [] (converted k g.model v) index (λ st. stepped x k g.model (slice_index st cell)) range refl
          (stepped-is (slice_index c cell) (mir.slot s cell there ∙ ap (residue 64) (put_same m.slots s (old_of s object)))) is

      kept-comes : (cell : ℕ) (kept : Option ℕ) → slot_cell g.lay s ≡ Some cell → (kept ≡ None → is_array g.objects object ≡ false) → ((c : ℕ) → kept ≡ Some c → g.lay.index ≡ Some c)
          → Comes g ((kept_deeds kept (index_value g s) ++ Sets cell (old_value g s object) ∷ []) ++ writes g object (kept_value kept (index_value g s)) (λ st. stepped x k g.model (slice_index st cell))) store [] []
          (put m.slots s (old_of s object)) (stepped_to s object (converted k g.model v))
      kept-comes cell None there alone index =
          let c : List ℕ = slice_set store cell (old_value g s object store) in
          let mir : Mirrors g (put m.slots s (old_of s object)) (m.st).store c =
          subst (λ (b : ℕ). Mirrors g (put m.slots s (old_of s object)) (m.st).store (slice_set store cell b)) (sym old-is) (read-put g laid m.slots (m.st).store store h s cell (old_of s object) there old_any) in
          behind-at g (Sets cell (old_value g s object) ∷ []) (writes g object (index_value g s) (λ st. stepped x k g.model (slice_index st cell))) store c [] [] [] (put m.slots s (old_of s object)) (stepped_to s object (converted k g.model v)) refl
          (second cell c (index_value g s) there mir (scalar-reach (slot_value g c s) (alone refl)))
        where
          scalar-reach : (b : ℕ) → is_array g.objects object ≡ false → Reached g object (number_of s object) b
          scalar-reach b e = ap (λ (t : Bool). if t then b else 0) e ∙ sym (ap (λ (t : Bool). if t then residue 64 (get m.slots s) else 0) e)
      kept-comes cell (Some d) there alone index =
          let at : g.lay.index ≡ Some d = index d refl in
          let wide = laid.lies.index d at in
          let bits : slot_value g store s ≡ residue 64 (get m.slots s) = slot-read g m.slots (m.st).store store s s h (cell, there) refl in
          let fits : slot_value g store s < 2 ^ slice_index (W g laid) d = subst (λ (w : ℕ). slot_value g store s < 2 ^ w) (sym wide.1) (subst (λ (b : ℕ). b < 2 ^ 64) (sym bits) (residue_below 64 (get m.slots s))) in
          let one : List ℕ = slice_set store d (slot_value g store s) in
          let mir1 : Mirrors g m.slots (m.st).store one =
          free-set g laid m.slots (m.st).store store h OfIndex d (slot_value g store s) at (λ t. not-part OfIndex (OfSlot t) 3 1 refl refl (λ q. omega (arith, q))) (λ o j. not-part OfIndex (OfElement o j) 3 0 refl refl (λ q. omega (arith, q))) fits in
          let old1 : old_value g s object one ≡ residue 64 (old_of s object) =
          element-read g m.slots (m.st).store one object laid mir1 (number_of s object) (slot_value g one s) (reached g m.slots (m.st).store one s object mir1 has) in
          let c : List ℕ = slice_set one cell (old_value g s object one) in
          let mir : Mirrors g (put m.slots s (old_of s object)) (m.st).store c =
          subst (λ (b : ℕ). Mirrors g (put m.slots s (old_of s object)) (m.st).store (slice_set one cell b)) (sym old1) (read-put g laid m.slots (m.st).store one mir1 s cell (old_of s object) there old_any) in
          let within : d < length store = omega (arith, wide.0, h.whole.length) in
          let keeps : slice_index c d ≡ slot_value g store s =
          beside g laid (OfSlot s) OfIndex cell d (old_value g s object one) one there at (not-part (OfSlot s) OfIndex 1 3 refl refl (λ q. omega (arith, q))) ∙ get_or-set_same store d (slot_value g store s) 0 within in
          behind-at g (Sets d (index_value g s) ∷ Sets cell (old_value g s object) ∷ []) (writes g object (λ st. slice_index st d) (λ st. stepped x k g.model (slice_index st cell))) store c [] [] [] (put m.slots s (old_of s object))
          (stepped_to s object (converted k g.model v)) refl
          (second cell c (λ st. slice_index st d) there mir (ap (λ (b : ℕ). if is_array g.objects object then b else 0) keeps ∙ reach))

      -- the old value gets into the slot
      pub old-comes : (is_array g.objects object ≡ true → (c : ℕ) × (g.lay.index ≡ Some c))
          → Comes g (step_behind g s object x k (slot_cell g.lay s)) store [] [] (put m.slots s (old_of s object)) (stepped_to s object (converted k g.model v))
      old-comes index = by_cell (slot_cell g.lay s) refl
        where
          room : kept_cell g object ≡ (if is_array g.objects object then g.lay.index else None)
          room = by_object (slice_get g.objects object) refl
            where
              by_object : (p : Option Object) → slice_get g.objects object ≡ p → kept_cell g object ≡ (if is_array g.objects object then g.lay.index else None)
              by_object None e = ap (λ p. kept_in p g.lay.index) (no-room g object e) ∙ sym (ap (λ (t : Bool). if t then g.lay.index else None) (ap is_array_at e))
              by_object (Some o) e =
                  let b = begins g object o laid e in
                  ap (λ p. kept_in p g.lay.index) (room-is g object b.0 o e b.1) ∙ sym (ap (λ (t : Bool). if t then g.lay.index else None) (ap is_array_at e))

          alone : (b : Bool) → kept_cell g object ≡ (if b then g.lay.index else None) → (b ≡ true → (c : ℕ) × (g.lay.index ≡ Some c)) → kept_cell g object ≡ None → b ≡ false
          alone true e there none = let r = there refl in absurd (none-some r.0 (sym none ∙ e ∙ r.1))
          alone false e there none = refl

          array : (b : Bool) → kept_cell g object ≡ (if b then g.lay.index else None) → (c : ℕ) → kept_cell g object ≡ Some c → g.lay.index ≡ Some c
          array true e c some = sym e ∙ some
          array false e c some = absurd (none-some c (sym e ∙ some))

          by_cell : (o : Option ℕ) → slot_cell g.lay s ≡ o → Comes g (step_behind g s object x k (slot_cell g.lay s)) store [] [] (put m.slots s (old_of s object)) (stepped_to s object (converted k g.model v))
          by_cell None e =
              subst (λ (o : Option ℕ). Comes g (step_behind g s object x k o) store [] [] (put m.slots s (old_of s object)) (stepped_to s object (converted k g.model v))) (sym e)
              (record { after = first.after; reaches = first.reaches; mirrors = unread-put g laid m.slots (stepped_to s object (converted k g.model v)) first.after first.mirrors s (old_of s object) e old_any })
          by_cell (Some cell) e =
              subst (λ (o : Option ℕ). Comes g (step_behind g s object x k o) store [] [] (put m.slots s (old_of s object)) (stepped_to s object (converted k g.model v))) (sym e)
              (kept-comes cell (kept_cell g object) e (alone (is_array g.objects object) room index) (array (is_array g.objects object) room))

  pub change-step : (s at object : ℕ) (before : Bool) (x : Crement) (k : Kind) → k ≡ kind_at g object → Serves g.model g.objects g.lay (i.Change s before x k at object)
      → Agrees g inputs (i.Change s before x k at object) m store (flat.fills m.place m.slots s (crement s at object before x k))
  change-step s at object before x k same serves = changes-result (i.Change s before x k at object) s at object before k (step_result x k g.model (old_of s object)) refl fails (comes before serves)
    where
      has : is_array g.objects object ≡ true → HasSlot g.lay s
      has array = index-slot g.lay (is_array g.objects object) s 0 array serves.slots

      range : InRange k g.model (old_of s object)
      range = subst (λ (j : Kind). InRange j g.model (old_of s object)) (sym same) (element-range g m.slots (m.st).store store object (number_of s object) laid h)

      fails : first_met (step_tested x k g.model (element_value g store object (slot_value g store s))) ≡ error_of (step_result x k g.model (old_of s object))
      fails =
          ap (λ (b : ℕ). first_met (step_tested x k g.model b)) (element-read g m.slots (m.st).store store object laid h (number_of s object) (slot_value g store s) (reached g m.slots (m.st).store store s object h has))
          ∙ step-fails x k g.model (old_of s object) range

      comes : (b : Bool) → Serves g.model g.objects g.lay (i.Change s b x k at object) → (v : ℤ) → step_result x k g.model (old_of s object) ≡ Ok v
          → Comes g (changes g s b x k object) store [] [] (put m.slots s (given_of s object b (converted k g.model v))) (stepped_to s object (converted k g.model v))
      comes true serves v e = new-comes s object x k v same e has
      comes false serves v e = old-comes s object x k v same e has serves.index
