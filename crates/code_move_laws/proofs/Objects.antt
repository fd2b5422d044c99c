-- Instructions that read and write an element that a slot picks.
use Rattle.std.proofs.Common.{◌≡◌, ℕ, suc, ◌+◌, ◌<◌, refl, sym, ap, ◌∙◌, subst, arith, Bool, true, false, if◌then◌else◌, List, [], Result, Ok, Err, ℤ}
use Rattle.lv_base.specs.declared.kind.Kind.{Kind}
use Rattle.lv_base.specs.declared.fault.ErrorKind.{ErrorKind}
use Rattle.lv_base.specs.Integers.{InRange, InAny, residue, converted, is_promoted}
use Rattle.c_tree.specs.declared.symbol.BinaryOp.{BinaryOp}
use Rattle.c_run.specs.Run.{with_store, after, read, write, computed, element}
use Rattle.c_run.specs.Operators.{op_of, is_turned, is_negated, is_logical}
use Rattle.slot_code.specs.declared.flat.Instruction.{Instruction}
use Rattle.slot_code.specs.declared.flat.Instruction.TheVariants as i
use Rattle.slot_code.specs.Slots.{get, put}
use Rattle.slot_code.specs.Machine.{Machine, machine}
use Rattle.slot_code.specs.Machine as flat
use Rattle.typed_range_laws.proofs.Bounds.{in_any}
use Rattle.typed_range_laws.proofs.Ranging.{converted_in_range}
use Rattle.word_laws.specs.Laws.{done, meant, error_of, first_met}
use Rattle.word_laws.proofs.Whole.{conversions, operations, all_failures}
use Rattle.c_terms.specs.Numbers.{converted as word_converted}
use Rattle.code_layout.specs.Reading.{span, is_array, on_element}
use Rattle.code_layout.specs.Layout.{Lay}
use Rattle.code_moves.specs.Setting.{Setting}
use Rattle.code_moves.specs.Values.{slot_value, failures_of, applied, tested}
use Rattle.code_moves.specs.Moves.{moves_of, fills, writes, stores, index_value, old_value, updated_value}
use Rattle.layout_laws.specs.Serve.{HasSlot, Serves}
use Rattle.code_move_laws.specs.Ways.{converting, number_picked}
use Rattle.code_move_laws.specs.Mirrors.{IsLaid, element_of, Mirrors}
use Rattle.code_move_laws.specs.Steps.{Agrees}
use Rattle.cfg_build.specs.Steps.{offset_of}
use Rattle.code_move_laws.proofs.Reaching.{Comes, behind, slot-read, fill}
use Rattle.code_move_laws.proofs.Elements.{Reached, reached, kind_at, with_element, element-read, element-any}
use Rattle.code_move_laws.proofs.Elements as elements
use Rattle.code_move_laws.proofs.Plain.{onward, filled-by, meant-any, negated-over}

-- ---- The slots of an element

pub index-slot : (l : Lay) (b : Bool) (s count : ℕ) → b ≡ true → ((k : ℕ) → k < (if b then span s (count + 1) else span (s + 1) count).count → HasSlot l ((if b then span s (count + 1) else span (s + 1) count).first + k)) → HasSlot l s
index-slot l true s count e has = let q : s + 0 ≡ s = omega arith in subst (HasSlot l) q (has 0 (omega arith))
index-slot l false s count e has = absurd cc

pub value-slot : (l : Lay) (b : Bool) (s count k : ℕ) → k < count → ((k : ℕ) → k < (if b then span s (count + 1) else span (s + 1) count).count → HasSlot l ((if b then span s (count + 1) else span (s + 1) count).first + k)) → HasSlot l (s + 1 + k)
value-slot l true s count k lt has = let q : s + (k + 1) ≡ s + 1 + k = omega arith in subst (HasSlot l) q (has (k + 1) (omega (arith, lt)))
value-slot l false s count k lt has = has k lt

module _ (g : Setting) (inputs : List ℤ) (m : Machine) (store : List ℕ) (laid : IsLaid g) (h : Mirrors g m.slots (m.st).store store) where
  -- the element that a slot picks
  abbrev number_of : (s object : ℕ) → ℕ
  number_of s object = number_picked g object (get m.slots s)

  reach : (s object count : ℕ) → ((k : ℕ) → k < (on_element g.objects object s count).count → HasSlot g.lay ((on_element g.objects object s count).first + k)) → Reached g object (number_of s object) (slot_value g store s)
  reach s object count has = reached g m.slots (m.st).store store s object h (λ array. index-slot g.lay (is_array g.objects object) s count array has)

  pub load-step : (s object : ℕ) → Serves g.model g.objects g.lay (i.Load s object) → Agrees g inputs (i.Load s object) m store (flat.fills m.place m.slots (suc s) (read (element object (number_of s object)) m.st))
  load-step s object serves =
      let next : s + 1 ≡ suc s = omega arith in
      filled-by g inputs m store laid h (i.Load s object) (suc s) (element_of (m.st).store object (number_of s object)) (old_value g s object) (ap (λ (k : ℕ). fills g k (old_value g s object)) next) refl
      (element-any g m.slots (m.st).store store object (number_of s object) laid h)
      (element-read g m.slots (m.st).store store object laid h (number_of s object) (slot_value g store s) (reach s object 0 serves.slots))

  -- the result of an operation gets into an element and into a slot, or it meets an error
  pub stores-result : (x : Instruction) (s at object : ℕ) (l : Kind) (f : List ℕ → ℕ) (r : Result ℤ ErrorKind) → moves_of g x ≡ stores g s object f → at ≡ offset_of x → first_met (failures_of g store x) ≡ error_of r
      → Reached g object (number_of s object) (slot_value g store s) → l ≡ kind_at g object
      → ((v : ℤ) → r ≡ Ok v → (values : List (List ℤ)) (c : List ℕ) → Mirrors g m.slots values c → f c ≡ residue 64 (converted l g.model v))
      → Agrees g inputs x m store (flat.fills m.place m.slots s (after (computed at r m.st) (λ v. write (element object (number_of s object)) (converted l g.model v))))
  stores-result x s at object l f (Err kind) e a fm there same value = (fm, a, refl)
  stores-result x s at object l f (Ok v) e a fm there same value =
      let new : List (List ℤ) = with_element (m.st).store object (number_of s object) (converted l g.model v) in
      let range : InRange (kind_at g object) g.model (converted l g.model v) = subst (λ (k : Kind). InRange k g.model (converted l g.model v)) same (converted_in_range l g.model v) in
      let first : Comes g (writes g object (index_value g s) f) store [] [] m.slots new =
      elements.write g m.slots (m.st).store store object (number_of s object) (converted l g.model v) laid h [] (converted l g.model v) (index_value g s) f range refl (value v refl (m.st).store store h) there in
      onward g inputs m store laid h x (put m.slots s (converted l g.model v)) (with_store m.st new) refl fm
      (subst (λ ds. Comes g ds store [] [] (put m.slots s (converted l g.model v)) new) (sym e)
      (behind g (writes g object (index_value g s) f) (fills g s f) store [] [] [] m.slots (put m.slots s (converted l g.model v)) new new first
      (λ c k. fill g m.slots new c [] s (converted l g.model v) f laid k (in_any l g.model (converted l g.model v) (converted_in_range l g.model v)) (value v refl new c k))))

  pub update-step : (s at object : ℕ) (o : BinaryOp) (k l : Kind) → is_promoted k ≡ true → is_logical o ≡ false → l ≡ kind_at g object → Serves g.model g.objects g.lay (i.Update s o k l at object)
      → Agrees g inputs (i.Update s o k l at object) m store
      (flat.fills m.place m.slots s (flat.updated g.model (λ op kind a b. converting g.model op kind a b) inputs at o k l (element object (number_of s object)) (get m.slots (suc s)) (get m.slots (suc (suc s))) m.st))
  update-step s at object o k l p logic same serves =
      subst (λ got. Agrees g inputs (i.Update s o k l at object) m store (flat.fills m.place m.slots s (after got (λ v. write (element object (number_of s object)) (converted l g.model v)))))
      (sym (negated-over (is_negated o) at (if is_turned o then done (op_of o) k g.model y x else done (op_of o) k g.model x y) m.st))
      (stores-result (i.Update s o k l at object) s at object l (updated_value g s o k l) (meant o k g.model x y) refl refl fails (reach s object 2 serves.slots) same value)
    where
      x : ℤ
      x = converted k g.model (get m.slots (suc s))

      y : ℤ
      y = get m.slots (suc (suc s))

      x_any : InAny x
      x_any = in_any k g.model x (converted_in_range k g.model (get m.slots (suc s)))

      has_left : HasSlot g.lay (s + 1)
      has_left = let q : s + 1 + 0 ≡ s + 1 = omega arith in subst (HasSlot g.lay) q (value-slot g.lay (is_array g.objects object) s 2 0 (omega arith) serves.slots)

      has_right : HasSlot g.lay (s + 2)
      has_right = let q : s + 1 + 1 ≡ s + 2 = omega arith in subst (HasSlot g.lay) q (value-slot g.lay (is_array g.objects object) s 2 1 (omega arith) serves.slots)

      left : (values : List (List ℤ)) (c : List ℕ) → Mirrors g m.slots values c → word_converted k g.model (slot_value g c (s + 1)) ≡ residue 64 x
      left values c mir = ap (word_converted k g.model) (slot-read g m.slots values c (s + 1) (suc s) mir has_left (omega arith)) ∙ conversions k g.model (get m.slots (suc s)) (h.any (suc s))

      right : (values : List (List ℤ)) (c : List ℕ) → Mirrors g m.slots values c → slot_value g c (s + 2) ≡ residue 64 y
      right values c mir = slot-read g m.slots values c (s + 2) (suc (suc s)) mir has_right (omega arith)

      fails : first_met (tested o k g.model (word_converted k g.model (slot_value g store (s + 1))) (slot_value g store (s + 2))) ≡ error_of (meant o k g.model x y)
      fails =
          ap (λ (n : ℕ). first_met (tested o k g.model n (slot_value g store (s + 2)))) (left (m.st).store store h) ∙ ap (λ (n : ℕ). first_met (tested o k g.model (residue 64 x) n)) (right (m.st).store store h)
          ∙ all_failures o k g.model x y p logic x_any (h.any (suc (suc s)))

      value : (v : ℤ) → meant o k g.model x y ≡ Ok v → (values : List (List ℤ)) (c : List ℕ) → Mirrors g m.slots values c → updated_value g s o k l c ≡ residue 64 (converted l g.model v)
      value v e values c mir =
          ap (λ (n : ℕ). word_converted l g.model (applied o k g.model n (slot_value g c (s + 2)))) (left values c mir) ∙ ap (λ (n : ℕ). word_converted l g.model (applied o k g.model (residue 64 x) n)) (right values c mir)
          ∙ ap (word_converted l g.model) (operations o k g.model x y v p logic x_any (h.any (suc (suc s))) e) ∙ conversions l g.model v (meant-any o k g.model x y v e)
