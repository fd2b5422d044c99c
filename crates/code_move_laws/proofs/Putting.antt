-- The steps of instructions that put values of slots into objects.
use Rattle.std.proofs.Common.{◌≡◌, ℕ, zero, suc, refl, sym, ap, subst, List, [], ◌∷◌, map, slice_set, ℤ}
use Rattle.c_run.specs.Run.{with_store, padded}
use Rattle.slot_code.specs.declared.flat.Instruction.TheVariants as i
use Rattle.slot_code.specs.Slots.{get, put, slots_from, slots_through}
use Rattle.slot_code.specs.Machine.{Machine, machine, Goes}
use Rattle.slot_laws.specs.Laws.{IsShaped}
use Rattle.code_moves.specs.Setting.{Setting}
use Rattle.layout_laws.specs.Serve.{Serves}
use Rattle.code_move_laws.specs.Mirrors.{IsLaid, Mirrors, row}
use Rattle.code_move_laws.specs.Ways.{objects_of, trimming, number_picked}
use Rattle.code_move_laws.specs.Steps.{Agrees, acted}
use Rattle.code_move_laws.proofs.Plain.{onward}
use Rattle.code_move_laws.proofs.Trimming.{stores-trim, begins-trim, binds-trim}

through-map : (f : ℤ → ℤ) (slots : List ℤ) (s n : ℕ) → slots_through f slots s n ≡ map f (slots_from slots s n)
through-map f slots s zero = refl
through-map f slots s (suc n) = ap (λ (r : List ℤ). f (get slots s) ∷ r) (through-map f slots (suc s) n)

module _ (g : Setting) (inputs : List ℤ) (m : Machine) (store : List ℕ) (laid : IsLaid g) (h : Mirrors g m.slots (m.st).store store) where
  pub store-step : (s object : ℕ) → Serves g.model g.objects g.lay (i.Store s object) → Agrees g inputs (i.Store s object) m store (acted g inputs (i.Store s object) m)
  store-step s object serves =
      let t = stores-trim g m.slots (m.st).store store s object laid serves h in
      onward g inputs m store laid h (i.Store s object) (put m.slots s (get m.slots (suc s)))
      (with_store m.st (slice_set (m.st).store object (slice_set (row (m.st).store object) (number_picked g object (get m.slots s)) (trimming g.model (objects_of g) object (get m.slots (suc s)))))) refl refl
      (record { after = t.0; reaches = t.1; mirrors = t.2 })

  pub begin-step : (s object count n : ℕ) → Serves g.model g.objects g.lay (i.Begin s object count n) → IsShaped (objects_of g) (i.Begin s object count n)
      → Agrees g inputs (i.Begin s object count n) m store (acted g inputs (i.Begin s object count n) m)
  begin-step s object count n serves shaped =
      let t = begins-trim g m.slots (m.st).store store s object count n laid serves shaped h in
      subst (λ (xs : List ℤ). Agrees g inputs (i.Begin s object count n) m store (Goes (machine (suc m.place) m.slots (with_store m.st (slice_set (m.st).store object (padded count xs))))))
      (sym (through-map (λ v. trimming g.model (objects_of g) object v) m.slots s n))
      (onward g inputs m store laid h (i.Begin s object count n) m.slots (with_store m.st (slice_set (m.st).store object (padded count (map (λ v. trimming g.model (objects_of g) object v) (slots_from m.slots s n))))) refl refl
      (record { after = t.0; reaches = t.1; mirrors = t.2 }))

  pub bind-step : (s object : ℕ) → Serves g.model g.objects g.lay (i.Bind s object) → IsShaped (objects_of g) (i.Bind s object) → Agrees g inputs (i.Bind s object) m store (acted g inputs (i.Bind s object) m)
  bind-step s object serves shaped =
      let t = binds-trim g m.slots (m.st).store store s object laid serves shaped h in
      onward g inputs m store laid h (i.Bind s object) m.slots (with_store m.st (slice_set (m.st).store object (trimming g.model (objects_of g) object (get m.slots s) ∷ []))) refl refl
      (record { after = t.0; reaches = t.1; mirrors = t.2 })
