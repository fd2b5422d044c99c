-- Indices that are tested, and what a call gave.
use Rattle.std.proofs.Common.{◌≡◌, ℕ, suc, ◌+◌, ◌-◌, ◌<◌, ◌≤◌, ◌^◌, ◌%◌, ◌⊎◌, inl, inr, refl, sym, ap, ◌∙◌, subst, arith, Bool, true, false, not, ◌&&◌, if◌then◌else◌, nat_lt, lt-ltb, le-ltb, le-leb, List, [], ◌∷◌, None, Some, slice_get, ℤ, pos, negsuc}
use Rattle.std.specs.Prelude.{int_le, int_lt, unsigned_abs, nat_eq}
use Rattle.std.proofs.Math.Nat.{mod-eq_of_lt}
use Rattle.std.proofs.lemmas.Int.{ints}
use Rattle.std.proofs.lemmas.Bool.{cases_lt, cases_eq}
use Rattle.lv_base.specs.declared.fault.ErrorKind.{ErrorKind}
use Rattle.lv_base.specs.declared.fault.ErrorKind.TheVariants as error
use Rattle.lv_base.specs.Integers.{InAny, residue, is_zero}
use Rattle.c_typed.specs.Run.{size_of}
use Rattle.c_run.specs.Run.{State, Element, element, choose, give, fail, after, is_true}
use Rattle.c_run.specs.Run as run
use Rattle.slot_code.specs.declared.flat.Instruction.TheVariants as i
use Rattle.slot_code.specs.Slots.{get, put}
use Rattle.slot_code.specs.Machine.{Machine, machine}
use Rattle.slot_code.specs.Machine as flat
use Rattle.slot_laws.proofs.Lying.{put_same, put_other}
use Rattle.word_laws.specs.Laws.{first_met}
use Rattle.word_laws.proofs.Whole.{zeros}
use Rattle.bv_term.specs.Numbers.{truth, complement_in}
use Rattle.c_terms.specs.Numbers.{zero_test}
use Rattle.c_terms.specs.Operations.{failure}
use Rattle.code_moves.specs.Setting.{Setting}
use Rattle.code_moves.specs.Values.{slot_value, index_fails, taken}
use Rattle.code_moves.specs.Moves.{old_value}
use Rattle.layout_laws.specs.Serve.{HasSlot, Serves}
use Rattle.code_move_laws.specs.Ways.{objects_of, number_picked}
use Rattle.code_move_laws.specs.Mirrors.{IsLaid, element_of, Mirrors}
use Rattle.code_move_laws.specs.Steps.{Agrees, acted}
use Rattle.code_move_laws.proofs.Reaching.{nothing}
use Rattle.code_move_laws.proofs.Elements.{size-few, reached, picked-index, element-read, element-any}
use Rattle.code_move_laws.proofs.Plain.{onward, filled-by, says}

-- ---- Tests of indices

abbrev inside : ℤ → ℕ → Bool
inside v count = int_le (pos 0) v && int_lt v (pos count)

data Located (v : ℤ) (count : ℕ) : Type 0 where
  found : (n : ℕ) → v ≡ pos n → n < count → inside v count ≡ true → nat_lt (residue 64 v) count ≡ true → Located v count
  missed : inside v count ≡ false → nat_lt (residue 64 v) count ≡ false → Located v count

located : (v : ℤ) (count : ℕ) → InAny v → count < 4294967296 → Located v count
located (pos n) count any few =
    let s : n % 2 ^ 64 ≡ n = mod-eq_of_lt (omega (arith, ints, any.1)) in
    go s (cases_lt n count)
  where
    go : n % 2 ^ 64 ≡ n → (n < count) ⊎ (count ≤ n) → Located (pos n) count
    go s (inl lt) = found n refl lt (ap (λ b. b && nat_lt n count) (le-leb 0 n (omega arith)) ∙ lt-ltb n count lt) (lt-ltb (n % 2 ^ 64) count (omega (arith, s, lt)))
    go s (inr le) = missed (ap (λ b. b && nat_lt n count) (le-leb 0 n (omega arith)) ∙ le-ltb n count le) (le-ltb (n % 2 ^ 64) count (omega (arith, s, le)))
located (negsuc n) count any few =
    let s : n % 2 ^ 64 ≡ n = mod-eq_of_lt (omega (arith, ints, any.0)) in
    missed refl (le-ltb (2 ^ 64 - 1 - n % 2 ^ 64) count (omega (arith, ints, s, any.0, few)))

met : (kind : ErrorKind) (b : Bool) → first_met (failure kind (complement_in 1 (truth b)) ∷ []) ≡ (if b then None else Some kind)
met kind true = refl
met kind false = refl

index-met : (count a : ℕ) (b : Bool) → count < 4294967296 → nat_lt a count ≡ b → first_met (index_fails count a) ≡ (if b then None else Some error.Index)
index-met count a b few e =
    let s : count % 2 ^ 64 ≡ count = mod-eq_of_lt (omega (arith, few)) in
    ap (λ (n : ℕ). first_met (failure error.Index (complement_in 1 (truth (nat_lt a n))) ∷ [])) s ∙ ap (λ (t : Bool). first_met (failure error.Index (complement_in 1 (truth t)) ∷ [])) e ∙ met error.Index b

-- ---- The steps

module _ (g : Setting) (inputs : List ℤ) (m : Machine) (store : List ℕ) (laid : IsLaid g) (h : Mirrors g m.slots (m.st).store store) where
  -- a slot gets the value that it has
  reput : (s : ℕ) (v : ℤ) → v ≡ get m.slots s → Mirrors g (put m.slots s v) (m.st).store store
  reput s v e = record {
    whole = h.whole;
    any = λ t. subst InAny (sym (same t)) (h.any t);
    slot = λ t c q. h.slot t c q ∙ sym (ap (residue 64) (same t));
    objects = h.objects;
    rows = h.rows;
    elements = h.elements;
  }
    where
      same : (t : ℕ) → get (put m.slots s v) t ≡ get m.slots t
      same t = by (cases_eq t s)
        where
          by : (t ≡ s) ⊎ (t ≡ s → ⊥) → get (put m.slots s v) t ≡ get m.slots t
          by (inl q) = ap (get (put m.slots s v)) q ∙ put_same m.slots s v ∙ e ∙ ap (get m.slots) (sym q)
          by (inr d) = put_other m.slots s v t d

  pub element-step : (s at object count : ℕ) → count ≡ size_of (slice_get (objects_of g) object) → Serves g.model g.objects g.lay (i.Element s at object count)
      → Agrees g inputs (i.Element s at object count) m store (acted g inputs (i.Element s at object count) m)
  element-step s at object count size serves = go (located v count (h.any s) few)
    where
      v : ℤ
      v = get m.slots s

      few : count < 4294967296
      few = omega (arith, size, size-few g object laid)

      is : slot_value g store s ≡ residue 64 (get m.slots s)
      is = says g inputs m store laid h (i.Element s at object count) s s 0 serves (omega arith) (omega arith) refl

      fails : (b : Bool) → nat_lt (residue 64 (get m.slots s)) count ≡ b → first_met (index_fails count (slot_value g store s)) ≡ (if b then None else Some error.Index)
      fails b e = ap (λ (a : ℕ). first_met (index_fails count a)) is ∙ index-met count (residue 64 (get m.slots s)) b few e

      goal : Bool → Type 0
      goal b = Agrees g inputs (i.Element s at object count) m store
          (flat.fills m.place m.slots s (after (choose b (give (element object (unsigned_abs (get m.slots s)))) (fail error.Index at) m.st) (λ e. run.read e)))

      go : Located (get m.slots s) count → goal (inside (get m.slots s) count)
      go (missed t f) = subst goal (sym t) (fails false f, refl, refl)
      go (found n e lt t f) =
          let r = reached g m.slots (m.st).store store s object h (λ array. let q : s + 0 ≡ s = omega arith in subst (HasSlot g.lay) q (serves.slots 0 (omega arith))) in
          let number : number_picked g object (get m.slots s) ≡ unsigned_abs (get m.slots s) = ap (number_picked g object) e ∙ picked-index g object n laid (omega (arith, lt, size)) ∙ sym (ap unsigned_abs e) in
          subst goal (sym t)
          (filled-by g inputs m store laid h (i.Element s at object count) s (element_of (m.st).store object (unsigned_abs (get m.slots s))) (old_value g s object) refl (fails true f)
          (element-any g m.slots (m.st).store store object (unsigned_abs (get m.slots s)) laid h)
          (element-read g m.slots (m.st).store store object laid h (number_picked g object (get m.slots s)) (slot_value g store s) r ∙ ap (λ (k : ℕ). residue 64 (element_of (m.st).store object k)) number))

  pub locate-step : (s at object count : ℕ) → count ≡ size_of (slice_get (objects_of g) object) → Serves g.model g.objects g.lay (i.Locate s at object count)
      → Agrees g inputs (i.Locate s at object count) m store (acted g inputs (i.Locate s at object count) m)
  locate-step s at object count size serves = go (located (get m.slots s) count (h.any s) few)
    where
      few : count < 4294967296
      few = omega (arith, size, size-few g object laid)

      is : slot_value g store s ≡ residue 64 (get m.slots s)
      is = says g inputs m store laid h (i.Locate s at object count) s s 0 serves (omega arith) (omega arith) refl

      fails : (b : Bool) → nat_lt (residue 64 (get m.slots s)) count ≡ b → first_met (index_fails count (slot_value g store s)) ≡ (if b then None else Some error.Index)
      fails b e = ap (λ (a : ℕ). first_met (index_fails count a)) is ∙ index-met count (residue 64 (get m.slots s)) b few e

      goal : Bool → Type 0
      goal b = Agrees g inputs (i.Locate s at object count) m store
          (flat.fills m.place m.slots s (after (choose b (give (element object (unsigned_abs (get m.slots s)))) (fail error.Index at) m.st) (λ e. give (pos e.index))))

      go : Located (get m.slots s) count → goal (inside (get m.slots s) count)
      go (missed t f) = subst goal (sym t) (fails false f, refl, refl)
      go (found n e lt t f) =
          let same : pos (unsigned_abs (get m.slots s)) ≡ get m.slots s = ap (λ (z : ℤ). pos (unsigned_abs z)) e ∙ sym e in
          subst goal (sym t)
          (onward g inputs m store laid h (i.Locate s at object count) (put m.slots s (pos (unsigned_abs (get m.slots s)))) m.st refl (fails true f)
          (nothing g store [] (put m.slots s (pos (unsigned_abs (get m.slots s)))) (m.st).store (reput s (pos (unsigned_abs (get m.slots s))) same)))

  -- whether the value that says that a call gave one is 0
  abbrev TakesAs : (s at from : ℕ) → (needed none : Bool) → Type 0
  TakesAs s at from needed none =
      Agrees g inputs (i.Take s at from needed) m store (flat.fills m.place m.slots s (flat.taken_of needed at (choose (not none) (Some (get m.slots (suc from))) None) m.st))

  takes : (s at from : ℕ) (needed none : Bool) → zero_test (slot_value g store (from + 2)) ≡ truth none → slot_value g store (from + 1) ≡ residue 64 (get m.slots (suc from)) → TakesAs s at from needed none
  takes s at from true true test is = (ap (λ (z : ℕ). first_met (failure error.Missing z ∷ [])) test, refl, refl)
  takes s at from true false test is =
      filled-by g inputs m store laid h (i.Take s at from true) s (get m.slots (suc from)) (λ c. taken true (slot_value g c (from + 1)) (slot_value g c (from + 2))) refl
      (ap (λ (z : ℕ). first_met (failure error.Missing z ∷ [])) test) (h.any (suc from)) is
  takes s at from false true test is =
      filled-by g inputs m store laid h (i.Take s at from false) s (pos 0) (λ c. taken false (slot_value g c (from + 1)) (slot_value g c (from + 2))) refl
      refl (omega (arith, ints), omega (arith, ints)) (ap (λ (z : ℕ). if nat_eq z 1 then 0 else slot_value g store (from + 1)) test)
  takes s at from false false test is =
      filled-by g inputs m store laid h (i.Take s at from false) s (get m.slots (suc from)) (λ c. taken false (slot_value g c (from + 1)) (slot_value g c (from + 2))) refl
      refl (h.any (suc from)) (ap (λ (z : ℕ). if nat_eq z 1 then 0 else slot_value g store (from + 1)) test ∙ is)

  pub take-step : (s at from : ℕ) (needed : Bool) → Serves g.model g.objects g.lay (i.Take s at from needed) → Agrees g inputs (i.Take s at from needed) m store (acted g inputs (i.Take s at from needed) m)
  take-step s at from needed serves =
      let value : slot_value g store (from + 1) ≡ residue 64 (get m.slots (suc from)) = says g inputs m store laid h (i.Take s at from needed) (from + 1) (suc from) 0 serves (omega arith) (omega arith) (omega arith) in
      let flag : slot_value g store (from + 2) ≡ residue 64 (get m.slots (suc (suc from))) = says g inputs m store laid h (i.Take s at from needed) (from + 2) (suc (suc from)) 1 serves (omega arith) (omega arith) (omega arith) in
      takes s at from needed (is_zero (get m.slots (suc (suc from)))) (ap zero_test flag ∙ zeros (get m.slots (suc (suc from))) (h.any (suc (suc from)))) value
