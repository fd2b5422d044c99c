-- Instructions that compute a value out of slots.
use Rattle.std.proofs.Common.{◌≡◌, ℕ, suc, ◌+◌, ◌-◌, ◌<◌, ◌^◌, ◌%◌, refl, sym, ap, ◌∙◌, subst, arith, Bool, true, false, if◌then◌else◌, List, [], take, None, Result, Ok, Err, ℤ, pos, negsuc}
use Rattle.std.specs.Prelude.{IfOk, bit_xor}
use Rattle.std.proofs.Math.Nat.{mod-eq_of_lt}
use Rattle.std.proofs.lemmas.Int.{ints}
use Rattle.std.proofs.lemmas.List.{append-nil}
use Rattle.std.proofs.lemmas.Nat.{pow_pos}
use Rattle.lv_base.specs.declared.kind.Kind.{Kind}
use Rattle.lv_base.specs.declared.kind.Kind.TheVariants.{Bool as ABool}
use Rattle.lv_base.specs.declared.kind.Model.{Model}
use Rattle.lv_base.specs.declared.kind.Op.{Op}
use Rattle.lv_base.specs.declared.kind.Op.TheVariants as arithmetic
use Rattle.lv_base.specs.declared.fault.ErrorKind.{ErrorKind}
use Rattle.lv_base.specs.Integers as int
use Rattle.lv_base.specs.Integers.{InRange, InAny, residue, converted, width_of, wrapped, is_promoted, is_shift, is_zero, bitwise, arith_of}
use Rattle.c_tree.specs.declared.symbol.BinaryOp.{BinaryOp}
use Rattle.c_run.specs.Run.{State, after, give, computed, is_true}
use Rattle.c_run.specs.Operators.{op_of, is_turned, is_negated, is_logical, negated}
use Rattle.slot_code.specs.declared.flat.Instruction.{Instruction}
use Rattle.slot_code.specs.declared.flat.Instruction.TheVariants as i
use Rattle.slot_code.specs.Slots.{get, put}
use Rattle.slot_code.specs.Machine.{Machine, machine, Next, Goes, Over}
use Rattle.slot_code.specs.Machine as flat
use Rattle.typed_range_laws.proofs.Bounds.{in_any}
use Rattle.typed_range_laws.proofs.Ranging.{converted_in_range, arith_fine}
use Rattle.word_laws.specs.Laws.{done, turned_over, meant, error_of, first_met}
use Rattle.word_laws.proofs.Residues.{residue_below}
use Rattle.word_laws.proofs.Wrapping.{converted_promoted, wrapped_back}
use Rattle.word_laws.proofs.Answering.{narrow_slot, widen_slot}
use Rattle.word_laws.proofs.Whole.{zeros, conversions, operations, all_failures, negations}
use Rattle.bv_term.specs.Numbers.{complement_in}
use Rattle.c_terms.specs.Numbers.{widened, zero_test, converted as word_converted}
use Rattle.c_terms.specs.Operations.{negation, complement}
use Rattle.code_layout.specs.Reading.{reads}
use Rattle.code_moves.specs.Setting.{Setting}
use Rattle.code_moves.specs.Values.{slot_value, scalar_value, failures_of, applied, tested, negation_fails}
use Rattle.code_moves.specs.Moves.{moves_of, fills}
use Rattle.layout_laws.specs.Serve.{HasSlot, Serves}
use Rattle.code_move_laws.specs.Mirrors.{IsLaid, element_of, Mirrors}
use Rattle.code_move_laws.specs.Steps.{Agrees, acted}
use Rattle.cfg_build.specs.Steps.{offset_of}
use Rattle.code_move_laws.proofs.Numbers.{truth_slot, nonzero_slot, complement_is}
use Rattle.code_move_laws.proofs.Reaching.{Comes, slot-read, fill}
use Rattle.code_move_laws.proofs.Elements.{element-any, scalar-read}

-- ---- Results

done-any : (op : Op) (k : Kind) (model : Model) (a b u : ℤ) → done op k model a b ≡ Ok u → InAny u
done-any op k model a b u e =
    in_any k model u
    (subst (λ (r : Result ℤ ErrorKind). IfOk r (λ v. InRange k model v)) e (arith_fine k model op (converted k model a) (if is_shift op then b else converted k model b) (converted_in_range k model a)))

truth-any : (b : Bool) → InAny (int.truth b)
truth-any true = (omega (arith, ints), omega (arith, ints))
truth-any false = (omega (arith, ints), omega (arith, ints))

-- behind a negation too
turned-any : (flip : Bool) (r : Result ℤ ErrorKind) (v : ℤ) → ((u : ℤ) → r ≡ Ok u → InAny u) → turned_over flip r ≡ Ok v → InAny v
turned-any true (Ok u) v h e = let same : int.truth (is_zero u) ≡ v = cc in subst InAny same (truth-any (is_zero u))
turned-any false (Ok u) v h e = let same : u ≡ v = cc in subst InAny same (h u refl)
turned-any flip (Err k) v h e = absurd cc

chosen-any : (b : Bool) (op : Op) (k : Kind) (model : Model) (x y u : ℤ) → (if b then done op k model y x else done op k model x y) ≡ Ok u → InAny u
chosen-any true op k model x y u e = done-any op k model y x u e
chosen-any false op k model x y u e = done-any op k model x y u e

pub meant-any : (o : BinaryOp) (k : Kind) (model : Model) (x y v : ℤ) → meant o k model x y ≡ Ok v → InAny v
meant-any o k model x y v e = turned-any (is_negated o) _ v (λ u f. chosen-any (is_turned o) (op_of o) k model x y u f) e

-- the machine negates what an operation gave
pub negated-over : (flip : Bool) (at : ℕ) (r : Result ℤ ErrorKind) (st : State) → after (computed at r st) (λ v. give (negated flip v)) ≡ computed at (turned_over flip r) st
negated-over flip at (Ok v) st = refl
negated-over flip at (Err e) st = refl

-- ---- Complements

complement-agrees : (k : Kind) (model : Model) (v : ℤ) → is_promoted k ≡ true → complement k model (residue 64 v) ≡ residue 64 (bitwise bit_xor k model (converted k model v) (converted k model (converted k model (negsuc 0))))
complement-agrees k model v p =
    let w : ℕ = width_of k model in
    let back : (a : ℤ) → residue (width_of k model) (converted k model a) ≡ residue (width_of k model) a =
    λ a. ap (residue (width_of k model)) (converted_promoted k model a p) ∙ wrapped_back k model (residue (width_of k model) a) (residue_below (width_of k model) a) in
    let ones : residue (width_of k model) (negsuc 0) ≡ 2 ^ width_of k model - 1 = let z : 0 % 2 ^ width_of k model ≡ 0 = mod-eq_of_lt (pow_pos (width_of k model)) in omega (arith, z) in
    let right : residue (width_of k model) (converted k model (converted k model (negsuc 0))) ≡ 2 ^ width_of k model - 1 = back (converted k model (negsuc 0)) ∙ back (negsuc 0) ∙ ones in
    let bits : bit_xor (residue (width_of k model) (converted k model v)) (residue (width_of k model) (converted k model (converted k model (negsuc 0)))) ≡ complement_in (width_of k model) (residue (width_of k model) v) =
    ap (λ (m : ℕ). bit_xor m (residue (width_of k model) (converted k model (converted k model (negsuc 0))))) (back v) ∙ ap (bit_xor (residue (width_of k model) v)) right
    ∙ complement_is (width_of k model) (residue (width_of k model) v) (residue_below (width_of k model) v) in
    let few : complement_in (width_of k model) (residue (width_of k model) v) < 2 ^ width_of k model = omega (arith, pow_pos (width_of k model)) in
    ap (λ (m : ℕ). widened k model (complement_in (width_of k model) m)) (narrow_slot k model v) ∙ widen_slot k model (complement_in (width_of k model) (residue (width_of k model) v)) few
    ∙ ap (λ (m : ℕ). residue 64 (wrapped k model m)) (sym bits)

-- ---- What the machine goes on to

module _ (g : Setting) (inputs : List ℤ) (m : Machine) (store : List ℕ) (laid : IsLaid g) (h : Mirrors g m.slots (m.st).store store) where
  -- without a draw
  pub onward : (x : Instruction) (slots : List ℤ) (st : State) → st.taken ≡ (m.st).taken → first_met (failures_of g store x) ≡ None → Comes g (moves_of g x) store [] [] slots st.store
      → Agrees g inputs x m store (Goes (machine (suc m.place) slots st))
  onward x slots st t f c = ([], c.after, refl, f, (ap (λ (n : ℕ). take n inputs) t ∙ sym (append-nil (take (m.st).taken inputs))), c.reaches, c.mirrors)

  -- with a value in a slot
  pub filled-by : (x : Instruction) (s : ℕ) (v : ℤ) (f : List ℕ → ℕ) → moves_of g x ≡ fills g s f → first_met (failures_of g store x) ≡ None → InAny v → f store ≡ residue 64 v
      → Agrees g inputs x m store (Goes (machine (suc m.place) (put m.slots s v) m.st))
  filled-by x s v f e fm any is =
      onward x (put m.slots s v) m.st refl fm (subst (λ ds. Comes g ds store [] [] (put m.slots s v) (m.st).store) (sym e) (fill g m.slots (m.st).store store [] s v f laid h any is))

  -- with the result of an operation, or its error
  pub computes : (x : Instruction) (s at : ℕ) (f : List ℕ → ℕ) (r : Result ℤ ErrorKind) → moves_of g x ≡ fills g s f → at ≡ offset_of x → first_met (failures_of g store x) ≡ error_of r
      → ((v : ℤ) → r ≡ Ok v → InAny v × (f store ≡ residue 64 v)) → Agrees g inputs x m store (flat.fills m.place m.slots s (computed at r m.st))
  computes x s at f (Ok v) e a fm k = filled-by x s v f e fm (k v refl).0 (k v refl).1
  computes x s at f (Err kind) e a fm k = (fm, a, refl)

  -- the value of a slot that the instruction reads
  pub says : (x : Instruction) (s t k : ℕ) → Serves g.model g.objects g.lay x → k < (reads g.objects x).count → (reads g.objects x).first + k ≡ s → s ≡ t → slot_value g store s ≡ residue 64 (get m.slots t)
  says x s t k serves lt e f = slot-read g m.slots (m.st).store store s t h (subst (HasSlot g.lay) e (serves.slots k lt)) f

  pub constant : (s : ℕ) (v : ℤ) → InAny v → Agrees g inputs (i.Constant s v) m store (acted g inputs (i.Constant s v) m)
  constant s v any = filled-by (i.Constant s v) s v (λ c. residue 64 v) refl refl any refl

  pub read : (s object : ℕ) → Agrees g inputs (i.Read s object) m store (acted g inputs (i.Read s object) m)
  read s object =
      filled-by (i.Read s object) s (element_of (m.st).store object 0) (λ c. scalar_value g c object) refl refl (element-any g m.slots (m.st).store store object 0 laid h) (scalar-read g m.slots (m.st).store store object laid h)

  pub convert : (s : ℕ) (k : Kind) → Serves g.model g.objects g.lay (i.Convert s k) → Agrees g inputs (i.Convert s k) m store (acted g inputs (i.Convert s k) m)
  convert s k serves =
      let v : ℤ = get m.slots s in
      filled-by (i.Convert s k) s (converted k g.model v) (λ c. word_converted k g.model (slot_value g c s)) refl refl (in_any k g.model (converted k g.model v) (converted_in_range k g.model v))
      (ap (word_converted k g.model) (says (i.Convert s k) s s 0 serves (omega arith) (omega arith) refl) ∙ conversions k g.model v (h.any s))

  pub negate : (s at : ℕ) (k : Kind) → is_promoted k ≡ true → Serves g.model g.objects g.lay (i.Negate s k at) → Agrees g inputs (i.Negate s k at) m store (acted g inputs (i.Negate s k at) m)
  negate s at k p serves =
      let v : ℤ = get m.slots s in
      let is : slot_value g store s ≡ residue 64 v = says (i.Negate s k at) s s 0 serves (omega arith) (omega arith) refl in
      let both = negations k g.model v p (h.any s) in
      computes (i.Negate s k at) s at (λ c. negation k g.model (slot_value g c s)) (done arithmetic.Sub k g.model (pos 0) v) refl refl
      (ap (λ (a : ℕ). first_met (negation_fails k g.model a)) is ∙ both.1)
      (λ u e. (done-any arithmetic.Sub k g.model (pos 0) v u e, ap (negation k g.model) is ∙ both.0 u e))

  pub complements : (s at : ℕ) (k : Kind) → is_promoted k ≡ true → Serves g.model g.objects g.lay (i.Complement s k at) → Agrees g inputs (i.Complement s k at) m store (acted g inputs (i.Complement s k at) m)
  complements s at k p serves =
      let v : ℤ = get m.slots s in
      let is : slot_value g store s ≡ residue 64 v = says (i.Complement s k at) s s 0 serves (omega arith) (omega arith) refl in
      filled-by (i.Complement s k at) s (bitwise bit_xor k g.model (converted k g.model v) (converted k g.model (converted k g.model (negsuc 0)))) (λ c. complement k g.model (slot_value g c s)) refl refl
      (done-any arithmetic.Xor k g.model v (converted k g.model (negsuc 0)) _ refl)
      (ap (complement k g.model) is ∙ complement-agrees k g.model v p)

  pub turns : (s : ℕ) → Serves g.model g.objects g.lay (i.Not s) → Agrees g inputs (i.Not s) m store (acted g inputs (i.Not s) m)
  turns s serves =
      let v : ℤ = get m.slots s in
      filled-by (i.Not s) s (int.truth (is_zero v)) (λ c. zero_test (slot_value g c s)) refl refl (truth-any (is_zero v))
      (ap zero_test (says (i.Not s) s s 0 serves (omega arith) (omega arith) refl) ∙ zeros v (h.any s) ∙ truth_slot (is_zero v))

  pub truths : (s : ℕ) → Serves g.model g.objects g.lay (i.Truth s) → Agrees g inputs (i.Truth s) m store (acted g inputs (i.Truth s) m)
  truths s serves =
      let v : ℤ = get m.slots s in
      filled-by (i.Truth s) s (int.truth (is_true v)) (λ c. word_converted ABool g.model (slot_value g c s)) refl refl (truth-any (is_true v))
      (ap (word_converted ABool g.model) (says (i.Truth s) s s 0 serves (omega arith) (omega arith) refl) ∙ nonzero_slot v (h.any s) ∙ truth_slot (is_true v))

  pub binary : (s at : ℕ) (o : BinaryOp) (k : Kind) → is_promoted k ≡ true → is_logical o ≡ false → Serves g.model g.objects g.lay (i.Binary s o k at) → Agrees g inputs (i.Binary s o k at) m store (acted g inputs (i.Binary s o k at) m)
  binary s at o k p l serves =
      let x : ℤ = get m.slots s in
      let y : ℤ = get m.slots (suc s) in
      let a : slot_value g store s ≡ residue 64 x = says (i.Binary s o k at) s s 0 serves (omega arith) (omega arith) refl in
      let b : slot_value g store (s + 1) ≡ residue 64 y = says (i.Binary s o k at) (s + 1) (suc s) 1 serves (omega arith) refl (omega arith) in
      subst (λ got. Agrees g inputs (i.Binary s o k at) m store (flat.fills m.place m.slots s got))
      (sym (negated-over (is_negated o) at (if is_turned o then done (op_of o) k g.model y x else done (op_of o) k g.model x y) m.st))
      (computes (i.Binary s o k at) s at (λ c. applied o k g.model (slot_value g c s) (slot_value g c (s + 1))) (meant o k g.model x y) refl refl
      (ap (λ (n : ℕ). first_met (tested o k g.model n (slot_value g store (s + 1)))) a ∙ ap (λ (n : ℕ). first_met (tested o k g.model (residue 64 x) n)) b ∙ all_failures o k g.model x y p l (h.any s) (h.any (suc s)))
      (λ u e. (
        meant-any o k g.model x y u e,
        ap (λ (n : ℕ). applied o k g.model n (slot_value g store (s + 1))) a ∙ ap (applied o k g.model (residue 64 x)) b ∙ operations o k g.model x y u p l (h.any s) (h.any (suc s)) e,
      )))
