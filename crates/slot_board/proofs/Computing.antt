-- Operations, and indices that are tested.
use Rattle.std.proofs.Common.{◌≡◌, ℕ, suc, Bool, true, false, List, Result, Ok, Err, refl, sym, ap, ◌∙◌, ℤ, pos, negsuc}
use Rattle.std.specs.Prelude.{slice_index_or, unsigned_abs}
use Rattle.lv_base.specs.declared.kind.Kind.{Kind}
use Rattle.lv_base.specs.declared.kind.Model.{Model}
use Rattle.lv_base.specs.declared.fault.ErrorKind.{ErrorKind}
use Rattle.lv_base.specs.declared.fault.ErrorKind.TheVariants as error
use Rattle.lv_base.specs.Integers.{converted}
use Rattle.c_tree.specs.declared.symbol.BinaryOp.{BinaryOp}
use Rattle.c_tree.specs.declared.symbol.Crement.{Crement}
use Rattle.c_run.specs.Run.{State, Value, Stop, Error, give, fail, after, choose, read, write, Element, element, values_of, computed}
use Rattle.c_run.specs.Operators.{negated, is_negated, crement_op}
use Rattle.c_typed.specs.Run.{promoted}
use Rattle.slot_code.specs.declared.reply.Ending.TheVariants as ending
use Rattle.slot_code.specs.Machine.{Next, Goes, Over, machine, fills, applied, updated, changed}
use Rattle.slot_code.specs.Slots.{put}
use Rattle.slot_board.specs.Seen.{compute_of, finished, applied_value, is_index_of, element_at, index_at, state_written}
use Rattle.typed_range_laws.specs.Guards.{guarded}

pub element_found : (at object count : ℕ) (v : ℤ) (st : State) → is_index_of count v ≡ true → element_at at object count v st ≡ Value (slice_index_or (values_of st object) (unsigned_abs v) (pos 0)) st
element_found at object count v st h = ap (λ b. after (choose b (give (element object (unsigned_abs v))) (fail error.Index at) st) read) h

pub element_absent : (at object count : ℕ) (v : ℤ) (st : State) → is_index_of count v ≡ false → element_at at object count v st ≡ Stop (Error error.Index at st.taken)
element_absent at object count v st h = ap (λ b. after (choose b (give (element object (unsigned_abs v))) (fail error.Index at) st) read) h

index_itself : (count : ℕ) (v : ℤ) → is_index_of count v ≡ true → pos (unsigned_abs v) ≡ v
index_itself count (pos n) h = refl
index_itself count (negsuc n) h = absurd cc

pub index_found : (at object count : ℕ) (v : ℤ) (st : State) → is_index_of count v ≡ true → index_at at object count v st ≡ Value v st
index_found at object count v st h =
    ap (λ b. after (choose b (give (element object (unsigned_abs v))) (fail error.Index at) st) (λ e. give (pos e.index))) h ∙ ap (λ w. Value w st) (index_itself count v h)

pub index_absent : (at object count : ℕ) (v : ℤ) (st : State) → is_index_of count v ≡ false → index_at at object count v st ≡ Stop (Error error.Index at st.taken)
index_absent at object count v st h = ap (λ b. after (choose b (give (element object (unsigned_abs v))) (fail error.Index at) st) (λ e. give (pos e.index))) h

-- ---- Operations

finished_computed : (n : Bool) (at : ℕ) (r : Result ℤ ErrorKind) (st : State) → after (computed at r st) (λ v. give (negated n v)) ≡ computed at (finished n r) st
finished_computed n at (Ok v) st = refl
finished_computed n at (Err kind) st = refl

module _ (model : Model) (inputs : List ℤ) where
  pub applied_computed : (at : ℕ) (o : BinaryOp) (k : Kind) (x y : ℤ) (st : State) → applied model (λ op kind v w. compute_of model op kind v w) inputs at o k x y st ≡ computed at (applied_value model o k x y) st
  applied_computed at o k x y st = finished_computed (is_negated o) at _ st

  pub applied_some : (place slot at : ℕ) (slots : List ℤ) (o : BinaryOp) (k : Kind) (x y : ℤ) (st : State) (v : ℤ) (n : Next) → Ok v ≡ applied_value model o k x y →
      n ≡ Goes (machine (suc place) (put slots slot v) st) → n ≡ fills place slots slot (applied model (λ op kind a b. compute_of model op kind a b) inputs at o k x y st)
  applied_some place slot at slots o k x y st v n h g =
      g ∙ ap (λ r. fills place slots slot (computed at r st)) h ∙ ap (fills place slots slot) (sym (applied_computed at o k x y st))

  pub updated_computed : (at : ℕ) (o : BinaryOp) (k l : Kind) (e : Element) (x y : ℤ) (st : State) (r : Result ℤ ErrorKind) → r ≡ applied_value model o k (converted k model x) y →
      updated model (λ op kind v w. compute_of model op kind v w) inputs at o k l e x y st ≡ after (computed at r st) (λ v. write e (converted l model v))
  updated_computed at o k l e x y st r h =
      ap (λ g. after g (λ v. write e (converted l model v))) (applied_computed at o k (converted k model x) y st ∙ ap (λ s. computed at s st) (sym h))

  pub changed_computed : (at : ℕ) (before : Bool) (by : Crement) (k : Kind) (e : Element) (st : State) (r : Result ℤ ErrorKind) →
      r ≡ guarded model (crement_op by) (promoted k) (converted (promoted k) model (slice_index_or (values_of st e.object) e.index (pos 0))) (pos 1) →
      changed model (λ op kind v w. compute_of model op kind v w) inputs at before by k e (λ new. new) st
      ≡ after (after (computed at r st) (λ v. write e (converted k model v))) (λ new. give (choose before new (slice_index_or (values_of st e.object) e.index (pos 0))))
  changed_computed at before by k e st r h =
      ap (λ s. after (after (computed at s st) (λ v. write e (converted k model v))) (λ new. give (choose before new (slice_index_or (values_of st e.object) e.index (pos 0))))) (sym h)

  pub updated_ok : (place slot at : ℕ) (slots : List ℤ) (o : BinaryOp) (k l : Kind) (e : Element) (x y : ℤ) (st : State) (r : Result ℤ ErrorKind) (v : ℤ) (n : Next) →
      r ≡ applied_value model o k (converted k model x) y → r ≡ Ok v → n ≡ Goes (machine (suc place) (put slots slot (converted l model v)) (state_written e (converted l model v) st)) →
      n ≡ fills place slots slot (updated model (λ op kind a b. compute_of model op kind a b) inputs at o k l e x y st)
  updated_ok place slot at slots o k l e x y st r v n h is g =
      g ∙ sym (ap (fills place slots slot) (updated_computed at o k l e x y st r h ∙ ap (λ s. after (computed at s st) (λ w. write e (converted l model w))) is))

  pub updated_err : (place slot at : ℕ) (slots : List ℤ) (o : BinaryOp) (k l : Kind) (e : Element) (x y : ℤ) (st : State) (r : Result ℤ ErrorKind) (kind : ErrorKind) →
      r ≡ applied_value model o k (converted k model x) y → r ≡ Err kind →
      Over (ending.Error kind at st.taken) ≡ fills place slots slot (updated model (λ op j a b. compute_of model op j a b) inputs at o k l e x y st)
  updated_err place slot at slots o k l e x y st r kind h is =
      sym (ap (fills place slots slot) (updated_computed at o k l e x y st r h ∙ ap (λ s. after (computed at s st) (λ w. write e (converted l model w))) is))

  -- the value that an element had
  abbrev pub was : Element → State → ℤ
  was e st = slice_index_or (values_of st e.object) e.index (pos 0)

  pub changed_ok : (place slot at : ℕ) (slots : List ℤ) (before : Bool) (by : Crement) (k : Kind) (e : Element) (st : State) (r : Result ℤ ErrorKind) (v : ℤ) (n : Next) →
      r ≡ guarded model (crement_op by) (promoted k) (converted (promoted k) model (was e st)) (pos 1) → r ≡ Ok v →
      n ≡ Goes (machine (suc place) (put slots slot (choose before (converted k model v) (was e st))) (state_written e (converted k model v) st)) →
      n ≡ fills place slots slot (changed model (λ op j a b. compute_of model op j a b) inputs at before by k e (λ new. new) st)
  changed_ok place slot at slots before by k e st r v n h is g =
      g ∙ sym (ap (fills place slots slot) (changed_computed at before by k e st r h
      ∙ ap (λ s. after (after (computed at s st) (λ w. write e (converted k model w))) (λ new. give (choose before new (was e st)))) is))

  pub changed_err : (place slot at : ℕ) (slots : List ℤ) (before : Bool) (by : Crement) (k : Kind) (e : Element) (st : State) (r : Result ℤ ErrorKind) (kind : ErrorKind) →
      r ≡ guarded model (crement_op by) (promoted k) (converted (promoted k) model (was e st)) (pos 1) → r ≡ Err kind →
      Over (ending.Error kind at st.taken) ≡ fills place slots slot (changed model (λ op j a b. compute_of model op j a b) inputs at before by k e (λ new. new) st)
  changed_err place slot at slots before by k e st r kind h is =
      sym (ap (fills place slots slot) (changed_computed at before by k e st r h
      ∙ ap (λ s. after (after (computed at s st) (λ w. write e (converted k model w))) (λ new. give (choose before new (was e st)))) is))
