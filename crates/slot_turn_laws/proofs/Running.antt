-- What keeps the turns and does not want for one, and runs that go on.
use Rattle.std.proofs.Common.{◌≡◌, ℕ, zero, suc, ◌-◌, ◌≤◌, Bool, true, false, List, Option, Some, None, Result, Ok, Err, ℤ, pos, slice_get, refl, ◌∙◌, arith}
use Rattle.std.specs.Prelude.{unsigned_abs, int_le, int_lt, ◌&&◌, if◌then◌else◌}
use Rattle.lv_base.specs.declared.kind.Kind.{Kind}
use Rattle.lv_base.specs.declared.kind.Model.{Model}
use Rattle.lv_base.specs.declared.fault.ErrorKind.{ErrorKind}
use Rattle.lv_base.specs.declared.fault.ErrorKind.TheVariants as error
use Rattle.lv_base.specs.Integers.{is_in_range, converted}
use Rattle.c_tree.specs.declared.symbol.BinaryOp.{BinaryOp}
use Rattle.c_tree.specs.declared.symbol.Crement.{Crement}
use Rattle.c_run.specs.Run.{State, End, Spent, Got, Value, Stop, Run, give, fail, after, choose, turn, drawn, draw, draw_all, computed, located, Element, element, write, Compute, store_all}
use Rattle.c_run.specs.Operators.{op_of, is_turned, crement_op}
use Rattle.c_typed.specs.Run.{promoted}
use Rattle.typed_range_laws.specs.Ways.{Way, write_kept}
use Rattle.slot_code.specs.declared.flat.Instruction.{Instruction}
use Rattle.slot_code.specs.Machine.{Machine, Next, Goes, Over, taken_of, applied, stepped, updated, changed, element_read, index_found, filled, step_with, rank}
use Rattle.slot_laws.specs.Laws.{Falls}
use Rattle.slot_laws.proofs.Running.{value_in, ranks_fall}
use Rattle.slot_turn_laws.specs.Turns.{onward_turned, turned_within, turned_from}

-- an end that is not for want of a turn
abbrev pub IsOther : End → Type 0
IsOther (Spent at store taken) = ⊥
IsOther _ = Unit {0}

-- ---- What keeps the turns

unfoldable pub Still : {A : Type 0} → State → Got A → Type 0
Still st (Value v st') = st'.turns ≡ st.turns
Still st (Stop e) = IsOther e

pub still_value : {A : Type 0} (st st' : State) (v : A) → st'.turns ≡ st.turns → Still st (Value v st')
unfolding Still
still_value st st' v e = e

pub still_here : {A : Type 0} (st : State) (v : A) → Still st (Value v st)
unfolding Still
still_here st v = refl

still_from : {A : Type 0} (st st' : State) (g : Got A) → st'.turns ≡ st.turns → Still st' g → Still st g
unfolding Still
still_from st st' (Value v s) e h = h ∙ e
still_from st st' (Stop x) e h = h

pub still_after : (A B : Type 0) (st : State) (g : Got A) (f : A → Run B) → Still st g → ((v : A) (s : State) → Still s (f v s)) → Still st (after g f)
unfolding Still
still_after A B st (Value v s) f h k = still_from st s (f v s) h (k v s)
still_after A B st (Stop e) f h k = h

pub still_computed : (at : ℕ) (r : Result ℤ ErrorKind) (st : State) → Still st (computed at r st)
unfolding Still
still_computed at (Ok v) st = refl
still_computed at (Err kind) st = tt

choose_still : {A : Type 0} (st : State) (b : Bool) (g h : Got A) → Still st g → Still st h → Still st (choose b g h)
choose_still st true g h x y = x
choose_still st false g h x y = y

chosen_still : {A : Type 0} (st : State) (b : Bool) (f g : Run A) → Still st (f st) → Still st (g st) → Still st (choose b f g st)
chosen_still st true f g x y = x
chosen_still st false f g x y = y

pub still_located : (at object count : ℕ) (v : ℤ) (st : State) → Still st (located at object count v st)
unfolding Still
still_located at object count v st = chosen_still st (int_le (pos 0) v && int_lt v (pos count)) (give (element object (unsigned_abs v))) (fail error.Index at) refl tt

pub still_drawn : (kind : Kind) (model : Model) (o : Option ℤ) (st : State) → Still st (drawn kind model o st)
unfolding Still
still_drawn kind model None st = tt
still_drawn kind model (Some v) st = choose_still st (is_in_range kind model v) _ _ refl tt

pub still_draw_all : (inputs : List ℤ) (model : Model) (kind : Kind) (count : ℕ) (st : State) → Still st (draw_all inputs model kind count st)
unfolding Still
still_draw_all inputs model kind zero st = refl
still_draw_all inputs model kind (suc count) st =
    still_after ℤ (List ℤ) st (draw inputs model kind st) _ (still_drawn kind model (slice_get inputs st.taken) st)
    (λ v s. still_after (List ℤ) (List ℤ) s (draw_all inputs model kind count s) _ (still_draw_all inputs model kind count s) (λ vs s2. refl))

pub still_taken : (needed : Bool) (at : ℕ) (o : Option ℤ) (st : State) → Still st (taken_of needed at o st)
unfolding Still
still_taken needed at (Some v) st = refl
still_taken true at None st = tt
still_taken false at None st = refl

pub still_write : (st : State) (e : Element) (v : ℤ) → Still st (write e v st)
unfolding Still
still_write st e v = refl

pub still_write_kept : (st : State) (way : Way) (object : ℕ) (n v : ℤ) → Still st (write_kept way object n v st)
unfolding Still
still_write_kept st way object n v = refl

pub still_store : (st : State) (object : ℕ) (vs : List ℤ) → Still st (store_all object vs st)
unfolding Still
still_store st object vs = refl

module _ (model : Model) (compute : Compute) (inputs : List ℤ) where
  pub still_element : (at object count : ℕ) (v : ℤ) (st : State) → Still st (element_read model compute inputs at object count v st)
  still_element at object count v st = still_after Element ℤ st (located at object count v st) _ (still_located at object count v st) (λ e s. still_here s _)

  pub still_index : (at object count : ℕ) (v : ℤ) (st : State) → Still st (index_found model compute inputs at object count v st)
  still_index at object count v st = still_after Element ℤ st (located at object count v st) _ (still_located at object count v st) (λ e s. still_here s _)

  pub still_filled : (object : ℕ) (k : Kind) (count : ℕ) (st : State) → Still st (filled model compute inputs object k count st)
  still_filled object k count st = still_after (List ℤ) (Unit {0}) st (draw_all inputs model k count st) _ (still_draw_all inputs model k count st) (λ vs s. still_store s object vs)

  pub still_applied : (at : ℕ) (o : BinaryOp) (k : Kind) (x y : ℤ) (st : State) → Still st (applied model compute inputs at o k x y st)
  still_applied at o k x y st = still_after ℤ ℤ st (computed at (if is_turned o then compute (op_of o) k y x else compute (op_of o) k x y) st) _ (still_computed at _ st) (λ v s. still_here s _)

  pub still_stepped : (at : ℕ) (by : Crement) (k : Kind) (e : Element) (v : ℤ) (st : State) → Still st (stepped model compute inputs at by k e v st)
  still_stepped at by k e v st = still_after ℤ ℤ st (computed at (compute (crement_op by) (promoted k) (converted (promoted k) model v) (pos 1)) st) _ (still_computed at _ st) (λ w s. still_write s e _)

  pub still_updated : (at : ℕ) (o : BinaryOp) (k l : Kind) (e : Element) (x y : ℤ) (st : State) → Still st (updated model compute inputs at o k l e x y st)
  still_updated at o k l e x y st = still_after ℤ ℤ st (applied model compute inputs at o k (converted k model x) y st) _ (still_applied at o k _ y st) (λ w s. still_write s e _)

  pub still_changed : (at : ℕ) (before : Bool) (by : Crement) (k : Kind) (e : Element) (back : ℤ → ℤ) (st : State) → Still st (changed model compute inputs at before by k e back st)
  still_changed at before by k e back st = still_after ℤ ℤ st (stepped model compute inputs at by k e (value_in st e) st) _ (still_stepped at by k e (value_in st e) st) (λ w s. still_here s _)

  module _ (way : Way) (code : List Instruction) (at : ℕ) where
    walk_on : (j k : ℕ) (m : Machine) (n : Next) → Falls model compute inputs code m n →
        ((s : Machine) → rank model compute inputs code s ≤ j → rank model compute inputs code s ≤ k → turned_within model compute inputs way code at j s ≡ turned_within model compute inputs way code at k s) →
        rank model compute inputs code m ≤ suc j → rank model compute inputs code m ≤ suc k →
        onward_turned model compute inputs way code at (slice_get code m.place) m.st n (turned_within model compute inputs way code at j) ≡ onward_turned model compute inputs way code at (slice_get code m.place) m.st n (turned_within model compute inputs way code at k)
    walk_on j k m (Goes s) f h a b = h s (omega (arith, f, a)) (omega (arith, f, b))
    walk_on j k m (Over e) f h a b = refl

    walk_same : (j k : ℕ) (m : Machine) → rank model compute inputs code m ≤ j → rank model compute inputs code m ≤ k → turned_within model compute inputs way code at j m ≡ turned_within model compute inputs way code at k m
    walk_same zero k m a b = absurd (omega (arith, a))
    walk_same (suc j) zero m a b = absurd (omega (arith, b))
    walk_same (suc j) (suc k) m a b = walk_on j k m (step_with model compute inputs way code m) (ranks_fall model compute inputs way code m) (λ s. walk_same j k s) a b

    run_on : (r : ℕ) (m : Machine) (n : Next) → Falls model compute inputs code m n → rank model compute inputs code m ≡ suc r →
        onward_turned model compute inputs way code at (slice_get code m.place) m.st n (turned_within model compute inputs way code at r) ≡ onward_turned model compute inputs way code at (slice_get code m.place) m.st n (turned_from model compute inputs way code at)
    run_on r m (Goes s) f e = walk_same r (rank model compute inputs code s) s (omega (arith, f, e)) (omega arith)
    run_on r m (Over x) f e = refl

    -- a run from a place is the run from where the instruction there leads
    pub goes_on : (m : Machine) → turned_from model compute inputs way code at m ≡ onward_turned model compute inputs way code at (slice_get code m.place) m.st (step_with model compute inputs way code m) (turned_from model compute inputs way code at)
    goes_on m = run_on _ m (step_with model compute inputs way code m) (ranks_fall model compute inputs way code m) refl
