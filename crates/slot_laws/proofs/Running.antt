-- Runs go on: each instruction takes a turn, or goes forward.
use Rattle.std.proofs.Common.{◌≡◌, ℕ, zero, suc, ◌+◌, ◌-◌, ◌*◌, ◌<◌, ◌≤◌, max, Bool, true, false, List, [], ◌∷◌, length, Option, Some, None, Result, Ok, Err, ℤ, pos, slice_get, slice_index_or, refl, sym, ◌∙◌, subst, arith}
use Rattle.std.specs.Prelude.{unsigned_abs, int_le, int_lt, ◌&&◌, if◌then◌else◌}
use Rattle.lv_base.specs.declared.kind.Kind.{Kind}
use Rattle.lv_base.specs.declared.kind.Model.{Model}
use Rattle.lv_base.specs.declared.fault.ErrorKind.{ErrorKind}
use Rattle.lv_base.specs.declared.fault.ErrorKind.TheVariants as error
use Rattle.lv_base.specs.Integers.{is_in_range, converted, truth, is_zero}
use Rattle.c_tree.specs.declared.symbol.BinaryOp.{BinaryOp}
use Rattle.c_tree.specs.declared.symbol.Crement.{Crement}
use Rattle.c_run.specs.Run.{State, Got, Value, Stop, Run, give, fail, after, choose, turn, drawn, draw, draw_all, computed, located, Element, element, scalar, values_of, write, padded, is_true, Compute, store_all}
use Rattle.c_run.specs.Operators.{op_of, is_turned, crement_op}
use Rattle.c_typed.specs.Run.{promoted}
use Rattle.typed_range_laws.specs.Ways.{Way, write_kept}
use Rattle.slot_code.specs.declared.flat.Instruction.{Instruction}
use Rattle.slot_code.specs.declared.flat.Instruction.TheVariants as i
use Rattle.slot_code.specs.Slots.{get, put, slots_through}
use Rattle.slot_code.specs.Machine.{Machine, machine, Next, Goes, Over, goes, fills, taken_of, applied, stepped, updated, changed, element_read, index_found, filled, act_with, act_at_with, step_with, onward, walk_with, rank, run_from_with}
use Rattle.slot_laws.specs.Laws.{CodeGoesOn, RanksFall, Falls as FallsIn}

-- ---- What keeps the turns

unfoldable pub Still : {A : Type 0} → State → Got A → Type 0
Still st (Value v st') = st'.turns ≡ st.turns
Still st (Stop e) = Unit {0}

pub still_value : {A : Type 0} (st st' : State) (v : A) → st'.turns ≡ st.turns → Still st (Value v st')
unfolding Still
still_value st st' v e = e

pub still_here : {A : Type 0} (st : State) (v : A) → Still st (Value v st)
unfolding Still
still_here st v = refl

still_from : {A : Type 0} (st st' : State) (g : Got A) → st'.turns ≡ st.turns → Still st' g → Still st g
unfolding Still
still_from st st' (Value v s) e h = h ∙ e
still_from st st' (Stop x) e h = tt

pub still_after : (A B : Type 0) (st : State) (g : Got A) (f : A → Run B) → Still st g → ((v : A) (s : State) → Still s (f v s)) → Still st (after g f)
unfolding Still
still_after A B st (Value v s) f h k = still_from st s (f v s) h (k v s)
still_after A B st (Stop e) f h k = tt

pub still_computed : (at : ℕ) (r : Result ℤ ErrorKind) (st : State) → Still st (computed at r st)
unfolding Still
still_computed at (Ok v) st = refl
still_computed at (Err kind) st = tt

choose_still : {A : Type 0} (st : State) (b : Bool) (g h : Got A) → Still st g → Still st h → Still st (choose b g h)
choose_still st true g h x y = x
choose_still st false g h x y = y

chosen_still : {A : Type 0} (st : State) (b : Bool) (f g : Run A) → Still st (f st) → Still st (g st) → Still st (choose b f g st)
chosen_still st true f g x y = x
chosen_still st false f g x y = y

pub still_located : (at object count : ℕ) (v : ℤ) (st : State) → Still st (located at object count v st)
unfolding Still
still_located at object count v st = chosen_still st (int_le (pos 0) v && int_lt v (pos count)) (give (element object (unsigned_abs v))) (fail error.Index at) refl tt

pub still_drawn : (kind : Kind) (model : Model) (o : Option ℤ) (st : State) → Still st (drawn kind model o st)
unfolding Still
still_drawn kind model None st = tt
still_drawn kind model (Some v) st = choose_still st (is_in_range kind model v) _ _ refl tt

pub still_draw_all : (inputs : List ℤ) (model : Model) (kind : Kind) (count : ℕ) (st : State) → Still st (draw_all inputs model kind count st)
unfolding Still
still_draw_all inputs model kind zero st = refl
still_draw_all inputs model kind (suc count) st =
    still_after ℤ (List ℤ) st (draw inputs model kind st) _ (still_drawn kind model (slice_get inputs st.taken) st)
    (λ v s. still_after (List ℤ) (List ℤ) s (draw_all inputs model kind count s) _ (still_draw_all inputs model kind count s) (λ vs s2. refl))

pub still_taken : (needed : Bool) (at : ℕ) (o : Option ℤ) (st : State) → Still st (taken_of needed at o st)
unfolding Still
still_taken needed at (Some v) st = refl
still_taken true at None st = tt
still_taken false at None st = refl

pub still_write : (st : State) (e : Element) (v : ℤ) → Still st (write e v st)
unfolding Still
still_write st e v = refl

pub still_write_kept : (st : State) (way : Way) (object : ℕ) (n v : ℤ) → Still st (write_kept way object n v st)
unfolding Still
still_write_kept st way object n v = refl

pub still_store : (st : State) (object : ℕ) (vs : List ℤ) → Still st (store_all object vs st)
unfolding Still
still_store st object vs = refl

-- the value of an element
abbrev pub value_in : State → Element → ℤ
value_in st e = slice_index_or (values_of st e.object) e.index (pos 0)

module _ (model : Model) (compute : Compute) (inputs : List ℤ) where
  pub still_element : (at object count : ℕ) (v : ℤ) (st : State) → Still st (element_read model compute inputs at object count v st)
  still_element at object count v st = still_after Element ℤ st (located at object count v st) _ (still_located at object count v st) (λ e s. still_here s _)

  pub still_index : (at object count : ℕ) (v : ℤ) (st : State) → Still st (index_found model compute inputs at object count v st)
  still_index at object count v st = still_after Element ℤ st (located at object count v st) _ (still_located at object count v st) (λ e s. still_here s _)

  pub still_filled : (object : ℕ) (k : Kind) (count : ℕ) (st : State) → Still st (filled model compute inputs object k count st)
  still_filled object k count st = still_after (List ℤ) (Unit {0}) st (draw_all inputs model k count st) _ (still_draw_all inputs model k count st) (λ vs s. still_store s object vs)

  pub still_applied : (at : ℕ) (o : BinaryOp) (k : Kind) (x y : ℤ) (st : State) → Still st (applied model compute inputs at o k x y st)
  still_applied at o k x y st = still_after ℤ ℤ st (computed at (if is_turned o then compute (op_of o) k y x else compute (op_of o) k x y) st) _ (still_computed at _ st) (λ v s. still_here s _)

  pub still_stepped : (at : ℕ) (by : Crement) (k : Kind) (e : Element) (v : ℤ) (st : State) → Still st (stepped model compute inputs at by k e v st)
  still_stepped at by k e v st = still_after ℤ ℤ st (computed at (compute (crement_op by) (promoted k) (converted (promoted k) model v) (pos 1)) st) _ (still_computed at _ st) (λ w s. still_write s e _)

  pub still_updated : (at : ℕ) (o : BinaryOp) (k l : Kind) (e : Element) (x y : ℤ) (st : State) → Still st (updated model compute inputs at o k l e x y st)
  still_updated at o k l e x y st = still_after ℤ ℤ st (applied model compute inputs at o k (converted k model x) y st) _ (still_applied at o k _ y st) (λ w s. still_write s e _)

  pub still_changed : (at : ℕ) (before : Bool) (by : Crement) (k : Kind) (e : Element) (back : ℤ → ℤ) (st : State) → Still st (changed model compute inputs at before by k e back st)
  still_changed at before by k e back st = still_after ℤ ℤ st (stepped model compute inputs at by k e (value_in st e) st) _ (still_stepped at by k e (value_in st e) st) (λ w s. still_here s _)

  -- ---- Ranks

  forward : (t n p q : ℕ) → p < q → p < n → suc (t * suc n + (n - q)) < suc (t * suc n + (n - p))
  forward t n p q a b = omega (arith, a, b)

  turned : (t n p q : ℕ) → suc (t * suc n + (n - q)) < suc (suc t * suc n + (n - p))
  turned t n p q = omega arith

  module _ (way : Way) (code : List Instruction) where
    abbrev Falls : Machine → Next → Type 0
    Falls m n = FallsIn model compute inputs code m n

    -- with as many turns, to a place further on
    on : (place goal : ℕ) (slots slots' : List ℤ) (st st' : State) → st'.turns ≡ st.turns → place < goal → place < length code → Falls (machine place slots st) (Goes (machine goal slots' st'))
    on place goal slots slots' st st' e a b =
        subst (λ t. suc (t * suc (length code) + (length code - goal)) < suc ((st.turns) * suc (length code) + (length code - place))) (sym e) (forward st.turns (length code) place goal a b)

    fills_falls : (place slot : ℕ) (slots : List ℤ) (st : State) (g : Got ℤ) → Still st g → place < length code → Falls (machine place slots st) (fills place slots slot g)
    unfolding Still
    fills_falls place slot slots st (Value v s) h lt = on place (suc place) slots (put slots slot v) st s h (omega arith) lt
    fills_falls place slot slots st (Stop e) h lt = tt

    goes_falls : (place goal : ℕ) (slots : List ℤ) (st : State) (g : Got (Unit {0})) → Still st g → place < goal → place < length code → Falls (machine place slots st) (goes goal slots g)
    unfolding Still
    goes_falls place goal slots st (Value v s) h a lt = on place goal slots slots st s h a lt
    goes_falls place goal slots st (Stop e) h a lt = tt

    turn_falls : (place goal at : ℕ) (slots slots' : List ℤ) (store : List (List ℤ)) (taken turns : ℕ) →
        let st : State = record { store = store; taken = taken; turns = turns } in
        Falls (machine place slots st) (goes goal slots' (turn at st))
    turn_falls place goal at slots slots' store taken zero = tt
    turn_falls place goal at slots slots' store taken (suc t) = turned t (length code) place goal

    chosen_falls : (b : Bool) (place a c : ℕ) (slots : List ℤ) (st : State) → place < a → place < c → place < length code → Falls (machine place slots st) (Goes (machine (choose b a c) slots st))
    chosen_falls true place a c slots st x y lt = on place a slots slots st st refl x lt
    chosen_falls false place a c slots st x y lt = on place c slots slots st st refl y lt

    act_falls : (x : Instruction) (place : ℕ) (slots : List ℤ) (st : State) → place < length code → Falls (machine place slots st) (act_with model compute inputs way x place slots st)
    act_falls (i.Constant slot v) place slots st lt = fills_falls place slot slots st _ (still_here st v) lt
    act_falls (i.Read slot object) place slots st lt = fills_falls place slot slots st _ (still_here st (value_in st (scalar object))) lt
    act_falls (i.Element slot at object count) place slots st lt = fills_falls place slot slots st _ (still_element at object count (get slots slot) st) lt
    act_falls (i.Locate slot at object count) place slots st lt = fills_falls place slot slots st _ (still_index at object count (get slots slot) st) lt
    act_falls (i.Load slot object) place slots st lt = fills_falls place (suc slot) slots st _ (still_here st (value_in st (way.pick object (get slots slot)))) lt
    act_falls (i.Store slot object) place slots st lt = fills_falls place slot slots st _ (still_write_kept st way object (get slots slot) (get slots (suc slot))) lt
    act_falls (i.Convert slot k) place slots st lt = fills_falls place slot slots st _ (still_here st (converted k model (get slots slot))) lt
    act_falls (i.Negate slot k at) place slots st lt = fills_falls place slot slots st _ (still_computed at _ st) lt
    act_falls (i.Complement slot k at) place slots st lt = fills_falls place slot slots st _ (still_computed at _ st) lt
    act_falls (i.Not slot) place slots st lt = fills_falls place slot slots st _ (still_here st (truth (is_zero (get slots slot)))) lt
    act_falls (i.Truth slot) place slots st lt = fills_falls place slot slots st _ (still_here st (truth (is_true (get slots slot)))) lt
    act_falls (i.Binary slot o k at) place slots st lt = fills_falls place slot slots st _ (still_applied at o k _ _ st) lt
    act_falls (i.Update slot o k l at object) place slots st lt = fills_falls place slot slots st _ (still_updated at o k l _ _ _ st) lt
    act_falls (i.Change slot before by k at object) place slots st lt = fills_falls place slot slots st _ (still_changed at before by k _ _ st) lt
    act_falls (i.Draw slot k) place slots st lt = fills_falls place slot slots st _ (still_drawn k model _ st) lt
    act_falls (i.Fill object k count) place slots st lt = goes_falls place (suc place) slots st _ (still_filled object k count st) (omega arith) lt
    act_falls (i.Begin slot object count values) place slots st lt = goes_falls place (suc place) slots st _ (still_store st object (padded count (slots_through (way.keep object) slots slot values))) (omega arith) lt
    act_falls (i.Bind slot object) place slots st lt = goes_falls place (suc place) slots st _ (still_store st object (way.keep object (get slots slot) ∷ [])) (omega arith) lt
    act_falls (i.Jump skip) place slots st lt = on place (suc place + skip) slots slots st st refl (omega arith) lt
    act_falls (i.SkipZero slot skip) place slots st lt = chosen_falls _ place (suc place) (suc place + skip) slots st (omega arith) (omega arith) lt
    act_falls (i.SkipEqual slot v skip) place slots st lt = chosen_falls _ place (suc place + skip) (suc place) slots st (omega arith) (omega arith) lt
    act_falls (i.Turn at goal) place slots st lt = turn_falls place goal at slots slots st.store st.taken st.turns
    act_falls (i.Call at goal slot) place slots st lt = turn_falls place goal at slots (put slots slot (pos (suc place))) st.store st.taken st.turns
    act_falls (i.Take slot at from needed) place slots st lt = fills_falls place slot slots st _ (still_taken needed at _ st) lt
    act_falls (i.Return slot) place slots st lt = on place (max (suc place) _) slots slots st st refl (omega arith) lt
    act_falls (i.Fail kind at) place slots st lt = tt
    act_falls i.Stop place slots st lt = tt

    there_below : (xs : List Instruction) (n : ℕ) (x : Instruction) → slice_get xs n ≡ Some x → n < length xs
    there_below [] n x e = absurd cc
    there_below (y ∷ xs) zero x e = omega arith
    there_below (y ∷ xs) (suc n) x e = omega (arith, there_below xs n x e)

    act_at_falls : (o : Option Instruction) (m : Machine) → slice_get code m.place ≡ o → Falls m (act_at_with model compute inputs way o m)
    act_at_falls None m e = tt
    act_at_falls (Some x) m e = act_falls x m.place m.slots m.st (there_below code m.place x e)

    step_falls : (m : Machine) → Falls m (step_with model compute inputs way code m)
    step_falls m = act_at_falls (slice_get code m.place) m refl

    walk_on : (j k : ℕ) (m : Machine) (n : Next) → Falls m n →
        ((s : Machine) → rank model compute inputs code s ≤ j → rank model compute inputs code s ≤ k → walk_with model compute inputs way code j s ≡ walk_with model compute inputs way code k s) →
        rank model compute inputs code m ≤ suc j → rank model compute inputs code m ≤ suc k →
        onward model compute inputs code n (walk_with model compute inputs way code j) ≡ onward model compute inputs code n (walk_with model compute inputs way code k)
    walk_on j k m (Goes s) f h a b = h s (omega (arith, f, a)) (omega (arith, f, b))
    walk_on j k m (Over e) f h a b = refl

    walk_same : (j k : ℕ) (m : Machine) → rank model compute inputs code m ≤ j → rank model compute inputs code m ≤ k → walk_with model compute inputs way code j m ≡ walk_with model compute inputs way code k m
    walk_same zero k m a b = absurd (omega (arith, a))
    walk_same (suc j) zero m a b = absurd (omega (arith, b))
    walk_same (suc j) (suc k) m a b = walk_on j k m (step_with model compute inputs way code m) (step_falls m) (λ s. walk_same j k s) a b

    run_on : (r : ℕ) (m : Machine) (n : Next) → Falls m n → rank model compute inputs code m ≡ suc r → onward model compute inputs code n (walk_with model compute inputs way code r) ≡ onward model compute inputs code n (run_from_with model compute inputs way code)
    run_on r m (Goes s) f e = walk_same r (rank model compute inputs code s) s (omega (arith, f, e)) (omega arith)
    run_on r m (Over x) f e = refl

pub goes_on : CodeGoesOn
goes_on model compute inputs way code m = run_on model compute inputs way code _ m (step_with model compute inputs way code m) (step_falls model compute inputs way code m) refl

pub ranks_fall : RanksFall
ranks_fall model compute inputs way code m = step_falls model compute inputs way code m
