-- An instruction behind which the next one stands goes on there with as many turns, or ends by an error; one that draws may also end for
-- want of an input.
use Rattle.std.proofs.Common.{◌≡◌, ℕ, zero, suc, Bool, true, false, List, Option, Some, None, Result, Ok, Err, ℤ, pos, negsuc, slice_get, slice_index_or, refl, ◌∙◌}
use Rattle.std.specs.Prelude.{unsigned_abs, int_le, int_lt, ◌&&◌, if◌then◌else◌}
use Rattle.lv_base.specs.declared.kind.Kind.{Kind}
use Rattle.lv_base.specs.declared.kind.Model.{Model}
use Rattle.lv_base.specs.declared.kind.Op.TheVariants as arithmetic
use Rattle.lv_base.specs.declared.fault.ErrorKind.{ErrorKind}
use Rattle.lv_base.specs.declared.fault.ErrorKind.TheVariants as error
use Rattle.lv_base.specs.Integers.{is_in_range, converted}
use Rattle.c_tree.specs.declared.symbol.BinaryOp.{BinaryOp}
use Rattle.c_tree.specs.declared.symbol.Crement.{Crement}
use Rattle.c_run.specs.Run.{State, Got, Value, Stop, Run, give, fail, after, choose, drawn, draw, draw_all, computed, located, Element, element, values_of, Compute}
use Rattle.c_run.specs.Operators.{op_of, is_turned, crement_op}
use Rattle.c_typed.specs.Run.{promoted}
use Rattle.typed_range_laws.specs.Ways.{Way}
use Rattle.slot_code.specs.declared.flat.Instruction.{Instruction}
use Rattle.slot_code.specs.declared.flat.Instruction.TheVariants as i
use Rattle.slot_code.specs.declared.reply.Ending.{Ending}
use Rattle.slot_code.specs.declared.reply.Ending.TheVariants as ending
use Rattle.slot_code.specs.Slots.{get}
use Rattle.slot_code.specs.Machine.{Next, Goes, Over, goes, fills, ending_of, taken_of, returned_in, applied, stepped, updated, changed, element_read, index_found, filled, act_with}
use Rattle.code_move_laws.specs.Steps.{IsPlain}

-- an end by an error, or one for want of an input where this may be
abbrev pub TameEnd : Bool → Ending → Type 0
TameEnd b (ending.Error kind at taken) = Unit {0}
TameEnd b ending.Ended = ⊥
TameEnd b ending.NoInput = b ≡ true
TameEnd b (ending.BadInput number) = b ≡ true
TameEnd b ending.Spent = ⊥

abbrev pub TameGot : {A : Type 0} → Bool → State → Got A → Type 0
TameGot b st (Value v s) = s.turns ≡ st.turns
TameGot b st (Stop e) = TameEnd b (ending_of e)

-- the next place, with as many turns
abbrev pub Tame : Bool → ℕ → State → Next → Type 0
Tame b place st (Goes n) = (n.place ≡ suc place) × ((n.st).turns ≡ st.turns)
Tame b place st (Over e) = TameEnd b e

tame-from : {A : Type 0} (b : Bool) (st s : State) (g : Got A) → s.turns ≡ st.turns → TameGot b s g → TameGot b st g
tame-from b st s (Value v u) e h = h ∙ e
tame-from b st s (Stop x) e h = h

tame-after : (A B : Type 0) (b : Bool) (st : State) (g : Got A) (f : A → Run B) → TameGot b st g → ((v : A) (s : State) → TameGot b s (f v s)) → TameGot b st (after g f)
tame-after A B b st (Value v s) f h k = tame-from b st s (f v s) h (k v s)
tame-after A B b st (Stop e) f h k = h

tame-computed : (b : Bool) (at : ℕ) (r : Result ℤ ErrorKind) (st : State) → TameGot b st (computed at r st)
tame-computed b at (Ok v) st = refl
tame-computed b at (Err kind) st = tt

choose-tame : {A : Type 0} (b : Bool) (st : State) (c : Bool) (g h : Got A) → TameGot b st g → TameGot b st h → TameGot b st (choose c g h)
choose-tame b st true g h x y = x
choose-tame b st false g h x y = y

chosen-tame : {A : Type 0} (b : Bool) (st : State) (c : Bool) (f g : Run A) → TameGot b st (f st) → TameGot b st (g st) → TameGot b st (choose c f g st)
chosen-tame b st true f g x y = x
chosen-tame b st false f g x y = y

tame-located : (b : Bool) (at object count : ℕ) (v : ℤ) (st : State) → TameGot b st (located at object count v st)
tame-located b at object count v st = chosen-tame b st (int_le (pos 0) v && int_lt v (pos count)) (give (element object (unsigned_abs v))) (fail error.Index at) refl tt

tame-drawn : (kind : Kind) (model : Model) (o : Option ℤ) (st : State) → TameGot true st (drawn kind model o st)
tame-drawn kind model None st = refl
tame-drawn kind model (Some v) st = choose-tame true st (is_in_range kind model v) _ _ refl refl

tame-draw-all : (inputs : List ℤ) (model : Model) (kind : Kind) (count : ℕ) (st : State) → TameGot true st (draw_all inputs model kind count st)
tame-draw-all inputs model kind zero st = refl
tame-draw-all inputs model kind (suc count) st =
    tame-after ℤ (List ℤ) true st (draw inputs model kind st) _ (tame-drawn kind model (slice_get inputs st.taken) st)
    (λ v s. tame-after (List ℤ) (List ℤ) true s (draw_all inputs model kind count s) _ (tame-draw-all inputs model kind count s) (λ vs s2. refl))

tame-taken : (b needed : Bool) (at : ℕ) (o : Option ℤ) (st : State) → TameGot b st (taken_of needed at o st)
tame-taken b needed at (Some v) st = refl
tame-taken b true at None st = tt
tame-taken b false at None st = refl

fills-tame : (b : Bool) (place slot : ℕ) (slots : List ℤ) (st : State) (g : Got ℤ) → TameGot b st g → Tame b place st (fills place slots slot g)
fills-tame b place slot slots st (Value v s) h = (refl, h)
fills-tame b place slot slots st (Stop e) h = h

goes-tame : (b : Bool) (place : ℕ) (slots : List ℤ) (st : State) (g : Got (Unit {0})) → TameGot b st g → Tame b place st (goes (suc place) slots g)
goes-tame b place slots st (Value v s) h = (refl, h)
goes-tame b place slots st (Stop e) h = h

-- whether the instruction draws
abbrev pub draws : Instruction → Bool
draws (i.Draw slot k) = true
draws (i.Fill object k count) = true
draws _ = false

module _ (model : Model) (compute : Compute) (inputs : List ℤ) where
  tame-element : (at object count : ℕ) (v : ℤ) (st : State) → TameGot false st (element_read model compute inputs at object count v st)
  tame-element at object count v st = tame-after Element ℤ false st (located at object count v st) _ (tame-located false at object count v st) (λ e s. refl)

  tame-index : (at object count : ℕ) (v : ℤ) (st : State) → TameGot false st (index_found model compute inputs at object count v st)
  tame-index at object count v st = tame-after Element ℤ false st (located at object count v st) _ (tame-located false at object count v st) (λ e s. refl)

  tame-filled : (object : ℕ) (k : Kind) (count : ℕ) (st : State) → TameGot true st (filled model compute inputs object k count st)
  tame-filled object k count st = tame-after (List ℤ) (Unit {0}) true st (draw_all inputs model k count st) _ (tame-draw-all inputs model k count st) (λ vs s. refl)

  tame-applied : (at : ℕ) (o : BinaryOp) (k : Kind) (x y : ℤ) (st : State) → TameGot false st (applied model compute inputs at o k x y st)
  tame-applied at o k x y st = tame-after ℤ ℤ false st (computed at (if is_turned o then compute (op_of o) k y x else compute (op_of o) k x y) st) _ (tame-computed false at _ st) (λ v s. refl)

  tame-stepped : (at : ℕ) (by : Crement) (k : Kind) (e : Element) (v : ℤ) (st : State) → TameGot false st (stepped model compute inputs at by k e v st)
  tame-stepped at by k e v st = tame-after ℤ ℤ false st (computed at (compute (crement_op by) (promoted k) (converted (promoted k) model v) (pos 1)) st) _ (tame-computed false at _ st) (λ w s. refl)

  tame-updated : (at : ℕ) (o : BinaryOp) (k l : Kind) (e : Element) (x y : ℤ) (st : State) → TameGot false st (updated model compute inputs at o k l e x y st)
  tame-updated at o k l e x y st = tame-after ℤ ℤ false st (applied model compute inputs at o k (converted k model x) y st) _ (tame-applied at o k _ y st) (λ w s. refl)

  tame-changed : (at : ℕ) (before : Bool) (by : Crement) (k : Kind) (e : Element) (back : ℤ → ℤ) (st : State) → TameGot false st (changed model compute inputs at before by k e back st)
  tame-changed at before by k e back st =
      let v : ℤ = slice_index_or (values_of st e.object) e.index (pos 0) in
      tame-after ℤ ℤ false st (stepped model compute inputs at by k e v st) _ (tame-stepped at by k e v st) (λ w s. refl)

  pub tame : (way : Way) (x : Instruction) (place : ℕ) (slots : List ℤ) (st : State) → IsPlain x → Tame (draws x) place st (act_with model compute inputs way x place slots st)
  tame way (i.Constant slot v) place slots st h = (refl, refl)
  tame way (i.Read slot object) place slots st h = (refl, refl)
  tame way (i.Element slot at object count) place slots st h = fills-tame false place slot slots st _ (tame-element at object count (get slots slot) st)
  tame way (i.Locate slot at object count) place slots st h = fills-tame false place slot slots st _ (tame-index at object count (get slots slot) st)
  tame way (i.Load slot object) place slots st h = (refl, refl)
  tame way (i.Store slot object) place slots st h = (refl, refl)
  tame way (i.Convert slot k) place slots st h = (refl, refl)
  tame way (i.Negate slot k at) place slots st h = fills-tame false place slot slots st _ (tame-computed false at (compute arithmetic.Sub k (pos 0) (get slots slot)) st)
  tame way (i.Complement slot k at) place slots st h = fills-tame false place slot slots st _ (tame-computed false at (compute arithmetic.Xor k (get slots slot) (converted k model (negsuc 0))) st)
  tame way (i.Not slot) place slots st h = (refl, refl)
  tame way (i.Truth slot) place slots st h = (refl, refl)
  tame way (i.Binary slot o k at) place slots st h = fills-tame false place slot slots st _ (tame-applied at o k (get slots slot) (get slots (suc slot)) st)
  tame way (i.Update slot o k l at object) place slots st h = fills-tame false place slot slots st _ (tame-updated at o k l (way.pick object (get slots slot)) (get slots (suc slot)) (get slots (suc (suc slot))) st)
  tame way (i.Change slot before by k at object) place slots st h = fills-tame false place slot slots st _ (tame-changed at before by k (way.pick object (get slots slot)) (way.back object (get slots slot)) st)
  tame way (i.Draw slot k) place slots st h = fills-tame true place slot slots st _ (tame-drawn k model (slice_get inputs st.taken) st)
  tame way (i.Fill object k count) place slots st h = goes-tame true place slots st _ (tame-filled object k count st)
  tame way (i.Begin slot object count values) place slots st h = (refl, refl)
  tame way (i.Bind slot object) place slots st h = (refl, refl)
  tame way (i.Jump skip) place slots st h = absurd h
  tame way (i.SkipZero slot skip) place slots st h = absurd h
  tame way (i.SkipEqual slot v skip) place slots st h = absurd h
  tame way (i.Turn at goal) place slots st h = absurd h
  tame way (i.Call at goal slot) place slots st h = absurd h
  tame way (i.Take slot at from needed) place slots st h = fills-tame false place slot slots st _ (tame-taken false needed at (returned_in slots from) st)
  tame way (i.Return slot) place slots st h = absurd h
  tame way (i.Fail kind at) place slots st h = absurd h
  tame way i.Stop place slots st h = absurd h
