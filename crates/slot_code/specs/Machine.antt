-- What instructions do, one after the other.
use Rattle.std.specs.Prelude.{ℕ, zero, suc, ◌+◌, ◌-◌, ◌*◌, max, Bool, true, false, if◌then◌else◌, List, [], ◌∷◌, length, Option, Some, None, slice_get, ℤ, pos, negsuc, unsigned_abs}
use Rattle.lv_base.specs.declared.kind.Model.{Model}
use Rattle.lv_base.specs.declared.kind.Kind.{Kind}
use Rattle.lv_base.specs.declared.kind.Op.TheVariants as arith
use Rattle.lv_base.specs.declared.fault.ErrorKind.TheVariants as error
use Rattle.lv_base.specs.Integers.{converted, truth, is_zero}
use Rattle.c_tree.specs.declared.symbol.BinaryOp.{BinaryOp}
use Rattle.c_tree.specs.declared.symbol.Crement.{Crement}
use Rattle.c_run.specs.Run.{State, End, Error, Ended, NoInput, BadInput, Spent, Got, Value, Stop, Run, give, ◌>>=◌, choose, fail, turn, Element, element, scalar, read, write, located, store_all, padded, draw, draw_all, Compute, computed, is_true}
use Rattle.c_run.specs.Operators.{op_of, is_turned, is_negated, negated, crement_op}
use Rattle.c_typed.specs.Tree.{Program}
use Rattle.c_typed.specs.Run.{promoted, start_store, main_number}
use Rattle.typed_range_laws.specs.Guards.{guarded}
use Rattle.typed_range_laws.specs.Ways.{Way, as_it_is, write_kept}
use Rattle.slot_code.specs.declared.flat.Instruction.{Instruction}
use Rattle.slot_code.specs.declared.flat.Instruction.TheVariants as i
use Rattle.slot_code.specs.declared.reply.Ending.{Ending}
use Rattle.slot_code.specs.declared.reply.Ending.TheVariants as ending
use Rattle.slot_code.specs.Slots.{get, put, slots_through}
use Rattle.slot_code.specs.Values.{Link, link_of}
use Rattle.slot_code.specs.Programs.{Code, code_of}

-- how a run ends, without the store of one that is out of turns
abbrev pub ending_of : End → Ending
ending_of (Error kind at taken) = ending.Error kind at taken
ending_of Ended = ending.Ended
ending_of NoInput = ending.NoInput
ending_of (BadInput number) = ending.BadInput number
ending_of (Spent at store taken) = ending.Spent

-- the place of the next instruction, the slots, and the state of the run
pub record Machine : Type 0 where
  pub place : ℕ
  pub slots : List ℤ
  pub st : State

abbrev pub machine : ℕ → List ℤ → State → Machine
machine place slots st = record { place = place; slots = slots; st = st }

-- what an instruction leads to
pub data Next : Type 0 where
  Goes : (m : Machine) → Next
  Over : (ending : Ending) → Next

-- goes to this place
abbrev pub goes : ℕ → List ℤ → Got (Unit {0}) → Next
goes place slots (Value v st) = Goes (machine place slots st)
goes place slots (Stop e) = Over (ending_of e)

-- a value gets into a slot, and the next place follows
abbrev pub fills : ℕ → List ℤ → ℕ → Got ℤ → Next
fills place slots slot (Value v st) = Goes (machine (suc place) (put slots slot v) st)
fills place slots slot (Stop e) = Over (ending_of e)

-- what was returned
abbrev pub returned_in : List ℤ → ℕ → Option ℤ
returned_in slots slot = choose (is_true (get slots (suc (suc slot)))) (Some (get slots (suc slot))) None

-- the value of a call
abbrev pub taken_of : Bool → ℕ → Option ℤ → Run ℤ
taken_of needed at (Some v) = give v
taken_of true at None = fail error.Missing at
taken_of false at None = give (pos 0)

-- the element whose index is in a slot
abbrev pub element_in : List ℤ → ℕ → ℕ → Element
element_in slots slot object = element object (unsigned_abs (get slots slot))

module _ (model : Model) (compute : Compute) (inputs : List ℤ) where
  -- on operands that are converted
  abbrev pub applied : ℕ → BinaryOp → Kind → ℤ → ℤ → Run ℤ
  applied at o k x y = do
    v ← computed at (if is_turned o then compute (op_of o) k y x else compute (op_of o) k x y)
    give (negated (is_negated o) v)

  abbrev pub stepped : ℕ → Crement → Kind → Element → ℤ → Run ℤ
  stepped at by k e v = do
    new ← computed at (compute (crement_op by) (promoted k) (converted (promoted k) model v) (pos 1))
    write e (converted k model new)

  abbrev pub updated : ℕ → BinaryOp → Kind → Kind → Element → ℤ → ℤ → Run ℤ
  updated at o k l e x y = do
    v ← applied at o k (converted k model x) y
    write e (converted l model v)

  -- the new value is given back so
  abbrev pub changed : ℕ → Bool → Crement → Kind → Element → (ℤ → ℤ) → Run ℤ
  changed at before by k e back = do
    old ← read e
    new ← stepped at by k e old
    give (choose before (back new) old)

  abbrev pub element_read : ℕ → ℕ → ℕ → ℤ → Run ℤ
  element_read at object count v = do
    e ← located at object count v
    read e

  abbrev pub index_found : ℕ → ℕ → ℕ → ℤ → Run ℤ
  index_found at object count v = do
    e ← located at object count v
    give (pos e.index)

  abbrev pub filled : ℕ → Kind → ℕ → Run (Unit {0})
  filled object k count = do
    vs ← draw_all inputs model k count
    store_all object vs

  module _ (code : List Instruction) where
    abbrev pub onward : Next → (Machine → Ending) → Ending
    onward (Goes m) go = go m
    onward (Over e) go = e

    -- There are no more instructions than this: each takes a turn, or goes forward.
    abbrev pub rank : Machine → ℕ
    rank m = suc ((m.st).turns * suc (length code) + (length code - m.place))

  module _ (way : Way) where
    -- The instruction at this place: a value that `Store`, `Begin` or `Bind` puts into an object is kept so, `Load`, `Store`,
    -- `Update` and `Change` work on the element that is picked so, and `SkipEqual` tells so whether a value is that of its case.
    abbrev pub act_with : Instruction → ℕ → List ℤ → State → Next
    act_with (i.Constant slot v) place slots st = fills place slots slot (Value v st)
    act_with (i.Read slot object) place slots st = fills place slots slot (read (scalar object) st)
    act_with (i.Element slot at object count) place slots st = fills place slots slot (element_read at object count (get slots slot) st)
    act_with (i.Locate slot at object count) place slots st = fills place slots slot (index_found at object count (get slots slot) st)
    act_with (i.Load slot object) place slots st = fills place slots (suc slot) (read (way.pick object (get slots slot)) st)
    act_with (i.Store slot object) place slots st = fills place slots slot (write_kept way object (get slots slot) (get slots (suc slot)) st)
    act_with (i.Convert slot k) place slots st = fills place slots slot (Value (converted k model (get slots slot)) st)
    act_with (i.Negate slot k at) place slots st = fills place slots slot (computed at (compute arith.Sub k (pos 0) (get slots slot)) st)
    act_with (i.Complement slot k at) place slots st = fills place slots slot (computed at (compute arith.Xor k (get slots slot) (converted k model (negsuc 0))) st)
    act_with (i.Not slot) place slots st = fills place slots slot (Value (truth (is_zero (get slots slot))) st)
    act_with (i.Truth slot) place slots st = fills place slots slot (Value (truth (is_true (get slots slot))) st)
    act_with (i.Binary slot o k at) place slots st = fills place slots slot (applied at o k (get slots slot) (get slots (suc slot)) st)
    act_with (i.Update slot o k l at object) place slots st = fills place slots slot (updated at o k l (way.pick object (get slots slot)) (get slots (suc slot)) (get slots (suc (suc slot))) st)
    act_with (i.Change slot before by k at object) place slots st = fills place slots slot (changed at before by k (way.pick object (get slots slot)) (way.back object (get slots slot)) st)
    act_with (i.Draw slot k) place slots st = fills place slots slot (draw inputs model k st)
    act_with (i.Fill object k count) place slots st = goes (suc place) slots (filled object k count st)
    act_with (i.Begin slot object count values) place slots st = goes (suc place) slots (store_all object (padded count (slots_through (way.keep object) slots slot values)) st)
    act_with (i.Bind slot object) place slots st = goes (suc place) slots (store_all object (way.keep object (get slots slot) ∷ []) st)
    act_with (i.Jump skip) place slots st = Goes (machine (suc place + skip) slots st)
    act_with (i.SkipZero slot skip) place slots st = Goes (machine (choose (is_true (get slots slot)) (suc place) (suc place + skip)) slots st)
    act_with (i.SkipEqual slot v skip) place slots st = Goes (machine (choose (way.same (get slots slot) v) (suc place + skip) (suc place)) slots st)
    act_with (i.Turn at goal) place slots st = goes goal slots (turn at st)
    act_with (i.Call at goal slot) place slots st = goes goal (put slots slot (pos (suc place))) (turn at st)
    act_with (i.Take slot at from needed) place slots st = fills place slots slot (taken_of needed at (returned_in slots from) st)
    act_with (i.Return slot) place slots st = Goes (machine (max (suc place) (unsigned_abs (get slots slot))) slots st)
    act_with (i.Fail kind at) place slots st = Over (ending.Error kind at st.taken)
    act_with i.Stop place slots st = Over ending.Ended

    -- behind the code the run ends
    abbrev pub act_at_with : Option Instruction → Machine → Next
    act_at_with None m = Over ending.Ended
    act_at_with (Some x) m = act_with x m.place m.slots m.st

    module _ (code : List Instruction) where
      abbrev pub step_with : Machine → Next
      step_with m = act_at_with (slice_get code m.place) m

      -- not more than so many instructions
      abbrev pub walk_with : ℕ → Machine → Ending
      walk_with zero m = ending.Spent
      walk_with (suc n) m = onward code (step_with m) (walk_with n)

      abbrev pub run_from_with : Machine → Ending
      run_from_with m = walk_with (rank code m) m

  -- the same where values are kept as they are, and elements and cases are those of equal numbers
  abbrev pub act : Instruction → ℕ → List ℤ → State → Next
  act = act_with as_it_is

  abbrev pub act_at : Option Instruction → Machine → Next
  act_at = act_at_with as_it_is

  module _ (code : List Instruction) where
    abbrev pub step : Machine → Next
    step = step_with as_it_is code

    abbrev pub walk : ℕ → Machine → Ending
    walk = walk_with as_it_is code

    abbrev pub run_from : Machine → Ending
    run_from = run_from_with as_it_is code

-- ---- Whole runs

-- `main` returns to the end of the code
abbrev pub run_code_with : Compute → Way → Program → Code → List ℤ → Option Link → List ℤ → ℕ → Ending
run_code_with compute way program code slots None inputs turns = ending.Ended
run_code_with compute way program code slots (Some l) inputs turns =
    run_from_with program.model compute inputs way code.instructions (machine l.entry (put slots l.slot (pos (length code.instructions))) (record { store = start_store program.objects; taken = 0; turns = turns }))

abbrev pub main_link : Option ℕ → Code → Option Link
main_link None code = None
main_link (Some main) code = link_of main code.links

-- the run of a program in this order that computes so, in such a way, whatever the slots held before
abbrev pub run_with : Compute → Way → Program → List ℕ → List ℤ → List ℤ → ℕ → Ending
run_with compute way program order slots inputs turns = run_code_with compute way program (code_of program order) slots (main_link (main_number program.functions) (code_of program order)) inputs turns

-- the same where operations test their operands, and values are kept as they are
abbrev pub run_code : Program → Code → List ℤ → Option Link → List ℤ → ℕ → Ending
run_code program code slots link inputs turns = run_code_with (λ op kind x y. guarded program.model op kind x y) as_it_is program code slots link inputs turns

abbrev pub run : Program → List ℕ → List ℤ → List ℤ → ℕ → Ending
run program order slots inputs turns = run_with (λ op kind x y. guarded program.model op kind x y) as_it_is program order slots inputs turns
