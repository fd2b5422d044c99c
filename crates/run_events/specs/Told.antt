-- What is told of an instruction.
use Rattle.std.specs.Prelude.{ℕ, suc, if◌then◌else◌, int_le, ◌&&◌, List, [], ◌∷◌, slice_index_or, Option, Some, None, ℤ, pos, unsigned_abs}
use Rattle.lv_base.specs.Integers.{is_zero}
use Rattle.slot_code.specs.declared.flat.Instruction.{Instruction}
use Rattle.slot_code.specs.declared.flat.Instruction.TheVariants as i
use Rattle.slot_code.specs.Slots.{get}
use Rattle.event_log.specs.declared.event.Event.{Event}
use Rattle.event_log.specs.Noted.{Noted, noted, empty}
use Rattle.slot_board.specs.declared.step.Step.{Step}
use Rattle.slot_board.specs.declared.step.Step.TheVariants as step
use Rattle.run_events.specs.declared.operands.Operands.{Operands}
use Rattle.run_events.specs.declared.trail.Trail.{Trail}

-- ---- Operands

abbrev pub values_from : List ℤ → ℕ → Operands
values_from slots slot = record { first = get slots slot; second = get slots (suc slot); third = get slots (suc (suc slot)) }

-- where the operands of an instruction begin; those of a call that gave something, at its place to return to
abbrev pub operand_slot : Instruction → ℕ
operand_slot (i.Constant slot v) = slot
operand_slot (i.Read slot object) = slot
operand_slot (i.Element slot at object count) = slot
operand_slot (i.Locate slot at object count) = slot
operand_slot (i.Load slot object) = slot
operand_slot (i.Store slot object) = slot
operand_slot (i.Convert slot k) = slot
operand_slot (i.Negate slot k at) = slot
operand_slot (i.Complement slot k at) = slot
operand_slot (i.Not slot) = slot
operand_slot (i.Truth slot) = slot
operand_slot (i.Binary slot o k at) = slot
operand_slot (i.Update slot o k l at object) = slot
operand_slot (i.Change slot before by k at object) = slot
operand_slot (i.Draw slot k) = slot
operand_slot (i.Begin slot object count values) = slot
operand_slot (i.Bind slot object) = slot
operand_slot (i.SkipZero slot skip) = slot
operand_slot (i.SkipEqual slot v skip) = slot
operand_slot (i.Call at place slot) = slot
operand_slot (i.Take slot at from needed) = from
operand_slot (i.Return slot) = slot
operand_slot _ = 0

-- the value of an element, and 0 where there is none
abbrev pub element_in : List (List ℤ) → ℕ → ℕ → ℤ
element_in store object element = slice_index_or (slice_index_or store object []) element (pos 0)

-- the object with an element that `++` or `--` changes
abbrev pub changed_object : Instruction → Option ℕ
changed_object (i.Change slot before by k at object) = Some object
changed_object _ = None

-- in the second place stands what such an element held before
abbrev pub with_held : Operands → List (List ℤ) → Option ℕ → Operands
with_held o store None = o
with_held o store (Some object) = record { first = o.first; second = element_in store object (unsigned_abs o.first); third = o.third }

abbrev pub operands_of : List ℤ → List (List ℤ) → Instruction → Operands
operands_of slots store x = with_held (values_from slots (operand_slot x)) store (changed_object x)

-- ---- Events

abbrev pub event : ℕ → ℕ → ℤ → Event
event place element value = record { place = place; element = element; value = value }

-- one for each value of an object, from this element on
abbrev pub row_events : ℕ → ℕ → List ℤ → List Event
row_events place element [] = []
row_events place element (v ∷ vs) = event place element v ∷ row_events place (suc element) vs

-- the value of an element behind a write
abbrev pub written : ℕ → Operands → List (List ℤ) → ℕ → List Event
written place o store object =
    event place (unsigned_abs o.first) (element_in store object (unsigned_abs o.first)) ∷ []

-- whether something was returned
abbrev pub presence : Operands → ℕ
presence o = if is_zero o.third then 0 else 1

abbrev pub matched : ℕ → ℤ → ℤ → List Event
matched place found v = if int_le found v && int_le v found then event place 0 v ∷ [] else []

-- What an instruction at a place did, by its operands, and by the slots and the store behind it: draws and values that an object
-- gets, decisions, cases that are met, calls, and what they gave.
abbrev pub events_of : Instruction → ℕ → Operands → List ℤ → List (List ℤ) → List Event
events_of (i.Draw slot k) place o slots store = event place 0 (get slots slot) ∷ []
events_of (i.Fill object k count) place o slots store = row_events place 0 (slice_index_or store object [])
events_of (i.Begin slot object count values) place o slots store = row_events place 0 (slice_index_or store object [])
events_of (i.Bind slot object) place o slots store = event place 0 o.first ∷ []
events_of (i.Store slot object) place o slots store = written place o store object
events_of (i.Update slot op k l at object) place o slots store = written place o store object
events_of (i.Change slot before by k at object) place o slots store = written place o store object
events_of (i.SkipZero slot skip) place o slots store = event place 0 o.first ∷ []
events_of (i.SkipEqual slot v skip) place o slots store = matched place o.first v
events_of (i.Call at goal slot) place o slots store = event place 0 (pos 0) ∷ []
events_of (i.Take slot at from needed) place o slots store = event place (presence o) o.second ∷ []
events_of _ place o slots store = []

abbrev pub all_noted : Noted → List Event → Noted
all_noted l [] = l
all_noted l (e ∷ es) = all_noted (noted l e) es

-- ---- Trails

abbrev pub start : ℕ → Trail
start most = record { log = empty most; place = 0; operands = record { first = pos 0; second = pos 0; third = pos 0 } }

abbrev pub at_place : Trail → ℕ → Operands → Trail
at_place t place operands = record { log = t.log; place = place; operands = operands }

abbrev pub with_events : Trail → List Event → Trail
with_events t events = record { log = all_noted t.log events; place = t.place; operands = t.operands }

-- an instruction that ends the run tells nothing
abbrev pub step_told : Step → Instruction → List ℤ → List (List ℤ) → Trail → Trail
step_told (step.Over e) x slots store t = t
step_told _ x slots store t = with_events t (events_of x t.place t.operands slots store)
