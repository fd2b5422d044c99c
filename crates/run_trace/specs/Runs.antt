-- A run of flat code that is followed: how it ends, and what it leaves behind.
use Rattle.std.specs.Prelude.{ℕ, zero, suc, ◌+◌, max, List, length, replicate, Option, Some, None, slice_get, ℤ, pos}
use Rattle.lv_base.specs.declared.kind.Model.{Model}
use Rattle.c_run.specs.Run.{State}
use Rattle.c_typed.specs.Tree.{Program}
use Rattle.c_typed.specs.Run.{start_store, main_number}
use Rattle.typed_range_laws.specs.Guards.{guarded}
use Rattle.slot_code.specs.declared.flat.Instruction.{Instruction}
use Rattle.slot_code.specs.declared.reply.Ending.{Ending}
use Rattle.slot_code.specs.declared.reply.Ending.TheVariants as ending
use Rattle.slot_code.specs.Slots.{put, slots_in}
use Rattle.slot_code.specs.Values.{Link}
use Rattle.slot_code.specs.Programs.{Code, code_of}
use Rattle.slot_code.specs.Machine.{Machine, machine, Next, Goes, Over, act, rank, main_link}
use Rattle.slot_board.specs.Seen.{state}
use Rattle.run_events.specs.declared.trail.Trail.{Trail}
use Rattle.run_events.specs.Told.{operands_of, events_of, start, at_place, with_events}

pub record Followed : Type 0 where
  pub ending : Ending
  pub trail : Trail

abbrev pub followed : Ending → Trail → Followed
followed e t = record { ending = e; trail = t }

module _ (model : Model) (inputs : List ℤ) (code : List Instruction) where
  -- an instruction begins, at the place of the machine
  abbrev pub come_to : Instruction → Machine → Trail → Trail
  come_to x m t = at_place t m.place (operands_of m.slots (m.st).store x)

  -- its events are told where the run goes on behind it
  abbrev pub follow_next : Instruction → Trail → Next → (Machine → Trail → Followed) → Followed
  follow_next x t (Goes m) go = go m (with_events t (events_of x t.place t.operands m.slots (m.st).store))
  follow_next x t (Over e) go = followed e t

  -- operations test their operands; behind the code the run ends
  abbrev pub follow_step : Option Instruction → Machine → Trail → (Machine → Trail → Followed) → Followed
  follow_step None m t go = followed ending.Ended t
  follow_step (Some x) m t go = follow_next x (come_to x m t) (act model (λ op kind a b. guarded model op kind a b) inputs x m.place m.slots m.st) go

  -- not more than so many instructions
  abbrev pub follow_walk : ℕ → Machine → Trail → Followed
  follow_walk zero m t = followed ending.Spent t
  follow_walk (suc n) m t = follow_step (slice_get code m.place) m t (follow_walk n)

  -- there are no more instructions than this
  abbrev pub steps_of : Machine → ℕ
  steps_of m = rank model (λ op kind a b. guarded model op kind a b) inputs code m

  abbrev pub follow_from : Machine → Trail → Followed
  follow_from m t = follow_walk (steps_of m) m t

-- ---- Whole runs

-- so many slots do the code and the place to return to need
abbrev pub slots_for : List Instruction → Option Link → ℕ
slots_for code None = slots_in code
slots_for code (Some l) = max (slots_in code) (l.slot + 1)

-- from the place where `main` stands, which returns to the end of the code
abbrev pub follow_main : Model → List ℤ → List Instruction → Option Link → List ℤ → State → Trail → Followed
follow_main model inputs code None slots st t = followed ending.Ended t
follow_main model inputs code (Some l) slots st t = follow_from model inputs code (machine l.entry (put slots l.slot (pos (length code))) st) t

-- each slot is 0 at first, and each object has its first values
abbrev pub follow_code : Program → Code → Option Link → List ℤ → (turns most : ℕ) → Followed
follow_code program code link inputs turns most =
    follow_main program.model inputs code.instructions link (replicate (slots_for code.instructions link) (pos 0)) (state (start_store program.objects) 0 turns) (start most)

-- the run of a program's functions in this order, with so many turns, of which so many events are kept
abbrev pub follow : Program → List ℕ → List ℤ → (turns most : ℕ) → Followed
follow program order inputs turns most = follow_code program (code_of program order) (main_link (main_number program.functions) (code_of program order)) inputs turns most
