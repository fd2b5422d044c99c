-- Runs that are out of turns: at which offset, and what the objects hold there.
use Rattle.std.specs.Prelude.{◌≡◌, ℕ, zero, suc, nat_eq, List, length, Option, None, Some, slice_get, ℤ, pos}
use Rattle.lv_base.specs.declared.kind.Model.{Model}
use Rattle.c_run.specs.Run.{State, End, Spent, Compute, choose}
use Rattle.c_typed.specs.Tree.{Program}
use Rattle.c_typed.specs.Run.{start_store, main_number}
use Rattle.c_typed.specs.Run as typed
use Rattle.c_typed.specs.Facts.{IsTyped}
use Rattle.typed_range_laws.specs.Ways.{Agrees, Way, Suits}
use Rattle.slot_code.specs.declared.flat.Instruction.{Instruction}
use Rattle.slot_code.specs.declared.flat.Instruction.TheVariants as i
use Rattle.slot_code.specs.declared.reply.Ending.{Ending}
use Rattle.slot_code.specs.declared.reply.Ending.TheVariants as ending
use Rattle.slot_code.specs.Slots.{put}
use Rattle.slot_code.specs.Values.{Link}
use Rattle.slot_code.specs.Programs.{Code, code_of}
use Rattle.slot_code.specs.Machine.{Machine, machine, Next, Goes, Over, step_with, rank, main_link}
use Rattle.slot_laws.specs.Laws.{IsOrder}

-- what the objects hold where a run is out of turns at this offset
abbrev pub spent_at : ℕ → End → Option (List (List ℤ))
spent_at at (Spent other store taken) = choose (nat_eq other at) (Some store) None
spent_at at _ = None

-- what they hold at an instruction that takes a turn for a loop or a jump at this offset
abbrev pub turned_at : ℕ → Option Instruction → State → Option (List (List ℤ))
turned_at at (Some (i.Turn other goal)) st = choose (nat_eq other at) (Some st.store) None
turned_at at _ st = None

-- and where the run ends so at the instruction
abbrev pub turned_by : ℕ → Option Instruction → State → Ending → Option (List (List ℤ))
turned_by at x st ending.Spent = turned_at at x st
turned_by at x st _ = None

-- no call stands at this offset
abbrev pub NoCallAt : List Instruction → ℕ → Type 0
NoCallAt code at = (place goal slot : ℕ) → slice_get code place ≡ Some (i.Call at goal slot) → ⊥

module _ (model : Model) (compute : Compute) (inputs : List ℤ) (way : Way) (code : List Instruction) (at : ℕ) where
  abbrev pub onward_turned : Option Instruction → State → Next → (Machine → Option (List (List ℤ))) → Option (List (List ℤ))
  onward_turned x st (Goes m) go = go m
  onward_turned x st (Over e) go = turned_by at x st e

  -- within so many instructions
  abbrev pub turned_within : ℕ → Machine → Option (List (List ℤ))
  turned_within zero m = None
  turned_within (suc n) m = onward_turned (slice_get code m.place) m.st (step_with model compute inputs way code m) (turned_within n)

  abbrev pub turned_from : Machine → Option (List (List ℤ))
  turned_from m = turned_within (rank model compute inputs code m) m

-- ---- Whole runs

abbrev pub turned_code : Compute → Way → Program → Code → List ℤ → Option Link → List ℤ → ℕ → ℕ → Option (List (List ℤ))
turned_code compute way program code slots None inputs turns at = None
turned_code compute way program code slots (Some l) inputs turns at =
    turned_from program.model compute inputs way code.instructions at (machine l.entry (put slots l.slot (pos (length code.instructions))) (record { store = start_store program.objects; taken = 0; turns = turns }))

abbrev pub turned_run : Compute → Way → Program → List ℕ → List ℤ → List ℤ → ℕ → ℕ → Option (List (List ℤ))
turned_run compute way program order slots inputs turns at = turned_code compute way program (code_of program order) slots (main_link (main_number program.functions) (code_of program order)) inputs turns at

-- In an order of its functions the code of a typed tree is out of turns at the offset of a loop or a jump where the tree is, with the same
-- objects, whatever the slots hold before: with each arithmetic that agrees with C's, and in each way that suits the tree's objects. A
-- call binds its arguments before it takes its turn, so none may stand at that offset.
abbrev pub CodeTurnsAsTree : Type 0
CodeTurnsAsTree = (program : Program) (order : List ℕ) → IsTyped program → IsOrder program order → (compute : Compute) → Agrees program.model compute → (way : Way) → Suits program.model program.objects way →
    (at : ℕ) → NoCallAt (code_of program order).instructions at → (slots inputs : List ℤ) (turns : ℕ) → turned_run compute way program order slots inputs turns at ≡ spent_at at (typed.run turns program inputs)
