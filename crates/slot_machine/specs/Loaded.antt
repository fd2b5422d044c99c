-- A machine as contracts see it.
use Rattle.std.specs.Prelude.{◌≡◌, ℕ, ◌<◌, ◌≤◌, true, List, length, map, Option, Some, None, ℤ, pos}
use Rattle.lv_base.specs.declared.kind.Model.{Model}
use Rattle.c_typed.specs.Tree.{Program}
use Rattle.c_typed.specs.Run.{start_store}
use Rattle.typed_range_laws.specs.Guards.{guarded}
use Rattle.slot_code.specs.declared.flat.Instruction.{Instruction}
use Rattle.slot_code.specs.declared.reply.Ending.{Ending}
use Rattle.slot_code.specs.declared.reply.Ending.TheVariants as ending
use Rattle.slot_code.specs.Slots.{put, slots_in}
use Rattle.slot_code.specs.Values.{Link}
use Rattle.slot_code.specs.Programs.{Code}
use Rattle.slot_code.specs.Machine.{machine, run_from}
use Rattle.slot_board.specs.Seen.{state}
use Rattle.slot_machine.specs.declared.machine.Entry.{Entry}
use Rattle.slot_machine.specs.Shapes.{all_fit}

-- the code, where it begins, the objects' first values, and what the slots hold
pub record Loaded : Type 0 where
  pub model : Model
  pub code : List Instruction
  pub store : List (List ℤ)
  pub entry : Option Entry
  pub slots : List ℤ

abbrev pub entry_of : Option Link → Option Entry
entry_of None = None
entry_of (Some l) = Some (record { place = l.entry; slot = l.slot })

-- with the code of a program
abbrev pub loaded : Program → Code → Option Link → List ℤ → Loaded
loaded program code link slots = record { model = program.model; code = code.instructions; store = start_store program.objects; entry = entry_of link; slots = slots }

-- `main` returns to the end of the code; operations test their operands
abbrev pub entered : Loaded → List ℤ → ℕ → Option Entry → Ending
entered m inputs turns None = ending.Ended
entered m inputs turns (Some e) =
    run_from m.model (λ op kind x y. guarded m.model op kind x y) inputs m.code (machine e.place (put m.slots e.slot (pos (length m.code))) (state m.store 0 turns))

abbrev pub run_of : Loaded → List ℤ → ℕ → Ending
run_of m inputs turns = entered m inputs turns m.entry

-- ---- What a machine keeps

abbrev pub EntryFits : Option Entry → ℕ → Type 0
EntryFits None slots = Unit {0}
EntryFits (Some e) slots = e.slot < slots

-- the slots and the objects of its board are those that the code needs
pub record IsSound (code : List Instruction) (entry : Option Entry) (first : List (List ℤ)) (slots : List ℤ) (store : List (List ℤ)) : Type 0 where
  pub slots_fit : slots_in code ≤ length slots
  pub entry_fits : EntryFits entry (length slots)
  pub same_sizes : map length store ≡ map length first
  pub stores_fit : all_fit first code ≡ true
