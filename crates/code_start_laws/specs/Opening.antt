-- The opening of a program's graphs, and the machine where the code of main begins.
use Rattle.std.specs.Prelude.{ℕ, ◌<◌, List, [], length}
use Rattle.c_typed.specs.Facts.{IsTyped}
use Rattle.c_typed.specs.Parts.{Parts, tree_of}
use Rattle.slot_code.specs.Values.{Link}
use Rattle.cfg_build.specs.Graphs.{program_code, program_setting}
use Rattle.code_flow_laws.specs.Followed.{IsOpened, start_of}

-- Of a typed program with not too many cells and instructions the opening leads to a store that mirrors the machine, whose slots hold
-- nothing but the place to which main returns.
abbrev pub ProgramOpens : Type 0
ProgramOpens =
    (t : Parts) (order : List ℕ) (l : Link) (turns : ℕ) → IsTyped (tree_of t) → length (program_setting t order).lay.cells < 4294967296 → length (program_code t order) < 18446744073709551616
    → IsOpened (program_setting t order) (start_of t order [] l turns)
