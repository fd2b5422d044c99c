-- Runs of flat code and of typed trees that end in an error, over the graphs of functions.
use Rattle.std.specs.Prelude.{ℕ, ◌<◌, ◌≡◌, List, [], length, take, Some, ℤ, pos}
use Rattle.lv_base.specs.declared.fault.ErrorKind.{ErrorKind}
use Rattle.c_run.specs.Run.{Error}
use Rattle.c_typed.specs.Facts.{IsTyped}
use Rattle.c_typed.specs.Parts.{Parts, tree_of}
use Rattle.c_typed.specs.Run.{start_store, run}
use Rattle.c_graph.specs.Shape.{widths_of}
use Rattle.c_graph.specs.Steps.{IsWhole}
use Rattle.c_graph.specs.Functions.{Flows, AreFlows}
use Rattle.slot_code.specs.declared.reply.Ending.TheVariants as ending
use Rattle.slot_code.specs.Slots.{put}
use Rattle.slot_code.specs.Values.{Link, link_of}
use Rattle.slot_code.specs.Programs.{code_of}
use Rattle.slot_code.specs.Machine.{Machine, machine, run_from_with}
use Rattle.slot_laws.specs.Laws.{IsOrder}
use Rattle.code_moves.specs.Setting.{Setting}
use Rattle.code_move_laws.specs.Mirrors.{Mirrors}
use Rattle.code_move_laws.specs.Doing.{Reaches}
use Rattle.code_move_laws.specs.Ways.{converting, graph_way}
use Rattle.cfg_build.specs.Graphs.{ProgramFollows, opens, program_code, program_setting}
use Rattle.function_runs.specs.Runs.{FunctionsFail}

-- What the opening does leads from some store to one that mirrors the machine.
pub record IsOpened (g : Setting) (m : Machine) : Type 0 where
  pub store : List ℕ
  pub after : List ℕ
  pub whole : IsWhole (widths_of g.lay.cells) store
  pub reaches : Reaches (widths_of g.lay.cells) (opens g (length g.objects)) store [] after []
  pub mirrors : Mirrors g m.slots (m.st).store after

abbrev pub links_in : Parts → List ℕ → List Link
links_in t order = (code_of (tree_of t) order).links

-- the machine where the code of main begins, which returns to the end of all code
abbrev pub start_of : Parts → List ℕ → List ℤ → Link → ℕ → Machine
start_of t order slots l turns =
    machine l.entry (put slots l.slot (pos (length (program_code t order)))) (record { store = start_store (tree_of t).objects; taken = 0; turns = turns })

-- ---- The laws

-- A run of a typed tree's flat code, as the graph computes and in its way, that ends in an error has a run over the graphs of functions,
-- which ends at a node of that error and draws the inputs that the code drew.
abbrev pub FlatErrorsFollow : Type 0
FlatErrorsFollow =
    (t : Parts) (order : List ℕ) (p : Flows) (slots inputs : List ℤ) (turns : ℕ) (l : Link) (kind : ErrorKind) (at taken : ℕ) → IsTyped (tree_of t) → AreFlows p → ProgramFollows t order p
    → length (program_code t order) < 18446744073709551616 → link_of p.main (links_in t order) ≡ Some l → IsOpened (program_setting t order) (start_of t order slots l turns)
    → run_from_with t.model (λ op kind a b. converting t.model op kind a b) inputs (graph_way (program_setting t order)) (program_code t order) (start_of t order slots l turns) ≡ ending.Error kind at taken
    → FunctionsFail p (take taken inputs) kind at

-- So has each run of the typed tree itself that ends in an error.
abbrev pub TypedErrorsFollow : Type 0
TypedErrorsFollow =
    (t : Parts) (order : List ℕ) (p : Flows) (inputs : List ℤ) (turns : ℕ) (kind : ErrorKind) (at taken : ℕ) → IsTyped (tree_of t) → IsOrder (tree_of t) order → AreFlows p → ProgramFollows t order p
    → length (program_code t order) < 18446744073709551616 → ((l : Link) → link_of p.main (links_in t order) ≡ Some l → IsOpened (program_setting t order) (start_of t order [] l turns))
    → run turns (tree_of t) inputs ≡ Error kind at taken → FunctionsFail p (take taken inputs) kind at
