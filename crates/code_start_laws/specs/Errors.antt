-- Runs of a typed program that end in an error, over the graphs of its functions.
use Rattle.std.specs.Prelude.{ℕ, ◌≡◌, List, take, ℤ}
use Rattle.lv_base.specs.declared.fault.ErrorKind.{ErrorKind}
use Rattle.c_run.specs.Run.{Error}
use Rattle.c_typed.specs.Facts.{IsTyped}
use Rattle.c_typed.specs.Parts.{Parts, tree_of}
use Rattle.c_typed.specs.Run.{run}
use Rattle.c_graph.specs.Functions.{Flows, AreFlows}
use Rattle.slot_laws.specs.Laws.{IsOrder}
use Rattle.cfg_build.specs.Graphs.{ProgramFollows}
use Rattle.function_runs.specs.Runs.{FunctionsFail}

-- Where graphs follow a typed program's code, each run of the program that ends in an error has a run over the graphs, which ends at a
-- node of that error and draws the inputs that the program drew.
abbrev pub ProgramErrorsFollow : Type 0
ProgramErrorsFollow =
    (t : Parts) (order : List ℕ) (p : Flows) (inputs : List ℤ) (turns : ℕ) (kind : ErrorKind) (at taken : ℕ) → IsTyped (tree_of t) → IsOrder (tree_of t) order → AreFlows p → ProgramFollows t order p
    → run turns (tree_of t) inputs ≡ Error kind at taken → FunctionsFail p (take taken inputs) kind at
