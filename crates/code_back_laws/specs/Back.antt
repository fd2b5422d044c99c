-- Runs over the graphs of functions that end at an error node are runs of flat code and of typed trees that end in this error.
use Rattle.std.specs.Prelude.{ℕ, ◌<◌, ◌≤◌, ◌≡◌, List, [], ◌++◌, length, take, None, Some, slice_get, ℤ}
use Rattle.lv_base.specs.declared.fault.ErrorKind.{ErrorKind}
use Rattle.c_run.specs.Run.{Error}
use Rattle.c_typed.specs.Facts.{IsTyped}
use Rattle.c_typed.specs.Parts.{Parts, tree_of}
use Rattle.c_typed.specs.Run.{run}
use Rattle.c_graph.specs.declared.graph.Node.TheVariants.{Error as AnError}
use Rattle.c_graph.specs.Shape.{widths_of}
use Rattle.c_graph.specs.Steps.{IsWhole}
use Rattle.c_graph.specs.Functions.{FnFlow, Flows, AreFlows}
use Rattle.slot_code.specs.declared.reply.Ending.TheVariants as ending
use Rattle.slot_code.specs.Values.{Link, link_of}
use Rattle.slot_code.specs.Machine.{run_from_with}
use Rattle.slot_laws.specs.Laws.{IsOrder}
use Rattle.code_layout.specs.Layout.{slot_cell}
use Rattle.code_move_laws.specs.Ways.{converting, graph_way}
use Rattle.cfg_build.specs.Graphs.{ProgramFollows, program_code, program_setting}
use Rattle.code_flow_laws.specs.Followed.{IsOpened, links_in, start_of}
use Rattle.function_runs.specs.Runs.{Move, Spot, spot, node_at, MovesBy, RunsBy, FunctionsFail}

-- a run from the entry of main, in any store and with no open call, that makes so many moves and ends at an error node
pub record FailsIn (p : Flows) (n : ℕ) (draws : List ℤ) (kind : ErrorKind) (at : ℕ) : Type 0 where
  pub graph : FnFlow
  pub moves : List Move
  pub store : List ℕ
  pub last : Spot
  pub main : slice_get p.graphs p.main ≡ Some graph
  pub whole : IsWhole (widths_of p.cells) store
  pub counts : length moves ≡ n
  pub runs : RunsBy p moves (spot p.main graph.entry [] store) draws last
  pub error : node_at p last ≡ Some (AnError kind at)

-- ---- The laws

-- Graphs that follow a program's code leave no choice: of two moves from one spot that draw from the front of the same values, one is
-- the other.
abbrev pub MovesAreDetermined : Type 0
MovesAreDetermined =
    (t : Parts) (order : List ℕ) (p : Flows) (m n : Move) (s u v : Spot) (first second left right : List ℤ) → AreFlows p → ProgramFollows t order p → MovesBy p m s first u → MovesBy p n s second v
    → first ++ left ≡ second ++ right → (u ≡ v) × (first ≡ second)

-- No instruction of a program's code reads the slot by which a function returns. So the slot has no cell.
abbrev pub ReturnsAreUnread : Type 0
ReturnsAreUnread = (t : Parts) (order : List ℕ) (k : ℕ) (l : Link) → link_of k (links_in t order) ≡ Some l → slot_cell (program_setting t order).lay l.slot ≡ None

-- With slots that are read off any store the opening leads from this store to one that mirrors the machine where main begins.
abbrev pub StoresOpen : Type 0
StoresOpen =
    (t : Parts) (order : List ℕ) (k : ℕ) (l : Link) (turns : ℕ) (store : List ℕ) → IsTyped (tree_of t) → length (program_setting t order).lay.cells < 4294967296 → length (program_code t order) < 18446744073709551616
    → link_of k (links_in t order) ≡ Some l → IsWhole (widths_of (program_setting t order).lay.cells) store
    → (slots : List ℤ) × (o : IsOpened (program_setting t order) (start_of t order slots l turns)) × (o.store ≡ store)

-- A run over the graphs that ends at an error node is a run of the flat code, as the graph computes and in its way, with slots that are
-- read off the store in which it begins: with as many turns as moves, or more, and with each list of inputs that begins with the values
-- drawn, the code ends in this error and draws these values.
abbrev pub FlatErrorsComeBack : Type 0
FlatErrorsComeBack =
    (t : Parts) (order : List ℕ) (p : Flows) (inputs draws more : List ℤ) (turns n : ℕ) (l : Link) (kind : ErrorKind) (at : ℕ) → IsTyped (tree_of t) → AreFlows p → ProgramFollows t order p
    → link_of p.main (links_in t order) ≡ Some l → FailsIn p n draws kind at → n ≤ turns → inputs ≡ draws ++ more
    → (slots : List ℤ) × (taken : ℕ)
    × (run_from_with t.model (λ op kind a b. converting t.model op kind a b) inputs (graph_way (program_setting t order)) (program_code t order) (start_of t order slots l turns) ≡ ending.Error kind at taken)
    × (take taken inputs ≡ draws)

-- So it is a run of the typed tree.
abbrev pub TypedErrorsComeBack : Type 0
TypedErrorsComeBack =
    (t : Parts) (order : List ℕ) (p : Flows) (inputs draws more : List ℤ) (turns n : ℕ) (kind : ErrorKind) (at : ℕ) → IsTyped (tree_of t) → IsOrder (tree_of t) order → AreFlows p → ProgramFollows t order p
    → FailsIn p n draws kind at → n ≤ turns → inputs ≡ draws ++ more → (taken : ℕ) × (run turns (tree_of t) inputs ≡ Error kind at taken) × (take taken inputs ≡ draws)

-- A run over the graphs that ends at an error node is a run of the typed tree with each number of turns from some number on.
abbrev pub ProgramErrorsComeBack : Type 0
ProgramErrorsComeBack =
    (t : Parts) (order : List ℕ) (p : Flows) (draws : List ℤ) (kind : ErrorKind) (at : ℕ) → IsTyped (tree_of t) → IsOrder (tree_of t) order → AreFlows p → ProgramFollows t order p → FunctionsFail p draws kind at
    → (least : ℕ)
    × ((turns : ℕ) (inputs more : List ℤ) → least ≤ turns → inputs ≡ draws ++ more → (taken : ℕ) × (run turns (tree_of t) inputs ≡ Error kind at taken) × (take taken inputs ≡ draws))
