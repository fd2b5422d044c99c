-- Loops of main, and their visits by runs over the graphs of functions.
use Rattle.std.specs.Prelude.{ℕ, ℤ, ◌≡◌, true, List, [], take, Some, slice_get}
use Rattle.c_typed.specs.Facts.{IsTyped}
use Rattle.c_typed.specs.Parts.{Parts, tree_of}
use Rattle.c_graph.specs.declared.graph.LoopAt.{LoopAt}
use Rattle.c_graph.specs.Functions.{Flows, AreFlows}
use Rattle.slot_laws.specs.Laws.{IsOrder}
use Rattle.loop_turns.specs.Turning.{OnlyTurn}
use Rattle.cfg_build.specs.Keeping.{is_inside}
use Rattle.cfg_build.specs.Follows.{Plan}
use Rattle.cfg_build.specs.Graphs.{IsLoop, ProgramFollows, program_code, program_setting}
use Rattle.cfg_build.specs.Steps.{node_id}
use Rattle.function_runs.specs.Runs.{spot, FunctionsRunTo}
use Rattle.program_visits.specs.Visiting.{Shows, Visits}

-- the function that is looked at is main
pub record IsMain (t : Parts) (order : List ℕ) (p : Flows) (f : ProgramFollows t order p) (q : Plan) : Type 0 where
  pub code : q.code ≡ program_code t order
  pub numbers : q.numbers ≡ f.numbers
  pub range : slice_get f.ranges p.main ≡ Some q.range

-- All turns at the loop's offset go to one place of main, whose node is the loop's, and no call stands at this offset.
pub record TurnsInMain (t : Parts) (order : List ℕ) (p : Flows) (f : ProgramFollows t order p) (l : LoopAt) : Type 0 where
  pub plan : Plan
  pub main : IsMain t order p f plan
  pub goal : ℕ
  pub inside : is_inside plan.range goal ≡ true
  pub only : OnlyTurn (program_code t order) l.at goal
  pub number : ℕ
  pub numbered : slice_get f.numbers goal ≡ Some number
  pub node : l.node ≡ node_id number

-- ---- The laws

-- Each visit of such a loop has a run over the graphs to its node, in main with no call open; it draws what the program drew, and its store
-- shows what the objects hold.
abbrev pub LoopVisitsFollow : Type 0
LoopVisitsFollow =
    (t : Parts) (order : List ℕ) (p : Flows) (inputs : List ℤ) (l : LoopAt) (values : List (List ℤ)) → IsTyped (tree_of t) → IsOrder (tree_of t) order → AreFlows p
    → (f : ProgramFollows t order p) → TurnsInMain t order p f l → Visits (tree_of t) inputs l.at values
    → (taken : ℕ) × (store : List ℕ) × FunctionsRunTo p (take taken inputs) (spot p.main l.node [] store) × Shows (program_setting t order) values store

-- A loop of main's graph is one whose turns go to one place of main.
abbrev pub LoopsTurn : Type 0
LoopsTurn =
    (t : Parts) (order : List ℕ) (p : Flows) (f : ProgramFollows t order p) (q : Plan) (l : LoopAt) → IsMain t order p f q → IsLoop q l → TurnsInMain t order p f l
