-- Places to which runs of flat code come, and the nodes of the graphs that stand for them.
use Rattle.std.specs.Prelude.{ℕ, zero, suc, ◌<◌, ◌≡◌, List, length, take, Option, None, Some, slice_get, ℤ}
use Rattle.lv_base.specs.declared.kind.Model.{Model}
use Rattle.c_run.specs.Run.{Compute}
use Rattle.c_typed.specs.Facts.{IsTyped}
use Rattle.c_typed.specs.Parts.{Parts, tree_of}
use Rattle.c_graph.specs.Functions.{Flows, AreFlows}
use Rattle.slot_code.specs.declared.flat.Instruction.{Instruction}
use Rattle.slot_code.specs.Values.{Link, link_of}
use Rattle.slot_code.specs.Machine.{Machine, Next, Goes, Over, step_with}
use Rattle.typed_range_laws.specs.Ways.{Way}
use Rattle.code_move_laws.specs.Mirrors.{Mirrors}
use Rattle.code_move_laws.specs.Ways.{converting, graph_way}
use Rattle.cfg_build.specs.Steps.{node_id}
use Rattle.cfg_build.specs.Graphs.{ProgramFollows, program_code, program_setting}
use Rattle.code_flow_laws.specs.Followed.{IsOpened, links_in, start_of}
use Rattle.function_runs.specs.Runs.{Spot, FunctionsRunTo}

-- the machine behind so many instructions more, if it goes on that long
abbrev pub behind : Model → Compute → List ℤ → Way → List Instruction → ℕ → Next → Option Machine
behind model compute inputs way code n (Over e) = None
behind model compute inputs way code zero (Goes m) = Some m
behind model compute inputs way code (suc n) (Goes m) = behind model compute inputs way code n (step_with model compute inputs way code m)

-- Where the opening gives a store that mirrors the beginning: at each place of the code to which a run comes, as the graph computes and
-- in its way, a run over the graphs comes to the node of this place, with a store that mirrors the machine, and has drawn what it drew.
abbrev pub FlatVisitsFollow : Type 0
FlatVisitsFollow =
    (t : Parts) (order : List ℕ) (p : Flows) (slots inputs : List ℤ) (turns n : ℕ) (l : Link) (m : Machine) → IsTyped (tree_of t) → AreFlows p → (f : ProgramFollows t order p)
    → link_of p.main (links_in t order) ≡ Some l → IsOpened (program_setting t order) (start_of t order slots l turns)
    → behind t.model (λ op kind a b. converting t.model op kind a b) inputs (graph_way (program_setting t order)) (program_code t order) n (Goes (start_of t order slots l turns)) ≡ Some m
    → m.place < length (program_code t order)
    → (s : Spot) × (number : ℕ) × FunctionsRunTo p (take (m.st).taken inputs) s × (slice_get f.numbers m.place ≡ Some number) × (s.node ≡ node_id number)
    × Mirrors (program_setting t order) m.slots (m.st).store s.store
