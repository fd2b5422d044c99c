-- The graphs of a program's functions, as a function of its typed tree and the order of its functions.
use Rattle.std.specs.Prelude.{ℕ, zero, suc, true, length, List, [], ◌∷◌, ◌++◌, Option, None, Some, slice_get}
use Rattle.c_graph.specs.declared.graph.NodeId.{NodeId}
use Rattle.c_graph.specs.Shape.{widths_of}
use Rattle.c_graph.specs.Functions.{FnFlow, Flows}
use Rattle.c_graph.specs.Parts.{flows_of}
use Rattle.slot_code.specs.declared.flat.Instruction.{Instruction}
use Rattle.slot_code.specs.Programs.{code_of}
use Rattle.slot_code.specs.Slots.{slots_in}
use Rattle.c_typed.specs.Tree.{Function}
use Rattle.c_typed.specs.Parts.{Parts, tree_of}
use Rattle.c_typed.specs.Run.{main_number}
use Rattle.c_terms.specs.declared.words.Words.{Words}
use Rattle.c_terms.specs.Made.{words_of}
use Rattle.code_moves.specs.Setting.{Setting, site_of}
use Rattle.cfg_build.specs.declared.placing.Range.{Range}
use Rattle.cfg_build.specs.Steps.{node_id}
use Rattle.cfg_build.specs.Follows.{Plan}
use Rattle.cfg_build.specs.Numbers.{first_number, last_number, numbers_to, owners_to}
use Rattle.cfg_build.specs.Graphs.{program_code, program_setting}
use Rattle.cfg_build.specs.Made.{graph_of, opened}
use Rattle.cfg_build.specs.Ranges.{main_or, no_ranges, ranges_to}

-- terms, the graphs of the first so many functions, and the nodes at which these return
pub record Graphed : Type 0 where
  pub words : Words
  pub graphs : List FnFlow
  pub exits : List NodeId

abbrev pub graphed : Words → List FnFlow → List NodeId → Graphed
graphed words graphs exits = record { words = words; graphs = graphs; exits = exits }

-- ---- The graphs of all

-- the places of a function, with the node behind them
abbrev pub plan_in : List Instruction → (numbers : List ℕ) → List Range → (main : ℕ) → Range → Plan
plan_in code numbers ranges main range = record {
  code = code;
  numbers = numbers;
  ranges = ranges;
  range = range;
  exit = node_id (last_number code (first_number main range.function) range.entry range.end);
}

module _ (code : List Instruction) (numbers owners : List ℕ) (ranges : List Range) (functions : List Function) (main : ℕ) (g : Setting) where
  -- a graph more
  abbrev pub with_graph : Graphed → Option Range → Graphed
  with_graph r None = r
  with_graph r (Some range) =
      let p = plan_in code numbers ranges main range in
      let made = graph_of p owners (site_of g) (opened g) functions main r.words in
      graphed made.0 (r.graphs ++ made.1 ∷ []) (r.exits ++ p.exit ∷ [])

  abbrev pub first_graphs : Words → ℕ → Graphed
  first_graphs w zero = graphed w [] []
  first_graphs w (suc k) = with_graph (first_graphs w k) (slice_get ranges k)

-- no terms, over the cells of a layout
abbrev pub first_words : Setting → Words
first_words g = words_of (record { cells = widths_of g.lay.cells; terms = [] }) true

-- The graphs of all functions of a program, over the cells of its layout, of terms that no other graph has put. They are those of a program
-- whose code is as it is of each source that breaks no rule (`IsPassing`).
abbrev pub built : Parts → List ℕ → Flows
built t order =
    let code = program_code t order in
    let links = (code_of (tree_of t) order).links in
    let main = main_or (main_number (tree_of t).functions) in
    let g = program_setting t order in
    let ranges = ranges_to (length code) (slots_in code) links (no_ranges (length (tree_of t).functions)) in
    let r = first_graphs code (numbers_to code main (length code) links) (owners_to (length code) links) ranges (tree_of t).functions main g (first_words g) (length ranges) in
    flows_of r.graphs g.lay.cells r.words.terms r.exits main
