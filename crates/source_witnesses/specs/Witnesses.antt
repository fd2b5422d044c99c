-- The witnesses of a source: functions of its bytes, its tree, the data model, its file's name, and the moment and the bytes of chance with
-- which it is made; and of the graph, its marked cells and the map that make it safe, or of the offset of the error that it reaches.
use Rattle.std.specs.Prelude.{ℕ, suc, Bool, true, false, List, [], ◌∷◌, ◌==◌, if◌then◌else◌, Option, Some, None, slice_get, codes}
use Rattle.sha2.specs.Sha256.{sha256}
use Rattle.lv_base.specs.Place.{place_at}
use Rattle.lv_base.specs.declared.kind.Model.{Model}
use Rattle.bv_term.specs.declared.term.TermId.{TermId}
use Rattle.c_tree.specs.Tree.{Items}
use Rattle.c_meaning.specs.Bindings.{Env}
use Rattle.c_meaning.specs.Program.{env_of}
use Rattle.c_graph.specs.declared.graph.Cell.{Cell}
use Rattle.c_graph.specs.declared.graph.LoopAt.{LoopAt}
use Rattle.c_graph.specs.declared.graph.Origin.TheVariants.{Saved}
use Rattle.c_graph.specs.Shape.{Flow}
use Rattle.c_graph.specs.Runs.{Formulas}
use Rattle.loop_names.specs.Spellings.{spellings_of}
use Rattle.witness_expressions.specs.Names.{named}
use Rattle.witness_expressions.specs.Expressions.{expression_of}
use Rattle.witness_places.specs.declared.loops.LoopPlace.{LoopPlace}
use Rattle.witness_places.specs.Loops.{main_loops}
use Rattle.witness_places.specs.Functions.{function_around}
use Rattle.witness_yaml.specs.declared.entry.Invariant.{Invariant}
use Rattle.witness_yaml.specs.declared.metadata.Metadata.{Metadata}
use Rattle.witness_yaml.specs.Texts.{correctness_text, violation_text}
use Rattle.source_witnesses.specs.declared.stamp.Stamp.{Stamp}

-- what a witness says of itself and of the source
abbrev pub metadata_of : List ℕ → List ℕ → Model → Stamp → Metadata
metadata_of name source model stamp = record { name = name; hash = sha256 source; model = model; moment = stamp.moment; random = stamp.random }

-- ---- Sources that are safe

-- where the condition of the loop with this keyword begins
abbrev pub condition_of : List LoopPlace → ℕ → ℕ
condition_of [] keyword = keyword
condition_of (place ∷ places) keyword = if place.keyword == keyword then place.condition else condition_of places keyword

-- the expression of a formula
abbrev pub expression_at : (ℕ → Option (List ℕ)) → Formulas → Option TermId → List ℕ
expression_at names m None = codes "1"
expression_at names m (Some formula) = expression_of names m.terms.terms formula

-- a cell that is not shown is one that no object has, so that it has no name
abbrev pub shown_cell : Bool → Cell → Cell
shown_cell true cell = cell
shown_cell false cell = record { width = cell.width; origin = Saved }

-- cells, which are numbered from this number on, shown where they are marked
abbrev pub shown_from : (ℕ → Bool) → ℕ → List Cell → List Cell
shown_from marks number [] = []
shown_from marks number (c ∷ cs) = shown_cell (marks number) c ∷ shown_from marks (suc number) cs

abbrev pub shown_cells : (ℕ → Bool) → List Cell → List Cell
shown_cells marks cells = shown_from marks 0 cells

-- what holds at each visit of a loop: the formula of its node, over the cells that are marked there, by the names that mean the same at its
-- keyword and in its condition
abbrev pub invariant_at : List ℕ → Env → List LoopPlace → (ℕ → ℕ → Bool) → List Cell → Formulas → LoopAt → Invariant
invariant_at source env places marks cells m l = record {
  place = place_at source l.at;
  expression = expression_at (named (spellings_of env l.at (condition_of places l.at)) (shown_cells (marks l.node.0) cells)) m (slice_get m.at l.node.0);
}

abbrev pub invariants_of : List ℕ → Env → List LoopPlace → (ℕ → ℕ → Bool) → List Cell → Formulas → List LoopAt → List Invariant
invariants_of source env places marks cells m [] = []
invariants_of source env places marks cells m (l ∷ ls) = invariant_at source env places marks cells m l ∷ invariants_of source env places marks cells m ls

abbrev pub invariants_in : List ℕ → Items → Model → Flow → (ℕ → ℕ → Bool) → Formulas → List Invariant
invariants_in source tree model g marks m = invariants_of source (env_of tree model) (main_loops tree) marks g.cells m g.loops

unfoldable pub safe_text : List ℕ → List ℕ → Items → Model → Flow → (ℕ → ℕ → Bool) → Formulas → Stamp → List ℕ
safe_text name source tree model g marks m stamp = correctness_text (metadata_of name source model stamp) (invariants_in source tree model g marks m)

-- ---- Sources that reach an error

unfoldable pub unsafe_text : List ℕ → List ℕ → Items → Model → ℕ → Stamp → List ℕ
unsafe_text name source tree model at stamp = violation_text (metadata_of name source model stamp) (place_at source at) (function_around tree at)
