-- What it means that a text is true at each visit of a loop, and where the elements of objects lie among cells.
use Rattle.std.specs.Prelude.{ℕ, ℤ, ◌<◌, ◌+◌, ◌≡◌, ◌⊎◌, Bool, List, Some, slice_get}
use Rattle.lv_base.specs.declared.kind.Model.{Model}
use Rattle.lv_base.specs.Integers.{width_of}
use Rattle.c_tree.specs.Tree.{Items}
use Rattle.c_run.specs.Run.{State, Spent}
use Rattle.c_run.specs.Loops.{Calls}
use Rattle.c_meaning.specs.Program.{Function, env_of, run}
use Rattle.c_typed.specs.Tree.{Program}
use Rattle.c_typed.specs.declared.tree.Object.{Object}
use Rattle.c_graph.specs.declared.graph.Cell.{Cell}
use Rattle.c_graph.specs.declared.graph.Origin.TheVariants.{Element}
use Rattle.c_graph.specs.declared.graph.LoopAt.{LoopAt}
use Rattle.c_graph.specs.Shape.{Flow}
use Rattle.c_graph.specs.Runs.{Formulas}
use Rattle.code_layout.specs.Layout.{elements_of}
use Rattle.code_moves.specs.Setting.{Setting}
use Rattle.program_visits.specs.Visiting.{VisitsFollow}
use Rattle.join_laws.specs.Visits.{KeepsMarked}
use Rattle.block_join.specs.Joined.{Stays}
use Rattle.block_join.specs.Living.{MarksWithin}
use Rattle.witness_places.specs.Loops.{main_loops}
use Rattle.source_witnesses.specs.Witnesses.{condition_of, invariant_at}
use Rattle.witness_truth_laws.specs.Written.{Expression, conjunction_text}
use Rattle.witness_truth_laws.specs.Trees.{conjunction_tree}
use Rattle.witness_truth_laws.specs.Telling.{meant, IsTrueIn}

-- the run of the source visits the loop with this keyword: a turn is wanted there behind so many turns, with these values of the objects
abbrev pub IsVisited : Items → Model → List ℤ → ℕ → List (List ℤ) → Type 0
IsVisited items model inputs keyword values = (turns : ℕ) × (taken : ℕ) × (run turns items model inputs ≡ Spent keyword values taken)

-- The text is that of expressions whose conjunction, its names meaning what they mean at the loop's keyword or where its condition begins, has
-- a value other than 0 in each state that holds the values of a visit.
pub record IsTrueAt (items : Items) (model : Model) (keyword condition : ℕ) (text : List ℕ) : Type 0 where
  pub parts : List Expression
  pub written : text ≡ conjunction_text parts
  pub true_there : (inputs : List ℤ) (functions : List Function) (call : Calls) (at : ℕ) (st : State) → IsVisited items model inputs keyword st.store
      → (at ≡ keyword) ⊎ (at ≡ condition) → IsTrueIn st (meant (env_of items model) model inputs functions call (conjunction_tree at parts) st)

-- The invariant of a loop of a graph, which the witness of a source writes of the formula at the loop's node over the cells that are marked
-- there, is true at each visit.
abbrev pub InvariantIsTrue : Items → Model → List ℕ → Flow → (ℕ → ℕ → Bool) → Formulas → LoopAt → Type 0
InvariantIsTrue items model source g marks m l =
    IsTrueAt items model l.at (condition_of (main_loops items) l.at) (invariant_at source (env_of items model) (main_loops items) marks g.cells m l).expression

-- a cell of an element of an object is so many behind the object's first cell, and as wide as its kind
pub record IsStanding (s : Setting) (c : ℕ) (cell : Cell) (object element : ℕ) : Type 0 where
  pub told : Object
  pub first : ℕ
  pub known : slice_get s.objects object ≡ Some told
  pub begins : slice_get s.lay.firsts object ≡ Some first
  pub within : element < elements_of told
  pub place : c ≡ first + element
  pub wide : cell.width ≡ width_of told.kind s.model

abbrev pub CellsStand : Setting → List Cell → Type 0
CellsStand s cells = (c object element : ℕ) (cell : Cell) → slice_get cells c ≡ Some cell → cell.origin ≡ Element object element → IsStanding s c cell object element

-- A graph was made of a whole one, which visits the program's loops, and whose cells stand where the program's layout says. It has the whole
-- one's loops, at the same nodes, and its cells. Each run of the whole one to a loop's node has a run of this one, with the same values,
-- whose store is the same in each cell that is marked there.
pub record VisitsMarked (s : Setting) (p : Program) (marks : ℕ → ℕ → Bool) (h : Flow) : Type 0 where
  pub whole : Flow
  pub visits : VisitsFollow s p whole
  pub stand : CellsStand s whole.cells
  pub stays : Stays whole h
  pub keeps : KeepsMarked marks whole h
  pub within : MarksWithin marks whole.cells
