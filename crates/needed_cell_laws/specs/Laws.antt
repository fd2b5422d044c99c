-- Needed cells are read before they are set.
use Rattle.std.specs.Prelude.{ℕ, ◌<◌, ◌≤◌, ◌≡◌, Contains, List, drop, Some, slice_get}
use Rattle.c_graph.specs.declared.graph.EdgeId.{EdgeId}
use Rattle.c_graph.specs.Shape.{Flow, IsFlow}
use Rattle.path_query.specs.declared.query.Bundle.{Bundle}
use Rattle.path_formula.specs.Questions.{question_of}
use Rattle.path_laws.specs.Steps.{HasVariable, Occurs}
use Rattle.needed_cells.specs.Reads.{needed_along}
use Rattle.needed_cells.specs.Readings.{IsRead, operations_along}

-- an operation of edges in order reads the cell before one sets it
abbrev pub IsReadAlong : Flow → List EdgeId → ℕ → Type 0
IsReadAlong g path c = IsRead g.terms (operations_along g path) c

-- of the cells that edges need, which are those that the formulas of a Refine may name
abbrev pub NeededIsRead : Type 0
NeededIsRead = (g : Flow) (path : List EdgeId) (c : ℕ) → Contains (needed_along g path) c → IsReadAlong g path c

-- of the cells of the cuts of a path's question, the edges from the cut's number on being behind it
abbrev pub CutsAreRead : Type 0
CutsAreRead =
    (g : Flow) (path : List EdgeId) (k : ℕ) (cut : List Bundle) (j : ℕ) (b : Bundle)
    → slice_get (question_of g path).cuts k ≡ Some cut → slice_get cut j ≡ Some b → IsReadAlong g (drop k path) b.cell

-- a question's cut of this number has a literal with the variable, of a cell that is read behind the cut before it is set
pub record IsShared (g : Flow) (path : List EdgeId) (k x : ℕ) : Type 0 where
  pub cut : List Bundle
  pub is : slice_get (question_of g path).cuts k ≡ Some cut
  pub place : ℕ
  pub bundle : Bundle
  pub there : slice_get cut place ≡ Some bundle
  pub has : HasVariable bundle.bits x
  pub read : IsReadAlong g (drop k path) bundle.cell

-- a variable of clauses before a step and of clauses from it on
abbrev pub SharedIsRead : Type 0
SharedIsRead =
    (g : Flow) (path : List EdgeId) (k start m n x : ℕ) → IsFlow g → slice_get (question_of g path).starts k ≡ Some start
    → m < start → start ≤ n → Occurs (question_of g path).clauses m x → Occurs (question_of g path).clauses n x
    → IsShared g path k x
