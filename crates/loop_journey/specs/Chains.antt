-- Chains of formulas along a path of the loop's graph.
use Rattle.std.specs.Prelude.{ℕ, ◌++◌, ◌≡◌, Bool, true, false, List, [], ◌∷◌, All, Contains, Option, None, Some, reverse}
use Rattle.bv_term.specs.declared.term.TermId.{TermId}
use Rattle.c_graph.specs.declared.graph.EdgeId.{EdgeId}
use Rattle.c_graph.specs.Shape.{HasWidth}
use Rattle.reach_tree.specs.declared.vertex.VertexId.{VertexId}
use Rattle.reach_tree.specs.declared.vertex.Vertex.{Vertex}
use Rattle.needed_cells.specs.Reads.{needed_along}
use Rattle.cover_engine.specs.Unwindings.{path_of, path_up}
use Rattle.needed_cells.specs.Formulas.{begins_true}
use Rattle.cover_engine.specs.Units.{Links, NameNeeded, edges_to}
use Rattle.loop_journey.specs.declared.formula.Formula.{Formula}
use Rattle.loop_journey.specs.declared.formula.Formula.TheVariants.{IsZero}
use Rattle.loop_journey.specs.Loop.{is_followed, label_table, loop_flow, term_of}

-- what is asked of the formulas of a Refine of the leaf
pub record IsChain (last : ℕ) (vs : List Vertex) (leaf : VertexId) (fs : List TermId) : Type 0 where
  pub terms : All (λ t. HasWidth label_table t 1) fs
  pub first : begins_true label_table fs ≡ true
  pub links : Links (loop_flow last) label_table vs (reverse (path_of vs leaf)) fs
  pub names : NameNeeded (loop_flow last) label_table vs (reverse (path_of vs leaf)) fs

-- the first formula with the edge by which a vertex was reached, if there is one, implies the other
abbrev pub follows_by : Formula → Option EdgeId → Formula → Bool
follows_by f None h = false
follows_by f (Some e) h = is_followed f e.0 h

-- formulas from a leaf up to a vertex are the end of a chain: `under` are the vertices below it, from above
pub record Climbed (last : ℕ) (vs : List Vertex) (leaf : VertexId) (left at : ℕ) (formulas : List TermId) (below : Formula) : Type 0 where
  pub under : List ℕ
  pub later : List TermId
  pub path : reverse under ++ path_up vs left at ≡ path_of vs leaf
  pub made : reverse formulas ≡ term_of below ∷ later
  pub terms : All (λ t. HasWidth label_table t 1) (term_of below ∷ later)
  pub links : Links (loop_flow last) label_table vs (at ∷ under) (term_of below ∷ later)
  pub names : NameNeeded (loop_flow last) label_table vs (at ∷ under) (term_of below ∷ later)
  pub needed : below ≡ IsZero → Contains (needed_along (loop_flow last) (edges_to vs under)) 0
