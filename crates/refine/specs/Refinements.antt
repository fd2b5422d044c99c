-- What refining a leaf makes of an unwinding.
use Rattle.std.specs.Prelude.{ℕ, ℤ, ◌≡◌, true, List, Some, length, map, reverse, slice_get}
use Rattle.bv_term.specs.declared.term.TermId.{TermId}
use Rattle.bv_term.specs.WellFormed.{Table}
use Rattle.bv_term.specs.Laws.{Extends}
use Rattle.lv_base.specs.declared.fault.ErrorKind.{ErrorKind}
use Rattle.c_graph.specs.declared.graph.EdgeId.{EdgeId}
use Rattle.c_graph.specs.declared.graph.Node.TheVariants.{Error}
use Rattle.c_graph.specs.Shape.{Flow, widths_of}
use Rattle.c_graph.specs.Steps.{IsWhole}
use Rattle.c_graph.specs.Runs.{RunsAlong}
use Rattle.path_query.specs.declared.query.PathQuery.{PathQuery}
use Rattle.path_formula.specs.Questions.{question_of}
use Rattle.clause_learning.specs.Solve.{IsRefuted, IsSpent}
use Rattle.clause_learning.specs.declared.QueryFail.{QueryFail}
use Rattle.clause_learning.specs.declared.QueryFail.TheVariants.{Over, OverLog, Memory}
use Rattle.reach_tree.specs.declared.vertex.VertexId.{VertexId}
use Rattle.reach_tree.specs.Trees.{vertex_at}
use Rattle.cover_engine.specs.Unwindings.{Unwound, is_open_leaf, path_of}
use Rattle.cover_engine.specs.Units.{Legal, after_refine, edges_to}
use Rattle.resolution_log.specs.declared.Chain.{Chain}
use Rattle.interpolants.specs.CutMeanings.{AreCutFormulas}
use Rattle.interpolants.specs.Cuts.{AreFormulas}
use Rattle.term_copy.specs.Copies.{AreCopies, number_in}
use Rattle.chain_laws.specs.Laws.{AreLinks}
use Rattle.refine.specs.Refusals.{IsRefused}
use Rattle.refine.specs.declared.answers.Refined.{Refined}
use Rattle.refine.specs.declared.answers.Refined.TheVariants.{Strengthened, Feasible, Spent}

-- the edges of a vertex's path, from the root down
abbrev pub edges_of : Unwound → VertexId → List EdgeId
edges_of u v = edges_to u.vertices (reverse (path_of u.vertices v))

-- the question whether that path has a run
abbrev pub question_at : Flow → Unwound → VertexId → PathQuery
question_at g u v = question_of g (edges_of u v)

-- the vertex is an open leaf at an error
pub record IsErrorLeaf (g : Flow) (u : Unwound) (v : VertexId) : Type 0 where
  pub leaf : is_open_leaf g u v ≡ true
  pub node : (kind : ErrorKind) × ((at : ℕ) × (slice_get g.nodes (vertex_at u.vertices v.0).node.0 ≡ Some (Error kind at)))

-- a run from the entry along the vertex's path ends at the vertex's node and draws exactly these values
abbrev pub IsDriven : Flow → Unwound → VertexId → List ℤ → Type 0
IsDriven g u v values =
    (store : List ℕ) × (after : List ℕ) × IsWhole (widths_of g.cells) store
    × RunsAlong g (edges_of u v) g.entry store values (vertex_at u.vertices v.0).node after

-- terms may have come to the table, and all else is as it was
pub record OnlyGrows (old new : Unwound) : Type 0 where
  pub extends : Extends old.terms new.terms
  pub others : new ≡ record old { terms = new.terms }

-- the formulas of the cuts of the vertex's path that a refutation gives, under new numbers in the table of the unwinding
pub record AreOfLog (g : Flow) (old grown : Unwound) (v : VertexId) (log : List Chain) (formulas : List TermId) : Type 0 where
  pub table : Table
  pub cuts : List TermId
  pub to : List TermId
  pub whole : AreFormulas table (length (edges_of old v)) cuts
  pub meaning : AreCutFormulas table (question_at g old v) log cuts
  pub count : length to ≡ length table.terms
  pub copies : AreCopies table grown.terms to
  pub are : formulas ≡ map (number_in to) cuts

-- one Refine unit, once terms have come to the table, with the formulas that this refutation gives; where the unwinding is legal they are
-- links along the path, from true to false
pub record IsStrengthened (g : Flow) (old new : Unwound) (v : VertexId) (log : List Chain) : Type 0 where
  pub grown : Unwound
  pub grows : OnlyGrows old grown
  pub formulas : List TermId
  pub made : new ≡ after_refine grown v formulas
  pub own : AreOfLog g old grown v log formulas
  pub links : Legal g old → AreLinks g grown v formulas

-- no run follows the path, which this refutation shows, and it was strengthened; or these values drive one along it, where the unwinding is
-- legal; or the budget is spent on the question
abbrev pub IsRefined : Flow → Unwound → Unwound → VertexId → ℕ → Refined → Type 0
IsRefined g old new v learn (Strengthened log) = IsStrengthened g old new v log × IsRefuted (question_at g old v).clauses learn log
IsRefined g old new v learn (Feasible values) = (new ≡ old) × (Legal g old → IsDriven g old v values)
IsRefined g old new v learn (Spent log) = (new ≡ old) × IsSpent (question_at g old v).clauses learn log

-- the path's clauses or a log over them are too large, and nothing has changed; or memory ran out, when terms may have come to the table
abbrev pub IsLeafRefused : Flow → Unwound → Unwound → VertexId → ℕ → QueryFail → Type 0
IsLeafRefused g old new v learn (Over n) = (new ≡ old) × IsRefused (question_at g old v).clauses learn (Over n)
IsLeafRefused g old new v learn (OverLog log) = (new ≡ old) × IsRefused (question_at g old v).clauses learn (OverLog log)
IsLeafRefused g old new v learn Memory = OnlyGrows old new
