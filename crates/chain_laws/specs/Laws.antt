-- The formulas of a path's cuts are a chain along the path's edges.
use Rattle.std.specs.Prelude.{ℕ, ◌<◌, ◌≡◌, true, All, List, length, map, reverse, suc, Some, slice_get}
use Rattle.bv_term.specs.declared.term.TermId.{TermId}
use Rattle.bv_term.specs.WellFormed.{Table}
use Rattle.c_graph.specs.declared.graph.EdgeId.{EdgeId}
use Rattle.c_graph.specs.Shape.{Flow, HasWidth, IsFlow, widths_of}
use Rattle.path_query.specs.Facts.{IsQuery}
use Rattle.path_formula.specs.Questions.{question_of}
use Rattle.resolution_log.specs.declared.Chain.{Chain}
use Rattle.resolution_log.specs.Chains.{IsRefutation}
use Rattle.interpolants.specs.CutMeanings.{AreCutFormulas}
use Rattle.interpolants.specs.Cuts.{AreFormulas}
use Rattle.interpolants.specs.NamedCells.{AreNamed}
use Rattle.term_copy.specs.Copies.{AreCopies, number_in}
use Rattle.reach_tree.specs.declared.vertex.VertexId.{VertexId}
use Rattle.cover_engine.specs.Unwindings.{Unwound, path_of}
use Rattle.needed_cells.specs.Formulas.{EdgeImplies, begins_true}
use Rattle.cover_engine.specs.Units.{Legal, Links, NameNeeded, edges_to}

-- of the formulas that a refutation of a path's clauses gives, each with the edge of its number implies the next
abbrev pub FormulasAreLinked : Type 0
FormulasAreLinked =
    (g : Flow) (path : List EdgeId) (table : Table) (log : List Chain) (fs : List TermId) (k : ℕ) (e : EdgeId) (f h : TermId)
    → IsFlow g → IsQuery (widths_of g.cells) (length path) (question_of g path) → IsRefutation (question_of g path).clauses log
    → AreCutFormulas table (question_of g path) log fs
    → slice_get path k ≡ Some e → slice_get fs k ≡ Some f → slice_get fs (suc k) ≡ Some h → EdgeImplies g table e f h

-- terms with new numbers in the table of an unwinding: each is one bit wide, the first is true, along the path down to the vertex they are
-- links, and each names only cells that the rest of the path reads before it sets them
pub record AreLinks (g : Flow) (u : Unwound) (v : VertexId) (fs : List TermId) : Type 0 where
  pub terms : All (λ t. HasWidth u.terms t 1) fs
  pub first : begins_true u.terms fs ≡ true
  pub links : Links g u.terms u.vertices (reverse (path_of u.vertices v)) fs
  pub names : NameNeeded g u.terms u.vertices (reverse (path_of u.vertices v)) fs

-- of the path of a vertex of a legal unwinding: the formulas that a refutation of its clauses gives, copied into the unwinding's table
abbrev pub FormulasMakeLinks : Type 0
FormulasMakeLinks =
    (g : Flow) (u : Unwound) (v : VertexId) (path : List EdgeId) (table : Table) (to : List TermId) (log : List Chain) (fs : List TermId)
    → IsFlow g → Legal g u → v.0 < length u.vertices → path ≡ edges_to u.vertices (reverse (path_of u.vertices v))
    → IsQuery (widths_of g.cells) (length path) (question_of g path) → IsRefutation (question_of g path).clauses log
    → AreFormulas table (length path) fs → AreNamed table (question_of g path) fs → AreCutFormulas table (question_of g path) log fs
    → length to ≡ length table.terms → AreCopies table u.terms to
    → AreLinks g u v (map (number_in to) fs)
