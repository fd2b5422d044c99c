-- A node of a program's function graphs leads on by one edge, or by two that exclude each other.
use Rattle.std.specs.Prelude.{ℕ, ◌≡◌, ◌⊎◌, ◌==◌, if◌then◌else◌, List, [], ◌∷◌, Some, slice_get}
use Rattle.bv_term.specs.declared.term.TermId.{TermId}
use Rattle.bv_term.specs.WellFormed.{Table}
use Rattle.c_typed.specs.Parts.{Parts}
use Rattle.c_graph.specs.declared.graph.Node.{Node}
use Rattle.c_graph.specs.declared.graph.Node.TheVariants.{Plain, Error, End, Call}
use Rattle.c_graph.specs.declared.graph.Operation.{Operation}
use Rattle.c_graph.specs.declared.graph.Operation.TheVariants.{Assume}
use Rattle.c_graph.specs.declared.graph.Edge.{Edge}
use Rattle.c_graph.specs.Functions.{FnFlow, Flows}
use Rattle.c_graph.specs.Parts.{error_flows}
use Rattle.cfg_build.specs.Steps.{IsTurned}
use Rattle.cfg_build.specs.Graphs.{ProgramFollows}

-- the edges that lead from the node of a number, in their order
abbrev pub leading : ℕ → List Edge → List Edge
leading v [] = []
leading v (e ∷ es) = if e.from.0 == v then e ∷ leading v es else leading v es

-- Two edges, of which the first does nothing but assume a term of one bit; the second first assumes one that is 1 in each store where the
-- other is not.
pub record AreTwo (table : Table) (es : List Edge) : Type 0 where
  pub first : Edge
  pub second : Edge
  pub test : TermId
  pub turned : TermId
  pub rest : List Operation
  pub are : es ≡ first ∷ second ∷ []
  pub assumes : first.ops ≡ Assume test ∷ []
  pub excludes : second.ops ≡ Assume turned ∷ rest
  pub turns : IsTurned table turned test

abbrev pub IsOne : List Edge → Type 0
IsOne es = (e : Edge) × (es ≡ e ∷ [])

-- a plain node has one edge or two; no other node has any
abbrev pub Branches : Table → Node → List Edge → Type 0
Branches table Plain es = IsOne es ⊎ AreTwo table es
Branches table (Error kind at) es = es ≡ []
Branches table End es = es ≡ []
Branches table (Call function next) es = es ≡ []

-- So it is with each node of the function graphs that follow a program's code, and of those that stand where parts make none.
abbrev pub GraphsBranch : Type 0
GraphsBranch =
    (t : Parts) (order : List ℕ) (p : Flows) (k : ℕ) (g : FnFlow) (v : ℕ) (x : Node) → ProgramFollows t order p ⊎ (p ≡ error_flows)
    → slice_get p.graphs k ≡ Some g → slice_get g.nodes v ≡ Some x → Branches p.terms x (leading v g.edges)
