-- Runs over the graphs of functions, with the places to which open calls return.
use Rattle.std.specs.Prelude.{ℕ, ℤ, ◌≡◌, List, [], ◌∷◌, ◌++◌, Option, None, Some, slice_get}
use Rattle.lv_base.specs.declared.fault.ErrorKind.{ErrorKind}
use Rattle.c_graph.specs.declared.graph.NodeId.{NodeId}
use Rattle.c_graph.specs.declared.graph.EdgeId.{EdgeId}
use Rattle.c_graph.specs.declared.graph.Node.{Node}
use Rattle.c_graph.specs.declared.graph.Node.TheVariants.{Error, Call}
use Rattle.c_graph.specs.declared.graph.Edge.{Edge}
use Rattle.c_graph.specs.Shape.{widths_of}
use Rattle.c_graph.specs.Steps.{IsWhole, Leads}
use Rattle.c_graph.specs.Functions.{FnFlow, Flows}

-- where an open call goes on: a node of the calling function's graph
pub record Return : Type 0 where
  pub function : ℕ
  pub node : NodeId

-- where a run stands: a node of a function's graph, the returns of the open calls, the innermost first, and the store
pub record Spot : Type 0 where
  pub function : ℕ
  pub node : NodeId
  pub returns : List Return
  pub store : List ℕ

abbrev pub return_to : ℕ → NodeId → Return
return_to function node = record { function = function; node = node }

abbrev pub spot : ℕ → NodeId → List Return → List ℕ → Spot
spot function node returns store = record { function = function; node = node; returns = returns; store = store }

-- how a run goes on: along an edge of the graph, into the function that is called, or back from the exit
pub data Move : Type 0 where
  Along : (edge : EdgeId) → Move
  Into : Move
  Back : Move

abbrev pub node_in : Option FnFlow → NodeId → Option Node
node_in None v = None
node_in (Some g) v = slice_get g.nodes v.0

-- the node at which a run stands
abbrev pub node_at : Flows → Spot → Option Node
node_at p s = node_in (slice_get p.graphs s.function) s.node

-- one move, with the values that it draws
abbrev pub MovesBy : Flows → Move → Spot → List ℤ → Spot → Type 0
MovesBy p (Along e) s draws t =
    (g : FnFlow) × (edge : Edge) × (slice_get p.graphs s.function ≡ Some g) × (slice_get g.edges e.0 ≡ Some edge) × (edge.from ≡ s.node)
    × ((after : List ℕ) × Leads p.terms edge s.store draws after × (t ≡ spot s.function edge.to s.returns after))
MovesBy p Into s draws t =
    (callee : ℕ) × (next : NodeId) × (g : FnFlow) × (node_at p s ≡ Some (Call callee next)) × (slice_get p.graphs callee ≡ Some g)
    × (draws ≡ []) × (t ≡ spot callee g.entry (return_to s.function next ∷ s.returns) s.store)
MovesBy p Back s draws t =
    (r : Return) × (rest : List Return) × (slice_get p.exits s.function ≡ Some s.node) × (s.returns ≡ r ∷ rest)
    × (draws ≡ []) × (t ≡ spot r.function r.node rest s.store)

-- moves in order, with the values that they draw
abbrev pub RunsBy : Flows → List Move → Spot → List ℤ → Spot → Type 0
RunsBy p [] s draws t = (s ≡ t) × (draws ≡ [])
RunsBy p (m ∷ moves) s draws t =
    (mid : Spot) × (first : List ℤ) × (rest : List ℤ) × (draws ≡ first ++ rest) × MovesBy p m s first mid × RunsBy p moves mid rest t

-- a run from the entry of main, which starts in any store and has no open call
abbrev pub FunctionsRunTo : Flows → List ℤ → Spot → Type 0
FunctionsRunTo p draws t =
    (g : FnFlow) × (moves : List Move) × (store : List ℕ) × (slice_get p.graphs p.main ≡ Some g) × IsWhole (widths_of p.cells) store
    × RunsBy p moves (spot p.main g.entry [] store) draws t

-- a run that ends at an error node
abbrev pub FunctionsFail : Flows → List ℤ → ErrorKind → ℕ → Type 0
FunctionsFail p draws kind at = (t : Spot) × FunctionsRunTo p draws t × (node_at p t ≡ Some (Error kind at))
