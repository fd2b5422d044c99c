-- Cells that are read from a node on before they are set, and visits of loops.
use Rattle.std.specs.Prelude.{ℕ, ℤ, ◌<◌, ◌≡◌, ◌⊎◌, Bool, true, List, [], ◌∷◌, ◌++◌, length, Some, slice_get, slice_index, slice_set}
use Rattle.bv_term.specs.declared.term.TermId.{TermId}
use Rattle.bv_term.specs.WellFormed.{Table}
use Rattle.bv_term.specs.Values.{value}
use Rattle.c_graph.specs.declared.graph.EdgeId.{EdgeId}
use Rattle.c_graph.specs.declared.graph.Edge.{Edge}
use Rattle.c_graph.specs.declared.graph.LoopAt.{LoopAt}
use Rattle.c_graph.specs.declared.graph.Operation.{Operation}
use Rattle.c_graph.specs.declared.graph.Operation.TheVariants.{Assume, Set, SetAt, Draw}
use Rattle.c_graph.specs.Shape.{Flow, IsFlow}
use Rattle.c_graph.specs.Runs.{RunsTo}
use Rattle.block_rule.specs.Plans.{Plan, IsError}
use Rattle.block_rule.specs.Blocked.{Agree, IsBlocked}
use Rattle.edge_chains.specs.Joining.{IsJoined}
use Rattle.edge_chain_laws.specs.Keeping.{with_edges}

-- a term depends on a cell: in some store it has another value where the cell holds another number
abbrev pub Depends : Table → TermId → ℕ → Type 0
Depends table t c = (s : List ℕ) × ((x : ℕ) × (value table s t ≡ value table (slice_set s c x) t → ⊥))

-- an operation reads a cell
abbrev pub ReadsCell : Table → Operation → ℕ → Type 0
ReadsCell table (Assume t) c = Depends table t c
ReadsCell table (Set d t) c = Depends table t c
ReadsCell table (SetAt first n i t) c = Depends table i c ⊎ Depends table t c
ReadsCell table (Draw d signed) c = ⊥

-- an operation sets a cell, whatever the store holds
abbrev pub SetsCell : Operation → ℕ → Type 0
SetsCell (Assume t) c = ⊥
SetsCell (Set d t) c = d ≡ c
SetsCell (SetAt first n i t) c = ⊥
SetsCell (Draw d signed) c = d ≡ c

-- one of the operations reads the cell, and none before it sets it
abbrev pub ReadsFirst : Table → List Operation → ℕ → Type 0
ReadsFirst table [] c = ⊥
ReadsFirst table (op ∷ ops) c = ReadsCell table op c ⊎ ((SetsCell op c → ⊥) × ReadsFirst table ops c)

-- a path leads from a node to a node, and these are its operations in order
abbrev pub IsPath : Flow → List EdgeId → ℕ → ℕ → List Operation → Type 0
IsPath g [] v w ops = (v ≡ w) × (ops ≡ [])
IsPath g (k ∷ path) v w ops =
    (e : Edge) × (slice_get g.edges k.0 ≡ Some e) × (e.from.0 ≡ v)
    × ((rest : List Operation) × (ops ≡ e.ops ++ rest) × IsPath g path e.to.0 w rest)

-- an error, or the node of a loop
abbrev pub IsGoal : Flow → ℕ → Type 0
IsGoal g w = IsError g w ⊎ ((k : ℕ) × ((l : LoopAt) × (slice_get g.loops k ≡ Some l) × (l.node.0 ≡ w)))

-- a cell is needed at a node: on some path from there to an error, or to the node of a loop, it is read before it is set
abbrev pub IsNeeded : Flow → ℕ → ℕ → Type 0
IsNeeded g v c =
    (path : List EdgeId) × ((w : ℕ) × ((ops : List Operation) × IsPath g path v w ops × IsGoal g w × ReadsFirst g.terms ops c))

-- two stores hold the same in each cell of the graph that is needed at a node
abbrev pub AgreeAt : Flow → ℕ → List ℕ → List ℕ → Type 0
AgreeAt g v s t = (c : ℕ) → c < length g.cells → IsNeeded g v c → slice_index s c ≡ slice_index t c

-- each run of the first graph to the node of a loop has one of the second to that node, which draws the same values, and ends in a store
-- that holds the same in each cell that is needed there
abbrev pub KeepsVisits : Flow → Flow → Type 0
KeepsVisits g h =
    (draws : List ℤ) (k : ℕ) (l : LoopAt) (after : List ℕ) → slice_get g.loops k ≡ Some l → RunsTo g draws l.node after
    → (end : List ℕ) × (RunsTo h draws l.node end × AgreeAt g l.node.0 after end)

-- Each run of the first graph to the node of a loop has one of the second to that node, which draws the same values. Unless an error stands
-- there, its store holds the same in each cell of the first graph that is marked for the node.
abbrev pub KeepsMarked : (ℕ → ℕ → Bool) → Flow → Flow → Type 0
KeepsMarked marks g h =
    (draws : List ℤ) (k : ℕ) (l : LoopAt) (after : List ℕ) → slice_get g.loops k ≡ Some l → RunsTo g draws l.node after
    → (end : List ℕ) × (RunsTo h draws l.node end × (IsError g l.node.0 ⊎ Agree (length g.cells) (marks l.node.0) after end))

-- each cell of the graph that is needed at the node of a loop to which some run comes is marked for the node
abbrev pub MarksNeeded : (ℕ → ℕ → Bool) → Flow → Type 0
MarksNeeded marks g =
    (draws : List ℤ) (k : ℕ) (l : LoopAt) (after : List ℕ) → slice_get g.loops k ≡ Some l → RunsTo g draws l.node after
    → (c : ℕ) → c < length g.cells → IsNeeded g l.node.0 c → marks l.node.0 c ≡ true

-- each run of the first graph to the node of a loop has one of the second to that node, which draws the same values and ends in the same
-- store
abbrev pub KeepsStores : Flow → Flow → Type 0
KeepsStores g h = (draws : List ℤ) (k : ℕ) (l : LoopAt) (after : List ℕ) → slice_get g.loops k ≡ Some l → RunsTo g draws l.node after → RunsTo h draws l.node after

abbrev pub BlocksKeepLoops : Type 0
BlocksKeepLoops = (g h : Flow) (plan : Plan) → IsFlow g → IsFlow h → IsBlocked g h plan → KeepsVisits g h

-- what the plan says to be read from a loop's node on is the same
abbrev pub BlocksKeepLive : Type 0
BlocksKeepLive = (g h : Flow) (plan : Plan) → IsFlow g → IsFlow h → IsBlocked g h plan → KeepsMarked plan.live g h

-- what is needed at a loop the plan says to be read from there on
abbrev pub PlansMarkNeeded : Type 0
PlansMarkNeeded = (g h : Flow) (plan : Plan) → IsBlocked g h plan → MarksNeeded plan.live g

abbrev pub ChainsKeepLoops : Type 0
ChainsKeepLoops = (g : Flow) (edges : List Edge) → IsJoined g.nodes g.loops g.entry g.edges edges → KeepsStores g (with_edges g edges)
