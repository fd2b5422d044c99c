-- What it means that one graph is made of function graphs, each call being a copy.
use Rattle.std.specs.Prelude.{ℕ, ◌≡◌, ◌⊎◌, List, [], Option, None, Some, map, slice_get}
use Rattle.lv_base.specs.declared.fault.ErrorKind.{ErrorKind}
use Rattle.c_graph.specs.declared.graph.NodeId.{NodeId}
use Rattle.c_graph.specs.declared.graph.Node.{Node}
use Rattle.c_graph.specs.declared.graph.Node.TheVariants.{Error, Call}
use Rattle.c_graph.specs.declared.graph.Edge.{Edge}
use Rattle.c_graph.specs.declared.graph.LoopAt.{LoopAt}
use Rattle.c_graph.specs.Shape.{Flow, IsNodeOf}
use Rattle.c_graph.specs.Functions.{FnFlow, Flows}
use Rattle.c_graph.specs.Parts.{error_flow}
use Rattle.call_inline.specs.declared.numbers.Copied.{Copied}

abbrev pub or_zero : Option ℕ → ℕ
or_zero None = 0
or_zero (Some n) = n

abbrev pub nodes_of : Option FnFlow → List Node
nodes_of None = []
nodes_of (Some f) = f.nodes

abbrev pub edges_of : Option FnFlow → List Edge
edges_of None = []
edges_of (Some f) = f.edges

abbrev pub entry_of : Option FnFlow → NodeId
entry_of None = record { 0 = 0 }
entry_of (Some f) = f.entry

abbrev pub loops_of : Option FnFlow → List LoopAt
loops_of None = []
loops_of (Some f) = f.loops

-- the nodes, the edges and the entry of the function of a number
abbrev pub nodes_in : Flows → ℕ → List Node
nodes_in p k = nodes_of (slice_get p.graphs k)

abbrev pub edges_in : Flows → ℕ → List Edge
edges_in p k = edges_of (slice_get p.graphs k)

abbrev pub entry_in : Flows → ℕ → NodeId
entry_in p k = entry_of (slice_get p.graphs k)

-- x stands in the list
abbrev pub Among : {X : Type 0} → List X → X → Type 0
Among xs x = (k : ℕ) × (slice_get xs k ≡ Some x)

-- an edge that does nothing
abbrev pub step : NodeId → NodeId → Edge
step from to = record { from = from; to = to; ops = [] }

module _ (p : Flows) (copies : List Copied) (number : Copied → NodeId → NodeId) where
  -- an edge of a function, in a copy
  pub record IsOwn (c : Copied) (e : Edge) : Type 0 where
    pub own : Edge
    pub there : Among (edges_in p c.function) own
    pub is : e ≡ record { from = number c own.from; to = number c own.to; ops = own.ops }

  -- an edge from a call to the entry of a copy that goes on where the call does
  pub record IsCall (c : Copied) (e : Edge) : Type 0 where
    pub node : NodeId
    pub callee : ℕ
    pub next : NodeId
    pub copy : Copied
    pub there : slice_get (nodes_in p c.function) node.0 ≡ Some (Call callee next)
    pub among : Among copies copy
    pub function : copy.function ≡ callee
    pub back : copy.back ≡ Some (number c next)
    pub is : e ≡ step (number c node) (number copy (entry_in p callee))

  -- an edge from an exit to where the copy goes on
  pub record IsReturn (c : Copied) (e : Edge) : Type 0 where
    pub exit : NodeId
    pub back : NodeId
    pub there : slice_get p.exits c.function ≡ Some exit
    pub goes_on : c.back ≡ Some back
    pub is : e ≡ step (number c exit) back

-- The graph g has copies of the functions' graphs, and a number for each node of each copy. The first copy is that of main, which
-- goes on nowhere. Each edge of a function stands in each copy of it. A call leads to the entry of a copy of the called function that
-- goes on where the call does; the exit of a copy leads there. An error node of a function is the same error node in each copy.
-- The graph has no other edges, each node of each copy has a number of its own, and what stands there as an error is one in the function.
-- Its loops are those of main, at the nodes of main's copy.
pub record IsInlining (p : Flows) (g : Flow) : Type 0 where
  pub copies : List Copied
  pub number : Copied → NodeId → NodeId
  pub main : (c : Copied) × (slice_get copies 0 ≡ Some c) × (c.function ≡ p.main) × (c.back ≡ None) × (g.entry ≡ number c (entry_in p p.main))
  pub edges :
      (c : Copied) (e : Edge) → Among copies c → Among (edges_in p c.function) e
      → Among g.edges (record { from = number c e.from; to = number c e.to; ops = e.ops })
  pub calls :
      (c : Copied) (v : NodeId) (callee : ℕ) (next : NodeId) → Among copies c
      → slice_get (nodes_in p c.function) v.0 ≡ Some (Call callee next)
      → (d : Copied) × Among copies d × (d.function ≡ callee) × (d.back ≡ Some (number c next))
      × Among g.edges (step (number c v) (number d (entry_in p callee)))
  pub returns :
      (c : Copied) (v back : NodeId) → Among copies c → slice_get p.exits c.function ≡ Some v → c.back ≡ Some back
      → Among g.edges (step (number c v) back)
  pub errors :
      (c : Copied) (v : NodeId) (kind : ErrorKind) (at : ℕ) → Among copies c
      → slice_get (nodes_in p c.function) v.0 ≡ Some (Error kind at) → slice_get g.nodes (number c v).0 ≡ Some (Error kind at)
  pub only : (e : Edge) → Among g.edges e → (c : Copied) × Among copies c × (IsOwn p copies number c e ⊎ (IsCall p copies number c e ⊎ IsReturn p copies number c e))
  pub apart :
      (c d : Copied) (v w : NodeId) → Among copies c → Among copies d → IsNodeOf (nodes_in p c.function) v → IsNodeOf (nodes_in p d.function) w
      → number c v ≡ number d w → (c ≡ d) × (v ≡ w)
  pub own_errors :
      (c : Copied) (v : NodeId) (kind : ErrorKind) (at : ℕ) → Among copies c → IsNodeOf (nodes_in p c.function) v
      → slice_get g.nodes (number c v).0 ≡ Some (Error kind at) → slice_get (nodes_in p c.function) v.0 ≡ Some (Error kind at)
  pub loops : g.loops ≡ map (λ l. record { at = l.at; node = number main.0 l.node }) (loops_of (slice_get p.graphs p.main))
  pub cells : g.cells ≡ p.cells
  pub terms : g.terms ≡ p.terms

-- the graph has the copies, or it is an error at its entry, so that nothing is called safe by mistake
abbrev pub Inlines : Flows → Flow → Type 0
Inlines p g = IsInlining p g ⊎ (g ≡ error_flow)
