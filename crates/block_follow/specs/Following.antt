-- What is tested of a graph and the graph of its blocks.
use Rattle.std.specs.Prelude.{ℕ, ◌<◌, ◌≤◌, ◌≡◌, ◌⊎◌, true, false, List, [], ◌∷◌, ◌++◌, length, None, Some, slice_get}
use Rattle.bv_term.specs.WellFormed.{Table}
use Rattle.truth_terms.specs.Truths.{Grew}
use Rattle.c_graph.specs.declared.graph.Cell.{Cell}
use Rattle.c_graph.specs.declared.graph.Edge.{Edge}
use Rattle.c_graph.specs.declared.graph.EdgeId.{EdgeId}
use Rattle.c_graph.specs.declared.graph.Node.{Node}
use Rattle.c_graph.specs.declared.graph.Node.TheVariants.{End}
use Rattle.c_graph.specs.declared.graph.Operation.{Operation}
use Rattle.c_graph.specs.Shape.{Flow}
use Rattle.block_rule.specs.Deeds.{AreDeeds, Code, Does, Leading}
use Rattle.block_rule.specs.Plans.{Plan, matters}
use Rattle.block_rule.specs.Rule.{guarded}
use Rattle.block_rule.specs.Blocked.{plain_deeds}
use Rattle.block_edges.specs.Exact.{HasBlock, HasKept}
use Rattle.block_edges.specs.Weights.{places_in}
use Rattle.walk_states.specs.declared.state.Place.{Place}

-- what the graph h has begins with what g has, both begin at one node, and their loops are the same
pub record Grows (g h : Flow) : Type 0 where
  pub nodes : (more : List Node) × (h.nodes ≡ g.nodes ++ more)
  pub cells : (more : List Cell) × (h.cells ≡ g.cells ++ more)
  pub entry : h.entry ≡ g.entry
  pub loops : h.loops ≡ g.loops
  pub terms : Grew g.terms h.terms

-- the code of operations as they are, and what follows
abbrev pub straight : Table → List Operation → Code → Code
straight table [] code = code
straight table (op ∷ ops) code = Does (guarded table None op) (straight table ops code)

-- an edge that leads to a node that matters leads to a cut point, and the other graph has it from the node
abbrev pub IsKeptEdge : Flow → Flow → Plan → ℕ → Edge → Type 0
IsKeptEdge g h plan v e = matters plan e.to.0 ≡ true → (plan.cuts e.to.0 ≡ true) × Leading h v (plain_deeds g.terms e.ops) e.to.0

abbrev pub IsKept : Flow → Flow → Plan → ℕ → ℕ → Type 0
IsKept g h plan v k = (e : Edge) → slice_get g.edges k ≡ Some e → IsKeptEdge g h plan v e

abbrev pub AreKept : Flow → Flow → Plan → ℕ → List EdgeId → Type 0
AreKept g h plan v ids = (j : ℕ) (id : EdgeId) → slice_get ids j ≡ Some id → IsKept g h plan v id.0

-- the other graph's edge of a number is one of the node's edges to nodes that matter, as it was
abbrev pub IsMade : Flow → Flow → Plan → ℕ → ℕ → Type 0
IsMade g h plan v k =
    (e : Edge) → slice_get h.edges k ≡ Some e
    → (j : ℕ) × ((f : Edge) × (slice_get g.edges j ≡ Some f) × (f.from.0 ≡ v) × (f.to.0 ≡ e.to.0) × (matters plan f.to.0 ≡ true)
    × AreDeeds h.terms e.ops (plain_deeds g.terms f.ops))

-- so are its edges from a number on, up to another
abbrev pub AreMade : Flow → Flow → Plan → ℕ → ℕ → ℕ → Type 0
AreMade g h plan v from to = (k : ℕ) → from ≤ k → k < to → IsMade g h plan v k

-- the edge of a number does what the other does, and leads to the same node
abbrev pub IsSame : Flow → Flow → ℕ → Edge → Type 0
IsSame g h k f = (e : Edge) → slice_get h.edges k ≡ Some e → (f.to.0 ≡ e.to.0) × AreDeeds h.terms e.ops (plain_deeds g.terms f.ops)

-- the edges from a number on, up to another, are the edge of the node, which leads to a node that matters
abbrev pub AreCopies : Flow → Flow → Plan → ℕ → Edge → ℕ → ℕ → Type 0
AreCopies g h plan v f from to = (k : ℕ) → from ≤ k → k < to → (f.from.0 ≡ v) × (matters plan f.to.0 ≡ true) × IsSame g h k f

-- the edges that lead from a node have numbers from one on, up to another
abbrev pub AreWithin : Flow → ℕ → ℕ → ℕ → Type 0
AreWithin h v from to = (k : ℕ) (e : Edge) → slice_get h.edges k ≡ Some e → e.from.0 ≡ v → (from ≤ k) × (k < to)

-- the edge leads to an end, or to this node
abbrev pub IsOver : Flow → ℕ → ℕ → Type 0
IsOver h v k = (e : Edge) → slice_get h.edges k ≡ Some e → (slice_get h.nodes e.to.0 ≡ Some End) ⊎ (e.to.0 ≡ v)

-- so does each edge that leads from this node
abbrev pub AreOver : Flow → ℕ → Type 0
AreOver h v = (k : ℕ) (e : Edge) → slice_get h.edges k ≡ Some e → e.from.0 ≡ v → (slice_get h.nodes e.to.0 ≡ Some End) ⊎ (e.to.0 ≡ v)

-- the first place is the node's
abbrev pub IsFirst : List Place → ℕ → Type 0
IsFirst places v = (p : Place) × (slice_get places 0 ≡ Some p) × (p.node ≡ v)

-- no place but the first is a cut point
abbrev pub AreInside : Plan → List Place → Type 0
AreInside plan places = (k : ℕ) (p : Place) → slice_get places k ≡ Some p → 0 < k → plan.cuts p.node ≡ false

-- the node has a block of so many places at most
abbrev pub HasBlockOf : Flow → Flow → Plan → ℕ → ℕ → Type 0
HasBlockOf g h plan size v = (block : HasBlock g h plan v) × (length (block.begins.first ∷ block.begins.others) ≤ size)

-- a cut point that matters has a block by the rule, or the edges that it had, and no other edges; and it weighs enough
abbrev pub Follows : Flow → Flow → Plan → (ℕ → ℕ) → ℕ → Type 0
Follows g h plan weight v =
    plan.cuts v ≡ true → matters plan v ≡ true → (found : HasBlock g h plan v ⊎ HasKept g h plan v) × (places_in g h plan v found ≤ weight v)
