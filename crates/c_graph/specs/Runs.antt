-- Graph runs, inductive maps, and the law that ties them.
use Rattle.std.specs.Prelude.{ℕ, ℤ, ◌<◌, ◌≡◌, List, [], ◌∷◌, ◌++◌, length, Some, slice_get, slice_index, All}
use Rattle.lv_base.specs.declared.fault.ErrorKind.{ErrorKind}
use Rattle.bv_term.specs.declared.term.TermId.{TermId}
use Rattle.bv_term.specs.WellFormed.{Table, widths}
use Rattle.bv_term.specs.Values.{Holds}
use Rattle.c_graph.specs.declared.graph.NodeId.{NodeId}
use Rattle.c_graph.specs.declared.graph.EdgeId.{EdgeId}
use Rattle.c_graph.specs.declared.graph.Node.TheVariants.{Error}
use Rattle.c_graph.specs.declared.graph.Edge.{Edge}
use Rattle.c_graph.specs.Shape.{Flow, IsFlow, widths_of}
use Rattle.c_graph.specs.Steps.{IsWhole, Leads}

-- a run along a path of edges: from a node in a store, drawing these values, to a node in a store
abbrev pub RunsAlong : Flow → List EdgeId → NodeId → List ℕ → List ℤ → NodeId → List ℕ → Type 0
RunsAlong g [] v store draws w after = (v ≡ w) × (store ≡ after) × (draws ≡ [])
RunsAlong g (e ∷ path) v store draws w after =
    (edge : Edge) × (slice_get g.edges e.0 ≡ Some edge) × (edge.from ≡ v)
    × ((mid : List ℕ) × (first : List ℤ) × (rest : List ℤ) × (draws ≡ first ++ rest)
    × Leads g.terms edge store first mid × RunsAlong g path edge.to mid rest w after)

-- a graph run to a node: it starts at the entry in any store
abbrev pub RunsTo : Flow → List ℤ → NodeId → List ℕ → Type 0
RunsTo g draws w after =
    (path : List EdgeId) × (store : List ℕ) × IsWhole (widths_of g.cells) store × RunsAlong g path g.entry store draws w after

-- a map: a table of terms, and a formula for each node
pub record Formulas : Type 0 where
  pub terms : Table
  pub at : List TermId

-- the map's table is over the graph's cells, and it has one formula of width 1 for each node
pub record IsMapOf (g : Flow) (m : Formulas) : Type 0 where
  pub cells : m.terms.cells ≡ widths_of g.cells
  pub nodes : length m.at ≡ length g.nodes
  pub formulas : All (λ t. (t.0 < length m.terms.terms) × (slice_index (widths m.terms) t.0 ≡ 1)) m.at

-- the formula of a node holds in a store
abbrev pub HoldsAt : Formulas → NodeId → List ℕ → Type 0
HoldsAt m v store = (t : TermId) → slice_get m.at v.0 ≡ Some t → Holds m.terms store t

-- the map is inductive: the entry's formula holds in every store; each edge leads from a store that meets the formula
-- of its start only to stores that meet the formula of its end; no store meets the formula of an error node
pub record IsInductive (g : Flow) (m : Formulas) : Type 0 where
  pub map : IsMapOf g m
  pub entry : (store : List ℕ) → IsWhole (widths_of g.cells) store → HoldsAt m g.entry store
  pub edges :
      (e : ℕ) (edge : Edge) (store : List ℕ) (draws : List ℤ) (after : List ℕ)
      → slice_get g.edges e ≡ Some edge → IsWhole (widths_of g.cells) store → HoldsAt m edge.from store
      → Leads g.terms edge store draws after → HoldsAt m edge.to after
  pub errors :
      (v : NodeId) (kind : ErrorKind) (at : ℕ) (store : List ℕ)
      → slice_get g.nodes v.0 ≡ Some (Error kind at) → IsWhole (widths_of g.cells) store → HoldsAt m v store → ⊥

-- with an inductive map, no graph run reaches an error node
abbrev pub InductiveMeansSafe : Type 0
InductiveMeansSafe =
    (g : Flow) (m : Formulas) (draws : List ℤ) (v : NodeId) (kind : ErrorKind) (at : ℕ) (after : List ℕ)
    → IsFlow g → IsInductive g m → RunsTo g draws v after → slice_get g.nodes v.0 ≡ Some (Error kind at) → ⊥
