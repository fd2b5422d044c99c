-- What a path costs where each node of a graph weighs something.
use Rattle.std.specs.Prelude.{ℕ, ℤ, ◌+◌, ◌*◌, ◌≤◌, List, [], ◌∷◌, zero, suc, length}
use Rattle.lv_base.specs.declared.fault.ErrorKind.{ErrorKind}
use Rattle.c_graph.specs.declared.graph.EdgeId.{EdgeId}
use Rattle.c_graph.specs.declared.graph.Edge.{Edge}
use Rattle.c_graph.specs.Chains.{source_of}
use Rattle.c_graph.specs.Shape.{Flow}
use Rattle.program_graphs.specs.Returning.{FailsAlong}

-- each edge costs what the node weighs that it leads from
abbrev pub cost_of : List Edge → (ℕ → ℕ) → List EdgeId → ℕ
cost_of edges weight [] = 0
cost_of edges weight (k ∷ path) = weight (source_of edges k.0) + cost_of edges weight path

-- what the first n nodes weigh together
abbrev pub total : (ℕ → ℕ) → ℕ → ℕ
total weight zero = 0
total weight (suc n) = weight n + total weight n

-- each run of the second graph to an error is one of the first to it, with the same values, along a path that costs no more than all nodes
-- of the first weigh together for each edge
abbrev pub ComesBackFor : (ℕ → ℕ) → Flow → Flow → Type 0
ComesBackFor weight g h =
    (path : List EdgeId) (draws : List ℤ) (kind : ErrorKind) (at : ℕ) → FailsAlong h path draws kind at
    → (more : List EdgeId) × (FailsAlong g more draws kind at × (cost_of g.edges weight more ≤ length path * total weight (length g.nodes)))

-- each run of the second graph to an error is one of the first to it, with the same values, along a path that has at most as many edges as
-- the other's path costs
abbrev pub ComesBackAt : (ℕ → ℕ) → Flow → Flow → Type 0
ComesBackAt weight g h =
    (path : List EdgeId) (draws : List ℤ) (kind : ErrorKind) (at : ℕ) → FailsAlong h path draws kind at
    → (more : List EdgeId) × (FailsAlong g more draws kind at × (length more ≤ cost_of h.edges weight path))
