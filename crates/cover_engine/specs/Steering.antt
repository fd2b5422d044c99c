-- Steered journals: each unit keeps the rule of its kind.
use Rattle.std.specs.Prelude.{ℕ, ◌<◌, ◌≡◌, ◌⊎◌, List, [], ◌∷◌, length, Option, None, Some, true, false, slice_get}
use Rattle.lv_base.specs.declared.fault.ErrorKind.{ErrorKind}
use Rattle.c_graph.specs.declared.graph.Node.TheVariants.{Error}
use Rattle.c_graph.specs.Shape.{Flow}
use Rattle.reach_tree.specs.declared.vertex.VertexId.{VertexId}
use Rattle.reach_tree.specs.Trees.{vertex_at}
use Rattle.cover_engine.specs.declared.unit.UnitDone.{UnitDone}
use Rattle.cover_engine.specs.declared.unit.UnitDone.TheVariants.{Expand, Refine, CoverYes, CoverNo}
use Rattle.cover_engine.specs.Unwindings.{Unwound, is_above, is_open_leaf, may_settle}
use Rattle.cover_engine.specs.Units.{after, start}

-- v is the open leaf of highest number
abbrev pub IsHighestOpen : Flow → Unwound → VertexId → Type 0
IsHighestOpen g u v =
    (is_open_leaf g u v ≡ true)
    × ((k : VertexId) → v.0 < k.0 → k.0 < length u.vertices → is_open_leaf g u k ≡ false)

-- w is the lowest vertex with which v may be settled, and is below v
abbrev pub IsLowestBelow : Unwound → VertexId → VertexId → Type 0
IsLowestBelow u v w =
    (w.0 < v.0) × (may_settle u v w ≡ true) × ((k : VertexId) → k.0 < w.0 → may_settle u v k ≡ false)

-- v stands on the path of the leaf that was refined, where the last unit that is no cover unit is a Refine
abbrev pub StandsOn : Unwound → Option VertexId → VertexId → Type 0
StandsOn u None v = ⊥
StandsOn u (Some x) v = is_above u.vertices v x ≡ true

-- v's node is not an error
abbrev pub IsNoError : Flow → Unwound → VertexId → Type 0
IsNoError g u v = (kind : ErrorKind) (at : ℕ) → slice_get g.nodes (vertex_at u.vertices v.0).node.0 ≡ Some (Error kind at) → ⊥

-- the rule of a cover unit
abbrev pub CoversSteered : Flow → Unwound → Option VertexId → VertexId → VertexId → Type 0
CoversSteered g u refined v w = IsLowestBelow u v w × ((IsHighestOpen g u v × IsNoError g u v) ⊎ StandsOn u refined v)

-- each of these units keeps the rule of its kind
abbrev pub SteeredFrom : Flow → Unwound → Option VertexId → List UnitDone → Type 0
SteeredFrom g u refined [] = Unit {0}
SteeredFrom g u refined (Expand v ∷ js) =
    IsHighestOpen g u v × ((w : VertexId) → w.0 < v.0 → may_settle u v w ≡ false) × SteeredFrom g (after g u (Expand v)) None js
SteeredFrom g u refined (Refine v fs ∷ js) = IsHighestOpen g u v × SteeredFrom g (after g u (Refine v fs)) (Some v) js
SteeredFrom g u refined (CoverYes v w ∷ js) =
    CoversSteered g u refined v w × SteeredFrom g (after g u (CoverYes v w)) refined js
SteeredFrom g u refined (CoverNo v w store ∷ js) =
    CoversSteered g u refined v w × SteeredFrom g (after g u (CoverNo v w store)) refined js

-- an unwinding is steered where each unit of its journal is, over its own table
abbrev pub Steered : Flow → Unwound → Type 0
Steered g u = SteeredFrom g (start g u.terms) None u.journal
